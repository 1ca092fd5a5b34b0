-- The earliest index on a column of a table, by the table's number and by its name.
use Rattle.std.proofs.Common.{◌≡◌, ℕ, ◌+◌, ◌*◌, ◌^◌, ◌<◌, ◌≤◌, ◌==◌, suc, Bool, true, false, not, cond, ◌&&◌, nat_lt, List, [], ◌∷◌, length, map, bytes_eq, Option, Some, None, MatchOption, IsSomeAnd, slice_get, refl, sym, ◌∙◌, ap, subst, arith}
use Rattle.std.specs.Bool.{Decides}
use Rattle.std.specs.List.{AllByRecursion, position_or_len, position}
use Rattle.std.proofs.lemmas.Bool.{ltb-true}
use Rattle.std.proofs.lemmas.Bool.Decides.{Decides-eqb}
use Rattle.std.proofs.lemmas.List.Folds.{find_at}
use Rattle.std.proofs.lemmas.List.Sums.{sum_by-append}
use Rattle.std.proofs.lemmas.Option.{slice_get_past}
use Rattle.std.proofs.lemmas.Slice.Eq.{bytes_eq-Decides}
use Rattle.gx_value.specs.Classes.{supports}
use Rattle.gx_value.specs.declared.classes.Class.{Class}
use Rattle.gx_value.specs.declared.operators.Operator.{Operator}
use Rattle.gx_catalog.specs.declared.info.IndexInfo.{IndexInfo}
use Rattle.gx_catalog.specs.declared.info.TableInfo.{TableInfo}
use Rattle.gx_catalog.specs.Catalogs.{Directory}
use Rattle.gx_catalog.specs.Validity.{AreCatalog, IsAmong, IsIndex, TakesColumn, count_on, table_named, table_numbered}
use Rattle.gx_model.specs.Database.{Index}
use Rattle.gx_model.specs.Plans as model
use Rattle.gx_model.specs.Truth as truth
use Rattle.gx_plan.specs.Indexes.{name_of, index_of, indexes_of, is_on}
use Rattle.gx_plan.specs.Plans.{plan_of, plan_on, indexes_in, at_place, IsChosen, IsWithin}
use Rattle.gx_plan.proofs.PlanLemmas.{placed, within}

-- what the look-ups of tables find
pub record AreFound (tables : List TableInfo) : Type 0 where
  pub numbered : (number : ℕ) (t : TableInfo) → table_numbered number tables ≡ Some t → IsAmong t tables × (t.number ≡ number)
  pub own : (t : TableInfo) → IsAmong t tables → table_named t.name tables ≡ Some t

all_more : {X : Type 0} (P Q : X → Type 0) (xs : List X) → ((x : X) → P x → Q x) → AllByRecursion P xs → AllByRecursion Q xs
all_more P Q [] more all = tt
all_more P Q (x ∷ xs) more all = (more x all.0, all_more P Q xs more all.1)

-- The first that passes stands at the same place where both tests say the same.
same_place : {X Y : Type 0} (f : X → Y) (q : Y → Bool) (p : X → Bool) (xs : List X) → AllByRecursion (λ x. q (f x) ≡ p x) xs → position_or_len q (map f xs) ≡ position_or_len p xs
same_place f q p [] all = refl
same_place f q p (x ∷ xs) all =
    let rest = same_place f q p xs all.1 in
    λ i. cond (not (all.0 i)) (1 + rest i) 0

no_place : {X : Type 0} (p : X → Bool) (xs : List X) → AllByRecursion (λ x. p x ≡ false) xs → position_or_len p xs ≡ length xs
no_place p [] all = refl
no_place p (x ∷ xs) all =
    let rest = no_place p xs all.1 in
    let step : position_or_len p (x ∷ xs) ≡ 1 + length xs = (λ i. cond (not (all.0 i)) (1 + rest i) 0) in
    step ∙ omega arith

same_length : {X Y : Type 0} (f : X → Y) (xs : List X) → length (map f xs) ≡ length xs
same_length f [] = refl
same_length f (x ∷ xs) = ap suc (same_length f xs)

-- An index is on the table of a name exactly where it is on the table of its number.

both_decide : (a b : Bool) (P Q : Type 0) → Decides a P → Decides b Q → (P → Q) → (Q → P) → a ≡ b
both_decide true true P Q d e f g = refl
both_decide true false P Q d e f g = let never : false ≡ true = e.1 (f (d.0 refl)) in cc
both_decide false true P Q d e f g = let never : false ≡ true = d.1 (g (e.0 refl)) in cc
both_decide false false P Q d e f g = refl

on_step : (tables : List TableInfo) → AreFound tables → (number : ℕ) (t : TableInfo) → table_numbered number tables ≡ Some t → (i : IndexInfo) (r : Option TableInfo) → table_numbered i.table tables ≡ r
    → IsSomeAnd r (TakesColumn i) → bytes_eq (name_of r) t.name ≡ (i.table == number)
on_step tables found number t is i None on column = absurd column
on_step tables found number t is i (Some u) on column =
    let here = found.numbered number t is in
    let there = found.numbered i.table u on in
    both_decide (bytes_eq u.name t.name) (i.table == number) (u.name ≡ t.name) (i.table ≡ number) (bytes_eq-Decides u.name t.name) (Decides-eqb i.table number)
    (λ names.
    let one = found.own t here.0 in
    let other = found.own u there.0 in
    let same : table_named u.name tables ≡ table_named t.name tables = ap (λ (n : List ℕ). table_named n tables) names in
    let u_is_t : u ≡ t = cc (one, other, same) in
    sym there.1 ∙ ap (λ (x : TableInfo). x.number) u_is_t ∙ here.1)
    (λ numbers.
    let same : table_numbered i.table tables ≡ table_numbered number tables = ap (λ (n : ℕ). table_numbered n tables) numbers in
    let u_is_t : u ≡ t = cc (is, on, same) in
    ap (λ (x : TableInfo). x.name) u_is_t)

on_same : (tables : List TableInfo) → AreFound tables → (number : ℕ) (t : TableInfo) → table_numbered number tables ≡ Some t → (i : IndexInfo) → IsIndex tables i
    → bytes_eq (name_of (table_numbered i.table tables)) t.name ≡ (i.table == number)
on_same tables found number t is i index = on_step tables found number t is i (table_numbered i.table tables) refl index.column

off_step : (tables : List TableInfo) (number : ℕ) → table_numbered number tables ≡ None → (i : IndexInfo) → IsSomeAnd (table_numbered i.table tables) (TakesColumn i) → (b : Bool) → (i.table == number) ≡ b → b ≡ false
off_step tables number none i column true same =
    let at : IsSomeAnd (table_numbered number tables) (TakesColumn i) = subst (λ (n : ℕ). IsSomeAnd (table_numbered n tables) (TakesColumn i)) ((Decides-eqb i.table number).0 same) column in
    absurd (subst (λ (found : Option TableInfo). IsSomeAnd found (TakesColumn i)) none at)
off_step tables number none i column false same = refl

off : (tables : List TableInfo) (number : ℕ) → table_numbered number tables ≡ None → (i : IndexInfo) → IsIndex tables i → (i.table == number) ≡ false
off tables number none i index = off_step tables number none i index.column (i.table == number) refl

-- the index that the model takes for a part of a condition on this table
abbrev pub by_index_on : List Index → Option TableInfo → ℕ → (Index → Bool) → model.Plan
by_index_on indexes None place so = model.Whole
by_index_on indexes (Some t) place so = model.by_index (model.index_where indexes t.name place so)

-- the tests of the code and of the model
abbrev passes : ℕ → ℕ → (Class → Bool) → IndexInfo → Bool
passes number place so i = is_on number place i && so i.class

abbrev model_passes : List ℕ → ℕ → (Class → Bool) → Index → Bool
model_passes name place so i = bytes_eq i.table name && i.column == place && so i.class

found_step : (tables : List TableInfo) (infos : List IndexInfo) → AllByRecursion (IsIndex tables) infos → AreFound tables → (number place : ℕ) (so : Class → Bool) (r : Option TableInfo) → table_numbered number tables ≡ r
    → model.by_index (slice_get (indexes_of tables infos) (position_or_len (passes number place so) infos)) ≡ by_index_on (indexes_of tables infos) r place (λ i. so i.class)
found_step tables infos each found number place so None is =
    let all = all_more (IsIndex tables) (λ (i : IndexInfo). passes number place so i ≡ false) infos
    (λ (i : IndexInfo) (index : IsIndex tables i). λ j. (off tables number is i index j && i.column == place) && so i.class) each in
    let nowhere = no_place (passes number place so) infos all in
    let long = same_length (index_of tables) infos in
    ap (λ (n : ℕ). model.by_index (slice_get (indexes_of tables infos) n)) nowhere
    ∙ ap (λ (o : Option Index). model.by_index o) (slice_get_past (indexes_of tables infos) (length infos) (omega (arith, long)))
found_step tables infos each found number place so (Some t) is =
    let all = all_more (IsIndex tables) (λ (i : IndexInfo). model_passes t.name place so (index_of tables i) ≡ passes number place so i) infos
    (λ (i : IndexInfo) (index : IsIndex tables i). λ j. (on_same tables found number t is i index j && i.column == place) && so i.class) each in
    let same = same_place (index_of tables) (model_passes t.name place so) (passes number place so) infos all in
    ap (λ (n : ℕ). model.by_index (slice_get (indexes_of tables infos) n)) (sym same)
    ∙ ap (λ (o : Option Index). model.by_index o) (sym (find_at (model_passes t.name place so) (indexes_of tables infos)))

-- The place that is found is that of the model's index.
pub index_found : (tables : List TableInfo) (infos : List IndexInfo) → AllByRecursion (IsIndex tables) infos → AreFound tables → (number place : ℕ) (so : Class → Bool) (found : Option ℕ)
    → found ≡ position (passes number place so) infos
    → (plan_of (indexes_of tables infos) (at_place found) ≡ by_index_on (indexes_of tables infos) (table_numbered number tables) place (λ i. so i.class)) × IsWithin (length infos) (at_place found)
index_found tables infos each are number place so found is =
    let n = position_or_len (passes number place so) infos in
    let long = same_length (index_of tables) infos in
    let at : plan_of (indexes_of tables infos) (at_place (cond (nat_lt n (length infos)) (Some n) None)) ≡ model.by_index (slice_get (indexes_of tables infos) n) =
    subst (λ (count : ℕ). plan_of (indexes_of tables infos) (at_place (cond (nat_lt n count) (Some n) None)) ≡ model.by_index (slice_get (indexes_of tables infos) n)) long (placed (indexes_of tables infos) n) in (
      ap (λ (o : Option ℕ). plan_of (indexes_of tables infos) (at_place o)) is ∙ at ∙ found_step tables infos each are number place so (table_numbered number tables) refl,
      subst (λ (o : Option ℕ). IsWithin (length infos) (at_place o)) (sym is) (within n (length infos)),
    )

-- A catalog has at most 32 indexes on each of at most 256 tables.

on_tables : List TableInfo → List IndexInfo → ℕ
on_tables [] infos = 0
on_tables (t ∷ tables) infos = count_on t.number infos + on_tables tables infos

one_more : (infos : List IndexInfo) (i : IndexInfo) (number : ℕ) (b : Bool) → (i.table == number) ≡ b → count_on number (i ∷ infos) ≡ cond b 1 0 + count_on number infos
one_more infos i number b is =
    let cut = sum_by-append (λ (j : IndexInfo). cond (j.table == number) 1 0) (i ∷ []) infos in
    subst (λ (c : Bool). count_on number (i ∷ infos) ≡ cond c 1 0 + count_on number infos) is (omega (arith, cut))

not_fewer_step : (infos : List IndexInfo) (i : IndexInfo) (number : ℕ) (b : Bool) → (i.table == number) ≡ b → count_on number infos ≤ count_on number (i ∷ infos)
not_fewer_step infos i number true is = let e = one_more infos i number true is in omega (arith, e)
not_fewer_step infos i number false is = let e = one_more infos i number false is in omega (arith, e)

not_fewer : (tables : List TableInfo) (i : IndexInfo) (infos : List IndexInfo) → on_tables tables infos ≤ on_tables tables (i ∷ infos)
unfolding on_tables
not_fewer [] i infos = omega arith
not_fewer (t ∷ tables) i infos =
    let here = not_fewer_step infos i t.number (i.table == t.number) refl in
    let rest = not_fewer tables i infos in
    omega (arith, here, rest)

counted_step : (t : TableInfo) (tables : List TableInfo) (i : IndexInfo) (infos : List IndexInfo) (b : Bool) → (t.number == i.table) ≡ b → IsSomeAnd (cond b (Some t) (table_numbered i.table tables)) (TakesColumn i)
    → (IsSomeAnd (table_numbered i.table tables) (TakesColumn i) → on_tables tables infos < on_tables tables (i ∷ infos))
    → count_on t.number infos + on_tables tables infos < count_on t.number (i ∷ infos) + on_tables tables (i ∷ infos)
counted_step t tables i infos true is there later =
    let other : (i.table == t.number) ≡ true = (Decides-eqb i.table t.number).1 (sym ((Decides-eqb t.number i.table).0 is)) in
    let e = one_more infos i t.number true other in
    let rest = not_fewer tables i infos in
    omega (arith, e, rest)
counted_step t tables i infos false is there later =
    let here = not_fewer_step infos i t.number (i.table == t.number) refl in
    let rest = later there in
    omega (arith, here, rest)

counted : (tables : List TableInfo) (i : IndexInfo) (infos : List IndexInfo) → IsSomeAnd (table_numbered i.table tables) (TakesColumn i) → on_tables tables infos < on_tables tables (i ∷ infos)
unfolding on_tables
counted [] i infos there = absurd there
counted (t ∷ tables) i infos there = counted_step t tables i infos (t.number == i.table) refl there (counted tables i infos)

all_counted : (tables : List TableInfo) (infos : List IndexInfo) → AllByRecursion (IsIndex tables) infos → length infos ≤ on_tables tables infos
all_counted tables [] each = omega arith
all_counted tables (i ∷ infos) each =
    let here = counted tables i infos each.0.column in
    let rest = all_counted tables infos each.1 in
    omega (arith, here, rest)

most_on : (tables : List TableInfo) (infos : List IndexInfo) → AllByRecursion (λ (t : TableInfo). count_on t.number infos ≤ 32) tables → on_tables tables infos ≤ 32 * length tables
unfolding on_tables
most_on [] infos few = omega arith
most_on (t ∷ tables) infos few =
    let here = few.0 in
    let rest = most_on tables infos few.1 in
    omega (arith, here, rest)

pub few_indexes : (tables : List TableInfo) (infos : List IndexInfo) → AreCatalog tables infos → length infos ≤ 8192
few_indexes tables infos are =
    let all = all_counted tables infos are.each_index in
    let most = most_on tables infos are.few_on_each in
    omega (arith, all, most, are.few)

-- what is found in the slice that was read is found in the catalog
pub in_catalog : (p : IndexInfo → Bool) (found : Option ℕ) (read infos : List IndexInfo) → found ≡ position p read → read ≡ infos → found ≡ position p infos
in_catalog p found read infos is same = is ∙ ap (λ (l : List IndexInfo). position p l) same

-- The place that was found fits its number.
fits_step : (n count : ℕ) (b : Bool) → nat_lt n count ≡ b → count ≤ 8192 → MatchOption (cond b (Some n) None) (Unit {0}) (λ place. place < 2 ^ 16)
fits_step n count true less few = let h : n < count = ltb-true n count less in omega (arith, h, few)
fits_step n count false less few = tt

pub place_fits : (tables : List TableInfo) (infos : List IndexInfo) (p : IndexInfo → Bool) (found : Option ℕ) → AreCatalog tables infos → found ≡ position p infos → MatchOption found (Unit {0}) (λ place. place < 2 ^ 16)
place_fits tables infos p found are is =
    let n = position_or_len p infos in
    subst (λ (o : Option ℕ). MatchOption o (Unit {0}) (λ place. place < 2 ^ 16)) (sym is) (fits_step n (length infos) (nat_lt n (length infos)) refl (few_indexes tables infos are))

-- Parts of a condition.

atom_on : (indexes : List Index) (o : Option TableInfo) (place : ℕ) (op : Operator) (operand : truth.Operand) → plan_on indexes o (truth.Atom place op (Some operand)) ≡ by_index_on indexes o place (λ i. supports i.class op operand.kind)
atom_on indexes None place op operand = refl
atom_on indexes (Some t) place op operand = refl

null_on : (indexes : List Index) (o : Option TableInfo) (place : ℕ) → plan_on indexes o (truth.IsNull place false) ≡ by_index_on indexes o place (λ i. true)
null_on indexes None place = refl
null_on indexes (Some t) place = refl

pub atom_chosen : (catalog : Directory) → AreCatalog catalog.tables catalog.indexes → AreFound catalog.tables → (number place : ℕ) (op : Operator) (operand : truth.Operand) (found : Option ℕ)
    → found ≡ position (λ (i : IndexInfo). is_on number place i && supports i.class op operand.kind) catalog.indexes → IsChosen catalog number (truth.Atom place op (Some operand)) (at_place found)
atom_chosen catalog are looked number place op operand found is =
    let h = index_found catalog.tables catalog.indexes are.each_index looked number place (λ c. supports c op operand.kind) found is in
    record { is = h.0 ∙ sym (atom_on (indexes_in catalog) (table_numbered number catalog.tables) place op operand); within = h.1 }

and_true : (b : Bool) → b ≡ (b && true)
and_true true = refl
and_true false = refl

pub null_chosen : (catalog : Directory) → AreCatalog catalog.tables catalog.indexes → AreFound catalog.tables → (number place : ℕ) (found : Option ℕ) → found ≡ position (is_on number place) catalog.indexes
    → IsChosen catalog number (truth.IsNull place false) (at_place found)
null_chosen catalog are looked number place found is =
    let same : position (is_on number place) catalog.indexes ≡ position (passes number place (λ c. true)) catalog.indexes = (λ j. position (λ (i : IndexInfo). and_true (is_on number place i) j) catalog.indexes) in
    let h = index_found catalog.tables catalog.indexes are.each_index looked number place (λ c. true) found (is ∙ same) in
    record { is = h.0 ∙ sym (null_on (indexes_in catalog) (table_numbered number catalog.tables) place); within = h.1 }
