-- No plan loses a row of which its condition is true.
use Rattle.std.proofs.Common.{◌≡◌, ◌⊎◌, inl, inr, ⊎_elim, ℕ, zero, suc, ◌==◌, ◌&&◌, ◌||◌, Bool, true, false, cond, List, [], ◌∷◌, find, Option, Some, None, is_none, IsSomeAnd, slice_get, refl, sym, subst}
use Rattle.std.specs.List.{AllByRecursion}
use Rattle.std.specs.Str.{bytes_eq}
use Rattle.std.proofs.lemmas.Bool.Decides.{Decides-eqb}
use Rattle.gx_value.specs.Classes.{takes, supports}
use Rattle.gx_value.specs.declared.fields.Column.{Column}
use Rattle.gx_value.specs.declared.operators.Operator.{Operator}
use Rattle.gx_value.specs.declared.types.ColumnType.{ColumnType}
use Rattle.gx_value.specs.Values.{Datum, IsField, IsRow}
use Rattle.gx_opr.specs.Decisions.{holds}
use Rattle.gx_opr.specs.Operands.{right_of}
use Rattle.gx_opr.specs.declared.operand.Operand as code
use Rattle.gx_candidates.specs.Laws.{CandidatesSee}
use Rattle.gx_model.specs.Database.{Index, Table, IsIndexOn}
use Rattle.gx_model.specs.Plans.{found_by, is_candidate, is_found, is_found_of_null}
use Rattle.gx_model.specs.Truth as model
use Rattle.gx_model.specs.Truth.{and_of, field_at, is_true, or_of, truth, truth_of, truth_of_atom, truth_of_null}
use Rattle.gx_plan.specs.Bounds.{bound_of, kinds_of, operand_of, IsAsked, IsBound}
use Rattle.gx_plan.specs.Losing.{AreOn, LosesNone}
use Rattle.gx_plan.specs.declared.bound.Bound.{Bound}
use Rattle.gx_plan.specs.declared.bound.Bound.TheVariants as bound

and_true : (a b : model.Truth) → is_true (and_of a b) ≡ true → (is_true a ≡ true) × (is_true b ≡ true)
and_true model.False b is = cc
and_true model.Unknown model.False is = cc
and_true model.Unknown model.Unknown is = cc
and_true model.Unknown model.True is = cc
and_true model.True b is = (refl, is)

or_true : (a b : model.Truth) → is_true (or_of a b) ≡ true → (is_true a ≡ true) ⊎ (is_true b ≡ true)
or_true model.False b is = inr is
or_true model.Unknown model.False is = cc
or_true model.Unknown model.Unknown is = cc
or_true model.Unknown model.True is = inr refl
or_true model.True b is = inl refl

both_true : (a b : Bool) → (a && b) ≡ true → (a ≡ true) × (b ≡ true)
both_true true b is = (refl, is)
both_true false b is = cc

each_true : (a b : Bool) → a ≡ true → b ≡ true → (a && b) ≡ true
each_true a b p q = (λ i. p i && q i)

some_true : (a b : Bool) → (a ≡ true) ⊎ (b ≡ true) → (a || b) ≡ true
some_true true b is = refl
some_true false b (inl is) = cc
some_true false b (inr is) = is

-- what is so of each that passes is so of the first of them, if there is one
by_first : (p : Index → Bool) (Q : Index → Type 0) (so : Index → Bool) → ((i : Index) → p i ≡ true → Q i → so i ≡ true) → (indexes : List Index) → AllByRecursion Q indexes → found_by (find p indexes) so ≡ true
by_first p Q so each [] all = refl
by_first p Q so each (i ∷ is) all = first (p i) refl (by_first p Q so each is all.1)
  where
    first : (b : Bool) → p i ≡ b → found_by (find p is) so ≡ true → found_by (cond (p i) (Some i) (find p is)) so ≡ true
    first true passes later = subst (λ (c : Bool). found_by (cond c (Some i) (find p is)) so ≡ true) (sym passes) (each i passes all.0)
    first false fails later = subst (λ (c : Bool). found_by (cond c (Some i) (find p is)) so ≡ true) (sym fails) later

-- what an index's column, a condition and a row say of one place
record At (columns : List Column) (place : ℕ) (P : ColumnType → Type 0) (Q : Column → Type 0) (field : Option Datum) : Type 0 where
  column : Column
  asked : P column.kind
  indexed : Q column
  valid : IsField column.kind field

at : (columns : List Column) (place : ℕ) (P : ColumnType → Type 0) (Q : Column → Type 0) (fields : List (Option Datum))
    → IsSomeAnd (slice_get (kinds_of columns) place) P → IsSomeAnd (slice_get columns place) Q → IsRow (kinds_of columns) fields → At columns place P Q (field_at fields place)
at [] place P Q fields asked indexed row = absurd asked
at (c ∷ cs) place P Q [] asked indexed row = absurd row
at (c ∷ cs) zero P Q (f ∷ fs) asked indexed row = record { column = c; asked = asked; indexed = indexed; valid = row.0 }
at (c ∷ cs) (suc place) P Q (f ∷ fs) asked indexed row =
    let rest = at cs place P Q fs asked indexed row.1 in
    record { column = rest.column; asked = rest.asked; indexed = rest.indexed; valid = rest.valid }

of_bool : (b : Bool) → is_true (truth_of b) ≡ true → b ≡ true
of_bool true is = refl
of_bool false is = cc

module _ (see : CandidatesSee) (indexes : List Index) (t : Table) (on : AreOn t indexes) where
  -- the index's class rules no value out of which the operator holds
  sees : (i : Index) (op : Operator) (operand : code.Operand) → supports i.class op operand.kind ≡ true → IsIndexOn i t
      → (field : Option Datum) → At t.columns i.column (IsAsked op (Some (operand_of operand))) (λ c. takes i.class c.kind ≡ true) field
      → is_true (truth_of_atom op field (Some (operand_of operand))) ≡ true → is_candidate i op (operand_of operand) field ≡ true
  sees i op operand supports is_on None here is = cc
  sees i op operand supports is_on (Some value) here is =
      see i.class i.parameter here.column.kind op operand value
      (record { takes = here.indexed; allows = is_on.parameter; supports = supports; listed = here.asked.0; operand = here.asked.1 })
      here.valid (of_bool (holds op value (right_of operand.part)) is)

  atom : (place : ℕ) (op : Operator) (operand : Option code.Operand) → IsBound (kinds_of t.columns) (bound_of (bound.Atom place op operand))
      → (fields : List (Option Datum)) → IsRow (kinds_of t.columns) fields → is_true (truth (bound_of (bound.Atom place op operand)) fields) ≡ true
      → is_found indexes t.name (bound_of (bound.Atom place op operand)) fields ≡ true
  atom place op None asked fields row is = refl
  atom place op (Some operand) asked fields row is = by_first passes (λ i. bytes_eq i.table t.name ≡ true → IsIndexOn i t) so each indexes on
    where
      passes : Index → Bool
      passes i = bytes_eq i.table t.name && i.column == place && supports i.class op operand.kind

      so : Index → Bool
      so i = is_candidate i op (operand_of operand) (field_at fields place)

      each : (i : Index) → passes i ≡ true → (bytes_eq i.table t.name ≡ true → IsIndexOn i t) → so i ≡ true
      each i all is_on =
          let answers = both_true (bytes_eq i.table t.name && i.column == place) (supports i.class op operand.kind) all in
          let stood = both_true (bytes_eq i.table t.name) (i.column == place) answers.0 in
          let here : i.column ≡ place = (Decides-eqb i.column place).0 stood.1 in
          let index = is_on stood.0 in
          let column = subst (λ (n : ℕ). IsSomeAnd (slice_get t.columns n) (λ c. takes i.class c.kind ≡ true)) here index.column in
          let stands = at t.columns place (IsAsked op (Some (operand_of operand))) (λ c. takes i.class c.kind ≡ true) fields asked column row in
          sees i op operand answers.1 index (field_at fields place)
          (record { column = stands.column; asked = stands.asked; indexed = stands.indexed; valid = stands.valid }) is

  null : (place : ℕ) (negated : Bool) (field : Option Datum) → is_true (truth_of_null field negated) ≡ true → is_found_of_null indexes t.name place negated field ≡ true
  null place true field is = refl
  null place false field is =
      by_first (λ i. bytes_eq i.table t.name && i.column == place && true) (λ i. bytes_eq i.table t.name ≡ true → IsIndexOn i t) (λ i. is_none field) (λ i passes on. of_bool (is_none field) is) indexes on

  loses : (condition : Bound) → IsBound (kinds_of t.columns) (bound_of condition) → (fields : List (Option Datum)) → IsRow (kinds_of t.columns) fields
      → is_true (truth (bound_of condition) fields) ≡ true → is_found indexes t.name (bound_of condition) fields ≡ true
  loses (bound.And' p a q b) asked fields row is =
      let sides = and_true (truth (bound_of a) fields) (truth (bound_of b) fields) is in
      each_true (is_found indexes t.name (bound_of a) fields) (is_found indexes t.name (bound_of b) fields) (loses a asked.0 fields row sides.0) (loses b asked.1 fields row sides.1)
  loses (bound.Or' p a q b) asked fields row is =
      some_true (is_found indexes t.name (bound_of a) fields) (is_found indexes t.name (bound_of b) fields)
      (⊎_elim (λ left. inl (loses a asked.0 fields row left)) (λ right. inr (loses b asked.1 fields row right)) (or_true (truth (bound_of a) fields) (truth (bound_of b) fields) is))
  loses (bound.Not' p a) asked fields row is = refl
  loses (bound.Atom place op operand) asked fields row is = atom place op operand asked fields row is
  loses (bound.IsNull place negated) asked fields row is = null place negated (field_at fields place) is

pub loses_none : CandidatesSee → LosesNone
loses_none see indexes t condition on asked fields row is = loses see indexes t on condition asked fields row is
