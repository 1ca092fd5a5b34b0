-- Tables by their names, and lists of rows.
use Rattle.std.proofs.Common.{◌≡◌, ◌⊎◌, inl, inr, ℕ, Bool, true, false, not, cond, List, [], ◌∷◌, map, Option, Some, None, refl, sym, ◌∙◌, ap, subst}
use Rattle.std.specs.Prelude.{find, filter, IsSomeAnd}
use Rattle.std.proofs.lemmas.Slice.Eq.{bytes_eq-Decides}
use Rattle.gx_model.specs.Database.{Database, Table, Row, IsIn, is_table, table_named, with_table}

pub there : {A : Type 0} (o : Option A) (P : A → Type 0) → IsSomeAnd o P → (x : A) × (o ≡ Some x) × P x
there None P h = absurd h
there (Some x) P h = (x, refl, h)

-- what is there has the fact
pub of_some : {A : Type 0} (o : Option A) (P : A → Type 0) (x : A) → o ≡ Some x → IsSomeAnd o P → P x
of_some {A = A} o P x e h = let Q : Option A → Type 0 = λ p. IsSomeAnd p P in subst Q e h

found_step : {A : Type 0} (b : Bool) (p : A → Bool) (y : A) (rest : Option A) (x : A) → p y ≡ b → (rest ≡ Some x → p x ≡ true) → cond b (Some y) rest ≡ Some x → p x ≡ true
found_step true p y rest x h r g = cc
found_step false p y rest x h r g = r g

-- what is found passes the test
pub found : {A : Type 0} (p : A → Bool) (xs : List A) (x : A) → find p xs ≡ Some x → p x ≡ true
found p [] x e = cc
found p (y ∷ ys) x e = found_step (p y) p y (find p ys) x refl (found p ys x) e

new_step : (b : Bool) (name : List ℕ) (new x : Table) (rest later : Option Table) (t : Table) → is_table name x ≡ b → is_table name new ≡ true → (rest ≡ Some t → later ≡ Some new)
    → cond b (Some x) rest ≡ Some t → cond (is_table name (cond b new x)) (Some (cond b new x)) later ≡ Some new
new_step true name new x rest later t h n r g = rw n refl
new_step false name new x rest later t h n r g = rw h (r g)

found_new : (name : List ℕ) (new : Table) (ts : List Table) (t : Table) → find (is_table name) ts ≡ Some t → is_table name new ≡ true
    → find (is_table name) (map (λ x. cond (is_table name x) new x) ts) ≡ Some new
found_new name new [] t e n = cc
found_new name new (x ∷ ts) t e n =
    new_step (is_table name x) name new x (find (is_table name) ts) (find (is_table name) (map (λ y. cond (is_table name y) new y) ts)) t refl n
    (λ h. found_new name new ts t h n) e

-- the table of a name has the name
pub has_name : (db : Database) (name : List ℕ) (t : Table) → table_named db name ≡ Some t → t.name ≡ name
has_name db name t e = (bytes_eq-Decides t.name name).0 (found (is_table name) db.tables t e)

-- the table in place of another is found by its name
pub table_after : (db : Database) (name : List ℕ) (t new : Table) → table_named db name ≡ Some t → new.name ≡ t.name → table_named (with_table db t.name new) name ≡ Some new
table_after db name t new h m =
    let e : t.name ≡ name = has_name db name t h in
    let P : List ℕ → Type 0 = λ n. table_named (with_table db n new) name ≡ Some new in
    subst P (sym e) (found_new name new db.tables t h ((bytes_eq-Decides new.name name).1 (m ∙ e)))

kept_step : (b : Bool) (p : Row → Bool) (x row : Row) (rest : List Row) (A : Type 0) → p x ≡ b → (IsIn row rest → A × (p row ≡ true))
    → IsIn row (cond b (x ∷ rest) rest) → ((x ≡ row) ⊎ A) × (p row ≡ true)
kept_step true p x row rest A h r (inl e) = (inl e, subst (λ (y : Row). p y ≡ true) e h)
kept_step true p x row rest A h r (inr i) = let k = r i in (inr k.0, k.1)
kept_step false p x row rest A h r i = let k = r i in (inr k.0, k.1)

pub kept : (p : Row → Bool) (rows : List Row) (row : Row) → IsIn row (filter p rows) → IsIn row rows × (p row ≡ true)
kept p [] row i = absurd i
kept p (x ∷ rows) row i = kept_step (p x) p x row (filter p rows) (IsIn row rows) refl (kept p rows row) i

stays_step : (b : Bool) (p : Row → Bool) (x row : Row) (rest : List Row) (A : Type 0) → p x ≡ b → (A → IsIn row rest) → (x ≡ row) ⊎ A → p row ≡ true
    → IsIn row (cond b (x ∷ rest) rest)
stays_step true p x row rest A h r (inl e) k = inl e
stays_step true p x row rest A h r (inr a) k = inr (r a)
stays_step false p x row rest A h r (inl e) k = absurd (contradicts (p row) k (subst (λ (y : Row). p y ≡ false) e h))
  where
    contradicts : (c : Bool) → c ≡ true → c ≡ false → ⊥
    contradicts c m n = cc
stays_step false p x row rest A h r (inr a) k = r a

pub stays : (p : Row → Bool) (rows : List Row) (row : Row) → IsIn row rows → p row ≡ true → IsIn row (filter p rows)
stays p [] row i k = absurd i
stays p (x ∷ rows) row i k = stays_step (p x) p x row (filter p rows) (IsIn row rows) refl (λ j. stays p rows row j k) i k

pub not_true : (b : Bool) → not b ≡ true → b ≡ false
not_true true h = cc
not_true false h = refl

pub not_false : (b : Bool) → b ≡ false → not b ≡ true
not_false true h = cc
not_false false h = refl

-- a filter that keeps all
pub kept_all : {A : Type 0} (xs : List A) → filter (λ (x : A). true) xs ≡ xs
kept_all [] = refl
kept_all (x ∷ xs) = ap (λ (ys : List _). x ∷ ys) (kept_all xs)
