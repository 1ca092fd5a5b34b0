-- Lists of rows as they are looked at.
use Rattle.std.proofs.Common.{◌≡◌, ◌⊎◌, inl, inr, ⊎_elim, Bool, true, false, List, [], ◌∷◌, ◌++◌, filter, refl, sym, ap, subst}
use Rattle.std.specs.List.{AllZip}

pub by_test : (b : Bool) → (b ≡ true) ⊎ (b ≡ false)
by_test true = inl refl
by_test false = inr refl

pub filter_yes : {A : Type 0} (p : A → Bool) (x : A) (xs : List A) → p x ≡ true → filter p (x ∷ xs) ≡ x ∷ filter p xs
filter_yes p x xs holds = rw holds refl

pub filter_no : {A : Type 0} (p : A → Bool) (x : A) (xs : List A) → p x ≡ false → filter p (x ∷ xs) ≡ filter p xs
filter_no p x xs fails = rw fails refl

-- the front and the rest of a list that goes with another in two parts
pub record Split {A B : Type 0} (R : A → B → Type 0) (xs more : List A) (ys : List B) : Type 0 where
  pub front : List B
  pub back : List B
  pub cut : ys ≡ front ++ back
  pub with_front : AllZip R xs front
  pub with_back : AllZip R more back

pub split : {A B : Type 0} (R : A → B → Type 0) (xs more : List A) (ys : List B) → AllZip R (xs ++ more) ys → Split R xs more ys
split R [] more ys all = record { front = []; back = ys; cut = refl; with_front = tt; with_back = all }
split R (x ∷ xs) more [] all = absurd all
split {A = A} {B = B} R (x ∷ xs) more (y ∷ ys) all =
    let rest = split R xs more ys all.1 in
    record { front = y ∷ rest.front; back = rest.back; cut = ap (λ (l : List B). y ∷ l) rest.cut; with_front = (all.0, rest.with_front); with_back = rest.with_back }

-- what goes with the elements that a filter keeps
pub kept : {A B : Type 0} (R : A → B → Type 0) (p : A → Bool) (xs : List A) (ys : List B) → AllZip R xs ys → (zs : List B) × AllZip R (filter p xs) zs
kept R p [] ys all = ([], tt)
kept R p (x ∷ xs) [] all = absurd all
kept {A = A} {B = B} R p (x ∷ xs) (y ∷ ys) all =
    let rest = kept R p xs ys all.1 in
    ⊎_elim
    (λ yes. (y ∷ rest.0, subst (λ (l : List A). AllZip R l (y ∷ rest.0)) (sym (filter_yes p x xs yes)) (all.0, rest.1)))
    (λ no. (rest.0, subst (λ (l : List A). AllZip R l rest.0) (sym (filter_no p x xs no)) rest.1))
    (by_test (p x))
