-- What the loop over the places keeps.
use Rattle.std.proofs.Common.{◌≡◌, ℕ, zero, suc, ◌+◌, ◌<◌, ◌≤◌, ◌↔◌, Bool, false, List, [], ◌∷◌, ◌++◌, Option, length, get_or, IsTrue, refl, sym, ap, ◌∙◌, subst, arith, inl, inr, length-append}
use Rattle.std.proofs.lemmas.Bool.{cases_lt}
use Rattle.gx_lquery.specs.declared.query.LqueryItem.{LqueryItem}
use Rattle.gx_lquery.specs.Places.{IsOpen, GroupEnds, IsRun, IsLast, EndsGroup}
use Rattle.gx_lquery.proofs.RunLemmas.{group_tells}

pub record HasStepped (item : LqueryItem) (path : List (List ℕ)) (row : List Bool) (start : ℕ) (last : Option ℕ) (at : ℕ) (next : List Bool) : Type 0 where
  pub run : at ≤ length path → IsRun item path start at
  pub last_is : IsLast row item.least last at
  pub long : length next ≡ at
  pub each : (k : ℕ) → k < at → IsOpen next k ↔ GroupEnds item path row k

open_below : (next : List Bool) (ends : Bool) (k : ℕ) → k < length next → get_or (next ++ ends ∷ []) k false ≡ get_or next k false
open_below [] ends k l = absurd (omega arith)
open_below (x ∷ next) ends zero l = refl
open_below (x ∷ next) ends (suc k) l = open_below next ends k (omega arith)

open_at : (next : List Bool) (ends : Bool) (k : ℕ) → k ≡ length next → get_or (next ++ ends ∷ []) k false ≡ ends
open_at [] ends zero l = refl
open_at [] ends (suc k) l = absurd (omega arith)
open_at (x ∷ next) ends zero l = absurd (omega arith)
open_at (x ∷ next) ends (suc k) l = open_at next ends k (omega arith)

-- one place more
pub stepped_on : (item : LqueryItem) (path : List (List ℕ)) (row : List Bool) (start later : ℕ) (old last : Option ℕ) (at : ℕ) (next more : List Bool) (ends : Bool)
    → at ≤ length path → HasStepped item path row start old at next → IsLast row item.least last (at + 1) → IsTrue ends ↔ EndsGroup start last at item.most → more ≡ next ++ ends ∷ []
    → (at < length path → IsRun item path later (at + 1)) → HasStepped item path row later last (at + 1) more
stepped_on item path row start later old last at next more ends within h found tells is run = record {
  run = λ l. run (omega arith);
  last_is = found;
  long = omega (arith, ap length is, length-append next (ends ∷ []), h.long);
  each = λ k inside. elim (cases_lt k at) [
    | inl below ↦
        let same : get_or more k false ≡ get_or next k false = ap (λ (r : List Bool). get_or r k false) is ∙ open_below next ends k (omega (arith, h.long)) in
        let old = h.each k below in
        (λ p. old.0 (sym same ∙ p), λ g. same ∙ old.1 g)
    | inr last_one ↦
        let here : at ≡ k = omega arith in
        let same : get_or more k false ≡ ends = ap (λ (r : List Bool). get_or r k false) is ∙ open_at next ends k (omega (arith, h.long)) in
        let group = group_tells item path row start at last within (h.run within) found in
        let P : ℕ → Type 0 = λ n. GroupEnds item path row n in
        (λ p. subst P here (group.0 (tells.0 (sym same ∙ p))), λ g. same ∙ tells.1 (group.1 (subst P (sym here) g)))
  ];
}
