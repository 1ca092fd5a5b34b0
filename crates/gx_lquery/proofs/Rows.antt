-- The row of a list of items: the places up to which they match.
use Rattle.std.proofs.Common.{◌≡◌, ℕ, zero, suc, ◌+◌, ◌<◌, ◌≤◌, ◌↔◌, Bool, false, IsTrue, get_or, List, [], ◌∷◌, ◌++◌, length, take, drop, refl, sym, ap, ap₂, ◌∙◌, subst, arith, take-append-drop, length-take-le, length-append}
use Rattle.std.specs.List.{AllZip}
use Rattle.std.proofs.lemmas.List.{take_all}
use Rattle.gx_lquery.specs.declared.query.LqueryItem.{LqueryItem}
use Rattle.gx_lquery.specs.Matching.{FitsItem, MatchesPath}
use Rattle.gx_lquery.specs.Places.{IsOpen, IsFirstRow, IsNextRow}
use Rattle.gx_lquery.proofs.RowLemmas.{joined, snoc_matches, unsnoc_matches}

pub record IsRowOf (items : List LqueryItem) (path : List (List ℕ)) (row : List Bool) : Type 0 where
  pub long : length row ≡ length path + 1
  pub each : (at : ℕ) → at ≤ length path → IsOpen row at ↔ MatchesPath items (take at path)

none_match : (path : List (List ℕ)) (at : ℕ) → suc at ≤ length path → MatchesPath [] (take (suc at) path) → ⊥
none_match path at within m = go m.groups m.fits m.joined
  where
    go : (groups : List (List (List ℕ))) → AllZip FitsItem [] groups → take (suc at) path ≡ joined groups → ⊥
    go [] a e = omega (arith, ap length e, length-take-le (suc at) path within)
    go (g ∷ groups) a e = a

pub first_is_row : (path : List (List ℕ)) (row : List Bool) → IsFirstRow (length path) row → IsRowOf [] path row
first_is_row path row f = record {
  long = f.long;
  each = go;
}
  where
    go : (at : ℕ) → at ≤ length path → IsOpen row at ↔ MatchesPath [] (take at path)
    go zero within = (λ _. record { groups = []; joined = refl; fits = tt }, λ _. f.first)
    go (suc at) within = (λ h. absurd (f.others at h), λ m. absurd (none_match path at within m))

take_front : (at from : ℕ) (path front group : List (List ℕ)) → take at path ≡ front ++ group → from ≡ length front → from ≤ at → (take from path ≡ front) × (drop from (take at path) ≡ group)
take_front zero zero path [] group e is l = (refl, e)
take_front (suc at) zero path [] group e is l = (refl, e)
take_front at zero path (x ∷ front) group e is l = absurd (omega arith)
take_front at (suc from) path [] group e is l = absurd (omega arith)
take_front zero (suc from) path (x ∷ front) group e is l = absurd (omega arith)
take_front (suc at) (suc from) [] (x ∷ front) group e is l = cc
take_front (suc at) (suc from) (y ∷ path) (x ∷ front) group e is l =
    let head : y ≡ x = cc in
    let tail : take at path ≡ front ++ group = cc in
    let rest = take_front at from path front group tail (omega arith) (omega arith) in
    (ap₂ (λ (c : List ℕ) (cs : List (List ℕ)). c ∷ cs) head rest.0, rest.1)

split_at : (at from : ℕ) (path : List (List ℕ)) → from ≤ at → take at path ≡ take from path ++ drop from (take at path)
split_at at from path l = sym (take-append-drop from (take at path)) ∙ ap (λ (t : List (List ℕ)). t ++ drop from (take at path)) (shorter at from path l)
  where
    shorter : (at from : ℕ) (path : List (List ℕ)) → from ≤ at → take from (take at path) ≡ take from path
    shorter at zero path l = refl
    shorter zero (suc from) path l = absurd (omega arith)
    shorter (suc at) (suc from) [] l = refl
    shorter (suc at) (suc from) (x ∷ path) l = ap (λ (t : List (List ℕ)). x ∷ t) (shorter at from path (omega arith))

pub next_is_row : (items : List LqueryItem) (item : LqueryItem) (path : List (List ℕ)) (row next : List Bool) → IsRowOf items path row → IsNextRow item path row next → IsRowOf (items ++ item ∷ []) path next
next_is_row items item path row next r n = record {
  long = n.long ∙ r.long;
  each = λ at within. (
    λ h.
        let g = (n.each at (omega (arith, r.long))).0 h in
        let front = (r.each g.from (omega (arith, g.before))).0 g.open_from in
        subst (MatchesPath (items ++ item ∷ [])) (sym (split_at at g.from path g.before)) (snoc_matches items item (take g.from path) (drop g.from (take at path)) front g.fits),
    λ m.
        let u = unsnoc_matches items item m.groups m.fits in
        let parts : take at path ≡ u.front ++ u.group = m.joined ∙ u.parts in
        let size : length (take at path) ≡ at = length-take-le at path within in
        let total : at ≡ length u.front + length u.group = sym size ∙ ap length parts ∙ length-append u.front u.group in
        let below : length u.front ≤ at = omega arith in
        let cut = take_front at (length u.front) path u.front u.group parts refl below in
        (n.each at (omega (arith, r.long))).1 (record {
          from = length u.front;
          open_from = (r.each (length u.front) (omega arith)).1 (subst (MatchesPath items) (sym cut.0) u.matches);
          before = below;
          fits = subst (FitsItem item) (sym cut.1) u.fits;
        }),
  );
}

open_read : (row : List Bool) (k : ℕ) (x : Bool) → k < length row → x ≡ get_or row k x → x ≡ get_or row k false
open_read [] k x l e = absurd (omega arith)
open_read (y ∷ row) zero x l e = e
open_read (y ∷ row) (suc k) x l e = open_read row k x (omega arith) e

-- the row at the end of the path
pub row_tells : (items : List LqueryItem) (path : List (List ℕ)) (row : List Bool) (n : ℕ) (x : Bool) → IsRowOf items path row → n ≡ length path → x ≡ get_or row n x → IsTrue x ↔ MatchesPath items path
row_tells items path row n x r is e =
    let read : x ≡ get_or row (length path) false = open_read row n x (omega (arith, r.long)) e ∙ ap (λ (k : ℕ). get_or row k false) is in
    let whole : take (length path) path ≡ path = take_all (length path) path (omega arith) in
    let each = r.each (length path) (omega arith) in
    (λ h. subst (MatchesPath items) whole (each.0 (sym read ∙ h)), λ m. read ∙ each.1 (subst (MatchesPath items) (sym whole) m))
