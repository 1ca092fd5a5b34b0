-- Posting lists one behind another.
use Rattle.std.proofs.Common.{◌≡◌, ℕ, List, [], ◌∷◌, ◌++◌, length, refl, sym, ◌∙◌, ap, subst, append_assoc}
use Rattle.std.proofs.lemmas.List.{take_at}
use Rattle.gx_pages.specs.declared.row.RowRef.{RowRef}
use Rattle.gx_pages.specs.Rows.{IsRising}
use Rattle.gx_pages.proofs.Rising.{rising_take}
use Rattle.gx_posting_tree.specs.PostingTrees.{AreSpelled}

pub rising_left : (xs ys : List RowRef) → IsRising (xs ++ ys) → IsRising xs
rising_left xs ys rising = subst (λ (l : List RowRef). IsRising l) (take_at xs ys (length xs) refl) (rising_take (length xs) (xs ++ ys) rising)

-- the rows of the first items, and those of the others
pub record Split (xs ys : List (List ℕ)) (rows : List RowRef) : Type 0 where
  pub left : List RowRef
  pub right : List RowRef
  pub cut : rows ≡ left ++ right
  pub before : AreSpelled xs left
  pub behind : AreSpelled ys right

pub spelled_split : (xs ys : List (List ℕ)) (rows : List RowRef) → AreSpelled (xs ++ ys) rows → Split xs ys rows
spelled_split [] ys rows are = record { left = []; right = rows; cut = refl; before = refl; behind = are }
spelled_split (x ∷ xs) ys rows are =
    let more = spelled_split xs ys are.1 are.6 in
    record {
      left = are.0 ++ more.left;
      right = more.right;
      cut = are.2 ∙ ap (λ (l : List RowRef). are.0 ++ l) more.cut ∙ sym (append_assoc are.0 more.left more.right);
      before = (are.0, more.left, refl, are.3, are.4, are.5, more.before);
      behind = more.behind;
    }

pub spelled_join : (xs ys : List (List ℕ)) (a b : List RowRef) → AreSpelled xs a → AreSpelled ys b → AreSpelled (xs ++ ys) (a ++ b)
spelled_join [] ys a b before behind = subst (λ (l : List RowRef). AreSpelled ys (l ++ b)) (sym before) behind
spelled_join (x ∷ xs) ys a b before behind =
    (before.0, before.1 ++ b, ap (λ (l : List RowRef). l ++ b) before.2 ∙ append_assoc before.0 before.1 b, before.3, before.4, before.5, spelled_join xs ys before.1 b before.6 behind)
