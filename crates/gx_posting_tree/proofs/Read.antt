-- A walk that reads posting lists.
use Rattle.std.proofs.Common.{◌≡◌, ℕ, ◌+◌, ◌<◌, List, [], ◌∷◌, ◌++◌, length, drop, get_or, refl, sym, ◌∙◌, ap, subst, append_assoc, append-nil}
use Rattle.std.specs.List.{AllByRecursion}
use Rattle.gx_words.specs.PageMap.{PageMap}
use Rattle.gx_pages.specs.declared.row.RowRef.{RowRef}
use Rattle.gx_pages.specs.Rows.{IsRising}
use Rattle.gx_posting.specs.Postings.{Spells}
use Rattle.gx_posting.proofs.PostingFacts.{one_spelled}
use Rattle.gx_tree.specs.Trees.{IsOn, Leaf, items_of, numbers}
use Rattle.gx_tree.proofs.Walks.{leaf, leaf_left}
use Rattle.gx_posting_tree.specs.PostingTrees.{AreSpelled}
use Rattle.gx_posting_tree.specs.Spelled.{rising_left, spelled_split}

-- Some rows are read, and what is left spells the others.
pub record Reads (old now rows : List RowRef) (left : List (List ℕ)) : Type 0 where
  pub done : List RowRef
  pub rest : List RowRef
  pub is : now ≡ old ++ done
  pub cut : rows ≡ done ++ rest
  pub spelled : AreSpelled left rest

pub reads_none : (old rows : List RowRef) (left : List (List ℕ)) → AreSpelled left rows → Reads old old rows left
reads_none old rows left are = record { done = []; rest = rows; is = sym (append-nil old); cut = refl; spelled = are }

pub reads_all : (old now rows : List RowRef) (left : List (List ℕ)) → left ≡ [] → Reads old now rows left → now ≡ old ++ rows
reads_all old now rows left none reads =
    let ends : AreSpelled [] reads.rest = subst (λ (l : List (List ℕ)). AreSpelled l reads.rest) none reads.spelled in
    reads.is ∙ ap (λ (l : List RowRef). old ++ l) (sym (append-nil reads.done) ∙ ap (λ (l : List RowRef). reads.done ++ l) (sym ends) ∙ sym reads.cut)

module _ (old now rows : List RowRef) (left : List (List ℕ)) (reads : Reads old now rows left) (item : List ℕ) (more : List (List ℕ)) (at : left ≡ item ∷ more) where
  are : AreSpelled (item ∷ more) reads.rest
  are = subst (λ (l : List (List ℕ)). AreSpelled l reads.rest) at reads.spelled

  pub reads_one : (list later : List RowRef) → Spells item list → later ≡ now ++ list → Reads old later rows more
  reads_one list later spells is =
      let same = one_spelled item list are.0 spells are.5 in
      record {
        done = reads.done ++ list;
        rest = are.1;
        is = is ∙ ap (λ (l : List RowRef). l ++ list) reads.is ∙ append_assoc old reads.done list;
        cut = reads.cut ∙ ap (λ (l : List RowRef). reads.done ++ l) (are.2 ∙ ap (λ (l : List RowRef). l ++ are.1) (sym same)) ∙ sym (append_assoc reads.done list are.1);
        spelled = are.6;
      }

  pub reads_refused : ((list : List RowRef) → Spells item list → IsRising (now ++ list) → ⊥) → IsRising (old ++ rows) → ⊥
  reads_refused refused rising =
      refused are.0 are.5 (rising_left (now ++ are.0) are.1
      (subst (λ (l : List RowRef). IsRising l)
      (ap (λ (l : List RowRef). old ++ l) (reads.cut ∙ ap (λ (l : List RowRef). reads.done ++ l) are.2) ∙ sym (append_assoc old reads.done (are.0 ++ are.1))
      ∙ ap (λ (l : List RowRef). l ++ (are.0 ++ are.1)) (sym reads.is) ∙ sym (append_assoc now are.0 are.1)) rising))

-- a page of level 0 among others
module _ (now : PageMap) (kind : ℕ) (list : List ℕ) (leaves : List Leaf) (are : list ≡ numbers leaves) (on : AllByRecursion (IsOn now kind 0) leaves) (i page : ℕ) (below : i < length list) (at : get_or list i page ≡ page) where
  abbrev here : Leaf
  here = leaf now kind list leaves are on i page below at

  pub reads_leaf : (old to rows : List RowRef) → Reads old to rows (items_of (drop i leaves)) → (later : List RowRef) → ((part : List RowRef) → AreSpelled here.1 part → later ≡ to ++ part)
      → Reads old later rows (items_of (drop (i + 1) leaves))
  reads_leaf old to rows reads later pushed =
      let both = spelled_split here.1 (items_of (drop (i + 1) leaves)) reads.rest (subst (λ (l : List (List ℕ)). AreSpelled l reads.rest) (leaf_left now kind list leaves are on i page below at) reads.spelled) in
      record {
        done = reads.done ++ both.left;
        rest = both.right;
        is = pushed both.left both.before ∙ ap (λ (l : List RowRef). l ++ both.left) reads.is ∙ append_assoc old reads.done both.left;
        cut = reads.cut ∙ ap (λ (l : List RowRef). reads.done ++ l) both.cut ∙ sym (append_assoc reads.done both.left both.right);
        spelled = both.behind;
      }

  pub reads_leaf_refused : (old to rows : List RowRef) → Reads old to rows (items_of (drop i leaves)) → ((part : List RowRef) → AreSpelled here.1 part → IsRising (to ++ part) → ⊥) → IsRising (old ++ rows) → ⊥
  reads_leaf_refused old to rows reads refused rising =
      let both = spelled_split here.1 (items_of (drop (i + 1) leaves)) reads.rest (subst (λ (l : List (List ℕ)). AreSpelled l reads.rest) (leaf_left now kind list leaves are on i page below at) reads.spelled) in
      refused both.left both.before (rising_left (to ++ both.left) both.right
      (subst (λ (l : List RowRef). IsRising l)
      (ap (λ (l : List RowRef). old ++ l) (reads.cut ∙ ap (λ (l : List RowRef). reads.done ++ l) both.cut) ∙ sym (append_assoc old reads.done (both.left ++ both.right))
      ∙ ap (λ (l : List RowRef). l ++ (both.left ++ both.right)) (sym reads.is) ∙ sym (append_assoc to both.left both.right)) rising))
