-- Lists without some rows.
use Rattle.std.proofs.Common.{◌≡◌, ◌⊎◌, inl, inr, ⊎_elim, ℕ, ◌+◌, ◌<◌, ◌≤◌, true, false, List, [], ◌∷◌, ◌++◌, length, map, take, drop, slice_index_or, Option, Some, refl, sym, ◌∙◌, ap, subst, append_assoc, append-nil, arith}
use Rattle.std.specs.Prelude.{IfSome, ◌==◌, not}
use Rattle.std.specs.List.{AllByRecursion, list_any}
use Rattle.std.proofs.lemmas.Bool.Decides.{eqb_tells}
use Rattle.std.proofs.lemmas.List.{take_all}
use Rattle.std.proofs.lemmas.List.Elements.{filter-append}
use Rattle.gx_pages.specs.declared.row.RowRef.{RowRef}
use Rattle.gx_pages.specs.Rows.{AreBelow, HasNumber, IsRising}
use Rattle.gx_pages.proofs.Rising.{rising_take}
use Rattle.gx_posting.specs.Postings.{Spells, last_of}
use Rattle.gx_posting.proofs.PostingFacts.{no_rows}
use Rattle.gx_slot.specs.Slots.{Slots, taken}
use Rattle.gx_tree.specs.Paging.{weight}
use Rattle.gx_tree.specs.Trees.{slots}
use Rattle.gx_tree.proofs.Weights.{taken_weight, weight-append}
use Rattle.gx_posting_tree.specs.PostingTrees.{AreSpelled, without}
use Rattle.gx_posting_tree.specs.Removing.{IsKept, unless_empty}
use Rattle.gx_posting_tree.specs.Spelled.{spelled_join}
use Rattle.gx_posting_tree.proofs.Fills.{below_next, front_more, last_under}
use Rattle.gx_posting_tree.proofs.Lengths.{filter_all, filter_shorter}

tells : (rows : List RowRef) (n : ℕ) → ((list_any (λ other. other.number == n) rows ≡ true) × HasNumber rows n) ⊎ ((list_any (λ other. other.number == n) rows ≡ false) × (HasNumber rows n → ⊥))
tells [] n = inr (refl, λ h. h)
tells (row ∷ rows) n =
    ⊎_elim
    (λ same. inl ((let h = same.0 in rw h refl), inl same.1))
    (λ other. ⊎_elim
    (λ there. inl ((let h = other.0 in rw h there.0), inr there.1))
    (λ none. inr ((let h = other.0 in rw h none.0), λ has. ⊎_elim other.1 none.1 has))
    (tells rows n))
    (eqb_tells row.number n)

-- one row: it goes or stays
pub one_goes : (gone : List RowRef) (row : RowRef) → HasNumber gone row.number → without gone (row ∷ []) ≡ []
one_goes gone row has = ⊎_elim (λ there. let h = there.0 in rw h refl) (λ none. absurd (none.1 has)) (tells gone row.number)

pub one_stays : (gone : List RowRef) (row : RowRef) → (HasNumber gone row.number → ⊥) → without gone (row ∷ []) ≡ row ∷ []
one_stays gone row none = ⊎_elim (λ there. absurd (none there.1)) (λ out. let h = out.0 in rw h refl) (tells gone row.number)

pub without_join : (gone xs ys : List RowRef) → without gone (xs ++ ys) ≡ without gone xs ++ without gone ys
without_join gone xs ys = filter-append (λ (row : RowRef). not (list_any (λ (other : RowRef). other.number == row.number) gone)) xs ys

-- the next row of a list
module _ (gone rows : List RowRef) (rising : IsRising rows) (at : ℕ) (below : at < length rows) (none : RowRef) where
  abbrev row : RowRef
  row = slice_index_or rows at none

  next_below : AreBelow (take at rows) row.number
  next_below =
      below_next (take at rows) row []
      (subst (λ (l : List RowRef). IsRising l) (front_more rows rising at below none) (rising_take (at + 1) rows rising))

  pub kept_above : (last : Option RowRef) → last ≡ last_of (without gone (take at rows)) → IfSome last (λ before. before.number < (slice_index_or rows at none).number)
  kept_above last is = last_under (without gone (take at rows)) last row.number is (filter_all (λ (other : RowRef). other.number < row.number) _ (take at rows) next_below)

  pub kept_more : without gone (take (at + 1) rows) ≡ without gone (take at rows) ++ without gone (slice_index_or rows at none ∷ [])
  kept_more = ap (λ (l : List RowRef). without gone l) (front_more rows rising at below none) ∙ without_join gone (take at rows) (row ∷ [])

pub all_kept : (gone rows : List RowRef) (at : ℕ) → length rows ≤ at → without gone (take at rows) ≡ without gone rows
all_kept gone rows at past = ap (λ (l : List RowRef). without gone l) (take_all at rows past)

from_zero : (rows : List RowRef) → AllByRecursion (λ (row : RowRef). 0 ≤ row.number) rows
from_zero [] = tt
from_zero (x ∷ rows) = (omega arith, from_zero rows)

-- A list is no longer without some rows.
pub kept_short : (gone : List RowRef) (item kept : List ℕ) (rows : List RowRef) → Spells item rows → Spells kept (without gone rows) → length kept ≤ length item
kept_short gone item kept rows was is =
    let a = ap (λ (l : List ℕ). length l) was.are in
    let b = ap (λ (l : List ℕ). length l) is.are in
    let fewer = filter_shorter (λ (row : RowRef). not (list_any (λ (other : RowRef). other.number == row.number) gone)) 0 rows (from_zero rows) was.rise in
    omega (arith, a, b, fewer)

some_rows : (bytes : List ℕ) (rows : List RowRef) → Spells bytes rows → 0 < length bytes → 0 < length rows
some_rows bytes [] is some = absurd (let e = ap (λ (l : List ℕ). length l) is.are in omega (arith, e, some))
some_rows bytes (x ∷ rows) is some = omega arith

-- a list, unless it has no rows
pub list_spelled : (kept : List ℕ) (rows : List RowRef) → Spells kept rows → length kept ≤ 512 → AreSpelled (unless_empty kept) rows
list_spelled [] rows is short = no_rows 0 rows (sym is.are)
list_spelled (b ∷ kept) rows is short = (rows, [], sym (append-nil rows), some_rows (b ∷ kept) rows is (omega arith), short, is, refl)

weight_few : (kept : List ℕ) → weight (unless_empty kept) ≤ 4 + length kept
weight_few [] = omega arith
weight_few (b ∷ kept) = omega arith

-- the first lists of a page were written again
pub record KeptRows (gone : List RowRef) (before : List (List ℕ)) (rows : List RowRef) (slot : ℕ) (items : List (List ℕ)) : Type 0 where
  pub done : List RowRef
  pub rest : List RowRef
  pub cut : rows ≡ done ++ rest
  pub left : AreSpelled (drop slot before) rest
  pub spelled : AreSpelled items (without gone done)
  pub small : weight items + weight (drop slot before) ≤ weight before

pub record Keeping (gone : List RowRef) (its : List (Option (List ℕ))) (slot : ℕ) (kept : Slots) : Type 0 where
  pub items : List (List ℕ)
  pub are : kept ≡ slots 6 0 (map (λ item. Some item) items)
  pub so_far : (before : List (List ℕ)) (rows : List RowRef) → its ≡ map (λ item. Some item) before → AreSpelled before rows → KeptRows gone before rows slot items

pub keeping_none : (gone : List RowRef) (its : List (Option (List ℕ))) (kept : Slots) → kept ≡ slots 6 0 [] → Keeping gone its 0 kept
keeping_none gone its kept is = record {
  items = [];
  are = is;
  so_far = λ before rows all spelled. record { done = []; rest = rows; cut = refl; left = spelled; spelled = refl; small = omega arith };
}

module _ (gone : List RowRef) (its : List (Option (List ℕ))) (slot : ℕ) (kept : Slots) (keeping : Keeping gone its slot kept) (item list : List ℕ)
    (next : (before : List (List ℕ)) → its ≡ map (λ item. Some item) before → drop slot before ≡ item ∷ drop (slot + 1) before) where
  module _ (before : List (List ℕ)) (rows : List RowRef) (all : its ≡ map (λ item. Some item) before) (spelled : AreSpelled before rows) where
    abbrev had : KeptRows gone before rows slot keeping.items
    had = keeping.so_far before rows all spelled

    are : AreSpelled (item ∷ drop (slot + 1) before) had.rest
    are = subst (λ (l : List (List ℕ)). AreSpelled l had.rest) (next before all) had.left

    weights : weight (drop slot before) ≡ 4 + length item + weight (drop (slot + 1) before)
    weights = ap (λ (l : List (List ℕ)). weight l) (next before all)

    pub no_item : ((rows : List RowRef) → Spells item rows → ⊥) → ⊥
    no_item none = none are.0 are.5

    module _ (keeps : (rows : List RowRef) → Spells item rows → Spells list (without gone rows)) where
      short : length list ≤ length item
      short = kept_short gone item list are.0 are.5 (keeps are.0 are.5)

      pub has_room : taken (map (λ item. Some item) before) ≤ 8176 → 8176 < weight keeping.items + (4 + length list) → ⊥
      has_room room full = let h = had.small in omega (arith, h, weights, short, room, full, taken_weight before)

      pub kept_next : KeptRows gone before rows (slot + 1) (keeping.items ++ unless_empty list)
      kept_next = record {
        done = had.done ++ are.0;
        rest = are.1;
        cut = had.cut ∙ ap (λ (l : List RowRef). had.done ++ l) are.2 ∙ sym (append_assoc had.done are.0 are.1);
        left = are.6;
        spelled = subst (λ (l : List RowRef). AreSpelled (keeping.items ++ unless_empty list) l) (sym (without_join gone had.done are.0))
            (spelled_join keeping.items (unless_empty list) (without gone had.done) (without gone are.0) had.spelled
            (list_spelled list (without gone are.0) (keeps are.0 are.5) (let s = short in let few = are.4 in omega (arith, s, few))));
        small = (let h = had.small in omega (arith, h, weights, short, weight_few list, weight-append keeping.items (unless_empty list)));
      }

  pub keeping_more : (new : Slots) → ((items : List (List ℕ)) → kept ≡ slots 6 0 (map (λ item. Some item) items) → new ≡ slots 6 0 (map (λ item. Some item) (items ++ unless_empty list)))
      → ((rows : List RowRef) → Spells item rows → Spells list (without gone rows)) → Keeping gone its (slot + 1) new
  keeping_more new added keeps = record {
    items = keeping.items ++ unless_empty list;
    are = added keeping.items keeping.are;
    so_far = λ before rows all spelled. kept_next before rows all spelled keeps;
  }

pub keeping_all : (gone : List RowRef) (was kept : Slots) (slot : ℕ) → Keeping gone was.items slot kept → ((before : List (List ℕ)) → was.items ≡ map (λ item. Some item) before → drop slot before ≡ []) → IsKept gone was kept
keeping_all gone was kept slot keeping ends = record {
  items = keeping.items;
  are = keeping.are;
  strips = λ before all rows spelled.
      let had = keeping.so_far before rows all spelled in
      let none : had.rest ≡ [] = subst (λ (l : List (List ℕ)). AreSpelled l had.rest) (ends before all) had.left in
      subst (λ (l : List RowRef). AreSpelled keeping.items (without gone l)) (sym (had.cut ∙ ap (λ (l : List RowRef). had.done ++ l) none ∙ append-nil had.done)) had.spelled;
}

-- a page that has room for no more
pub page_full : (to : Slots) (items : List (List ℕ)) (list : List ℕ) (free : ℕ) → to ≡ slots 6 0 (map (λ item. Some item) items) → free + taken to.items ≡ 8176 → free < 4 + length list → 8176 < weight items + (4 + length list)
page_full to items list free is has less =
    let took = ap (λ (s : Slots). taken s.items) is in
    omega (arith, has, less, took, taken_weight items)
