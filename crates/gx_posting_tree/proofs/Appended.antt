-- A posting tree with one more row.
use Rattle.std.proofs.Common.{◌≡◌, ℕ, ◌<◌, List, [], ◌∷◌, ◌++◌, None, refl, sym, ◌∙◌, ap, subst, append_assoc, append-nil, arith}
use Rattle.std.specs.List.{AllByRecursion}
use Rattle.gx_pages.specs.declared.row.RowRef.{RowRef}
use Rattle.gx_pages.specs.declared.store.Pages.{Ghosts}
use Rattle.gx_pages.specs.Footprints.{KeepsPages}
use Rattle.gx_pages.specs.Rows.{AreBelow, IsRising}
use Rattle.gx_pages.proofs.Footprints as feet_of
use Rattle.gx_pages.proofs.Rising.{rising_push}
use Rattle.gx_posting.proofs.PostingFacts.{one_spelled}
use Rattle.gx_tree.specs.Changing.{Changed, Edited}
use Rattle.gx_tree.specs.Trees.{entries, footprint}
use Rattle.gx_tree.proofs.Entries.{keyed_entries}
use Rattle.gx_posting_tree.specs.PostingTrees.{Allows, Appends, AreSpelled, HaveRows, HoldsRows, by_number}
use Rattle.gx_posting_tree.specs.Numbers.{lawful, rising_across}
use Rattle.gx_posting_tree.specs.Spelled.{spelled_join, spelled_split}

-- lists spell one list of rows
pub one_rows : (items : List (List ℕ)) (a b : List RowRef) → AreSpelled items a → AreSpelled items b → a ≡ b
one_rows [] a b first second = first ∙ sym second
one_rows (item ∷ items) a b first second =
    first.2 ∙ ap (λ (l : List RowRef). l ++ first.1) (one_spelled item first.0 second.0 first.5 second.5)
    ∙ ap (λ (l : List RowRef). second.0 ++ l) (one_rows items first.1 second.1 first.6 second.6) ∙ sym second.2

pub allowed_all : (row : RowRef) (items : List (List ℕ)) (rows : List RowRef) → AreSpelled items rows → AreBelow rows row.number → AllByRecursion (Allows row) items
allowed_all row [] rows are below = tt
allowed_all row (item ∷ items) rows are below =
    let all : AreBelow (are.0 ++ are.1) row.number = subst (λ (l : List RowRef). AreBelow l row.number) are.2 below in (
      (λ list spells. subst (λ (l : List RowRef). AreBelow l row.number) (one_spelled item are.0 list are.5 spells) (feet_of.all_left (λ (r : RowRef). r.number < row.number) are.0 are.1 all)),
      allowed_all row items are.1 are.6 (feet_of.all_right (λ (r : RowRef). r.number < row.number) are.0 are.1 all),
    )

pub allowed_below : (row : RowRef) (items : List (List ℕ)) (rows : List RowRef) → AreSpelled items rows → AllByRecursion (Allows row) items → AreBelow rows row.number
allowed_below row [] rows are allowed = subst (λ (l : List RowRef). AreBelow l row.number) (sym are) tt
allowed_below row (item ∷ items) rows are allowed =
    subst (λ (l : List RowRef). AreBelow l row.number) (sym are.2)
    (feet_of.all_join (λ (r : RowRef). r.number < row.number) are.0 are.1 (allowed.0 are.0 are.5) (allowed_below row items are.1 are.6 allowed.1))

-- the row stands behind all others
module _ (row : RowRef) (before after : List (List ℕ)) (rows : List RowRef) (spelled : AreSpelled before rows) (below : AreBelow rows row.number) (edited : Edited (Appends row) before after) (have : HaveRows None None after) where
  first : List RowRef
  first = (spelled_split edited.front (edited.was ++ edited.back) rows (subst (λ (l : List (List ℕ)). AreSpelled l rows) (edited.old ∙ append_assoc edited.front edited.was edited.back) spelled)).left

  no_more : (c : List RowRef) (a b : List RowRef) → IsRising ((a ++ (b ++ row ∷ [])) ++ c) → AreBelow c row.number → c ≡ []
  no_more [] a b rising low = refl
  no_more (x ∷ c) a b rising low =
      let across = rising_across (a ++ (b ++ row ∷ [])) x c rising in
      let last = feet_of.all_right (λ (r : RowRef). r.number < x.number) b (row ∷ []) (feet_of.all_right (λ (r : RowRef). r.number < x.number) a (b ++ row ∷ []) across) in
      let here = last.0 in
      let there = low.0 in
      absurd (omega (arith, here, there))

  pub spelled_later : AreSpelled after (rows ++ row ∷ [])
  spelled_later =
      let all = spelled_split edited.front (edited.was ++ edited.back) rows (subst (λ (l : List (List ℕ)). AreSpelled l rows) (edited.old ∙ append_assoc edited.front edited.was edited.back) spelled) in
      let rest = spelled_split edited.was edited.back all.right all.behind in
      let cut : rows ≡ all.left ++ (rest.left ++ rest.right) = all.cut ∙ ap (λ (l : List RowRef). all.left ++ l) rest.cut in
      let now : AreSpelled ((edited.front ++ edited.is) ++ edited.back) ((all.left ++ (rest.left ++ row ∷ [])) ++ rest.right) =
      spelled_join (edited.front ++ edited.is) edited.back (all.left ++ (rest.left ++ row ∷ [])) rest.right
      (spelled_join edited.front edited.is all.left (rest.left ++ row ∷ []) all.before (edited.done rest.left rest.before)) rest.behind in
      let here : AreSpelled after ((all.left ++ (rest.left ++ row ∷ [])) ++ rest.right) = subst (λ (l : List (List ℕ)). AreSpelled l ((all.left ++ (rest.left ++ row ∷ [])) ++ rest.right)) (sym edited.new) now in
      let rising : IsRising ((all.left ++ (rest.left ++ row ∷ [])) ++ rest.right) = subst (λ (l : List RowRef). IsRising l) (one_rows after have.rows ((all.left ++ (rest.left ++ row ∷ [])) ++ rest.right) have.spelled here) have.rising in
      let low : AreBelow (all.left ++ (rest.left ++ rest.right)) row.number = subst (λ (l : List RowRef). AreBelow l row.number) cut below in
      let low_right = feet_of.all_right (λ (r : RowRef). r.number < row.number) rest.left rest.right (feet_of.all_right (λ (r : RowRef). r.number < row.number) all.left (rest.left ++ rest.right) low) in
      let none : rest.right ≡ [] = no_more rest.right all.left rest.left rising low_right in
      let same : (all.left ++ (rest.left ++ row ∷ [])) ++ rest.right ≡ rows ++ row ∷ [] =
      ap (λ (l : List RowRef). (all.left ++ (rest.left ++ row ∷ [])) ++ l) none ∙ append-nil (all.left ++ (rest.left ++ row ∷ []))
      ∙ sym (append_assoc all.left rest.left (row ∷ []))
      ∙ ap (λ (l : List RowRef). l ++ row ∷ []) (ap (λ (l : List RowRef). all.left ++ l) (sym (append-nil rest.left) ∙ ap (λ (l : List RowRef). rest.left ++ l) (sym none)) ∙ sym cut) in
      subst (λ (l : List RowRef). AreSpelled after l) same here

-- the tree afterwards
pub appended : {P : Type 0} (g : Ghosts P) (old new : P) (root : ℕ) (row : RowRef) (rows : List RowRef) (feet free : List ℕ) (held : HoldsRows g old root rows feet free) → AreBelow rows row.number
    → Changed g old new by_number (Appends row) 6 root held.held.tree free
    → (later : List ℕ) × (rest : List ℕ) × HoldsRows g new root (rows ++ row ∷ []) later rest × KeepsPages g old new feet free later rest
appended g old new root row rows feet free held below changed =
    let tree = held.held.tree in
    let have : HaveRows None None (entries changed.later) = keyed_entries by_number lawful changed.later.0 None None changed.later.1 changed.keyed in (
      footprint changed.later,
      changed.rest,
      record {
        held = record {
          tree = changed.later;
          held = changed.held.held;
          stand = refl;
          spelled = spelled_later row (entries tree) (entries changed.later) rows held.held.spelled below changed.edited have;
          rising = rising_push rows row held.held.rising below;
          keyed = changed.keyed;
        };
        frees = changed.held.frees;
        apart = changed.held.apart;
      },
      subst (λ (l : List ℕ). KeepsPages g old new l free (footprint changed.later) changed.rest) (sym held.held.stand) changed.keeps,
    )
