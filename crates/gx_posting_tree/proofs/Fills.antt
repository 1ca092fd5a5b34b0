-- The first page of a new posting tree.
use Rattle.std.proofs.Common.{◌≡◌, ◌⊎◌, ⊎_elim, inl, inr, ℕ, zero, suc, ◌+◌, ◌-◌, ◌*◌, ◌<◌, ◌≤◌, List, [], ◌∷◌, ◌++◌, length, map, take, drop, slice_index_or, get_or, Option, Some, None, refl, sym, ◌∙◌, ap, subst, append_assoc, append-nil, length-append, length-drop, arith}
use Rattle.std.specs.Prelude.{IfSome}
use Rattle.std.specs.List.{AllByRecursion}
use Rattle.std.proofs.lemmas.List.{map_push, take-append-drop, take_all, take_at}
use Rattle.gx_pages.specs.declared.row.RowRef.{RowRef}
use Rattle.gx_pages.specs.declared.store.Pages.{Ghosts}
use Rattle.gx_pages.specs.Footprints.{KeepsPages}
use Rattle.gx_pages.specs.Rows.{AreBelow, IsRising}
use Rattle.gx_pages.proofs.Footprints as feet_of
use Rattle.gx_pages.proofs.Rising.{rising_take}
use Rattle.gx_posting.specs.Postings.{Fits, Spells, entries_bytes, entry_bytes, last_of, number_of}
use Rattle.gx_slot.specs.Slots.{Slots, taken, with_item}
use Rattle.gx_tree.specs.Paging.{weight}
use Rattle.gx_tree.specs.Trees.{HoldsBeside, slots}
use Rattle.gx_tree.proofs.Lists.{at_place}
use Rattle.gx_tree.proofs.Weights.{taken_weight, weight-append}
use Rattle.gx_posting_tree.specs.PostingTrees.{AreSpelled, HasFirst, HoldsRows, IsFromKey, IsUnderKey}
use Rattle.gx_posting_tree.specs.Numbers.{rising_right}
use Rattle.gx_posting_tree.specs.Spelled.{spelled_join}
use Rattle.gx_posting_tree.proofs.Lengths.{entry_few, rows_many}

-- the rows so far stand in lists of which each takes little, and each but the last has 22 rows at least
pub record Fills (rows : List RowRef) (page : Slots) (count : ℕ) : Type 0 where
  pub items : List (List ℕ)
  pub is : page ≡ slots 6 0 (map (λ item. Some item) items)
  pub spelled : AreSpelled items (take count rows)
  pub within : count ≤ length rows
  pub small : weight items ≤ 23 * count + 4 * length items
  pub many : (count ≡ length rows) ⊎ (22 * length items ≤ count)

pub fills_none : (rows : List RowRef) (page : Slots) → page ≡ slots 6 0 [] → Fills rows page 0
fills_none rows page is = record { items = []; is = is; spelled = refl; within = omega arith; small = omega arith; many = inr (omega arith) }

pub fills_first : (rows : List RowRef) (page : Slots) (count : ℕ) → Fills rows page count → HasFirst rows page count
fills_first rows page count fills = record { items = fills.items; is = fills.is; spelled = fills.spelled; within = fills.within }

one_list : (item : List ℕ) (list : List RowRef) → Spells item list → 0 < length list → length item ≤ 512 → AreSpelled (item ∷ []) list
one_list item list spells some short = (list, [], sym (append-nil list), some, short, spells, refl)

take_more : (rows : List RowRef) (a b : ℕ) → a ≤ length rows → take (a + b) rows ≡ take a rows ++ take b (drop a rows)
take_more rows zero b low = ap (λ (n : ℕ). take n rows) (let e : 0 + b ≡ b = omega arith in e)
take_more [] (suc a) b low = absurd (omega (arith, low))
take_more (x ∷ rows) (suc a) b low =
    ap (λ (n : ℕ). take n (x ∷ rows)) (let e : suc a + b ≡ suc (a + b) = omega arith in e) ∙ ap (λ (l : List RowRef). x ∷ l) (take_more rows a b (omega (arith, low)))

length_front : (rows : List RowRef) (n : ℕ) → n ≤ length rows → length (take n rows) ≡ n
length_front rows zero low = refl
length_front [] (suc n) low = absurd (omega (arith, low))
length_front (x ∷ rows) (suc n) low = let rest = length_front rows n (omega (arith, low)) in omega (arith, rest)

module _ (rows : List RowRef) (page : Slots) (count : ℕ) (fills : Fills rows page count) (test : count < length rows) (item : List ℕ) (first : ℕ) (rest : List RowRef) (rest_is : rest ≡ drop count rows)
    (spells : Spells item (take first rest)) (some : 0 < first) (inside : first ≤ length rest) (short : length item ≤ 512) (little : length item ≤ 23 * first) (much : (first ≡ length rest) ⊎ (22 ≤ first)) where
  lists : 22 * length fills.items ≤ count
  lists = ⊎_elim (λ all. absurd (omega (arith, all, test))) (λ m. m) fills.many

  left : length rest + count ≡ length rows
  left = let e = ap (λ (l : List RowRef). length l) rest_is in omega (arith, e, test, length-drop count rows)

  pub fills_more : (new : Slots) → new ≡ with_item page (Some item) → Fills rows new (count + first)
  fills_more new added = record {
    items = fills.items ++ item ∷ [];
    is = added ∙ ap (λ (s : Slots). with_item s (Some item)) fills.is ∙ ap (λ (l : List (Option (List ℕ))). slots 6 0 l) (sym (map_push (λ (i : List ℕ). Some i) fills.items item));
    spelled = subst (λ (l : List RowRef). AreSpelled (fills.items ++ item ∷ []) l)
        (ap (λ (l : List RowRef). take count rows ++ take first l) rest_is ∙ sym (take_more rows count first (let w = fills.within in w)))
        (spelled_join fills.items (item ∷ []) (take count rows) (take first rest) fills.spelled
        (one_list item (take first rest) spells (let e = length_front rest first inside in omega (arith, e, some)) short));
    within = (let l = left in omega (arith, l, inside));
    small = (let s = fills.small in omega (arith, s, little, weight-append fills.items (item ∷ []), length-append fills.items (item ∷ [])));
    many = ⊎_elim
        (λ all. inl (let l = left in omega (arith, l, all)))
        (λ m. inr (let l = lists in omega (arith, l, m, length-append fills.items (item ∷ []))))
        much;
  }

  pub fills_full : (free : ℕ) → free + taken page.items ≡ 8176 → free < 4 + length item → length rows ≤ 341 → count ≡ length rows
  fills_full free has less few =
      let took = ap (λ (s : Slots). taken s.items) fills.is ∙ taken_weight fills.items in
      let s = fills.small in
      let l = lists in
      let r = left in
      absurd (omega (arith, has, less, few, took, s, l, r, little, inside))

-- the rows of a list, and one more
last_push : (rows : List RowRef) (row : RowRef) → last_of (rows ++ row ∷ []) ≡ Some row
last_push [] row = refl
last_push (x ∷ []) row = refl
last_push (x ∷ y ∷ rows) row = last_push (y ∷ rows) row

pub last_more : (rows more : List RowRef) (row : RowRef) → more ≡ rows ++ row ∷ [] → Some row ≡ last_of more
last_more rows more row is = sym (ap (λ (l : List RowRef). last_of l) is ∙ last_push rows row)

last_among : (rows : List RowRef) (last : RowRef) (number : ℕ) → last_of rows ≡ Some last → AreBelow rows number → last.number < number
last_among [] last number is below = absurd (let e : None ≡ Some last = is in cc)
last_among (row ∷ []) last number is below = let e : Some row ≡ Some last = is in let f : row ≡ last = cc in subst (λ (r : RowRef). r.number < number) f below.0
last_among (row ∷ other ∷ rows) last number is below = last_among (other ∷ rows) last number is below.1

pub last_under : (rows : List RowRef) (last : Option RowRef) (number : ℕ) → last ≡ last_of rows → AreBelow rows number → IfSome last (λ before. before.number < number)
last_under rows None number is below = tt
last_under rows (Some last) number is below = last_among rows last number (sym is) below

-- all rows before one of rising rows are below it
pub below_next : (front : List RowRef) (row : RowRef) (back : List RowRef) → IsRising (front ++ row ∷ back) → AreBelow front row.number
below_next [] row back rising = tt
below_next (x ∷ front) row back rising = ((feet_of.all_right (λ (other : RowRef). x.number < other.number) front (row ∷ back) rising.0).0, below_next front row back rising.1)

-- what a list grew by
pub grew_few : (old new : List ℕ) (last : Option RowRef) (row : RowRef) (rows : List RowRef) → new ≡ old ++ entry_bytes (number_of last) row → Spells new (rows ++ row ∷ []) → length new ≤ length old + 23
grew_few old new last row rows is spells =
    let fits : Fits row = (feet_of.all_right Fits rows (row ∷ []) spells.fit).0 in
    let few = entry_few (number_of last) row fits in
    let size = ap (λ (l : List ℕ). length l) is in
    omega (arith, few, size, length-append old (entry_bytes (number_of last) row))

-- a list that was cut again
pub cut_again : (old new cut entry : List ℕ) (size : ℕ) → new ≡ old ++ entry → size ≡ length old → cut ≡ take size new → cut ≡ old
cut_again old new cut entry size is len made = made ∙ ap (λ (l : List ℕ). take size l) is ∙ take_at old entry size (sym len)

-- no rows
pub empty_list : Spells [] []
empty_list = record { fit = tt; rise = tt; are = refl }

all_from : (rows : List RowRef) → AllByRecursion (IsFromKey None) rows
all_from [] = tt
all_from (x ∷ rows) = (tt, all_from rows)

all_under : (rows : List RowRef) → AllByRecursion (IsUnderKey None) rows
all_under [] = tt
all_under (x ∷ rows) = (tt, all_under rows)

-- a tree of one page
pub page_tree : {P : Type 0} (g : Ghosts P) (new : P) (root : ℕ) (items : List (List ℕ)) (rows : List RowRef) (rest : List ℕ) → HoldsBeside g new 6 root (0, (root, items)) rest → AreSpelled items rows → IsRising rows → HoldsRows g new root rows (root ∷ []) rest
page_tree g new root items rows rest held spelled rising = record {
  held = record {
    tree = (0, (root, items));
    held = held.held;
    stand = refl;
    spelled = subst (λ (l : List (List ℕ)). AreSpelled l rows) (sym (append-nil items)) spelled;
    rising = rising;
    keyed = record { rows = rows; spelled = spelled; rising = rising; from = all_from rows; under = all_under rows };
  };
  frees = held.frees;
  apart = held.apart;
}

-- a list of at most 1,024 bytes has at most 341 rows
pub few_rows : (rows : List RowRef) → length (entries_bytes 0 rows) ≤ 1024 → length rows ≤ 341
few_rows rows short = omega (arith, short, rows_many 0 rows)

-- a row among others
record Cut (rows : List RowRef) (at : ℕ) (row : RowRef) : Type 0 where
  pub cut : rows ≡ take at rows ++ row ∷ drop (suc at) rows
  pub more : take (suc at) rows ≡ take at rows ++ row ∷ []

cut_index : (rows : List RowRef) (at : ℕ) (none : RowRef) → at < length rows → Cut rows at (slice_index_or rows at none)
cut_index [] at none below = absurd (omega (arith, below))
cut_index (x ∷ rows) zero none below = record { cut = refl; more = refl }
cut_index (x ∷ rows) (suc at) none below =
    let rest = cut_index rows at none (omega (arith, below)) in
    record { cut = ap (λ (l : List RowRef). x ∷ l) rest.cut; more = ap (λ (l : List RowRef). x ∷ l) rest.more }

module _ (rows : List RowRef) (rising : IsRising rows) (at : ℕ) (below : at < length rows) (none : RowRef) where
  abbrev row : RowRef
  row = slice_index_or rows at none

  pub row_above : (last : Option RowRef) → last ≡ last_of (take at rows) → IfSome last (λ before. before.number < (slice_index_or rows at none).number)
  row_above last is =
      last_under (take at rows) last row.number is
      (below_next (take at rows) row (drop (suc at) rows) (subst (λ (l : List RowRef). IsRising l) (cut_index rows at none below).cut rising))

  pub front_more : take (at + 1) rows ≡ take at rows ++ slice_index_or rows at none ∷ []
  front_more = ap (λ (n : ℕ). take n rows) (let e : at + 1 ≡ suc at = omega arith in e) ∙ (cut_index rows at none below).more

  pub list_grows : (old new : List ℕ) (last : Option RowRef) → last ≡ last_of (take at rows) → Spells old (take at rows) → new ≡ old ++ entry_bytes (number_of last) row
      → ((rs : List RowRef) → Spells old rs → last_of rs ≡ last → Spells new (rs ++ slice_index_or rows at none ∷ [])) → Spells new (take (at + 1) rows) × (length new ≤ length old + 23)
  list_grows old new last is spells bytes grows =
      let all = grows (take at rows) spells (sym is) in
      (subst (λ (l : List RowRef). Spells new l) (sym front_more) all, grew_few old new last row (take at rows) bytes all)

  pub last_here : Some (slice_index_or rows at none) ≡ last_of (take (at + 1) rows)
  last_here = last_more (take at rows) (take (at + 1) rows) row front_more

pub rising_drop : (rows : List RowRef) (n : ℕ) → IsRising rows → IsRising (drop n rows)
rising_drop rows n rising = rising_right (take n rows) (drop n rows) (subst (λ (l : List RowRef). IsRising l) (sym (take-append-drop n rows)) rising)

pub rest_rising : (rows : List RowRef) (n k : ℕ) → IsRising rows → IsRising (take k (drop n rows))
rest_rising rows n k rising = rising_take k (drop n rows) (rising_drop rows n rising)

pub rest_all : (rows : List RowRef) (n : ℕ) → take (length rows - n) (drop n rows) ≡ drop n rows
rest_all rows n = take_all (length rows - n) (drop n rows) (omega (arith, length-drop n rows))

-- rows that are put behind others one by one
pub next_below : (list rows : List RowRef) (i : ℕ) (row : RowRef) → IsRising (list ++ rows) → rows ≡ take i rows ++ row ∷ drop (i + 1) rows → AreBelow (list ++ take i rows) row.number
next_below list rows i row rising cut =
    below_next (list ++ take i rows) row (drop (i + 1) rows)
    (subst (λ (l : List RowRef). IsRising l) (ap (λ (l : List RowRef). list ++ l) cut ∙ sym (append_assoc list (take i rows) (row ∷ drop (i + 1) rows))) rising)

pub next_more : (list rows : List RowRef) (i : ℕ) (row : RowRef) → take (i + 1) rows ≡ take i rows ++ row ∷ [] → (list ++ take i rows) ++ row ∷ [] ≡ list ++ take (i + 1) rows
next_more list rows i row more = append_assoc list (take i rows) (row ∷ []) ∙ ap (λ (l : List RowRef). list ++ l) (sym more)

pub all_put : (list rows : List RowRef) (i : ℕ) → length rows ≤ i → list ++ take i rows ≡ list ++ rows
all_put list rows i past = ap (λ (l : List RowRef). list ++ l) (take_all i rows past)

-- the row at a place of a walk
module _ (rows : List RowRef) (i : ℕ) (below : i < length rows) (none : RowRef) where
  walked : get_or rows i none ≡ (at_place rows i below).item
  walked = (at_place rows i below).is none

  pub walk_cut : rows ≡ take i rows ++ get_or rows i none ∷ drop (i + 1) rows
  walk_cut = (at_place rows i below).cut ∙ ap (λ (r : RowRef). take i rows ++ r ∷ drop (i + 1) rows) (sym walked)

  pub walk_more : take (i + 1) rows ≡ take i rows ++ get_or rows i none ∷ []
  walk_more = (at_place rows i below).more ∙ ap (λ (r : RowRef). take i rows ++ r ∷ []) (sym walked)

module _ {P : Type 0} (g : Ghosts P) (old mid new : P) (root : ℕ) (list rows : List RowRef) (i : ℕ) (below : i < length rows) (none : RowRef) (feet free middle left : List ℕ) (rising : IsRising (list ++ rows))
    (held : HoldsRows g mid root (list ++ take i rows) middle left) (keeps : KeepsPages g old mid feet free middle left)
    (inserts : (l : List RowRef) (f r : List ℕ) → HoldsRows g mid root l f r → AreBelow l (get_or rows i none).number
    → (later : List ℕ) × (rest : List ℕ) × HoldsRows g new root (l ++ get_or rows i none ∷ []) later rest × KeepsPages g mid new f r later rest) where
  pub inserted_more : (later : List ℕ) × (rest : List ℕ) × HoldsRows g new root (list ++ take (i + 1) rows) later rest × KeepsPages g old new feet free later rest
  inserted_more =
      let done = inserts (list ++ take i rows) middle left held (next_below list rows i (get_or rows i none) rising (walk_cut rows i below none)) in (
        done.0,
        done.1,
        subst (λ (l : List RowRef). HoldsRows g new root l done.0 done.1) (next_more list rows i (get_or rows i none) (walk_more rows i below none)) done.2,
        feet_of.keeps_join g old mid new feet free middle left done.0 done.1 keeps done.3,
      )

pub put_none : {P : Type 0} (g : Ghosts P) (old : P) (root : ℕ) (list rows : List RowRef) (feet free : List ℕ) → HoldsRows g old root list feet free
    → (later : List ℕ) × (rest : List ℕ) × HoldsRows g old root (list ++ take 0 rows) later rest × KeepsPages g old old feet free later rest
put_none g old root list rows feet free held = (
  feet,
  free,
  subst (λ (l : List RowRef). HoldsRows g old root l feet free) (sym (append-nil list)) held,
  feet_of.keeps_none g old feet free held.frees,
)

-- the first page of a tree that gets more rows
pub page_first : {P : Type 0} (g : Ghosts P) (new : P) (root : ℕ) (rows : List RowRef) (page : Slots) (count : ℕ) (first : HasFirst rows page count) (rest : List ℕ) → IsRising rows
    → HoldsBeside g new 6 root (0, (root, first.items)) rest → HoldsRows g new root (take count rows) (root ∷ []) rest
page_first g new root rows page count first rest rising held = page_tree g new root first.items (take count rows) rest held first.spelled (rising_take count rows rising)

-- what is left of the rows, as a slice
pub whole_rows : (rows again : List RowRef) (count : ℕ) → rows ≡ again → take count rows ++ take (length again - count) (drop count again) ≡ rows
whole_rows rows again count same =
    ap (λ (l : List RowRef). take count rows ++ l) (rest_all again count ∙ ap (λ (l : List RowRef). drop count l) (sym same)) ∙ take-append-drop count rows

pub rest_few : (rows : List RowRef) (count : ℕ) → length rows ≡ count → length (take (length rows - count) (drop count rows)) ≡ 0
rest_few rows count same = ap (λ (l : List RowRef). length l) (rest_all rows count) ∙ (let d = length-drop count rows in omega (arith, d, same))
