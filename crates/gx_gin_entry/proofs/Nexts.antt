-- The entry with the next key.
use Rattle.std.proofs.Common.{◌≡◌, ◌≢◌, ⊎_elim, ℕ, zero, suc, ◌+◌, ◌-◌, ◌<◌, ◌≤◌, List, [], ◌∷◌, ◌++◌, length, map, take, drop, get_or, position, nat_lt, cond, ◌==◌, Bool, true, false, Option, Some, None, refl, sym, ◌∙◌, ap, ap₂, subst, append_assoc, append-nil, length-append, arith}
use Rattle.std.specs.List.{AllByRecursion, position_or_len}
use Rattle.std.proofs.lemmas.Bool.Decides.{eqb_tells, nat_tests}
use Rattle.std.proofs.lemmas.List.{drop_at, take_all}
use Rattle.std.specs.declared.cmp.Ordering.TheVariants.{Less, Equal, Greater}
use Rattle.gx_words.specs.PageMap.{PageMap}
use Rattle.gx_pages.specs.Footprints.{IsOutside}
use Rattle.gx_pages.proofs.Footprints as feet
use Rattle.gx_slot.specs.Slots.{Slots, Fits, spelling}
use Rattle.gx_pages.specs.Frees.{IsApart}
use Rattle.gx_tree.specs.Trees.{IsOn, Leaf, Node, Tree, items_of, leaves, leaves_of, numbers, uppers_of}
use Rattle.gx_tree.proofs.Nodes.{stand_leaves}
use Rattle.gx_tree.proofs.Walks.{leaf, leaf_found, leaf_left}
use Rattle.gx_gin_entry.specs.EntryTrees.{AreListed, AreRising, Entry, HoldsMap, IsAbove, IsBefore, IsBetween, IsEntry, IsHere, IsNext, IsSplit, entry_bytes, key_or_least}
use Rattle.gx_gin_entry.specs.Keys.{not_itself, not_turned, rising_left, rising_right}
use Rattle.gx_gin_entry.specs.Lists.{Split, split_list}
use Rattle.gx_gin_entry.proofs.Edits.{round_here}

abbrev Below : Option (List ℕ) → Entry → Type 0
Below low e = IsAbove low e → ⊥

-- entries behind others that aren't above the key
pub next_behind : (a b : List Entry) (low : Option (List ℕ)) (found : Option Entry) → AllByRecursion (λ e. IsAbove low e → ⊥) a → IsNext b low found → IsNext (a ++ b) low found
next_behind a b low None below next = feet.all_join (Below low) a b below next
next_behind a b low (Some e) below next = (
  a ++ next.0,
  next.1,
  ap (λ (l : List Entry). a ++ l) next.2 ∙ sym (append_assoc a next.0 (e ∷ next.1)),
  feet.all_join (Below low) a next.0 below next.3,
  next.4,
)

-- entries before others
pub next_before : (a b : List Entry) (low : Option (List ℕ)) (e : Entry) → IsNext a low (Some e) → IsNext (a ++ b) low (Some e)
next_before a b low e next = (next.0, next.1 ++ b, ap (λ (l : List Entry). l ++ b) next.2 ∙ append_assoc next.0 (e ∷ next.1) b, next.3, next.4)

none_below : (a : List Entry) → AllByRecursion (λ e. IsAbove None e → ⊥) a → a ≡ []
none_below [] below = refl
none_below (x ∷ a) below = absurd (below.0 tt)

-- the first of entries that are all above a key
pub next_above : (b : List Entry) (low : Option (List ℕ)) (found : Option Entry) → AllByRecursion (IsAbove low) b → IsNext b None found → IsNext b low found
next_above b low None above next = subst (λ (l : List Entry). AllByRecursion (Below low) l) (sym (none_below b next)) tt
next_above b low (Some e) above next = (
  next.0,
  next.1,
  next.2,
  subst (λ (l : List Entry). AllByRecursion (Below low) l) (sym (none_below next.0 next.3)) tt,
  (feet.all_right (IsAbove low) next.0 (e ∷ next.1) (subst (λ (l : List Entry). AllByRecursion (IsAbove low) l) next.2 above)).0,
)

nothing_before : (key : List ℕ) → IsBefore key [] → ⊥
nothing_before [] less = let both : Equal ≡ Less = less in cc both
nothing_before (x ∷ key) less = let both : Greater ≡ Less = less in cc both

pub left_below : (low : Option (List ℕ)) (left : List Entry) → AllByRecursion (λ e. IsBefore e.0 (key_or_least low)) left → AllByRecursion (λ e. IsAbove low e → ⊥) left
left_below None left all = feet.all_weaker (λ (e : Entry). IsBefore e.0 []) (Below None) left (λ e less above. nothing_before e.0 less) all
left_below (Some key) left all = feet.all_weaker (λ (e : Entry). IsBefore e.0 key) (Below (Some key)) left (λ e less above. not_turned e.0 key less above) all

all_above : (list : List Entry) → AllByRecursion (IsAbove None) list
all_above [] = tt
all_above (x ∷ list) = (tt, all_above list)

pub right_above : (low : Option (List ℕ)) (right : List Entry) → AllByRecursion (λ e. IsBefore (key_or_least low) e.0) right → AllByRecursion (IsAbove low) right
right_above None right all = all_above right
right_above (Some key) right all = all

-- a page as it is cut at a key
pub split_all : (list : List Entry) → IsSplit list None 0
split_all list = record { front = []; back = list; cut = refl; at = refl; below = tt; above = all_above list }

pub split_here : (list : List Entry) (key : List ℕ) (place : ℕ) → AreRising list → IsHere list key place → IsSplit list (Some key) (place + 1)
split_here list key place rising here =
    let round = round_here here.front key here.posting here.back (subst (λ (l : List Entry). AreRising l) here.cut rising) in
    let at = here.at in
    record {
      front = here.front ++ (key, here.posting) ∷ [];
      back = here.back;
      cut = here.cut ∙ sym (append_assoc here.front ((key, here.posting) ∷ []) here.back);
      at = omega (arith, at, length-append here.front ((key, here.posting) ∷ []));
      below = feet.all_join (Below (Some key)) here.front ((key, here.posting) ∷ [])
          (feet.all_weaker (λ (e : Entry). IsBefore e.0 key) (Below (Some key)) here.front (λ e less above. not_turned e.0 key less above) round.before) (not_itself key, tt);
      above = round.behind;
    }

pub split_between : (list : List Entry) (key : List ℕ) (place : ℕ) → IsBetween list key place → IsSplit list (Some key) place
split_between list key place is = record {
  front = is.front;
  back = is.back;
  cut = is.cut;
  at = is.at;
  below = feet.all_weaker (λ (e : Entry). IsBefore e.0 key) (Below (Some key)) is.front (λ e less above. not_turned e.0 key less above) is.before;
  above = is.behind;
}

pub split_end : (list : List Entry) (low : Option (List ℕ)) (place : ℕ) → IsSplit list low place → length list ≤ place → IsNext list low None
split_end list low place split past =
    let size = ap (λ (l : List Entry). length l) split.cut in
    let at = split.at in
    subst (λ (l : List Entry). AllByRecursion (Below low) l) (sym (split.cut ∙ ends split.back (omega (arith, size, at, past, length-append split.front split.back)))) split.below
  where
    ends : (back : List Entry) → length back ≡ 0 → split.front ++ back ≡ split.front
    ends [] none = append-nil split.front
    ends (x ∷ back) none = absurd (omega (arith, none))

-- the entry at the place of a cut
pub record First (list : List Entry) (low : Option (List ℕ)) (place : ℕ) : Type 0 where
  pub front : List Entry
  pub entry : Entry
  pub back : List Entry
  pub cut : list ≡ front ++ entry ∷ back
  pub at : place ≡ length front
  pub below : AllByRecursion (λ e. IsAbove low e → ⊥) front
  pub above : IsAbove low entry

pub split_first : (list : List Entry) (low : Option (List ℕ)) (place : ℕ) → IsSplit list low place → place < length list → First list low place
split_first list low place split below =
    first split.back split.cut split.above (let size = ap (λ (l : List Entry). length l) split.cut in let at = split.at in omega (arith, size, at, below, length-append split.front split.back))
  where
    first : (back : List Entry) → list ≡ split.front ++ back → AllByRecursion (IsAbove low) back → 0 < length back → First list low place
    first [] cut above some = absurd (omega (arith, some))
    first (x ∷ back) cut above some = record { front = split.front; entry = x; back = back; cut = cut; at = split.at; below = split.below; above = above.0 }

pub first_next : (list : List Entry) (low : Option (List ℕ)) (place : ℕ) (first : First list low place) (key posting : List ℕ) → key ≡ first.entry.0 → posting ≡ first.entry.1 → IsNext list low (Some (key, posting))
first_next list low place first key posting key_is posting_is =
    let same : (key, posting) ≡ first.entry = both key posting first.entry key_is posting_is in
    subst (λ (e : Entry). IsNext list low (Some e)) (sym same) (first.front, first.back, first.cut, first.below, first.above)
  where
    both : (k p : List ℕ) (e : Entry) → k ≡ e.0 → p ≡ e.1 → (k, p) ≡ e
    both k p e a b = ap₂ (λ (x y : List ℕ). (x, y)) a b

-- a page of level 0 among others
module _ (now : PageMap) (list : List ℕ) (row : List Leaf) (are : list ≡ numbers row) (on : AllByRecursion (IsOn now 5 0) row) (i page : ℕ) (below : i < length list) (at : get_or list i page ≡ page)
    (slots : Slots) (one : (s : Slots) → now page ≡ Some (spelling s) → Fits s → slots ≡ s) (entries : List Entry) (left : items_of (drop i row) ≡ map entry_bytes entries) (fit : AllByRecursion IsEntry entries) (rise : AreRising entries) where
  here : Leaf
  here = leaf now 5 list row are on i page below at

  both : Split here.1 (items_of (drop (i + 1) row)) entries
  unfolding here
  both = split_list (leaf now 5 list row are on i page below at).1 (items_of (drop (i + 1) row)) entries (sym (leaf_left now 5 list row are on i page below at) ∙ left)

  listed : AreListed slots.items both.left
  unfolding here
  listed = record {
    is = leaf_found now 5 list row are on i page below at slots one ∙ ap (λ (l : List (List ℕ)). map (λ (item : List ℕ). Some item) l) both.before;
    are = feet.all_left IsEntry both.left both.right (subst (λ (l : List Entry). AllByRecursion IsEntry l) both.cut fit);
    rising = rising_left both.left both.right (subst (λ (l : List Entry). AreRising l) both.cut rise);
  }

  pub page_refused : ((l : List Entry) → AreListed slots.items l → ⊥) → ⊥
  page_refused refused = refused both.left listed

  pub page_found : (e : Entry) → ((l : List Entry) → AreListed slots.items l → IsNext l None (Some e)) → IsNext entries None (Some e)
  page_found e found = subst (λ (l : List Entry). IsNext l None (Some e)) (sym both.cut) (next_before both.left both.right None e (found both.left listed))

  pub page_none : ((l : List Entry) → AreListed slots.items l → IsNext l None None) → items_of (drop (i + 1) row) ≡ map entry_bytes entries
  page_none found =
      both.behind ∙ ap (λ (l : List Entry). map entry_bytes l) (sym (both.cut ∙ ap (λ (l : List Entry). l ++ both.right) (none_below both.left (found both.left listed))))

-- no entries are left
pub left_none : (entries : List Entry) (items : List (List ℕ)) → items ≡ [] → items ≡ map entry_bytes entries → entries ≡ []
left_none [] items none are = refl
left_none (x ∷ entries) items none are = absurd (let e = ap (λ (l : List (List ℕ)). length l) (sym none ∙ are) in omega (arith, e))

pub next_none : (entries : List Entry) → entries ≡ [] → IsNext entries None None
next_none entries none = subst (λ (l : List Entry). IsNext l None None) (sym none) tt

-- where a page stands in a list
place_front : (front : List ℕ) (page : ℕ) (back : List ℕ) → IsOutside page front → position_or_len (λ other. other == page) (front ++ page ∷ back) ≡ length front
place_front [] page back outside = ⊎_elim (λ same. rw same.0 refl) (λ other. absurd (other.1 refl)) (eqb_tells page page)
place_front (x ∷ front) page back outside =
    let more = place_front front page back outside.1 in
    ⊎_elim (λ same. absurd (outside.0 (sym same.1))) (λ other. rw other.0 (omega (arith, more))) (eqb_tells x page)

is_before : (m n : ℕ) → m < n → nat_lt m n ≡ true
is_before m n less = grind (arith, nat_tests)

pub place_is : (list front : List ℕ) (page : ℕ) (back : List ℕ) → list ≡ front ++ page ∷ back → IsOutside page front → position (λ other. other == page) list ≡ Some (length front)
place_is list front page back cut outside =
    ap (λ (l : List ℕ). position (λ other. other == page) l) cut
    ∙ ap (λ (n : ℕ). cond (nat_lt n (length (front ++ page ∷ back))) (Some n) None) (place_front front page back outside)
    ∙ ap (λ (b : Bool). cond b (Some (length front)) None) (is_before (length front) (length (front ++ page ∷ back)) (omega (arith, length-append front (page ∷ back))))

pub list_behind : (list front : List ℕ) (page : ℕ) (back : List ℕ) (place : ℕ) → list ≡ front ++ page ∷ back → place ≡ length front → take (length list - (place + 1)) (drop (place + 1) list) ≡ back
list_behind list front page back place cut at =
    let whole : list ≡ (front ++ page ∷ []) ++ back = cut ∙ sym (append_assoc front (page ∷ []) back) in
    let behind : drop (place + 1) list ≡ back = ap (λ (l : List ℕ). drop (place + 1) l) whole ∙ drop_at (front ++ page ∷ []) back (place + 1) (omega (arith, at, length-append front (page ∷ []))) in
    let size = ap (λ (l : List ℕ). length l) whole in
    ap (λ (l : List ℕ). take (length list - (place + 1)) l) behind
    ∙ take_all (length list - (place + 1)) back (omega (arith, size, at, length-append (front ++ page ∷ []) back, length-append front (page ∷ [])))

-- the pages of level 0 behind one of them
numbers_cut : (prior : List Leaf) (page : ℕ) (items : List (List ℕ)) (others : List Leaf) → numbers (prior ++ (page, items) ∷ others) ≡ numbers prior ++ page ∷ numbers others
numbers_cut [] page items others = refl
numbers_cut (x ∷ prior) page items others = ap (λ (l : List ℕ). x.0 ∷ l) (numbers_cut prior page items others)

pub behind_list : (list : List ℕ) (tree : Tree) (prior : List Leaf) (page : ℕ) (items : List (List ℕ)) (others : List Leaf) → leaves tree ≡ prior ++ (page, items) ∷ others → list ≡ numbers (leaves tree) → list ≡ numbers prior ++ page ∷ numbers others
behind_list list tree prior page items others row is = is ∙ ap (λ (l : List Leaf). numbers l) row ∙ numbers_cut prior page items others

module _ (now : PageMap) (count root : ℕ) (list : List Entry) (stand : List ℕ) (held : HoldsMap now count root list stand) (prior : List Leaf) (page : ℕ) (items : List (List ℕ)) (others : List Leaf) (row : leaves held.tree ≡ prior ++ (page, items) ∷ others) where
  row_apart : IsApart (numbers prior ++ page ∷ numbers others)
  row_apart = subst (λ (l : List ℕ). IsApart l) (ap (λ (l : List Leaf). numbers l) row ∙ numbers_cut prior page items others)
      (feet.apart_right (uppers_of held.tree.0 (held.tree.1 ∷ [])) (numbers (leaves held.tree)) held.held.apart)

  pub front_apart : IsOutside page (numbers prior)
  front_apart = feet.apart_before (numbers prior) page (numbers others) row_apart

  pub others_on : AllByRecursion (IsOn now 5 0) others
  others_on =
      (feet.all_right (IsOn now 5 0) prior ((page, items) ∷ others) (subst (λ (l : List Leaf). AllByRecursion (IsOn now 5 0) l) row (stand_leaves now 5 held.tree.0 (held.tree.1 ∷ []) held.held.stand))).1

  pub others_below : AllByRecursion (λ page. page < count) (numbers others)
  others_below =
      (feet.all_right (λ (n : ℕ). n < count) (numbers prior) (page ∷ numbers others)
      (subst (λ (l : List ℕ). AllByRecursion (λ (n : ℕ). n < count) l) (ap (λ (l : List Leaf). numbers l) row ∙ numbers_cut prior page items others)
      (feet.all_right (λ (n : ℕ). n < count) (uppers_of held.tree.0 (held.tree.1 ∷ [])) (numbers (leaves held.tree)) held.held.below))).1

-- a tree of one page has none behind it
pub flat_none : (tree : Tree) (prior : List Leaf) (page : ℕ) (items : List (List ℕ)) (others : List Leaf) (entries : List Entry) → tree.0 ≡ 0 → leaves tree ≡ prior ++ (page, items) ∷ others → items_of others ≡ map entry_bytes entries → IsNext entries None None
flat_none tree prior page items others entries flat row are =
    let size = ap (λ (l : List Leaf). length l) row in
    let one = one_leaf tree.0 tree.1 flat in
    next_none entries (left_none entries (items_of others) (empty others (omega (arith, size, one, length-append prior ((page, items) ∷ others)))) are)
  where
    one_leaf : (level : ℕ) (node : Node level) → level ≡ 0 → length (leaves_of level (node ∷ [])) ≡ 1
    one_leaf zero node none = refl
    one_leaf (suc level) node none = absurd (omega (arith, none))

    empty : (others : List Leaf) → length others ≡ 0 → items_of others ≡ []
    empty [] none = refl
    empty (x ∷ others) none = absurd (omega (arith, none))
