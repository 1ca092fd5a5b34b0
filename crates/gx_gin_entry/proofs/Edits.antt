-- A page of level 0 where an entry is put.
use Rattle.std.proofs.Common.{◌≡◌, ◌≢◌, ℕ, zero, suc, ◌+◌, ◌^◌, ◌<◌, ◌≤◌, List, [], ◌∷◌, ◌++◌, length, map, take, drop, slice_set, Option, Some, None, refl, sym, ◌∙◌, ap, ap₂, subst, append_assoc, append-nil, length-append, arith}
use Rattle.std.specs.List.{AllByRecursion}
use Rattle.std.proofs.lemmas.List.{drop_at, length-map, take_at}
use Rattle.gx_pages.proofs.Footprints as feet
use Rattle.gx_slot.specs.Slots.{GrowsBy, item_at}
use Rattle.gx_tree.specs.Orders.{IsFrom, IsUnder}
use Rattle.gx_tree.specs.Paging.{replaced}
use Rattle.gx_gin_entry.specs.EntryTrees.{AreListed, AreRising, AreShorter, Entry, HaveEntries, IsBefore, IsBetween, IsEntry, IsFromKey, IsHere, IsOwn, IsPut, IsReplaced, IsUnderKey, Puts, by_key, entry_bytes, entry_of, key_bytes}
use Rattle.gx_gin_entry.specs.Keys.{not_itself, not_turned, rising_across, rising_join, rising_left, rising_right, to_end, to_key}
use Rattle.gx_gin_entry.specs.Lists.{entry_len, entry_short, map_join, one_entry, split_list}

-- an item among others
pub item_entry : (least end : Option (List ℕ)) (front back : List (List ℕ)) (item : List ℕ) → HaveEntries least end (front ++ item ∷ back) → (entry : Entry) × IsEntry entry × (item ≡ entry_bytes entry)
item_entry least end front back item have =
    let both = split_list front (item ∷ back) have.list have.spelled in
    head both.right (feet.all_right IsEntry both.left both.right (subst (λ (l : List Entry). AllByRecursion IsEntry l) both.cut have.are)) both.behind
  where
    head : (list : List Entry) → AllByRecursion IsEntry list → item ∷ back ≡ map entry_bytes list → (entry : Entry) × IsEntry entry × (item ≡ entry_bytes entry)
    head [] are is = absurd (let e = ap (λ (l : List (List ℕ)). length l) is in omega (arith, e))
    head (x ∷ list) are is = (x, are.0, cc)

pub own_key : (item key posting : List ℕ) (entry : Entry) → IsEntry entry → item ≡ entry_bytes entry → item ≡ entry_bytes (key, posting) → length key < 2 ^ 16 → IsEntry (key, posting)
own_key item key posting entry fits is also short =
    let same : entry ≡ (key, posting) = one_entry entry (key, posting) (entry_short entry fits) short (sym is ∙ also) in
    subst (λ (e : Entry). IsEntry e) same fits

pub listed_have : (its : List (Option (List ℕ))) (least end : Option (List ℕ)) (items : List (List ℕ)) → its ≡ map (λ item. Some item) items → (have : HaveEntries least end items) → AreListed its have.list
listed_have its least end items are have = record { is = are ∙ ap (λ (l : List (List ℕ)). map (λ (i : List ℕ). Some i) l) have.spelled; are = have.are; rising = have.rising }

-- the entries round one that is there
pub record Round (front : List Entry) (key : List ℕ) (back : List Entry) : Type 0 where
  pub before : AllByRecursion (λ e. IsBefore e.0 key) front
  pub behind : AllByRecursion (λ e. IsBefore key e.0) back
  pub first : AreRising front
  pub last : AreRising back

pub round_here : (front : List Entry) (key was : List ℕ) (back : List Entry) → AreRising (front ++ (key, was) ∷ back) → Round front key back
round_here front key was back rising = record {
  before = rising_across front (key, was) back rising;
  behind = (rising_right front ((key, was) ∷ back) rising).0;
  first = rising_left front ((key, was) ∷ back) rising;
  last = (rising_right front ((key, was) ∷ back) rising).1;
}

pub round_rises : (front : List Entry) (key posting : List ℕ) (back : List Entry) → Round front key back → AreRising (front ++ (key, posting) ∷ back)
round_rises front key posting back round =
    rising_join front ((key, posting) ∷ back) key round.first (round.behind, round.last) round.before
    (not_itself key, feet.all_weaker (λ (e : Entry). IsBefore key e.0) (λ (e : Entry). IsBefore e.0 key → ⊥) back (λ e less. not_turned key e.0 less) round.behind)

-- what holds of all but for one of them
pub all_round : (Q : Entry → Type 0) (front mid back : List Entry) (entry : Entry) → AllByRecursion Q (front ++ mid ++ back) → Q entry → AllByRecursion Q (front ++ entry ∷ back)
all_round Q front mid back entry all one =
    feet.all_join Q front (entry ∷ back) (feet.all_left Q front mid (feet.all_left Q (front ++ mid) back all)) (one, feet.all_right Q (front ++ mid) back all)

module _ (key posting : List ℕ) (fits : IsEntry (key, posting)) (least end : Option (List ℕ)) (items : List (List ℕ)) (have : HaveEntries least end items) (from : IsFrom by_key least (key_bytes key)) (under : IsUnder by_key end (key_bytes key))
    (item : List ℕ) (item_is : item ≡ entry_bytes (key, posting)) where
  module _ (front mid back : List Entry) (cut : have.list ≡ front ++ mid ++ back) (round : Round front key back) (place behind : ℕ) (at : place ≡ length front) (then : behind ≡ length front + length mid) where
    parts : items ≡ map entry_bytes front ++ map entry_bytes mid ++ map entry_bytes back
    parts = have.spelled ∙ ap (λ (l : List Entry). map entry_bytes l) cut ∙ map_join (front ++ mid) back ∙ ap (λ (l : List (List ℕ)). l ++ map entry_bytes back) (map_join front mid)

    front_is : take place items ≡ map entry_bytes front
    front_is =
        ap (λ (l : List (List ℕ)). take place l) (parts ∙ append_assoc (map entry_bytes front) (map entry_bytes mid) (map entry_bytes back))
        ∙ take_at (map entry_bytes front) (map entry_bytes mid ++ map entry_bytes back) place (length-map front entry_bytes ∙ sym at)

    back_is : drop behind items ≡ map entry_bytes back
    back_is =
        ap (λ (l : List (List ℕ)). drop behind l) parts
        ∙ drop_at (map entry_bytes front ++ map entry_bytes mid) (map entry_bytes back) behind
        (omega (arith, then, length-append (map entry_bytes front) (map entry_bytes mid), length-map front entry_bytes, length-map mid entry_bytes))

    replaced_is : replaced items place behind (item ∷ []) ≡ map entry_bytes (front ++ (key, posting) ∷ back)
    replaced_is =
        ap (λ (l : List (List ℕ)). (l ++ item ∷ []) ++ drop behind items) front_is ∙ ap (λ (l : List (List ℕ)). (map entry_bytes front ++ item ∷ []) ++ l) back_is
        ∙ append_assoc (map entry_bytes front) (item ∷ []) (map entry_bytes back) ∙ ap (λ (i : List ℕ). map entry_bytes front ++ i ∷ map entry_bytes back) item_is
        ∙ sym (map_join front ((key, posting) ∷ back))

    will : AllByRecursion IsEntry (front ++ (key, posting) ∷ back)
    will = all_round IsEntry front mid back (key, posting) (subst (λ (l : List Entry). AllByRecursion IsEntry l) cut have.are) fits

    pub put_have : HaveEntries least end (replaced items place behind (item ∷ []))
    put_have = record {
      list = front ++ (key, posting) ∷ back;
      spelled = replaced_is;
      are = will;
      rising = round_rises front key posting back round;
      from = all_round (IsFromKey least) front mid back (key, posting) (subst (λ (l : List Entry). AllByRecursion (IsFromKey least) l) cut have.from) (to_key least (key, posting) from);
      under = all_round (IsUnderKey end) front mid back (key, posting) (subst (λ (l : List Entry). AllByRecursion (IsUnderKey end) l) cut have.under) (to_end end (key, posting) under);
    }

    put_puts : (was : Option (List ℕ)) → mid ≡ entry_of key was → Puts key posting items (replaced items place behind (item ∷ []))
    put_puts was mid_is = record {
      list = have.list;
      later = front ++ (key, posting) ∷ back;
      old = have.spelled;
      new = replaced_is;
      are = have.are;
      will = will;
      put = record { front = front; was = was; back = back; old = cut ∙ ap (λ (l : List Entry). front ++ l ++ back) mid_is; new = refl };
    }

    within : behind ≤ length items
    within =
        let size = ap (λ (l : List (List ℕ)). length l) parts in
        omega (
          arith,
          size,
          then,
          length-append (map entry_bytes front ++ map entry_bytes mid) (map entry_bytes back),
          length-append (map entry_bytes front) (map entry_bytes mid),
          length-map front entry_bytes,
          length-map mid entry_bytes,
        )

  abbrev Edits : ℕ → ℕ → Type 0
  Edits place behind = (place ≤ behind) × (behind ≤ place + 1) × (behind ≤ length items) × HaveEntries least end (replaced items place behind (item ∷ [])) × Puts key posting items (replaced items place behind (item ∷ []))

  pub edit_here : (place : ℕ) → IsHere have.list key place
      → (place ≤ place + 1) × (place + 1 ≤ place + 1) × (place + 1 ≤ length items) × HaveEntries least end (replaced items place (place + 1) (item ∷ [])) × Puts key posting items (replaced items place (place + 1) (item ∷ []))
  edit_here place here =
      let at = here.at in
      let cut : have.list ≡ here.front ++ ((key, here.posting) ∷ []) ++ here.back = here.cut ∙ sym (append_assoc here.front ((key, here.posting) ∷ []) here.back) in
      let round = round_here here.front key here.posting here.back (subst (λ (l : List Entry). AreRising l) here.cut have.rising) in
      let then : place + 1 ≡ length here.front + 1 = omega (arith, at) in (
        omega arith,
        omega arith,
        within here.front ((key, here.posting) ∷ []) here.back cut round place (place + 1) here.at then,
        put_have here.front ((key, here.posting) ∷ []) here.back cut round place (place + 1) here.at then,
        put_puts here.front ((key, here.posting) ∷ []) here.back cut round place (place + 1) here.at then (Some here.posting) refl,
      )

  pub edit_between : (place : ℕ) → IsBetween have.list key place
      → (place ≤ place) × (place ≤ place + 1) × (place ≤ length items) × HaveEntries least end (replaced items place place (item ∷ [])) × Puts key posting items (replaced items place place (item ∷ []))
  edit_between place is =
      let at = is.at in
      let cut : have.list ≡ is.front ++ [] ++ is.back = is.cut ∙ ap (λ (l : List Entry). l ++ is.back) (sym (append-nil is.front)) in
      let rising = subst (λ (l : List Entry). AreRising l) is.cut have.rising in
      let round : Round is.front key is.back = record { before = is.before; behind = is.behind; first = rising_left is.front is.back rising; last = rising_right is.front is.back rising } in
      let then : place ≡ length is.front + 0 = omega (arith, at) in (
        omega arith,
        omega arith,
        within is.front [] is.back cut round place place is.at then,
        put_have is.front [] is.back cut round place place is.at then,
        put_puts is.front [] is.back cut round place place is.at then None refl,
      )

-- another item in a slot
set_front : (front back : List Entry) (entry later : Entry)
    → slice_set (map (λ item. Some item) (map entry_bytes (front ++ entry ∷ back))) (length front) (Some (entry_bytes later)) ≡ map (λ item. Some item) (map entry_bytes (front ++ later ∷ back))
set_front [] back entry later = refl
set_front (x ∷ front) back entry later = ap (λ (l : List (Option (List ℕ))). Some (entry_bytes x) ∷ l) (set_front front back entry later)

pub replaced_here : (its new : List (Option (List ℕ))) (list : List Entry) (key posting item : List ℕ) (place : ℕ) → AreListed its list → IsHere list key place → IsEntry (key, posting) → item ≡ entry_bytes (key, posting)
    → new ≡ slice_set its place (Some item) → IsReplaced new list key posting
replaced_here its new list key posting item place listed here fits is set = record {
  front = here.front;
  was = here.posting;
  back = here.back;
  cut = here.cut;
  listed = record {
    is = set ∙ ap (λ (i : List ℕ). slice_set its place (Some i)) is ∙ ap (λ (k : ℕ). slice_set its k (Some (entry_bytes (key, posting)))) here.at
        ∙ ap (λ (l : List (Option (List ℕ))). slice_set l (length here.front) (Some (entry_bytes (key, posting)))) (listed.is ∙ ap (λ (l : List Entry). map (λ (i : List ℕ). Some i) (map entry_bytes l)) here.cut)
        ∙ set_front here.front here.back (key, here.posting) (key, posting);
    are = all_round IsEntry here.front ((key, here.posting) ∷ []) here.back (key, posting)
        (subst (λ (l : List Entry). AllByRecursion IsEntry l) (here.cut ∙ sym (append_assoc here.front ((key, here.posting) ∷ []) here.back)) listed.are) fits;
    rising = round_rises here.front key posting here.back (round_here here.front key here.posting here.back (subst (λ (l : List Entry). AreRising l) here.cut listed.rising));
  };
}

get_item : (front back : List Entry) (entry : Entry) → item_at (map (λ item. Some item) (map entry_bytes (front ++ entry ∷ back))) (length front) ≡ Some (entry_bytes entry)
get_item [] back entry = refl
get_item (x ∷ front) back entry = get_item front back entry

others_shorter : (list : List Entry) (key posting : List ℕ) → AllByRecursion (λ e. e.0 ≢ key) list → AreShorter list key posting
others_shorter list key posting all = feet.all_weaker (λ (e : Entry). e.0 ≢ key) (λ (e : Entry). e.0 ≡ key → length e.1 < length posting) list (λ e other same. absurd (other same)) all

pub none_shorter : (list : List Entry) (key posting : List ℕ) → AllByRecursion (λ e. e.0 ≢ key) list → AreShorter list key posting
none_shorter list key posting all = others_shorter list key posting all

pub before_other : (list : List Entry) (key : List ℕ) → AllByRecursion (λ e. IsBefore e.0 key) list → AllByRecursion (λ e. e.0 ≢ key) list
before_other list key all = feet.all_weaker (λ (e : Entry). IsBefore e.0 key) (λ (e : Entry). e.0 ≢ key) list (λ e less same. not_itself key (subst (λ (k : List ℕ). IsBefore k key) same less)) all

pub behind_other : (list : List Entry) (key : List ℕ) → AllByRecursion (λ e. IsBefore key e.0) list → AllByRecursion (λ e. e.0 ≢ key) list
behind_other list key all = feet.all_weaker (λ (e : Entry). IsBefore key e.0) (λ (e : Entry). e.0 ≢ key) list (λ e less same. not_itself key (subst (λ (k : List ℕ). IsBefore key k) same less)) all

-- Where another posting has no room, it is longer.
pub here_shorter : (its : List (Option (List ℕ))) (list : List Entry) (key posting item : List ℕ) (place free : ℕ) → AreListed its list → IsHere list key place → item ≡ entry_bytes (key, posting)
    → GrowsBy (item_at its place) (length item) free → AreShorter list key posting
here_shorter its list key posting item place free listed here is grows =
    let found : item_at its place ≡ Some (entry_bytes (key, here.posting)) =
    ap (λ (k : ℕ). item_at its k) here.at ∙ ap (λ (l : List (Option (List ℕ))). item_at l (length here.front)) (listed.is ∙ ap (λ (l : List Entry). map (λ (i : List ℕ). Some i) (map entry_bytes l)) here.cut)
    ∙ get_item here.front here.back (key, here.posting) in
    let more : length (entry_bytes (key, here.posting)) + free < length item = subst (λ (o : Option (List ℕ)). GrowsBy o (length item) free) found grows in
    let round = round_here here.front key here.posting here.back (subst (λ (l : List Entry). AreRising l) here.cut listed.rising) in
    let old = entry_len (entry_bytes (key, here.posting)) (key, here.posting) refl in
    let new = entry_len item (key, posting) is in
    let less : length here.posting < length posting = omega (arith, more, old, new) in
    subst (λ (l : List Entry). AreShorter l key posting) (sym here.cut)
    (feet.all_join (λ (e : Entry). e.0 ≡ key → length e.1 < length posting) here.front ((key, here.posting) ∷ here.back)
    (others_shorter here.front key posting (before_other here.front key round.before))
    ((λ same. less), others_shorter here.back key posting (behind_other here.back key round.behind)))
