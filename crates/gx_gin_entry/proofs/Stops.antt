-- Entries on a page of level 0.
use Rattle.std.proofs.Common.{◌≡◌, ◌≢◌, ℕ, zero, suc, ◌+◌, ◌-◌, ◌^◌, ◌<◌, ◌≤◌, List, [], ◌∷◌, ◌++◌, length, map, take, drop, slice_get, get_or, Bool, true, false, Option, Some, None, refl, sym, ◌∙◌, ap, subst, append_assoc, append-nil, length-append, arith}
use Rattle.std.specs.Prelude.{IfNone, IfSome, MatchBool, MatchOption}
use Rattle.std.specs.List.{AllByRecursion}
use Rattle.std.proofs.lemmas.List.{length-map, length-take-le, take-append-drop}
use Rattle.gx_pages.proofs.Footprints as feet
use Rattle.gx_slot.specs.Slots.{item_at}
use Rattle.gx_tree.proofs.Gathers.{no_slot, slot_item}
use Rattle.gx_tree.proofs.Lists.{At, at_place}
use Rattle.gx_gin_entry.specs.EntryTrees.{AreListed, AreRising, Entry, IsBefore, IsBetween, IsEntry, IsFound, IsHere, IsPlace, IsRange, entry_bytes, key_bytes, key_of}
use Rattle.gx_gin_entry.specs.Keys.{before_on, not_itself, not_turned, rising_across, rising_right, three}
use Rattle.gx_gin_entry.specs.Lists.{entry_short, key_again, one_entry}

pub opt_weaker : {X : Type 0} (o : Option X) (A B : Type 0) (F G : X → Type 0) → (A → B) → ((x : X) → F x → G x) → MatchOption o A F → MatchOption o B G
opt_weaker None A B F G none some has = none has
opt_weaker (Some x) A B F G none some has = some x has

pub some_weaker : {X : Type 0} (o : Option X) (F G : X → Type 0) → ((x : X) → F x → G x) → IfSome o F → IfSome o G
some_weaker None F G more has = tt
some_weaker (Some x) F G more has = more x has

pub none_weaker : {X : Type 0} (o : Option X) (A B : Type 0) → (A → B) → IfNone o A → IfNone o B
none_weaker None A B more has = more has
none_weaker (Some x) A B more has = tt

-- whether a key that was read isn't behind the one that is sought
pub reach_some : (r : Option Bool) (A : Type 0) (bytes sought : List ℕ)
    → MatchOption r A (λ reached. (key : List ℕ) × (bytes ≡ key_bytes key) × MatchBool reached (IsBefore sought key → ⊥) (IsBefore sought key))
    → IfSome r (λ reached. MatchBool reached (IsBefore (key_of (key_bytes sought)) (key_of bytes) → ⊥) (IsBefore (key_of (key_bytes sought)) (key_of bytes)))
reach_some None A bytes sought has = tt
reach_some (Some reached) A bytes sought has =
    subst (λ (x : List ℕ). MatchBool reached (IsBefore x (key_of bytes) → ⊥) (IsBefore x (key_of bytes))) (sym (key_again sought))
    (subst (λ (y : List ℕ). MatchBool reached (IsBefore sought y → ⊥) (IsBefore sought y)) (sym (key_again has.0) ∙ ap key_of (sym has.1)) has.2)

pub when_true : (b : Bool) (A B : Type 0) → b ≡ true → MatchBool b A B → A
when_true b A B is has = subst (λ (x : Bool). MatchBool x A B) is has

pub when_false : (b : Bool) (A B : Type 0) → b ≡ false → MatchBool b A B → B
when_false b A B is has = subst (λ (x : Bool). MatchBool x A B) is has

get_front : (front back : List Entry) (entry : Entry) → slice_get (map entry_bytes (front ++ entry ∷ back)) (length front) ≡ Some (entry_bytes entry)
get_front [] back entry = refl
get_front (x ∷ front) back entry = get_front front back entry

module _ (its : List (Option (List ℕ))) (list : List Entry) (listed : AreListed its list) (slot : ℕ) where
  pub listed_none : slot < length list → None ≡ item_at its slot → ⊥
  listed_none below is =
      no_slot (map entry_bytes list) slot (omega (arith, below, length-map list entry_bytes)) (slot_item its (map entry_bytes list) slot None listed.is is)

  pub listed_at : (front back : List Entry) (entry : Entry) (item : List ℕ) → list ≡ front ++ entry ∷ back → slot ≡ length front → Some item ≡ item_at its slot → item ≡ entry_bytes entry
  listed_at front back entry item cut at is =
      let found = slot_item its (map entry_bytes list) slot (Some item) listed.is is in
      let there : slice_get (map entry_bytes list) slot ≡ Some (entry_bytes entry) =
      ap (λ (l : List Entry). slice_get (map entry_bytes l) slot) cut ∙ ap (λ (k : ℕ). slice_get (map entry_bytes (front ++ entry ∷ back)) k) at ∙ get_front front back entry in
      let both : Some item ≡ Some (entry_bytes entry) = sym found ∙ there in
      cc

  pub listed_fits : (front back : List Entry) (entry : Entry) → list ≡ front ++ entry ∷ back → IsEntry entry
  listed_fits front back entry cut = (feet.all_right IsEntry front (entry ∷ back) (subst (λ (l : List Entry). AllByRecursion IsEntry l) cut listed.are)).0

  pub listed_rises : (front back : List Entry) (entry : Entry) → list ≡ front ++ entry ∷ back → AreRising (front ++ entry ∷ back)
  listed_rises front back entry cut = subst (λ (l : List Entry). AreRising l) cut listed.rising

  -- the entry in a slot
  pub listed_spelled : (item : List ℕ) → slot < length list → Some item ≡ item_at its slot → (entry : Entry) × IsEntry entry × (item ≡ entry_bytes entry)
  listed_spelled item below is =
      let place = at_place list slot below in (
        place.item,
        listed_fits (take slot list) (drop (slot + 1) list) place.item place.cut,
        listed_at (take slot list) (drop (slot + 1) list) place.item item place.cut (sym (length-take-le slot list (omega (arith, below)))) is,
      )

  pub listed_same : (item key posting : List ℕ) → item ≡ entry_bytes (key, posting) → length key < 2 ^ 16 → Some item ≡ item_at its slot
      → (front back : List Entry) (entry : Entry) → list ≡ front ++ entry ∷ back → slot ≡ length front → (key ≡ entry.0) × (posting ≡ entry.1)
  listed_same item key posting spells short is front back entry cut at =
      let same = one_entry (key, posting) entry short (entry_short entry (listed_fits front back entry cut)) (sym spells ∙ listed_at front back entry item cut at is) in
      (ap (λ (e : Entry). e.0) same, ap (λ (e : Entry). e.1) same)

-- halving
module _ (list : List Entry) (key : List ℕ) (rising : AreRising list) (from middle end : ℕ) (range : IsRange list key from end) (below : middle < length list) where
  rises : AreRising (take middle list ++ (at_place list middle below).item ∷ drop (middle + 1) list)
  rises = subst (λ (l : List Entry). AreRising l) (at_place list middle below).cut rising

  pub range_right : IsBefore (at_place list middle below).item.0 key → IsRange list key (middle + 1) end
  range_right less = record {
    low = subst (λ (l : List Entry). AllByRecursion (λ e. IsBefore e.0 key) l) (sym (at_place list middle below).more)
        (feet.all_join (λ (e : Entry). IsBefore e.0 key) (take middle list) ((at_place list middle below).item ∷ [])
        (feet.all_weaker (λ (e : Entry). IsBefore e.0 (at_place list middle below).item.0) (λ (e : Entry). IsBefore e.0 key) (take middle list) (λ e first. before_on e.0 (at_place list middle below).item.0 key first less)
        (rising_across (take middle list) (at_place list middle below).item (drop (middle + 1) list) rises))
        (less, tt));
    high = range.high;
    within = range.within;
  }

  tail_is : drop middle list ≡ (at_place list middle below).item ∷ drop (middle + 1) list
  tail_is =
      let whole : take middle list ++ drop middle list ≡ take middle list ++ (at_place list middle below).item ∷ drop (middle + 1) list = take-append-drop middle list ∙ (at_place list middle below).cut in
      append_left (take middle list) (drop middle list) ((at_place list middle below).item ∷ drop (middle + 1) list) whole
    where
      append_left : (a b c : List Entry) → a ++ b ≡ a ++ c → b ≡ c
      append_left [] b c same = same
      append_left (x ∷ a) b c same = append_left a b c cc

  pub range_left : (IsBefore (at_place list middle below).item.0 key → ⊥) → IsRange list key from middle
  range_left most = record {
    low = range.low;
    high = subst (λ (l : List Entry). AllByRecursion (λ e. IsBefore e.0 key → ⊥) l) (sym tail_is) (
      most,
      feet.all_weaker (λ (e : Entry). IsBefore (at_place list middle below).item.0 e.0) (λ (e : Entry). IsBefore e.0 key → ⊥) (drop (middle + 1) list)
          (λ e first less. most (before_on (at_place list middle below).item.0 e.0 key first less))
          (rising_right (take middle list) ((at_place list middle below).item ∷ drop (middle + 1) list) rises).0,
    );
    within = omega (arith, below);
  }

pub range_all : (list : List Entry) (key : List ℕ) (count : ℕ) → count ≡ length list → IsRange list key 0 count
range_all list key count is = record { low = tt; high = subst (λ (l : List Entry). AllByRecursion (λ e. IsBefore e.0 key → ⊥) l) (sym (drop_all_of list count is)) tt; within = omega (arith, is) }
  where
    drop_all_of : (list : List Entry) (count : ℕ) → count ≡ length list → drop count list ≡ []
    drop_all_of [] zero is = refl
    drop_all_of [] (suc count) is = absurd (omega (arith, is))
    drop_all_of (x ∷ list) zero is = absurd (omega (arith, is))
    drop_all_of (x ∷ list) (suc count) is = drop_all_of list count (omega (arith, is))

pub range_place : (list : List Entry) (key : List ℕ) (from end : ℕ) → end ≡ from → IsRange list key from end → IsPlace list key from
range_place list key from end same range = record {
  front = take from list;
  back = drop from list;
  cut = sym (take-append-drop from list);
  at = sym (length-take-le from list (let within = range.within in omega (arith, within, same)));
  before = range.low;
  behind = subst (λ (n : ℕ). AllByRecursion (λ e. IsBefore e.0 key → ⊥) (drop n list)) same range.high;
}

-- a place among entries
pub record Stop (list : List Entry) (key : List ℕ) (place : ℕ) : Type 0 where
  pub front : List Entry
  pub entry : Entry
  pub back : List Entry
  pub cut : list ≡ front ++ entry ∷ back
  pub at : place ≡ length front
  pub before : AllByRecursion (λ e. IsBefore e.0 key) front
  pub most : IsBefore entry.0 key → ⊥

pub place_end : (list : List Entry) (key : List ℕ) (place : ℕ) → IsPlace list key place → length list ≤ place → IsBetween list key place
place_end list key place is past = record {
  front = is.front;
  back = is.back;
  cut = is.cut;
  at = is.at;
  before = is.before;
  behind = none is.back (let size = ap (λ (l : List Entry). length l) is.cut in let at = is.at in omega (arith, size, at, past, length-append is.front is.back));
}
  where
    none : (back : List Entry) → length back ≡ 0 → AllByRecursion (λ e. IsBefore key e.0) back
    none [] empty = tt
    none (x ∷ back) empty = absurd (omega (arith, empty))

pub place_stop : (list : List Entry) (key : List ℕ) (place : ℕ) → IsPlace list key place → place < length list → Stop list key place
place_stop list key place is below =
    stop is.front is.back is.cut is.at is.before is.behind (let size = ap (λ (l : List Entry). length l) is.cut in let at = is.at in omega (arith, size, at, below, length-append is.front is.back))
  where
    stop : (front back : List Entry) → list ≡ front ++ back → place ≡ length front → AllByRecursion (λ e. IsBefore e.0 key) front → AllByRecursion (λ e. IsBefore e.0 key → ⊥) back → 0 < length back → Stop list key place
    stop front [] cut at before behind some = absurd (omega (arith, some))
    stop front (x ∷ back) cut at before behind some = record { front = front; entry = x; back = back; cut = cut; at = at; before = before; most = behind.0 }

pub stop_here : (list : List Entry) (key : List ℕ) (place : ℕ) (stop : Stop list key place) → stop.entry.0 ≡ key → IsHere list key place
stop_here list key place stop same = record {
  front = stop.front;
  posting = stop.entry.1;
  back = stop.back;
  cut = stop.cut ∙ ap (λ (k : List ℕ). stop.front ++ (k, stop.entry.1) ∷ stop.back) same;
  at = stop.at;
}

pub stop_between : (list : List Entry) (key : List ℕ) (place : ℕ) (stop : Stop list key place) → AreRising list → stop.entry.0 ≢ key → IsBetween list key place
stop_between list key place stop rising other =
    let less : IsBefore key stop.entry.0 = three key stop.entry.0 (IsBefore key stop.entry.0) (λ l. l) (λ same. absurd (other (sym same))) (λ l. absurd (stop.most l)) in
    record {
      front = stop.front;
      back = stop.entry ∷ stop.back;
      cut = stop.cut;
      at = stop.at;
      before = stop.before;
      behind = (
        less,
        feet.all_weaker (λ (e : Entry). IsBefore stop.entry.0 e.0) (λ (e : Entry). IsBefore key e.0) stop.back (λ e first. before_on key stop.entry.0 e.0 less first)
            (rising_right stop.front (stop.entry ∷ stop.back) (subst (λ (l : List Entry). AreRising l) stop.cut rising)).0,
      );
    }

pub between_none : (list : List Entry) (key : List ℕ) (place : ℕ) → IsBetween list key place → AllByRecursion (λ entry. entry.0 ≢ key) list
between_none list key place is =
    subst (λ (l : List Entry). AllByRecursion (λ e. e.0 ≢ key) l) (sym is.cut)
    (feet.all_join (λ (e : Entry). e.0 ≢ key) is.front is.back
    (feet.all_weaker (λ (e : Entry). IsBefore e.0 key) (λ (e : Entry). e.0 ≢ key) is.front (λ e less same. not_itself key (subst (λ (k : List ℕ). IsBefore k key) same less)) is.before)
    (feet.all_weaker (λ (e : Entry). IsBefore key e.0) (λ (e : Entry). e.0 ≢ key) is.back (λ e less same. not_itself key (subst (λ (k : List ℕ). IsBefore key k) same less)) is.behind))

pub here_below : (list : List Entry) (key : List ℕ) (place : ℕ) → IsHere list key place → place < length list
here_below list key place is =
    let size = ap (λ (l : List Entry). length l) is.cut in let at = is.at in omega (arith, size, at, length-append is.front ((key, is.posting) ∷ is.back))

pub listed_len : (its : List (Option (List ℕ))) (list : List Entry) → AreListed its list → length its ≡ length list
listed_len its list listed =
    ap (λ (l : List (Option (List ℕ))). length l) listed.is ∙ length-map (map entry_bytes list) (λ (i : List ℕ). Some i) ∙ length-map list entry_bytes
