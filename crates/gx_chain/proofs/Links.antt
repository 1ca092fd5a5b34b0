-- The pages of a chain: each alone, and what a map says of them.
use Rattle.std.proofs.Common.{◌≡◌, ◌≢◌, ⊎_elim, ℕ, ◌+◌, ◌<◌, zero, suc, List, [], ◌∷◌, ◌++◌, length, map, Option, Some, None, refl, sym, ◌∙◌, ap, subst, append-nil, length-append, arith}
use Rattle.std.specs.List.{AllByRecursion}
use Rattle.std.proofs.lemmas.Bool.Decides.{eqb_tells}
use Rattle.std.proofs.lemmas.List.{map-append}
use Rattle.gx_words.specs.PageMap.{PageMap}
use Rattle.gx_pages.specs.declared.error.PageError.{PageError}
use Rattle.gx_pages.specs.declared.error.PageError.TheVariants.{DiskFault, Broken, PageSpace, Memory}
use Rattle.gx_pages.specs.declared.store.Pages.{Ghosts}
use Rattle.gx_pages.specs.Frees.{IsApart, IsFreeList}
use Rattle.gx_pages.specs.Pages.{HasCause}
use Rattle.gx_pages.specs.Footprints.{IsOutside}
use Rattle.gx_pages.proofs.Footprints as feet
use Rattle.gx_slot.specs.Slots.{Slots, Fits, IsBroken, IsSlotPage, spelling, packed, taken, with_item}
use Rattle.gx_slot.proofs.SlotFacts.{is_read}
use Rattle.gx_chain.specs.declared.chain.Chain.{Chain}
use Rattle.gx_chain.specs.Chains.{Link, IsLink, AreLinked, AreLinkedTo, Holds, HoldsBeside, first_of, first_to, last_to, pages_of, slots}

-- a slot page that is broken
pub broken_cause : (e : PageError) (number a b : ℕ) (B : ℕ → ℕ → ℕ → Type 0) (S : ℕ → Type 0) (M : Type 0) → IsBroken number e → ((at x y : ℕ) → B at x y) → HasCause a b B S M e
broken_cause DiskFault number a b B S M broken has = absurd broken
broken_cause (Broken page expected found) number a b B S M broken has = (broken.1, has page expected found)
broken_cause (PageSpace pages) number a b B S M broken has = absurd broken
broken_cause Memory number a b B S M broken has = absurd broken

pub pages_mid : (front : List Link) (link : Link) (back : List Link) → pages_of (front ++ link ∷ back) ≡ pages_of front ++ link.0 ∷ pages_of back
pages_mid front link back = map-append (λ (l : Link). l.0) front (link ∷ back)

pub pages_end : (front : List Link) (link : Link) → pages_of (front ++ link ∷ []) ≡ pages_of front ++ link.0 ∷ []
pages_end front link = pages_mid front link []

pub first_same : (front : List Link) (a b : Link) (more others : List Link) → a.0 ≡ b.0 → first_of (front ++ a ∷ more) ≡ first_of (front ++ b ∷ others)
first_same [] a b more others same = same
first_same (link ∷ front) a b more others same = refl

pub last_mid : (before : ℕ) (front : List Link) (link : Link) (back : List Link) → last_to before (front ++ link ∷ back) ≡ last_to link.0 back
last_mid before [] link back = refl
last_mid before (first ∷ front) link back = last_mid first.0 front link back

-- a chain's last page
pub record Ends (links : List Link) (last : ℕ) : Type 0 where
  pub front : List Link
  pub items : List (Option (List ℕ))
  pub ends : links ≡ front ++ (last, items) ∷ []

ends_behind : (link : Link) (links : List Link) → Ends (link ∷ links) (last_to link.0 links)
ends_behind link [] = record { front = []; items = link.1; ends = refl }
ends_behind link (next ∷ links) =
    let rest = ends_behind next links in
    record { front = link ∷ rest.front; items = rest.items; ends = ap (λ (l : List Link). link ∷ l) rest.ends }

ends_some : (links : List Link) → 0 < length links → Ends links (last_to 0 links)
ends_some [] some = absurd (omega arith)
ends_some (link ∷ links) some = ends_behind link links

pub ends_of : (map : PageMap) (count kind : ℕ) (chain : Chain) (links : List Link) → Holds map count kind chain links → Ends links chain.last
ends_of map count kind chain links held = subst (λ (n : ℕ). Ends links n) (sym held.last) (ends_some links held.some)

pub link_same : (old new : PageMap) (kind next later : ℕ) (link : Link) → new link.0 ≡ old link.0 → next ≡ later → IsLink old kind next link → IsLink new kind later link
link_same old new kind next later link same is has =
    subst (λ (n : ℕ). IsLink new kind n link) is (record { some = has.some; is = same ∙ has.is; fits = has.fits })

-- a page of the chain, and those behind it
pub linked_mid : (map : PageMap) (kind : ℕ) (front : List Link) (link : Link) (back : List Link) → AreLinked map kind (front ++ link ∷ back) → AreLinked map kind (link ∷ back)
linked_mid map kind [] link back linked = linked
linked_mid map kind (first ∷ front) link back linked = linked_mid map kind front link back linked.1

pub linked_last : (map : PageMap) (kind : ℕ) (front : List Link) (link : Link) → AreLinked map kind (front ++ link ∷ []) → IsLink map kind 0 link
linked_last map kind front link linked = (linked_mid map kind front link [] linked).0

pub linked_some : (map : PageMap) (kind end : ℕ) (links : List Link) → AreLinkedTo map kind end links → AllByRecursion (λ page. page ≢ 0) (pages_of links)
linked_some map kind end [] linked = tt
linked_some map kind end (link ∷ links) linked = (linked.0.some, linked_some map kind end links linked.1)

-- the pages before one stay, and what stands there now is linked
pub linked_same : (old new : PageMap) (kind : ℕ) (front : List Link) (a b : Link) (rest more : List Link) → a.0 ≡ b.0 → AllByRecursion (λ page. new page ≡ old page) (pages_of front)
    → AreLinked old kind (front ++ a ∷ rest) → AreLinked new kind (b ∷ more) → AreLinked new kind (front ++ b ∷ more)
linked_same old new kind [] a b rest more at same linked behind = behind
linked_same old new kind (link ∷ front) a b rest more at same linked behind = (
  link_same old new kind (first_of (front ++ a ∷ rest)) (first_of (front ++ b ∷ more)) link same.0 (first_same front a b rest more at) linked.0,
  linked_same old new kind front a b rest more at same.1 linked.1 behind,
)

pub linked_stays : (old new : PageMap) (kind end : ℕ) (links : List Link) → AllByRecursion (λ page. new page ≡ old page) (pages_of links) → AreLinkedTo old kind end links → AreLinkedTo new kind end links
linked_stays old new kind end [] same linked = tt
linked_stays old new kind end (link ∷ links) same linked = (
  link_same old new kind (first_to end links) (first_to end links) link same.0 refl linked.0,
  linked_stays old new kind end links same.1 linked.1,
)

-- one more page behind others
pub linked_more : (map : PageMap) (kind page end : ℕ) (links : List Link) (link : Link) → page ≡ link.0 → AreLinkedTo map kind page links → IsLink map kind end link → AreLinkedTo map kind end (links ++ link ∷ [])
linked_more map kind page end [] link at linked more = (more, tt)
linked_more map kind page end (first ∷ links) link at linked more = (
  link_same map map kind (first_to page links) (first_to end (links ++ link ∷ [])) first refl (to_more links) linked.0,
  linked_more map kind page end links link at linked.1 more,
)
  where
    to_more : (links : List Link) → first_to page links ≡ first_to end (links ++ link ∷ [])
    to_more [] = at
    to_more (first ∷ links) = refl

-- each page of the first list is outside the second
pub each_left : (xs ys : List ℕ) → IsApart (xs ++ ys) → AllByRecursion (λ page. IsOutside page ys) xs
each_left xs ys apart = feet.apart_each ys xs (feet.once_apart (ys ++ xs) (λ n. omega (arith, feet.times-append n ys xs, feet.times-append n xs ys, feet.apart_once (xs ++ ys) apart n)))

pub same_slots : (a b : Slots) (item : Option (List ℕ)) (added : Slots) → a ≡ b → added ≡ with_item a item → added ≡ with_item b item
same_slots a b item added same is = is ∙ ap (λ (s : Slots). with_item s item) same

pub taken_push : (items : List (Option (List ℕ))) (item : List ℕ) → taken (items ++ Some item ∷ []) ≡ taken items + (4 + length item)
taken_push [] item = omega arith
taken_push (None ∷ items) item = let rest = taken_push items item in omega (arith, rest)
taken_push (Some b ∷ items) item = let rest = taken_push items item in omega (arith, rest, length-append (packed items) b, length-append (packed (items ++ Some item ∷ [])) b)

-- one page spells one list of slots
pub one_spelled : (page : Option (List ℕ)) (a b : Slots) → page ≡ Some (spelling a) → Fits a → page ≡ Some (spelling b) → Fits b → a ≡ b
one_spelled page a b first fits second fit =
    let same : spelling a ≡ spelling b = (let e : Some (spelling a) ≡ Some (spelling b) = sym first ∙ second in cc) in
    sym (is_read (spelling a) a refl fits) ∙ is_read (spelling a) b same fit

-- pages that begin a chain, and how it goes on
pub record Begins (map : PageMap) (kind page : ℕ) (done links : List Link) : Type 0 where
  pub left : List Link
  pub cut : links ≡ done ++ left
  pub linked : AreLinked map kind left
  pub at : page ≡ first_of left

pub begins : (map : PageMap) (kind page : ℕ) (done links : List Link) → AreLinkedTo map kind page done → AreLinked map kind links → first_to page done ≡ first_of links
    → Begins map kind page done links
begins map kind page [] links some linked same = record { left = links; cut = refl; linked = linked; at = same }
begins map kind page (first ∷ done) [] some linked same = absurd (some.0.some same)
begins map kind page (first ∷ done) (link ∷ links) some linked same =
    let here = linked.0 in
    let found : slots kind (first_to page done) first.1 ≡ slots kind (first_of links) link.1 =
    one_spelled (map first.0) (slots kind (first_to page done) first.1) (slots kind (first_of links) link.1) some.0.is some.0.fits (ap (λ (n : ℕ). map n) same ∙ here.is) here.fits in
    let items : first.1 ≡ link.1 = ap (λ (s : Slots). s.items) found in
    let rest = begins map kind page done links some.1 linked.1 (ap (λ (s : Slots). s.next) found) in
    let one : first ≡ link = λ i. (same i, items i) in
    record { left = rest.left; cut = ap (λ (l : Link). l ∷ links) (sym one) ∙ ap (λ (l : List Link). first ∷ l) rest.cut; linked = rest.linked; at = rest.at }

-- a page that stands among others
record Stands (page : ℕ) (links : List Link) : Type 0 where
  pub front : List Link
  pub link : Link
  pub back : List Link
  pub cut : links ≡ front ++ link ∷ back
  pub at : page ≡ link.0

stands : (page : ℕ) (links : List Link) → 0 < feet.times page (pages_of links) → Stands page links
stands page [] some = absurd (omega (arith, some))
stands page (link ∷ links) some =
    ⊎_elim
    (λ same. record { front = []; link = link; back = links; cut = refl; at = same.1 })
    (λ other.
    let none = feet.hit_none page link.0 other.1 in
    let rest = stands page links (omega (arith, some, none)) in
    record { front = link ∷ rest.front; link = rest.link; back = rest.back; cut = ap (λ (l : List Link). link ∷ l) rest.cut; at = rest.at })
    (eqb_tells page link.0)

-- a chain that ends doesn't come back
pub linked_apart : (map : PageMap) (kind : ℕ) (links : List Link) → AreLinked map kind links → IsApart (pages_of links)
linked_apart map kind [] linked = tt
linked_apart map kind (link ∷ links) linked = (feet.none_outside link.0 (pages_of links) (never (feet.times link.0 (pages_of links)) refl), linked_apart map kind links linked.1)
  where
    never : (n : ℕ) → feet.times link.0 (pages_of links) ≡ n → feet.times link.0 (pages_of links) ≡ 0
    never zero none = none
    never (suc k) some =
        let again = stands link.0 links (omega (arith, some)) in
        let there : AreLinked map kind (again.link ∷ again.back) = linked_mid map kind again.front again.link again.back (subst (λ (l : List Link). AreLinked map kind l) again.cut linked.1) in
        let more = begins map kind 0 (link ∷ links) (again.link ∷ again.back) linked there again.at in
        let long = ap (λ (l : List Link). length l) more.cut in
        let short = ap (λ (l : List Link). length l) again.cut in
        absurd (omega (arith, long, short, length-append (link ∷ links) more.left, length-append again.front (again.link ∷ again.back)))

pub none_next : (map : PageMap) (kind : ℕ) (left : List Link) → AreLinked map kind left → first_of left ≡ 0 → left ≡ []
none_next map kind [] are end = refl
none_next map kind (link ∷ left) are end = absurd (are.0.some end)

pub one_list : (map : PageMap) (kind : ℕ) (links others : List Link) → AreLinked map kind links → AreLinked map kind others → first_of links ≡ first_of others → links ≡ others
one_list map kind links others linked more same =
    let rest = begins map kind 0 links others linked more same in
    sym (rest.cut ∙ ap (λ (l : List Link). links ++ l) (none_next map kind rest.left rest.linked (sym rest.at)) ∙ append-nil links)

-- where nothing was changed, the chain is held as before
pub held_same : {P : Type 0} (g : Ghosts P) (old new : P) (kind : ℕ) (chain : Chain) (links : List Link) (free : List ℕ) → g.map new ≡ g.map old → g.count new ≡ g.count old
    → HoldsBeside g old kind chain links free → HoldsBeside g new kind chain links free
held_same g old new kind chain links free map count held = record {
  held = subst (λ (m : PageMap). Holds m (g.count new) kind chain links) (sym map) (subst (λ (n : ℕ). Holds (g.map old) n kind chain links) (sym count) held.held);
  frees = subst (λ (m : PageMap). IsFreeList m (g.count new) free) (sym map) (subst (λ (n : ℕ). IsFreeList (g.map old) n free) (sym count) held.frees);
  apart = held.apart;
}

module _ (map : PageMap) (count kind : ℕ) (chain : Chain) (links : List Link) (held : Holds map count kind chain links) where
  last_ends : Ends links chain.last
  last_ends = ends_of map count kind chain links held

  last_link : IsLink map kind 0 (chain.last, last_ends.items)
  last_link = linked_last map kind last_ends.front (chain.last, last_ends.items) (subst (λ (l : List Link). AreLinked map kind l) last_ends.ends held.linked)

  last_below : chain.last < count
  last_below =
      let below : AllByRecursion (λ (page : ℕ). page < count) (pages_of last_ends.front ++ chain.last ∷ []) =
      subst (λ (l : List ℕ). AllByRecursion (λ (page : ℕ). page < count) l) (ap (λ (l : List Link). pages_of l) last_ends.ends ∙ pages_end last_ends.front (chain.last, last_ends.items)) held.below in
      (feet.all_right (λ (page : ℕ). page < count) (pages_of last_ends.front) (chain.last ∷ []) below).0

  -- the last page isn't broken
  pub last_sound : (chain.last ≢ 0 → chain.last < count → (bytes : List ℕ) → map chain.last ≡ Some bytes → ¬ IsSlotPage bytes kind) → ⊥
  last_sound broken = broken last_link.some last_below (spelling (slots kind 0 last_ends.items)) last_link.is (slots kind 0 last_ends.items, refl, last_link.fits, refl)

-- a page of a chain isn't broken
pub mid_sound : (map : PageMap) (count kind : ℕ) (chain : Chain) (front : List Link) (page : ℕ) (items : List (Option (List ℕ))) (back : List Link) → Holds map count kind chain (front ++ (page, items) ∷ back)
    → (page ≢ 0 → page < count → (bytes : List ℕ) → map page ≡ Some bytes → ¬ IsSlotPage bytes kind) → ⊥
mid_sound map count kind chain front page items back held broken =
    let link = (linked_mid map kind front (page, items) back held.linked).0 in
    let below : AllByRecursion (λ (n : ℕ). n < count) (pages_of front ++ page ∷ pages_of back) =
    subst (λ (l : List ℕ). AllByRecursion (λ (n : ℕ). n < count) l) (pages_mid front (page, items) back) held.below in
    broken link.some (feet.all_right (λ (n : ℕ). n < count) (pages_of front) (page ∷ pages_of back) below).0 (spelling (slots kind (first_of back) items)) link.is
    (slots kind (first_of back) items, refl, link.fits, refl)
