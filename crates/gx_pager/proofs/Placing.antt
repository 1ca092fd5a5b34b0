-- A page is written in place, perhaps not whole: each page that the overlay hasn't stays.
use Rattle.std.proofs.Common.{Option, [], true, false, Bool, cond, ◌∷◌, ◌++◌, ◌≡◌, ◌≢◌, ◌⊎◌, inl, inr, ℕ, ◌+◌, ◌*◌, ◌<◌, ◌≤◌, List, length, take, drop, get_or, Some, None, Box, sym, ◌∙◌, ap, subst, arith}
use Rattle.std.specs.declared.alloc.Global.{Global}
use Rattle.std.proofs.lemmas.Bool.{cases_lt, cases_eq}
use Rattle.std.proofs.lemmas.List.{same_lists, places}
use Rattle.std.specs.BTreeMap.{is_at}
use Rattle.std.specs.Map.{lookup}
use Rattle.std.specs.Ordering.{nat_cmp, is_eq}
use Rattle.std.specs.declared.cmp.Ordering.TheVariants.{Equal}
use Rattle.std.specs.Cmp.{nat_cmp_is}
use Rattle.std.specs.List.{AllByRecursion}
use Rattle.gx_words.specs.Image.{Image, Torn}
use Rattle.gx_log.proofs.Laying.{cmp_same}
use Rattle.gx_pager.proofs.Records.{unequal}
use Rattle.gx_words.specs.PageMap.{PageMap}
use Rattle.gx_log.specs.Records.{piece, page_in}
use Rattle.gx_pager.specs.Layers.{shown}
use Rattle.gx_pager.specs.Placed.{IsFilled, Placed, IsPlaced}
use Rattle.gx_pager.proofs.Pieces.{piece_whole, piece_none, whole_of}

-- a part outside of the range stays
part_stays : (old new : List ℕ) (at n from size : ℕ) → Torn at n old new → from + size ≤ length old → (from + size ≤ at) ⊎ (at + n ≤ from) → take size (drop from new) ≡ take size (drop from old)
part_stays old new at n from size torn within apart =
    same_lists _ _ (let longer = torn.no_shorter in grind (arith, places, longer, within)) (λ k d h.
    let small : k < size = grind (arith, places, h) in
    let side : (from + k < at) ⊎ (at + n ≤ from + k) = elim apart [ inl before ↦ inl (omega (arith, before, small)) | inr behind ↦ inr (omega (arith, behind)) ] in
    let same : get_or new (from + k) 0 ≡ get_or old (from + k) 0 = torn.outside (from + k) (omega (arith, small, within)) side in
    let longer = torn.no_shorter in
    grind (arith, places))

-- another page that is whole stays
pub page_stays : (old new : List ℕ) (page other : ℕ) → Torn (page * 8192) 8192 old new → other ≢ page → (other + 1) * 8192 ≤ length old → piece new other ≡ piece old other
page_stays old new page other torn apart whole =
    piece_whole new other (omega (arith, whole, torn.no_shorter))
    ∙ ap Some (part_stays old new (page * 8192) 8192 (other * 8192) 8192 torn (omega (arith, whole)) (sides page other apart))
    ∙ sym (piece_whole old other whole)
  where
    sides : (page other : ℕ) → other ≢ page → (other * 8192 + 8192 ≤ page * 8192) ⊎ (page * 8192 + 8192 ≤ other * 8192)
    sides page other apart = elim (cases_lt other page) [
      | inl below ↦ inl (omega (arith, below))
      | inr above ↦ inr (omega (arith, above, apart))
    ]

pub torn_placed : (overlay : PageMap) (start old new : List ℕ) (page : ℕ) (bytes : List ℕ) → IsFilled overlay start → overlay page ≡ Some bytes
    → Placed overlay start old → Torn (page * 8192) 8192 old new → Placed overlay start new
torn_placed overlay start old new page bytes whole there placed torn = record {
  no_shorter = omega (arith, placed.no_shorter, torn.no_shorter);
  same = λ n none. stays n none ∙ placed.same n none;
}
  where
    clash : (n : ℕ) → overlay n ≡ None → n ≢ page
    clash n none same = let wrong : Some bytes ≡ None = sym there ∙ ap overlay (sym same) ∙ none in apart wrong
      where
        apart : Some bytes ≡ None → ⊥
        apart same = cc

    stays : (n : ℕ) → overlay n ≡ None → piece new n ≡ piece old n
    stays n none = elim (cases_lt (length old) ((n + 1) * 8192)) [
      | inl short ↦
          let apart = clash n none in
          elim (cases_lt n page) [
            | inl before ↦ absurd (let enough = whole n page bytes before there none in omega (arith, short, enough, placed.no_shorter))
            | inr behind ↦ piece_none new n (omega (arith, short, behind, apart, torn.no_longer)) ∙ sym (piece_none old n short)
          ]
      | inr long ↦ page_stays old new page n torn (clash n none) long
    ]

-- what is there stays where another page is written
pub other_stays : (old new bytes : List ℕ) (page other : ℕ) → Torn (page * 8192) 8192 old new → other ≢ page → piece old other ≡ Some bytes → piece new other ≡ Some bytes
other_stays old new bytes page other torn apart there = page_stays old new page other torn apart (whole_of old bytes other there) ∙ there

not_it : (overlay : PageMap) (page n : ℕ) (bytes : List ℕ) → overlay page ≡ Some bytes → overlay n ≡ None → n ≢ page
not_it overlay page n bytes there none same = let wrong : Some bytes ≡ None = sym there ∙ ap overlay (sym same) ∙ none in apart wrong
  where
    apart : Some bytes ≡ None → ⊥
    apart same = cc

pub placed_image : (overlay : PageMap) (start d c : Image) (page : ℕ) (bytes : List ℕ) → overlay page ≡ Some bytes
    → IsPlaced overlay start d → Torn (page * 8192) 8192 d.pages c.pages → c.log ≡ d.log → IsPlaced overlay start c
placed_image overlay start d c page bytes there placed torn log = (
  (λ filled. torn_placed overlay start.pages d.pages c.pages page bytes filled there (placed.0 filled) torn),
  log ∙ placed.1,
  (λ n kept none was. other_stays d.pages c.pages kept page n torn (not_it overlay page n bytes there none) (placed.2 n kept none was)),
)

-- an image that is the start's
pub placed_start : (overlay : PageMap) (start c : Image) → c.pages ≡ start.pages → c.log ≡ start.log → IsPlaced overlay start c
placed_start overlay start c pages log =
    ((λ filled. record { no_shorter = let same : length c.pages ≡ length start.pages = ap length pages in omega (arith, same); same = λ n none. ap (λ (l : List ℕ). piece l n) pages }), log, (λ n bytes none was. ap (λ (l : List ℕ). piece l n) pages ∙ was))

abbrev pub Places : Type 0
Places = List (ℕ × Option (Box (List ℕ) Global))

-- these pages are in place, those at or above the count excepted
abbrev pub AreThere : List ℕ → ℕ → Places → Type 0
AreThere pages count places = AllByRecursion (λ e. (b : List ℕ) → e.0 < count → page_in e.1 ≡ Some b → piece pages e.0 ≡ Some b) places

pub all_found : (pages : List ℕ) (count : ℕ) (places : Places) → AreThere pages count places
    → (n : ℕ) (bytes : List ℕ) → n < count → shown (lookup (is_at (nat_cmp n)) places) ≡ Some bytes → piece pages n ≡ Some bytes
all_found pages count [] all n bytes small there = absurd (clash bytes there)
  where
    clash : (bytes : List ℕ) → None ≡ Some bytes → ⊥
    clash bytes same = cc
all_found pages count (e ∷ places) all n bytes small there = elim (cases_eq n e.0) [
  | inl same ↦
      let test : is_eq (nat_cmp n e.0) ≡ true = ap is_eq (sym (nat_cmp_is n e.0 Equal same)) in
      ap (λ (k : ℕ). piece pages k) same
      ∙ all.0 bytes (subst (λ (k : ℕ). k < count) same small) (sym (ap (λ (b : Bool). shown (cond b (Some e.1) (lookup (is_at (nat_cmp n)) places))) test) ∙ there)
  | inr apart ↦
      let test : is_eq (nat_cmp n e.0) ≡ false = cmp_same n e.0 ∙ unequal n e.0 apart in
      all_found pages count places all.1 n bytes small (sym (ap (λ (b : Bool). shown (cond b (Some e.1) (lookup (is_at (nat_cmp n)) places))) test) ∙ there)
]

-- the pages that are there stay
pub all_stay : (old new : List ℕ) (count page : ℕ) → ((n : ℕ) (bytes : List ℕ) → n ≢ page → piece old n ≡ Some bytes → piece new n ≡ Some bytes)
    → (done : Places) → AllByRecursion (λ e. e.0 ≢ page) done → AreThere old count done → AreThere new count done
all_stay old new count page others [] apart all = tt
all_stay old new count page others (e ∷ done) apart all = (λ b small is. others e.0 b apart.0 (all.0 b small is), all_stay old new count page others done apart.1 all.1)

pub all_push : (pages : List ℕ) (count : ℕ) (done : Places) (e : ℕ × Option (Box (List ℕ) Global))
    → AreThere pages count done → ((b : List ℕ) → e.0 < count → page_in e.1 ≡ Some b → piece pages e.0 ≡ Some b) → AreThere pages count (done ++ e ∷ [])
all_push pages count [] e all last = (last, tt)
all_push pages count (d ∷ done) e all last = (all.0, all_push pages count done e all.1 last)
