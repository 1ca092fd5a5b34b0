-- Maps of pages, laid over one another.
use Rattle.std.proofs.Common.{◌≡◌, ◌≢◌, ℕ, ◌+◌, ◌<◌, ◌==◌, nat_lt, if◌then◌else◌, List, Option, Some, None, Box, Bool, is_some, option_map, true, false, cond, refl, ◌∙◌, ap, arith}
use Rattle.std.specs.declared.alloc.Global.{Global}
use Rattle.std.specs.Ordering.{nat_cmp, is_eq}
use Rattle.std.specs.BTreeMap.{is_at}
use Rattle.std.specs.Map.{lookup}
use Rattle.std.proofs.lemmas.Grind.{common_steps}
use Rattle.std.proofs.lemmas.Bool.Decides.{nat_tests}
use Rattle.gx_words.specs.Image.{Image}
use Rattle.gx_words.specs.PageMap.{PageMap, with_page}
use Rattle.gx_log.specs.Records.{page_in}
use Rattle.gx_pager.specs.Layers.{over, shown, map_over, header_over, committed_in, pieces}
use Rattle.gx_pager.specs.Maps.{cut}
use Rattle.gx_pager.specs.Memory.{Keeps, memory, unit, now_map, header_now}
use Rattle.gx_pager.specs.declared.layers.Layers.{Layers}

pub committed_same : (h k : List ℕ) (a b : PageMap) → h ≡ k → a ≡ b → committed_in h a ≡ committed_in k b
committed_same h k a b header overlay = ap (λ (l : List ℕ). committed_in l a) header ∙ ap (λ (m : PageMap). committed_in k m) overlay

pub over_over : (a b c : Option (List ℕ)) → over (over a b) c ≡ over a (over b c)
over_over None b c = refl
over_over (Some page) b c = refl

page_cond : (t : Bool) (kept : Box (List ℕ) Global) (old : Option (Box (List ℕ) Global)) → page_in (cond t (Some kept) old) ≡ cond t (Some kept.value) (page_in old)
page_cond true kept old = refl
page_cond false kept old = refl

-- a page of the unit was written
pub unit_written : (old new : ℕ → Option (Box (List ℕ) Global)) (below : PageMap) (page : ℕ) (kept : Box (List ℕ) Global) → ((n : ℕ) → new n ≡ cond (is_eq (nat_cmp page n)) (Some kept) (old n))
    → map_over (λ n. page_in (new n)) below ≡ with_page (map_over (λ n. page_in (old n)) below) page kept.value
unit_written old new below page kept is = λ i n. each n i
  where
    one : (unit' unit : Option (List ℕ)) (n : ℕ) → unit' ≡ cond (is_eq (nat_cmp page n)) (Some kept.value) unit
        → over unit' (below n) ≡ (if n == page then Some kept.value else over unit (below n))
    one unit' unit n here = grind (arith, common_steps, here)

    each : (n : ℕ) → map_over (λ n. page_in (new n)) below n ≡ with_page (map_over (λ n. page_in (old n)) below) page kept.value n
    each n = one (page_in (new n)) (page_in (old n)) n (ap page_in (is n) ∙ page_cond (is_eq (nat_cmp page n)) kept (old n))

-- two writes of different pages, in the other order
pub pages_swap : (map : PageMap) (page : ℕ) (h b : List ℕ) → page ≢ 0 → with_page (with_page map page b) 0 h ≡ with_page (with_page map 0 h) page b
pages_swap map page h b other = λ i n. each n i
  where
    each : (n : ℕ) → with_page (with_page map page b) 0 h n ≡ with_page (with_page map 0 h) page b n
    each n = grind (arith, common_steps)

-- page 0 stands in the unit, as it is
pub unit_header : (old new : ℕ → Option (Box (List ℕ) Global)) (header : List ℕ) (overlay : PageMap) (kept : Box (List ℕ) Global) → kept.value ≡ header
    → ((n : ℕ) → new n ≡ cond (is_eq (nat_cmp 0 n)) (Some kept) (old n)) → page_in (old 0) ≡ None
    → map_over (λ n. page_in (new n)) (committed_in header overlay) ≡ map_over (λ n. page_in (old n)) (committed_in header overlay)
unit_header old new header overlay kept value is none =
    unit_written old new (committed_in header overlay) 0 kept is ∙ (λ i n. each (λ k. page_in (old k)) none n i)
  where
    each : (unit : PageMap) → unit 0 ≡ None → (n : ℕ) → with_page (map_over unit (committed_in header overlay)) 0 kept.value n ≡ map_over unit (committed_in header overlay) n
    each unit lacks n = grind (arith, common_steps, lacks, value)

pub entries_same : (a b : List (ℕ × Box (List ℕ) Global)) (below : PageMap) → a ≡ b
    → map_over (λ n. page_in (lookup (is_at (nat_cmp n)) a)) below ≡ map_over (λ n. page_in (lookup (is_at (nat_cmp n)) b)) below
entries_same a b below same = ap (λ (e : List (ℕ × Box (List ℕ) Global)). map_over (λ n. page_in (lookup (is_at (nat_cmp n)) e)) below) same

pub none_of : (o : Option (Box (List ℕ) Global)) → is_some o ≡ false → page_in o ≡ None
none_of None none = refl
none_of (Some page) some = grind (arith, some)

shown_cond : (t : Bool) (kept : Box (List ℕ) Global) (old : Option (Option (Box (List ℕ) Global))) → shown (if t then Some (Some kept) else old) ≡ (if t then Some kept.value else shown old)
shown_cond true kept old = refl
shown_cond false kept old = refl

gone_cond : (t : Bool) (old : Option (Box (List ℕ) Global)) → page_in (cond t None old) ≡ cond t None (page_in old)
gone_cond true old = refl
gone_cond false old = refl

-- a page of the unit moves to its place
pub moved_one : (unit unit' : ℕ → Option (Box (List ℕ) Global)) (kept kept' : ℕ → Option (Option (Box (List ℕ) Global))) (page : ℕ) (bytes : Box (List ℕ) Global)
    → ((n : ℕ) → kept' n ≡ (if n == page then Some (Some bytes) else kept n)) → unit page ≡ Some bytes
    → ((n : ℕ) → unit' n ≡ cond (is_eq (nat_cmp page n)) None (unit n))
    → (n : ℕ) → over (page_in (unit' n)) (shown (kept' n)) ≡ over (page_in (unit n)) (shown (kept n))
moved_one unit unit' kept kept' page bytes moved was gone n =
    one (λ k. page_in (unit k)) (page_in (unit' n)) (shown (kept n)) (shown (kept' n)) (ap shown (moved n) ∙ shown_cond (n == page) bytes (kept n)) (ap page_in was)
    (ap page_in (gone n) ∙ gone_cond (is_eq (nat_cmp page n)) (unit n))
  where
    one : (u : PageMap) (u' k k' : Option (List ℕ)) → k' ≡ (if n == page then Some bytes.value else k) → u page ≡ Some bytes.value
        → u' ≡ cond (is_eq (nat_cmp page n)) None (u n) → over u' k' ≡ over (u n) k
    one u u' k k' moved was gone = grind (arith, common_steps, moved, was, gone)

pub placed_one : (unit unit' : ℕ → Option (Box (List ℕ) Global)) (kept kept' : ℕ → Option (Option (Box (List ℕ) Global))) (page : ℕ) (bytes : Box (List ℕ) Global)
    → ((n : ℕ) → kept' n ≡ (if n == page then Some (Some bytes) else kept n))
    → ((n : ℕ) → unit' n ≡ cond (is_eq (nat_cmp page n)) None (unit n))
    → ((n : ℕ) → is_some (unit n) ≡ true → is_some (kept n) ≡ true)
    → (n : ℕ) → is_some (unit' n) ≡ true → is_some (kept' n) ≡ true
placed_one unit unit' kept kept' page bytes moved gone placed n some = grind (arith, common_steps, moved n, gone n, placed n, some)

-- a page was written above
pub written_over : (above below : PageMap) (page : ℕ) (bytes : List ℕ) → map_over (with_page above page bytes) below ≡ with_page (map_over above below) page bytes
written_over above below page bytes = λ i n. each n i
  where
    each : (n : ℕ) → map_over (with_page above page bytes) below n ≡ with_page (map_over above below) page bytes n
    each n = grind (arith, common_steps)

-- two pages were written above
pub two_over : (above below : PageMap) (page : ℕ) (h b : List ℕ) → map_over (with_page (with_page above 0 h) page b) below ≡ with_page (with_page (map_over above below) 0 h) page b
two_over above below page h b = written_over (with_page above 0 h) below page b ∙ ap (λ (m : PageMap). with_page m page b) (written_over above below 0 h)

-- page 0 as it is now
pub zero_now : (u : Option (List ℕ)) (header : List ℕ) (below : Option (List ℕ)) → over (over u (Some header)) below ≡ Some (header_over u header)
zero_now None header below = refl
zero_now (Some page) header below = refl

-- a page below the count is there as before the cut
pub cut_below : (count : ℕ) (map : PageMap) (n : ℕ) → n < count → cut count map n ≡ map n
cut_below count map n small =
    let test : nat_lt n count ≡ true = grind (arith, nat_tests, small) in
    ap (λ (t : Bool). cond t (map n) None) test

-- a page below the count was written
pub cut_written : (count : ℕ) (map : PageMap) (page : ℕ) (bytes : List ℕ) → page < count → cut count (with_page map page bytes) ≡ with_page (cut count map) page bytes
cut_written count map page bytes small = λ i n. each n i
  where
    each : (n : ℕ) → cut count (with_page map page bytes) n ≡ with_page (cut count map) page bytes n
    each n = grind (arith, common_steps, nat_tests, small)

-- the page at the count was written, and the count rose
pub cut_grown : (count : ℕ) (map : PageMap) (bytes : List ℕ) → cut (count + 1) (with_page map count bytes) ≡ with_page (cut count map) count bytes
cut_grown count map bytes = λ i n. each n i
  where
    each : (n : ℕ) → cut (count + 1) (with_page map count bytes) n ≡ with_page (cut count map) count bytes n
    each n = grind (arith, common_steps, nat_tests)

-- two pages below the count were written
pub cut_two : (count : ℕ) (above below : PageMap) (page : ℕ) (h b : List ℕ) → 0 < count → page < count
    → cut count (map_over (with_page (with_page above 0 h) page b) below) ≡ with_page (with_page (cut count (map_over above below)) 0 h) page b
cut_two count above below page h b some small =
    ap (λ (m : PageMap). cut count m) (two_over above below page h b)
    ∙ cut_written count (with_page (map_over above below) 0 h) page b small
    ∙ ap (λ (m : PageMap). with_page m page b) (cut_written count (map_over above below) 0 h some)

-- page 0 and the one at the count were written
pub cut_more : (count : ℕ) (above below : PageMap) (h b : List ℕ) → 0 < count
    → cut (count + 1) (map_over (with_page (with_page above 0 h) count b) below) ≡ with_page (with_page (cut count (map_over above below)) 0 h) count b
cut_more count above below h b some =
    ap (λ (m : PageMap). cut (count + 1) m) (two_over above below count h b)
    ∙ cut_grown count (with_page (map_over above below) 0 h) b
    ∙ ap (λ (m : PageMap). with_page m count b) (cut_written count (map_over above below) 0 h some)

-- no page in a box
abbrev pub nothing : Option (Box (List ℕ) Global)
nothing = None

-- a place that was emptied
pub emptied_none : (o : Option (Option (Box (List ℕ) Global))) → shown (option_map (λ (place : Option (Box (List ℕ) Global)). nothing) o) ≡ None
emptied_none None = refl
emptied_none (Some place) = refl

pub emptied_some : (o : Option (Option (Box (List ℕ) Global))) → is_some (option_map (λ (place : Option (Box (List ℕ) Global)). nothing) o) ≡ is_some o
emptied_some None = refl
emptied_some (Some place) = refl

-- what one change keeps and then another
pub keeps_then : (old mid new : Layers) → Keeps old mid → Keeps mid new → Keeps old new
keeps_then old mid new first second = record { overlay = second.overlay ∙ first.overlay; header = second.header ∙ first.header; count = second.count ∙ first.count }

-- page 0 is in the map, as it is now
pub zero_there : (layers : Layers) (image : Image) → now_map layers image 0 ≡ Some (header_now layers)
zero_there layers image = cut_below layers.count (map_over (memory layers) (pieces image)) 0 layers.some ∙ zero_now (unit layers 0) layers.header (pieces image 0)

pub some_same : (a b : List ℕ) → Some a ≡ Some b → a ≡ b
some_same a b same = cc
