-- Pages are written in place, and then the log is emptied: each image keeps the committed map.
use Rattle.std.proofs.Common.{◌≡◌, inl, inr, ⊎_elim, ℕ, ◌+◌, ◌*◌, ◌<◌, ◌≤◌, ◌^◌, ◌==◌, nat_lt, Bool, true, false, cond, List, [], length, Option, Some, None, is_some, refl, sym, ◌∙◌, ap, subst, arith}
use Rattle.std.proofs.lemmas.Bool.{cases_lt}
use Rattle.std.proofs.lemmas.Bool.Decides.{nat_tests}
use Rattle.gx_words.specs.Image.{Image}
use Rattle.gx_words.specs.PageMap.{PageMap}
use Rattle.gx_disk.specs.declared.disk.Disk.{Ghosts}
use Rattle.gx_log.specs.Disks.{IsAtRest, BeforeOrAfter}
use Rattle.gx_log.specs.Records.{Record, Stands, HasMap, laid_all, piece}
use Rattle.gx_pages.specs.Frees.{HasCount}
use Rattle.gx_pages.specs.Pages as pages
use Rattle.gx_pager.specs.Known.{IsSound}
use Rattle.gx_pager.specs.Layers.{over, pieces, map_over, committed_in}
use Rattle.gx_pager.specs.Left.{HasSome, some_map, map_of_pages, committed_zero}
use Rattle.gx_pager.specs.Maps.{cut}
use Rattle.gx_pager.specs.Placed.{IsFilled, Placed, IsPlaced, IsReady}
use Rattle.gx_pager.proofs.Adding.{has_pages}
use Rattle.gx_pager.proofs.Maps.{cut_below, over_over}
use Rattle.gx_pager.proofs.Pieces.{piece_none}

-- maps that agree below the count
pub cut_agree : (count : ℕ) (a b : PageMap) → ((n : ℕ) → n < count → a n ≡ b n) → cut count a ≡ cut count b
cut_agree count a b same = λ i n. each n i
  where
    each : (n : ℕ) → cut count a n ≡ cut count b n
    each n = elim (cases_lt n count) [
      | inl small ↦ cut_below count a n small ∙ same n small ∙ sym (cut_below count b n small)
      | inr large ↦
          let test : nat_lt n count ≡ false = grind (arith, nat_tests, large) in
          ap (λ (t : Bool). cond t (a n) None) test ∙ sym (ap (λ (t : Bool). cond t (b n) None) test)
    ]

-- where a page of the overlay is below the count it is due
pub due_some : (count : ℕ) (overlay : PageMap) (n : ℕ) (bytes : List ℕ) → n < count → overlay n ≡ Some bytes → cut count overlay n ≡ Some bytes
due_some count overlay n bytes small there = cut_below count overlay n small ∙ there

abbrev nothing : Option (List ℕ)
nothing = None

pub due_none : (count : ℕ) (overlay : PageMap) (n : ℕ) → overlay n ≡ None → cut count overlay n ≡ None
due_none count overlay n none = ap (λ (o : Option (List ℕ)). cond (nat_lt n count) o None) none ∙ same (nat_lt n count)
  where
    same : (t : Bool) → cond t nothing nothing ≡ nothing
    same true = refl
    same false = refl

pub due_small : (count : ℕ) (overlay : PageMap) (n : ℕ) (bytes : List ℕ) → cut count overlay n ≡ Some bytes → n < count
due_small count overlay n bytes there = elim (cases_lt n count) [
  | inl small ↦ small
  | inr large ↦
      let test : nat_lt n count ≡ false = grind (arith, nat_tests, large) in
      let wrong : None ≡ Some bytes = sym (ap (λ (t : Bool). cond t (overlay n) None) test) ∙ there in
      absurd (apart bytes wrong)
]
  where
    apart : (bytes : List ℕ) → None ≡ Some bytes → ⊥
    apart bytes same = cc

pub due_is : (count : ℕ) (overlay : PageMap) (n : ℕ) (bytes : List ℕ) → cut count overlay n ≡ Some bytes → overlay n ≡ Some bytes
due_is count overlay n bytes there = sym (cut_below count overlay n (due_small count overlay n bytes there)) ∙ there

some_whole : (now : List ℕ) (n : ℕ) → is_some (piece now n) ≡ true → (n + 1) * 8192 ≤ length now
some_whole now n some = elim (cases_lt (length now) ((n + 1) * 8192)) [
  | inl short ↦ let wrong : false ≡ true = sym (ap (λ (o : Option (List ℕ)). is_some o) (piece_none now n short)) ∙ some in absurd (apart wrong)
  | inr long ↦ long
]
  where
    apart : false ≡ true → ⊥
    apart same = cc

module _ (header : List ℕ) (overlay : PageMap) (count : ℕ) (start : Image) (zero : over (overlay 0) (piece start.pages 0) ≡ Some header) where
  abbrev pub Committed : PageMap
  Committed = cut count (map_over (committed_in header overlay) (pieces start))

  abbrev pub Due : PageMap
  Due = cut count overlay

  -- below the count, pages in place make no difference under the overlay
  pub under : (now : List ℕ) → Placed Due start.pages now → (n : ℕ) → n < count → over (overlay n) (piece now n) ≡ over (overlay n) (piece start.pages n)
  under now placed n small = by (overlay n) refl
    where
      by : (o : Option (List ℕ)) → overlay n ≡ o → over o (piece now n) ≡ over o (piece start.pages n)
      by None none = placed.same n (due_none count overlay n none)
      by (Some b) some = refl

  -- and where those of the overlay were written, it isn't needed
  pub without : (now : List ℕ) → Placed Due start.pages now → ((n : ℕ) (bytes : List ℕ) → Due n ≡ Some bytes → piece now n ≡ Some bytes)
      → (n : ℕ) → n < count → piece now n ≡ over (overlay n) (piece start.pages n)
  without now placed written n small = by (overlay n) refl
    where
      by : (o : Option (List ℕ)) → overlay n ≡ o → piece now n ≡ over o (piece start.pages n)
      by None none = placed.same n (due_none count overlay n none)
      by (Some b) some = written n b (due_some count overlay n b small some)

  module _ (some : 0 < count) (has : HasCount header count) (most : count ≤ 2 ^ 50) where
    map_below : (image : Image) (all : PageMap) → ((n : ℕ) → n < count → all n ≡ over (overlay n) (piece start.pages n)) → (HasMap image (cut count all)) → HasMap image Committed
    map_below image all same h =
        subst (λ (m : PageMap). HasMap image m)
        (cut_agree count all (map_over (committed_in header overlay) (pieces start)) (λ n small. same n small ∙ sym (committed_zero header overlay (pieces start) zero n))) h

    -- an image with those records, and with pages in place
    pub placed_map : (records : List Record) → ((before : Option (List ℕ)) (n : ℕ) → laid_all before n records ≡ over (overlay n) before)
        → (image : Image) → Placed Due start.pages image.pages → Stands records image.log → HasMap image Committed
    placed_map records laid image placed stands =
        let all : PageMap = λ n. over (overlay n) (piece image.pages n) in
        map_below image all (under image.pages placed)
        (map_of_pages image header count all (under image.pages placed 0 some ∙ zero) has most (has_pages image image.pages records overlay all refl stands laid (λ n. refl)))

    -- an image with no records, and with all pages in place
    pub emptied_map : (image : Image) → Placed Due start.pages image.pages → ((n : ℕ) (bytes : List ℕ) → Due n ≡ Some bytes → piece image.pages n ≡ Some bytes) → Stands [] image.log
        → HasMap image Committed
    emptied_map image placed written stands =
        map_below image (pieces image) (without image.pages placed written)
        (map_of_pages image header count (pieces image) (without image.pages placed written 0 some ∙ zero) has most (record { records = []; counted = stands; are = λ n. refl }))

  memory_under : (t : Bool) (n : ℕ) (now : List ℕ) → over (overlay n) (piece now n) ≡ over (overlay n) (piece start.pages n)
      → over (cond t (Some header) (overlay n)) (piece now n) ≡ over (cond t (Some header) (overlay n)) (piece start.pages n)
  memory_under true n now same = refl
  memory_under false n now same = same

  -- below the count the committed pages stay, under the overlay
  pub in_under : (now : Image) → Placed Due start.pages now.pages → (n : ℕ) → n < count
      → over (committed_in header overlay n) (piece now.pages n) ≡ over (committed_in header overlay n) (piece start.pages n)
  in_under now placed n small = memory_under (n == 0) n now.pages (under now.pages placed n small)

  memory_without : (t : Bool) (n : ℕ) (now : List ℕ) (o : Option (List ℕ)) → o ≡ None → piece now n ≡ over (overlay n) (piece start.pages n)
      → over (cond t (Some header) o) (piece now n) ≡ over (cond t (Some header) (overlay n)) (piece start.pages n)
  memory_without true n now o none same = refl
  memory_without false n now o none same = ap (λ (x : Option (List ℕ)). over x (piece now n)) none ∙ same

  -- and without it, where all its pages are in place
  pub in_without : (now : Image) (empty : PageMap) → ((n : ℕ) → empty n ≡ None) → Placed Due start.pages now.pages
      → ((n : ℕ) (bytes : List ℕ) → Due n ≡ Some bytes → piece now.pages n ≡ Some bytes) → (n : ℕ) → n < count
      → over (committed_in header empty n) (piece now.pages n) ≡ over (committed_in header overlay n) (piece start.pages n)
  in_without now empty none placed written n small = memory_without (n == 0) n now.pages (empty n) (none n) (without now.pages placed written n small)

  -- no page is lacking before one that is due
  pub filled : pages.HasNoGap Committed → IsFilled Due start.pages
  filled no_gap n k bytes before there lacks =
      let small = due_small count overlay k bytes there in
      let fits : n < count = omega (arith, before, small) in
      let all : PageMap = map_over (committed_in header overlay) (pieces start) in
      let k_is : Committed k ≡ Some bytes =
      cut_below count all k small ∙ committed_zero header overlay (pieces start) zero k ∙ ap (λ (o : Option (List ℕ)). over o (piece start.pages k)) (sym (cut_below count overlay k small) ∙ there) in
      let n_is : Committed n ≡ piece start.pages n =
      cut_below count all n fits ∙ committed_zero header overlay (pieces start) zero n ∙ ap (λ (o : Option (List ℕ)). over o (piece start.pages n)) (sym (cut_below count overlay n fits) ∙ lacks) in
      let k_some : is_some (Committed k) ≡ true = ap (λ (o : Option (List ℕ)). is_some o) k_is in
      some_whole start.pages n (sym (ap (λ (o : Option (List ℕ)). is_some o) n_is) ∙ no_gap n k before k_some)

-- maps under the unit agree, where those below the committed count do and the unit has the others
pub unit_agree : (unit a b p q : PageMap) (committed count : ℕ) → ((n : ℕ) → n < committed → over (a n) (p n) ≡ over (b n) (q n)) → ((n : ℕ) → committed ≤ n → n < count → is_some (unit n) ≡ true)
    → cut count (map_over (map_over unit a) p) ≡ cut count (map_over (map_over unit b) q)
unit_agree unit a b p q committed count same taken = cut_agree count (map_over (map_over unit a) p) (map_over (map_over unit b) q) each
  where
    by : (u : Option (List ℕ)) (n : ℕ) → is_some u ≡ true → over (over u (a n)) (p n) ≡ over (over u (b n)) (q n)
    by None n some = absurd (apart some)
      where
        apart : false ≡ true → ⊥
        apart same = cc
    by (Some page) n some = refl

    each : (n : ℕ) → n < count → over (over (unit n) (a n)) (p n) ≡ over (over (unit n) (b n)) (q n)
    each n small = elim (cases_lt n committed) [
      | inl below ↦ over_over (unit n) (a n) (p n) ∙ ap (λ (o : Option (List ℕ)). over (unit n) o) (same n below) ∙ sym (over_over (unit n) (b n) (q n))
      | inr above ↦ by (unit n) n (taken n above small)
    ]

-- the images of a checkpoint
module _ {D : Type 0} (g : Ghosts D) (old : D) (front : ℕ) (header : List ℕ) (overlay : PageMap) (count : ℕ) (some : 0 < count) (most : count ≤ 2 ^ 50) (has : HasCount header count)
    (s : IsSound g old front header overlay)
  where
    -- the image has a map, and where no page is lacking the committed one
    abbrev pub Kept : Image → Type 0
    Kept image = HasSome image × (IsFilled (cut count overlay) (g.told old).pages → HasMap image (cut count (map_over (committed_in header overlay) (pieces (g.told old)))))

    pub ready : IsReady g old
    ready = record { pages = s.pages; log = s.log }

    same_log : (image : Image) → image.log ≡ (g.told old).log → Stands s.records image.log
    same_log image same = subst (λ (l : List ℕ). Stands s.records l) (sym same) s.stands

    pub kept_placed : (image : Image) → IsPlaced (cut count overlay) (g.told old) image → Kept image
    kept_placed image placed =
        (some_map image s.records (same_log image placed.1), λ filled. placed_map header overlay count (g.told old) s.zero some has most s.records s.laid image (placed.0 filled) (same_log image placed.1))

    module _ (two : D) (all : (d : Image) → g.now_may_leave two d → IsPlaced (cut count overlay) (g.told old) d) (settled : (d : Image) → g.now_may_leave two d → d.pages ≡ (g.told two).pages)
        (written : (n : ℕ) (bytes : List ℕ) → cut count overlay n ≡ Some bytes → piece (g.told two).pages n ≡ Some bytes)
      where
        pub kept_reset : (image : Image) → BeforeOrAfter g two s.records [] image → Kept image
        kept_reset image here =
            let d = here.0.0 in
            let same : image.pages ≡ d.pages = here.0.2 in
            let placed : IsFilled (cut count overlay) (g.told old).pages → Placed (cut count overlay) (g.told old).pages image.pages =
            λ filled. subst (λ (l : List ℕ). Placed (cut count overlay) (g.told old).pages l) (sym same) ((all d here.0.1).0 filled) in
            let there : (n : ℕ) (bytes : List ℕ) → cut count overlay n ≡ Some bytes → piece image.pages n ≡ Some bytes =
            λ n bytes is. ap (λ (l : List ℕ). piece l n) (same ∙ settled d here.0.1) ∙ written n bytes is in
            ⊎_elim
            (λ before. (some_map image s.records before, λ filled. placed_map header overlay count (g.told old) s.zero some has most s.records s.laid image (placed filled) before))
            (λ after. (some_map image [] after, λ filled. emptied_map header overlay count (g.told old) s.zero some has most image (placed filled) there after)) here.1

        pub at_rest : (g.told two).log ≡ (g.told old).log → IsAtRest g front two s.records
        at_rest same = record {
          stands = subst (λ (l : List ℕ). Stands s.records l) (sym same) s.stands;
          at_front = s.at_front;
          settled = λ c left. (all c left).1 ∙ sym same;
        }
