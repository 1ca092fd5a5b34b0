-- What a checkpoint leaves of maps and layers.
use Rattle.std.proofs.Common.{◌≡◌, inl, inr, ⊎_elim, ℕ, ◌<◌, ◌≤◌, ◌^◌, List, [], Option, Some, None, refl, sym, ◌∙◌, ap, subst}
use Rattle.std.specs.BTreeMap.{get}
use Rattle.std.specs.Ordering.{nat_cmp}
use Rattle.gx_words.proofs.Runs.{through_weaker}
use Rattle.gx_words.specs.Image.{Image}
use Rattle.gx_words.specs.Moments.{Now, Elapses, Goes}
use Rattle.gx_words.specs.PageMap.{PageMap}
use Rattle.gx_disk.specs.declared.disk.Disk.{Ghosts}
use Rattle.gx_log.specs.Disks.{Leaves, IsAtRest}
use Rattle.gx_log.specs.Records.{HasMap, page_in, piece}
use Rattle.gx_pages.specs.Frees.{HasCount}
use Rattle.gx_pager.specs.Known.{IsSound}
use Rattle.gx_pager.specs.Layers.{over, pieces, map_over, committed_in}
use Rattle.gx_pager.specs.Left.{MapLeft, MapSince, Follows, HasSome, map_of_pages, sound_pages}
use Rattle.gx_pager.specs.Maps.{cut}
use Rattle.gx_pager.specs.Memory.{committed_memory, overlay, unit, now_map, committed_map}
use Rattle.gx_pager.specs.Placed.{IsFilled, Placed, IsPlaced}
use Rattle.gx_pager.specs.declared.layers.Layers.{Layers}
use Rattle.gx_pager.proofs.Adding.{same_map}
use Rattle.gx_pager.proofs.Closing.{Kept, kept_placed, in_under, in_without, unit_agree, cut_agree, due_none, due_some}
use Rattle.gx_pager.proofs.LayerMaps.{unit_taken}
use Rattle.gx_pager.proofs.Moments.{CountsNow, OnlyNow, ToldStays, left_now}
use Rattle.gx_pager.proofs.Placing.{placed_start}

module _ {D : Type 0} (g : Ghosts D) (counts : CountsNow g) (only : OnlyNow g) (stays : ToldStays g) (old new : D) (front : ℕ) (header : List ℕ) (over_ : PageMap) (count : ℕ) (some : 0 < count) (most : count ≤ 2 ^ 50)
    (has : HasCount header count) (sound : g.tells → IsSound g old front header over_) (goes : Goes g.moment g.may_have_left_since old new)
    (run : (tells : g.tells) → Leaves g (Kept g old front header over_ count some most has (sound tells)) old new)
  where
    abbrev pub Committed' : PageMap
    Committed' = cut count (map_over (committed_in header over_) (pieces (g.told old)))

    is_committed : (tells : g.tells) → IsFilled (cut count over_) (g.told old).pages → (c : Image) → Kept g old front header over_ count some most has (sound tells) c → (m : PageMap) → HasMap c m → MapLeft g old m
    is_committed tells filled c kept m h = (
      tells,
      (
        g.told old,
        stays old tells,
        subst (λ (map : PageMap). HasMap (g.told old) map) (sym (same_map c m Committed' h (kept.1 filled)))
            (map_of_pages (g.told old) header count (map_over (committed_in header over_) (pieces (g.told old))) refl has most (sound_pages g old front header over_ (sound tells))),
      ),
    )

    pub ends_time : (g.tells → IsFilled (cut count over_) (g.told old).pages) → Elapses (g.moment old) (g.moment new) (MapSince g old) (MapSince g new) (Now (MapLeft g old) (g.said old).bytes)
    ends_time filled = record {
      later = goes.later;
      nothing_else = λ t m le left.
          ⊎_elim (λ past. inl (left.0, (left.1.0, past, left.1.2)))
          (λ here. inr ((is_committed left.0 (filled left.0) left.1.0 here.0.0 m.image left.1.2, here.0.1), (λ u l. (left.0, (left.1.0, here.1 u l, left.1.2)))))
          ((run left.0).each t (record { image = left.1.0; bytes = m.bytes }) le left.1.1);
      keeps = λ t m le past. (past.0, (past.1.0, goes.keeps t (record { image = past.1.0; bytes = m.bytes }) le past.1.1, past.1.2));
    }

    pub ends_silent : Elapses (g.moment old) (g.moment new) (MapSince g old) (MapSince g new) (λ m. m.bytes ≡ (g.said old).bytes)
    ends_silent = record {
      later = goes.later;
      nothing_else = λ t m le left.
          ⊎_elim (λ past. inl (left.0, (left.1.0, past, left.1.2))) (λ here. inr (here.0.1, (λ u l. (left.0, (left.1.0, here.1 u l, left.1.2)))))
          ((run left.0).each t (record { image = left.1.0; bytes = m.bytes }) le left.1.1);
      keeps = λ t m le past. (past.0, (past.1.0, goes.keeps t (record { image = past.1.0; bytes = m.bytes }) le past.1.1, past.1.2));
    }

    pub ends_images : (g.tells → IsFilled (cut count over_) (g.told old).pages) → (m : PageMap) → MapLeft g new m → MapLeft g old m
    ends_images filled m left =
        let s = sound left.0 in
        let K = Kept g old front header over_ count some most has s in
        let first = λ (c : Image) (l : g.now_may_leave old c). kept_placed g old front header over_ count some most has s c (placed_start (cut count over_) (g.told old) c (s.pages c l) (s.log c l)) in
        is_committed left.0 (filled left.0) left.1.0 (left_now g counts only K old new first (run left.0) left.1.0 left.1.1) m left.1.2

    pub ends_follows : Follows g old new
    ends_follows = record {
      goes = goes;
      maps = λ tells all.
          through_weaker g.moment g.may_have_left_since old new (λ m. Kept g old front header over_ count some most has (sound tells) m.image × (m.bytes ≡ (g.said old).bytes)) (λ m. HasSome m.image) (λ m here. here.0.0)
          (run tells);
    }

-- the maps after a checkpoint that failed
module _ (layers : Layers) (old new : Image) (zero : over (overlay layers 0) (piece old.pages 0) ≡ Some layers.header) (placed : Placed (cut layers.committed_count (overlay layers)) old.pages new.pages) where
  pub left_now_map : now_map layers new ≡ now_map layers old
  left_now_map =
      unit_agree (unit layers) (committed_memory layers) (committed_memory layers) (pieces new) (pieces old) layers.committed_count layers.count
      (in_under layers.header (overlay layers) layers.committed_count old zero new placed) (λ n above small. unit_taken layers n (layers.fresh n above small))

  pub left_committed_map : committed_map layers new ≡ committed_map layers old
  left_committed_map =
      cut_agree layers.committed_count (map_over (committed_memory layers) (pieces new)) (map_over (committed_memory layers) (pieces old))
      (in_under layers.header (overlay layers) layers.committed_count old zero new placed)

  -- and after one that was made
  module _ (later : Layers) (written : (n : ℕ) (bytes : List ℕ) → cut layers.committed_count (overlay layers) n ≡ Some bytes → piece new.pages n ≡ Some bytes)
      (none : (n : ℕ) → overlay later n ≡ None) (same_unit : later.unit ≡ layers.unit) (same_header : later.header ≡ layers.header)
    where
      pub made_now_map : later.count ≡ layers.count → now_map later new ≡ now_map layers old
      made_now_map same_count =
          (λ i. cut (same_count i) (map_over (map_over (λ n. page_in (get nat_cmp (same_unit i) n)) (committed_in (same_header i) (overlay later))) (pieces new)))
          ∙ unit_agree (unit layers) (committed_in layers.header (overlay later)) (committed_memory layers) (pieces new) (pieces old) layers.committed_count layers.count
          (in_without layers.header (overlay layers) layers.committed_count old zero new (overlay later) none placed written) (λ n above small. unit_taken layers n (layers.fresh n above small))

      pub made_committed_map : later.committed_count ≡ layers.committed_count → committed_map later new ≡ committed_map layers old
      made_committed_map same_count =
          (λ i. cut (same_count i) (map_over (committed_in (same_header i) (overlay later)) (pieces new)))
          ∙ cut_agree layers.committed_count (map_over (committed_in layers.header (overlay later)) (pieces new)) (map_over (committed_memory layers) (pieces old))
          (in_without layers.header (overlay layers) layers.committed_count old zero new (overlay later) none placed written)

-- after a checkpoint that was made, the disk is sound with no page above it
pub made_sound : {D : Type 0} (g : Ghosts D) (old new : D) (front later : ℕ) (header header' : List ℕ) (overlay_ none_ : PageMap) (count : ℕ) → 0 < count → IsSound g old front header overlay_
    → IsPlaced (cut count overlay_) (g.told old) (record { pages = (g.told new).pages; log = (g.told old).log })
    → ((n : ℕ) (bytes : List ℕ) → cut count overlay_ n ≡ Some bytes → piece (g.told new).pages n ≡ Some bytes)
    → IsAtRest g later new [] → ((c : Image) → g.now_may_leave new c → c.pages ≡ (g.told new).pages) → header' ≡ header → ((n : ℕ) → none_ n ≡ None) → IsSound g new later header' none_
made_sound g old new front later header header' overlay_ none_ count some s placed written rest settled same none = record {
  records = [];
  stands = rest.stands;
  at_front = rest.at_front;
  laid = λ before n. sym (ap (λ (o : Option (List ℕ)). over o before) (none n));
  zero = ap (λ (o : Option (List ℕ)). over o (piece (g.told new).pages 0)) (none 0) ∙ first (overlay_ 0) refl ∙ ap Some (sym same);
  pages = settled;
  log = rest.settled;
}
  where
    first : (o : Option (List ℕ)) → overlay_ 0 ≡ o → piece (g.told new).pages 0 ≡ Some header
    first None is = placed.2 0 header (due_none count overlay_ 0 is) (ap (λ (o : Option (List ℕ)). over o (piece (g.told old).pages 0)) (sym is) ∙ s.zero)
    first (Some h) is = written 0 h (due_some count overlay_ 0 h some is) ∙ ap (λ (o : Option (List ℕ)). over o (piece (g.told old).pages 0)) (sym is) ∙ s.zero
