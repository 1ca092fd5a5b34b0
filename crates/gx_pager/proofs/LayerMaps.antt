-- What changes of the layers make of the maps.
use Rattle.std.proofs.Common.{◌≡◌, ℕ, ◌<◌, List, [], ◌∷◌, length, Option, Some, None, Box, is_some, true, refl, ◌∙◌, ap, arith}
use Rattle.std.specs.declared.alloc.Global.{Global}
use Rattle.std.specs.BTreeMap.{get}
use Rattle.std.specs.Ordering.{nat_cmp}
use Rattle.gx_words.specs.Image.{Image}
use Rattle.gx_words.specs.PageMap.{PageMap, with_page}
use Rattle.gx_log.specs.Records.{page_in}
use Rattle.gx_pager.specs.Layers.{map_over, pieces}
use Rattle.gx_pager.specs.Maps.{cut}
use Rattle.gx_pager.specs.Memory.{memory, committed_memory, overlay, unit, changed, now_map, committed_map, Keeps}
use Rattle.gx_pager.specs.declared.layers.Layers.{Layers}
use Rattle.gx_pager.proofs.Maps.{committed_same, cut_written, written_over, entries_same}

pub put_map : (old new : Layers) (image : Image) (page : ℕ) (bytes : List ℕ) → memory new ≡ with_page (memory old) page bytes → new.count ≡ old.count → page < old.count
    → now_map new image ≡ with_page (now_map old image) page bytes
put_map old new image page bytes written same small =
    ap (λ (k : ℕ). cut k (map_over (memory new) (pieces image))) same
    ∙ ap (λ (m : PageMap). cut old.count (map_over m (pieces image))) written
    ∙ ap (λ (m : PageMap). cut old.count m) (written_over (memory old) (pieces image) page bytes)
    ∙ cut_written old.count (map_over (memory old) (pieces image)) page bytes small

pub same_map : (old new : Layers) (before after : Image) → memory new ≡ memory old → new.count ≡ old.count → after ≡ before → now_map new after ≡ now_map old before
same_map old new before after same count image =
    ap (λ (k : ℕ). cut k (map_over (memory new) (pieces after))) count
    ∙ ap (λ (m : PageMap). cut old.count (map_over m (pieces after))) same
    ∙ ap (λ (i : Image). cut old.count (map_over (memory old) (pieces i))) image

pub keeps_map : (old new : Layers) (before after : Image) → Keeps old new → after ≡ before → committed_map new after ≡ committed_map old before
keeps_map old new before after keeps image =
    ap (λ (k : ℕ). cut k (map_over (committed_memory new) (pieces after))) keeps.count
    ∙ ap (λ (m : PageMap). cut old.committed_count (map_over m (pieces after))) (committed_same new.header old.header (overlay new) (overlay old) keeps.header keeps.overlay)
    ∙ ap (λ (i : Image). cut old.committed_count (map_over (committed_memory old) (pieces i))) image

pub unit_taken : (layers : Layers) (n : ℕ) → is_some (get nat_cmp layers.unit n) ≡ true → is_some (unit layers n) ≡ true
unit_taken layers n some = same (get nat_cmp layers.unit n) ∙ some
  where
    same : (o : Option (Box (List ℕ) Global)) → is_some (page_in o) ≡ is_some o
    same None = refl
    same (Some page) = refl

-- where no page is changed the map is the committed one
pub unchanged_map : (layers : Layers) (image : Image) → changed layers ≡ 0 → layers.count ≡ layers.committed_count → now_map layers image ≡ committed_map layers image
unchanged_map layers image none count =
    ap (λ (k : ℕ). cut k (map_over (memory layers) (pieces image))) count
    ∙ ap (λ (m : PageMap). cut layers.committed_count (map_over m (pieces image))) (entries_same layers.unit.entries [] (committed_memory layers) (no_entries layers.unit.entries none))
  where
    no_entries : (entries : List (ℕ × Box (List ℕ) Global)) → length entries ≡ 0 → entries ≡ []
    no_entries [] none = refl
    no_entries (entry ∷ entries) none = absurd (omega (arith, none))
