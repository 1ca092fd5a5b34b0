use Rattle.std.proofs.Common.{ℕ, ◌+◌, List, ◌∙◌, ap}
use Rattle.gx_bytes.specs.Fields.{le64, paste}
use Rattle.gx_words.specs.PageMap.{PageMap, with_page}
use Rattle.gx_pager.specs.Layers.{map_over, pieces}
use Rattle.gx_pager.specs.Maps.{cut}
use Rattle.gx_pager.specs.Memory.{memory, now_map}
use Rattle.gx_pager.proofs.Maps.{cut_more}
use Rattle.gx_pager.proofs.free_list.grow.Goals as goal

pub returns-clause-map : goal.returns-clause-map
returns-clause-map c = λ image.
    let old = c.args.layers.now in
    let count = old.count in
    let map = now_map old image in
    ap (λ (k : ℕ). cut k (map_over (memory c.write_both.new.self) (pieces image))) c.in-Ok.ensures.count
    ∙ ap (λ (m : PageMap). cut (count + 1) (map_over m (pieces image))) c.in-Ok.ensures.written
    ∙ cut_more count (memory old) (pieces image) c.set_count.new.header c.zero.result old.some
    ∙ ap (λ (h : List ℕ). with_page (with_page map 0 h) count c.zero.result) c.set_count.ensures.field
    ∙ ap (λ (b : List ℕ). with_page (with_page map 0 (paste c.args.header.now 8 (le64 (count + 1)))) count b) c.zero.ensures
