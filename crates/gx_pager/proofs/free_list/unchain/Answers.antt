use Rattle.std.proofs.Common.{ℕ, List, Some, ◌∙◌, ap, arith}
use Rattle.gx_bytes.specs.Fields.{le64, paste}
use Rattle.gx_words.specs.PageMap.{PageMap, with_page}
use Rattle.gx_pager.specs.Layers.{map_over, pieces}
use Rattle.gx_pager.specs.Maps.{cut}
use Rattle.gx_pager.specs.Memory.{memory, now_map}
use Rattle.gx_pager.proofs.Maps.{cut_two, cut_below}
use Rattle.gx_pager.proofs.free_list.unchain.Goals as goal

pub returns-clause-map : goal.returns-clause-map
returns-clause-map g c = λ tells agrees.
    let old = c.args.layers.now in
    let image = g.D.Disk.told c.args.disk.now in
    let map = now_map old image in
    let next = c.in-Some.next in
    let page = c.args.page in (
      next,
      c.in-Some.ensures.fits,
      cut_below old.count (map_over (memory old) (pieces image)) page (omega (arith, c.if-page-layers.false)) ∙ c.in-Ok.ensures.bytes tells agrees ∙ ap Some c.in-Some.ensures.some,
      ap (λ (k : ℕ). cut k (map_over (memory c.write_both.new.self) (pieces image))) c.in-Ok-write_both.ensures.count
          ∙ ap (λ (m : PageMap). cut old.count (map_over m (pieces image))) c.in-Ok-write_both.ensures.written
          ∙ cut_two old.count (memory old) (pieces image) page c.set_first_free.new.header c.zero.result old.some (omega (arith, c.if-page-layers.false))
          ∙ ap (λ (h : List ℕ). with_page (with_page map 0 h) page c.zero.result) c.set_first_free.ensures.field
          ∙ ap (λ (b : List ℕ). with_page (with_page map 0 (paste c.args.header.now 16 (le64 next))) page b) c.zero.ensures,
    )
