use Rattle.std.proofs.Common.{◌∙◌, ap}
use Rattle.gx_words.specs.PageMap.{PageMap, with_page}
use Rattle.gx_pager.specs.Memory.{memory}
use Rattle.gx_pager.proofs.Maps.{pages_swap, keeps_then}
use Rattle.gx_pager.proofs.layers.Layers.write_both.Goals as goal

pub returns-clause-written : goal.returns-clause-written
returns-clause-written c =
    c.write_header.ensures.written
    ∙ ap (λ (m : PageMap). with_page m 0 c.args.header.now) (c.in-Ok-write.ensures.written ∙ ap (λ (m : PageMap). with_page m c.args.page c.args.from.now) c.in-Ok.ensures.memory)
    ∙ pages_swap (memory c.args.self.now) c.args.page c.args.header.now c.args.from.now c.requires.nonzero

pub returns-clause-keeps : goal.returns-clause-keeps
returns-clause-keeps c =
    keeps_then c.args.self.now c.write.new.self c.write_header.new.self (keeps_then c.args.self.now c.open_header.new.self c.write.new.self c.in-Ok.ensures.keeps c.in-Ok-write.ensures.keeps)
    c.write_header.ensures.keeps
