use Rattle.std.proofs.Common.{sym, subst}
use Rattle.gx_words.specs.Image.{Image}
use Rattle.gx_pager.specs.Cached.{Agrees}
use Rattle.gx_pager.specs.Layers.{pieces}
use Rattle.gx_pager.proofs.reads.read_cached.Goals as goal

pub returns-then-get-clause-agrees : goal.returns-then-get-clause-agrees
returns-then-get-clause-agrees g c = λ tells agrees. c.get.ensures.kept (pieces (g.D.Disk.told c.args.disk.now)) agrees

pub returns-in-Err-clause-agrees : goal.returns-in-Err-clause-agrees
returns-in-Err-clause-agrees g c = λ tells agrees.
    subst (λ (i : Image). Agrees (pieces i) c.get.new.self.pages.entries) (sym c.read_page.ensures.reads.told) (c.get.ensures.kept (pieces (g.D.Disk.told c.args.disk.now)) agrees)

pub returns-clause-agrees : goal.returns-clause-agrees
returns-clause-agrees g c = λ tells agrees.
    subst (λ (i : Image). Agrees (pieces i) c.put.new.self.pages.entries) (sym c.read_page.ensures.reads.told)
    (c.put.ensures (pieces (g.D.Disk.told c.args.disk.now)) (c.in-Ok.ensures.bytes tells) (c.get.ensures.kept (pieces (g.D.Disk.told c.args.disk.now)) agrees))
