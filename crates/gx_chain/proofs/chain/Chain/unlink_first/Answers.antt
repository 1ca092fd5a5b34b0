use Rattle.std.proofs.Common.{refl}
use Rattle.gx_chain.proofs.Unlinks.{unlinked_first}
use Rattle.gx_chain.proofs.chain.Chain.unlink_first.Goals as goal

pub returns-clause-unlinked : goal.returns-clause-unlinked
returns-clause-unlinked g c = λ tells goes kind back items free held at.
    unlinked_first g.P.Pages c.args.pages.now c.give.new.self kind c.args.self.now c.args.page (g.P.Pages.map c.args.pages.now) free (c.in_ok-give.ensures.others tells)
    (c.in_ok-give.ensures.header tells) c.in_ok-give.ensures.count (c.in_ok-give.ensures.given tells) c.args.next refl back items held at goes
