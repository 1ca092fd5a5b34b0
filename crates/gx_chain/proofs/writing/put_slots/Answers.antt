use Rattle.gx_chain.proofs.Putting.{put_held}
use Rattle.gx_chain.proofs.writing.put_slots.Goals as goal

pub returns-clause-held : goal.returns-clause-held
returns-clause-held g c = λ tells chain front back items free held is.
    put_held g.P.Pages c.args.pages.now c.put.new.self c.args.page c.args.from.now c.page.result.now c.page.ensures.spelled c.page.ensures.fits (c.in_ok-put.ensures.map tells)
    c.in_ok-put.ensures.count chain front back items free held is
