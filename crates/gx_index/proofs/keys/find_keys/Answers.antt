use Rattle.gx_index.proofs.KeyRows.{found_rows}
use Rattle.gx_index.proofs.keys.find_keys.Goals as goal

pub returns-clause-found : goal.returns-clause-found
returns-clause-found g c tells rows feet h finds agree =
    found_rows g.P.Pages g.C.GistClass c.args.tree.now.class g.C.KeyClass.datum h c.args.query.now finds c.in_ok-rows.rows agree c.as_slice-rising.ensures.rising
    (c.in_ok-rows.ensures.found tells h.tree h.held)
