-- One byte more, and no closing quote.
use Rattle.gx_intarr.proofs.ElementLemmas.{more_signs, quoted_only, quoted_breaks}
use Rattle.gx_intarr.proofs.elements.take_quoted.Goals as goal

pub signs-preserved : goal.signs-preserved
signs-preserved c = more_signs c.args.inside.now c.signs.text c.push.new.self c.signs.rest.now c.in-Some.after.now c.in-Some.byte c.signs.invariant c.in-Some.ensures c.in_ok-push.ensures.ok

pub returns : goal.returns
returns c = quoted_only c.args.bytes.now c.args.inside.now c.requires (quoted_breaks c.args.inside.now c.signs.text c.signs.rest.now c.signs.invariant c.in_default.ensures c.in-None.ensures)
