use Rattle.std.proofs.Common.{sym}
use Rattle.gx_gist_tree.proofs.ItemSteps.{picked_next}
use Rattle.gx_gist_tree.proofs.uniting.picked_at.Goals as goal

pub bounds-xs-place : goal.bounds-xs-place
bounds-xs-place g c = c.requires.places c.args.k 0 c.requires.within

pub returns-clause-next : goal.returns-clause-next
returns-clause-next g c = picked_next c.args.xs.now c.args.places.now c.args.k c.index-xs-place.result c.requires.within (c.requires.places c.args.k 0 c.requires.within) c.index-xs-place.is

pub returns-clause-among : goal.returns-clause-among
returns-clause-among g c = (_, c.requires.places c.args.k 0 c.requires.within, sym c.index-xs-place.is)
