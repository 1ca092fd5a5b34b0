use Rattle.gx_class_range.proofs.ReadLemmas.{no_flags}
use Rattle.gx_class_range.proofs.read.spanned_from.Goals as goal

pub returns-in_default : goal.returns-in_default
returns-in_default c = no_flags c.args.flags c.args.rest.now c.requires c.in_default.ensures
