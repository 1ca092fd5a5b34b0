use Rattle.gx_range.proofs.EncodingLemmas.{no_upper}
use Rattle.gx_class_range.proofs.read.bounds_from.Goals as goal

pub returns-in_default-take_bound : goal.returns-in_default-take_bound
returns-in_default-take_bound c =
    no_upper c.args.bytes.now c.in-Some.behind.now c.args.lower c.args.upper c.in-Some.l c.in-Some.ensures.parts.0 c.in-Some.ensures.parts.1 c.in-Some.ensures.wide c.in_default-take_bound.ensures.parts
