use Rattle.gx_class_scalar.proofs.ReadLemmas.{no_flag}
use Rattle.gx_class_scalar.proofs.read_cut.part_from.Goals as goal

pub returns-in-None : goal.returns-in-None
returns-in-None c =
    no_flag c.args.bytes.now c.in-Some.behind.now _ c.in-Some.size c.in-Some.ensures.0 c.in-Some.ensures.1 c.split_at.ensures.back c.in-None.ensures
