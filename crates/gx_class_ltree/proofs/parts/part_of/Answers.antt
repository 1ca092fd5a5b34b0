-- The labels before the cut are those for which there is room.
use Rattle.gx_class_ltree.proofs.PartFacts.{front_fits, part_made}
use Rattle.gx_class_ltree.proofs.parts.part_of.Goals as goal

pub split_at-requires : goal.split_at-requires
split_at-requires c = front_fits c.args.path.now c.labels.result.now c.labels-2.result.now c.front_count-count.result c.labels.ensures c.labels-2.ensures c.front_count-count.ensures

pub returns : goal.returns
returns c =
    part_made c.args.path.now c.labels.result.now c.labels-2.result.now c.front_count-count.result c.split_at.result.0.now c.split_at.result.1.now c.in_ok-front.front c.is_empty.result
    c.labels.ensures c.labels-2.ensures c.front_count-count.ensures c.split_at.ensures.front c.split_at.ensures.back c.in_ok-front.ensures c.is_empty.ensures
