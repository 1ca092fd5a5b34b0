-- The path takes too much.
use Rattle.std.proofs.Common.{◌∙◌, sym}
use Rattle.gx_class_ltree.proofs.ReadFacts.{too_long}
use Rattle.gx_class_ltree.proofs.read.part_from.Goals as goal

pub returns-then-not-is_short : goal.returns-then-not-is_short
returns-then-not-is_short c =
    let told = rw c.in-Some.is at c.in_ok-path.ensures in
    too_long c.args.text.now c.in-Some.path told (sym c.is_short.ensures ∙ c.if-not-is_short.true)
