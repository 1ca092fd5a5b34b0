use Rattle.std.proofs.Common.{length}
use Rattle.gx_parse.specs.Nests.{SettleAlike, frames_of, group_of}
use Rattle.gx_parse.specs.Trees.{tree_of}
use Rattle.gx_parse.proofs.nest.negated.Given as goal

abbrev pub invariant-nots : goal.invariant-nots
invariant-nots l =
    SettleAlike (frames_of l.initial.frames) (group_of l.initial.group) (tree_of l.initial.operand) (frames_of l.frames) (group_of l.group) (tree_of l.operand)

abbrev pub decreases-nots : goal.decreases-nots
decreases-nots l = length (frames_of l.frames)
