use Rattle.std.proofs.Common.{◌≡◌, ◌<◌, ◌+◌, ◌-◌, suc, refl, ap, length, take, drop, List, ℕ, arith, subst, sym, ◌∙◌}
use Rattle.std.proofs.lemmas.Grind.{common_steps}
use Rattle.std.specs.Result.{OnOk}
use Rattle.gx_lexer.proofs.FeedFacts.{starts, cuts_one, cuts_none, Progress, kept_all, rest_from}
use Rattle.gx_lexer.proofs.cutter.Cutter.take.Goals as goal

pub ends-init : goal.ends-init
ends-init c = starts c.args.self.now c.args.chunk.now c.args.to.now c.requires

pub returns-then-n-size : goal.returns-then-n-size
returns-then-n-size c =
    kept_all c.args.self.now c.ends.self c.keep.new.self c.args.chunk.now c.ends.rest.now c.front-n.result.0 c.front-n.result.1 c.args.to.now c.ends.to c.keep.result
    c.front-n.ensures.len c.if-n-size.true c.front-n.ensures.mode c.keep.ensures c.ends.invariant

pub ends-preserved : goal.ends-preserved
ends-preserved c =
    rest_from c.args.self.now c.ends.self c.end.new.self c.args.chunk.now c.ends.rest.now c.front-n.result.0 c.args.to.now c.ends.to c.end.new.to
    c.front-n.ensures.len c.front-n.ensures.within c.if-n-size.false c.in_ok-end.ensures.stands c.in_ok-end.ensures.pieces c.ends.invariant
