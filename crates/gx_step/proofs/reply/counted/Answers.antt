use Rattle.std.proofs.Common.{sym, subst, List, ℕ}
use Rattle.gx_model.specs.Replies.{accepted}
use Rattle.gx_step.specs.Doing.{IsOrdinary}
use Rattle.gx_step.proofs.Ordinary as ordinary
use Rattle.gx_step.proofs.reply.counted.Goals as goal

-- src/reply.rt:54:1
pub returns-clause-ordinary : goal.returns-clause-ordinary
returns-clause-ordinary c = λ h. subst (λ (b : List ℕ). IsOrdinary (accepted b)) (sym c.in_ok-bytes.ensures.bytes) (ordinary.counted c.args.lines c.args.word.now c.args.count h)
