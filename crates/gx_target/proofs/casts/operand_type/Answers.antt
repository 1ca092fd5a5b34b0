use Rattle.std.proofs.Common.{IsUtf8, sym, subst}
use Rattle.gx_target.proofs.CastFacts.{no_text}
use Rattle.gx_target.proofs.casts.operand_type.Goals as goal

pub returns-in-Err : goal.returns-in-Err
returns-in-Err c = sym (no_text c.args.word.now.word c.args.word.now.list (λ text. c.in-Err.ensures.cases.0 (subst IsUtf8 (sym c.as_slice.ensures) text)))
