use Rattle.std.proofs.Common.{IsUtf8, sym, subst}
use Rattle.gx_plan.proofs.WordLemmas.{names_none}
use Rattle.gx_plan.proofs.operand.type_named.Goals as goal

pub returns-in-Err : goal.returns-in-Err
returns-in-Err c =
    sym (names_none c.args.word.now.word c.args.word.now.list (λ text. c.in-Err.ensures.cases.0 (subst IsUtf8 (sym c.as_slice.ensures) text)))
