use Rattle.std.proofs.Common.{sym}
use Rattle.gx_bytes.proofs.BlankLemmas.{core_is, trims}
use Rattle.gx_bytes.proofs.blanks.trimmed.Goals as goal

pub returns : goal.returns
returns c =
    sym (core_is c.args.bytes.now c.trim_ascii.result.now (trims c.args.bytes.now c.trim_ascii.result.now c.trim_ascii.ensures.value))
