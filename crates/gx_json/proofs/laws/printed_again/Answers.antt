use Rattle.std.proofs.Common.{arith}
use Rattle.gx_json.proofs.AnswerLemmas.{stored_whole}
use Rattle.gx_json.proofs.PrintedTokens.{printed_reads}
use Rattle.gx_json.proofs.PrintedChecks.{printed_passes}
use Rattle.gx_json.proofs.laws.printed_again.Goals as goal

pub returns : goal.returns
returns c d h = (
  printed_passes d h,
  printed_reads d h.stored (omega (arith, h.shallow)),
  record { shallow = h.shallow; whole = stored_whole d h.stored; plain = h.plain },
)
