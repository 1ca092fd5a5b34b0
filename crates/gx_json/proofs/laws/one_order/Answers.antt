use Rattle.gx_json.proofs.PrintLemmas.{is_shorter_first, one_order, by_length_then_bytes}
use Rattle.gx_json.proofs.laws.one_order.Goals as goal

pub returns : goal.returns
returns c = record { is = is_shorter_first; only = one_order; bytes = by_length_then_bytes }
