use Rattle.std.proofs.Common.{ℕ, take, drop, ◌∙◌, ap, arith}
use Rattle.std.proofs.lemmas.Result.{on_ok_weaker}
use Rattle.gx_log.proofs.replay.read_bytes.Goals as goal

pub returns-clause-bytes : goal.returns-clause-bytes
returns-clause-bytes g c =
    on_ok_weaker c.read_part.result
    (λ read tells within. read tells (omega (arith, within, c.bytes_mut.ensures.len)) ∙ ap (λ (n : ℕ). take n (drop c.args.at (g.D.Disk.told c.args.disk.now).log)) c.bytes_mut.ensures.len)
    c.read_part.ensures.bytes
