use Rattle.std.proofs.Common.{[], refl, sym, arith}
use Rattle.gx_log.proofs.Moves.{writes_none, written_none}
use Rattle.gx_log.proofs.write.make_room.Goals as goal

pub returns-then-len-le8-clause-poured : goal.returns-then-len-le8-clause-poured
returns-then-len-le8-clause-poured g c = record {
  front = [];
  split = refl;
  goes_on = omega arith;
  writes = writes_none g.D.Disk c.args.disk.now c.args.place;
  told = λ tells within. sym (written_none (g.D.Disk.told c.args.disk.now).log c.args.place within);
}
