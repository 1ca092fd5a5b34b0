use Rattle.std.proofs.Common.{arith, get_or}
use Rattle.gx_sig.proofs.Ones.{byte_more, few_ones}
use Rattle.gx_sig.proofs.Sig.distance.Goals as goal

pub overflow_add-bits : goal.overflow_add-bits
overflow_add-bits g c =
    let few = few_ones (get_or c.self.inside.bytes c.loop-k.k 0) (get_or c.other.inside.bytes c.loop-k.k 0) (omega arith) (omega arith) in
    omega (arith, few, c.self.invariant)

pub loop-k-preserved : goal.loop-k-preserved
loop-k-preserved g c = record {
  counted = byte_more c.self.inside.bytes c.other.inside.bytes c.loop-k.k c.loop-k.bits (omega arith) (omega arith) c.loop-k.invariant.counted;
  few = (let few = few_ones (get_or c.self.inside.bytes c.loop-k.k 0) (get_or c.other.inside.bytes c.loop-k.k 0) (omega arith) (omega arith) in
      omega (arith, few));
}
