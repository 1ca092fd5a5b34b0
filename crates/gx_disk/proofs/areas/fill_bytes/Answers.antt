use Rattle.std.proofs.Common.{ℕ, replicate, sym, ◌∙◌, arith}
use Rattle.std.proofs.lemmas.List.{length-replicate}
use Rattle.gx_disk.proofs.Written.{placed_from, passed}
use Rattle.gx_disk.proofs.areas.fill_bytes.Goals as goal

pub returns : goal.returns
returns c = record {
  ok =
      passed c.grow.new.area.len c.overfill.new.into c.grow.new.area.items (omega (arith, c.overfill.auto.into, c.deref_mut.ensures.len))
      ∙ c.overfill.ensures
      ∙ placed_from c.args.area.now.items (replicate {A = ℕ} c.args.n 255) c.deref_mut.result.now c.args.at c.args.n c.in-Some.end 255
      (c.deref_mut.ensures.value ∙ c.in_ok-grow.ensures.ok) (sym (length-replicate {A = ℕ} c.args.n 255)) c.in-Some.ensures.1;
}
