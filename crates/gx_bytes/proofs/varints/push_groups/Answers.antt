use Rattle.std.proofs.Common.{ℕ, ◌+◌, ◌/◌, ◌%◌, List, ◌++◌, ◌∷◌, [], refl, ◌∙◌, ap, arith, append_assoc}
use Rattle.gx_bytes.proofs.Spellings.{varint_cons}
use Rattle.gx_bytes.proofs.varints.push_groups.Goals as goal

pub loop-rest-preserved : goal.loop-rest-preserved
loop-rest-preserved c = record {
  completes = λ tail spelled.
      let b = c.loop-rest.rest % 128 + 128 in
      let pushed = c.in_ok-push.ensures.ok in
      let more = c.loop-rest.invariant.completes (b ∷ tail) (varint_cons b c.loop-rest.rest (c.loop-rest.rest / 128) tail (omega arith) (omega arith) (omega arith) (omega arith) spelled) in
      (more.0, more.1, ap (λ (l : List ℕ). l ++ tail) pushed ∙ append_assoc c.loop-rest.to (b ∷ []) tail ∙ more.2);
  so_far = (
    c.loop-rest.invariant.so_far.0 ++ (c.loop-rest.rest % 128 + 128) ∷ [],
    c.in_ok-push.ensures.ok ∙ ap (λ (l : List ℕ). l ++ (c.loop-rest.rest % 128 + 128) ∷ []) c.loop-rest.invariant.so_far.1 ∙ append_assoc c.args.to.now c.loop-rest.invariant.so_far.0 ((c.loop-rest.rest % 128 + 128) ∷ []),
  );
}

pub returns-clause-ok : goal.returns-clause-ok
returns-clause-ok c =
    let more = c.loop-rest.invariant.completes (c.loop-rest.rest ∷ []) (c.loop-rest-test.false, refl) in
    (more.0, more.1, c.in_ok-push-2.ensures.ok ∙ more.2)
