use Rattle.std.proofs.Common.{◌≡◌, ◌+◌, ◌++◌, ◌∷◌, [], length, arith, length-append}
use Rattle.gx_class_scalar.specs.declared.key.ScalarKey.{ScalarKey}
use Rattle.class_tests.specs.ValidKeys.{AreKeys, one_more}
use Rattle.class_tests.proofs.gist.keys_of.Goals as goal

pub loop-number-preserved : goal.loop-number-preserved
loop-number-preserved c =
    let item : ScalarKey = c.in_ok-key.key in
    rw c.in_ok-push.ensures.ok (record {
      many = omega (arith, length-append c.loop-number.keys (item ∷ []), c.loop-number.invariant.many);
      valid = one_more c.loop-number.keys item c.loop-number.invariant.valid c.in_ok-key.ensures;
    })
