use Rattle.std.proofs.Common.{sym, subst}
use Rattle.std.proofs.lemmas.Result.{IfOk-weaker}
use Rattle.gx_class_range.specs.declared.key.RangeKey.{RangeKey}
use Rattle.gx_class_range.specs.Keys.{IsKey}
use Rattle.gx_class_range.specs.Laws.{leaf_is_valid, union_is_valid}
use Rattle.class_tests.proofs.class_range.union_of.Goals as goal

pub returns : goal.returns
returns c =
    let P : RangeKey → Type 0 = λ k. IsKey k in
    let a = subst P (sym c.in_ok-a.ensures) (leaf_is_valid c.args.first.now c.requires.first) in
    let b = subst P (sym c.in_ok-b.ensures) (leaf_is_valid c.args.second.now c.requires.second) in
    IfOk-weaker c.union.result _ _ (λ key e. subst P (sym e) (union_is_valid c.in_ok-a.a c.in_ok-b.b a b)) c.union.ensures
