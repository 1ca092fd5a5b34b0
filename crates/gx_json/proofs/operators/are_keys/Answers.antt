-- A key that isn't there, and one more that is.
use Rattle.std.proofs.Common.{List, ℕ, refl, sym, ◌∙◌, subst, true≢false, arith}
use Rattle.std.proofs.lemmas.List.Elements.{AllWithin-more, at_read}
use Rattle.gx_json.specs.Tree.{data_of}
use Rattle.gx_json.specs.Operators.{HasKey}
use Rattle.gx_json.proofs.OperatorLemmas.{refuted}
use Rattle.gx_json.proofs.operators.are_keys.Goals as goal

pub returns-then-not-is_key : goal.returns-then-not-is_key
returns-then-not-is_key c =
    let P : List ℕ → Type 0 = λ key. HasKey key (data_of c.args.value.now) in
    (λ t. absurd (true≢false (sym t)), λ all. absurd (refuted c.is_key.result c.is_key.ensures c.if-not-is_key.true (subst P (sym (c.as_slice.ensures ∙ c.key-item.is)) (all c.loop-key.key-index c.key-item.result c.loop-key-test.true))))

pub loop-key-preserved : goal.loop-key-preserved
loop-key-preserved c =
    let P : List ℕ → Type 0 = λ key. HasKey key (data_of c.args.value.now) in
    AllWithin-more P c.args.keys.now 0 c.loop-key.key-index c.loop-key.invariant
    (at_read c.args.keys.now P c.loop-key.key-index c.key-item.result c.loop-key-test.true c.key-item.is (subst P c.as_slice.ensures (c.is_key.ensures.0 c.if-not-is_key.false)))

pub returns : goal.returns
returns c = (λ _ k d within. c.loop-key.invariant k d (omega arith) (omega arith), λ _. refl)
