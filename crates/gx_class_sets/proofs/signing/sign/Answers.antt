use Rattle.std.proofs.Common.{◌≡◌, refl, sym, ap, ap₂, ◌∙◌, length, take, get_or, arith, pos, rules}
use Rattle.std.proofs.lemmas.List.{take_all}
use Rattle.std.proofs.lemmas.Int.{to_z-of_z}
use Rattle.gx_class_sets.specs.Signatures.{hash_of, with_hash, sign}
use Rattle.gx_class_sets.proofs.SignLemmas.{signed_from, one_more, all_signed}
use Rattle.gx_class_sets.proofs.signing.sign.Goals as goal

pub loop-number-preserved : goal.loop-number-preserved
loop-number-preserved g c =
    let step = one_more g.row.N c.args.numbers.now c.loop-number.number-index (pos 0) c.loop-number-test.true in
    let hash : c.hash_of.result ≡ hash_of (get_or c.args.numbers.now c.loop-number.number-index (pos 0)) = search (rules, to_z-of_z) in
    c.set.ensures.value ∙ ap₂ (with_hash g.row.N) c.loop-number.invariant hash ∙ sym step

pub returns : goal.returns
returns g c =
    c.loop-number.invariant
    ∙ ap (signed_from g.row.N) (take_all c.loop-number.number-index c.args.numbers.now c.loop-number-test.false)
    ∙ all_signed g.row.N c.args.numbers.now
