-- Each end of the reader of pairs, and one pair more.
use Rattle.std.proofs.Common.{List, ℕ, length, sym, ap, ◌∙◌, ◌<◌, subst, arith}
use Rattle.gx_hstore.specs.Text.{SpellsPairs}
use Rattle.gx_hstore.proofs.Progress.{step, ended, refused}
use Rattle.gx_hstore.proofs.PairLemmas.{no_length, some_length, no_pairs, no_comma, last_pair, comma_found, comma_only, length-pair}
use Rattle.gx_hstore.proofs.text.pairs_of.Goals as goal

pub returns-in_default : goal.returns-in_default
returns-in_default c =
    let none = rw c.in_default.is at c.in_ok-pair.ensures in
    let some = let P : List ℕ → Type 0 = λ t. 0 < length t in subst P c.without_blanks.ensures (some_length c.without_blanks.result.now (sym c.pairs-test.true ∙ c.is_empty.ensures)) in
    refused SpellsPairs c.args.text.now c.pairs.rest.now c.pairs.pairs.items c.pairs.invariant (no_pairs c.pairs.rest.now some none)

pub returns-then-is_empty : goal.returns-then-is_empty
returns-then-is_empty c =
    let taken = rw c.in-Some.is at c.in_ok-pair.ensures in
    rw c.in_ok-push.ensures.items (c.pairs.invariant.found _ (last_pair c.pairs.rest.now c.in-Some.after.now c.in-Some.pair taken (no_length c.in-Some.after.now (sym c.if-is_empty.true ∙ c.is_empty-in-pairs.ensures))))

pub returns-in_default-behind_byte : goal.returns-in_default-behind_byte
returns-in_default-behind_byte c =
    let taken = rw c.in-Some.is at c.in_ok-pair.ensures in
    refused SpellsPairs c.args.text.now c.pairs.rest.now c.pairs.pairs.items c.pairs.invariant
    (no_comma c.pairs.rest.now c.in-Some.after.now c.in-Some.pair taken (some_length c.in-Some.after.now (sym c.if-is_empty.false ∙ c.is_empty-in-pairs.ensures)) c.in_default-behind_byte.ensures)

pub pairs-smaller : goal.pairs-smaller
pairs-smaller c =
    let taken = rw c.in-Some.is at c.in_ok-pair.ensures in
    omega (arith, length-pair c.pairs.rest.now c.in-Some.pair c.in-Some.after.now taken, ap length c.in-Some-behind_byte.ensures)

pub pairs-preserved : goal.pairs-preserved
pairs-preserved c =
    let taken = rw c.in-Some.is at c.in_ok-pair.ensures in
    rw c.in_ok-push.ensures.items (
    step SpellsPairs c.args.text.now c.pairs.rest.now c.in-Some-behind_byte.more.now c.pairs.pairs.items c.in-Some.pair c.pairs.invariant
    (comma_found c.pairs.rest.now c.in-Some.after.now c.in-Some-behind_byte.more.now c.in-Some.pair taken c.in-Some-behind_byte.ensures)
    (comma_only c.pairs.rest.now c.in-Some.after.now c.in-Some-behind_byte.more.now c.in-Some.pair taken c.in-Some-behind_byte.ensures)
    )

pub returns : goal.returns
returns c =
    ended SpellsPairs c.args.text.now c.pairs.rest.now c.pairs.pairs.items c.pairs.invariant (sym c.without_blanks.ensures ∙ no_length c.without_blanks.result.now (sym c.pairs-test.false ∙ c.is_empty.ensures))
