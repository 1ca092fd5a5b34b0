use Rattle.std.proofs.Common.{◌∙◌, sym, ap, subst, ℕ, List, length, slice_index, true, false, arith, ◌≡◌}
use Rattle.gx_slot.specs.Slots.{read, IsSpelled}
use Rattle.gx_slot.proofs.SlotFacts.{is_spelled}
use Rattle.gx_slot.proofs.ReadFacts as facts
use Rattle.gx_slot.proofs.checking.check_page.Goals as goal

pub returns-then-found-expected-clause-err : goal.returns-then-found-expected-clause-err
returns-then-found-expected-clause-err c =
    facts.other_kind c.args.page.now c.args.kind c.from-found.result (c.from-found.ensures ∙ ap (λ (b : List ℕ). slice_index b 0) c.bytes-bytes.ensures.value)
    (λ e. c.if-found-expected.true (e ∙ sym c.from-expected.ensures))

pub returns-then-count-gt2044-clause-err : goal.returns-then-count-gt2044-clause-err
returns-then-count-gt2044-clause-err c =
    let n = ap (λ (b : List ℕ). length (read b).items) c.bytes-bytes.ensures.value in
    facts.too_many c.args.page.now c.args.kind (let t = c.if-count-gt2044.true in omega (arith, t, n, c.read_count.ensures, c.from-count.ensures))

pub returns-then-not-is_spelled-clause-err : goal.returns-then-not-is_spelled-clause-err
returns-then-not-is_spelled-clause-err c = λ has.
    let x = c.is_spelled.ensures.1 (subst (λ (b : List ℕ). IsSpelled b) (sym c.bytes-bytes.ensures.value) (is_spelled c.args.page.now has.0 has.1 has.2)) in
    let f : true ≡ false = sym x ∙ c.if-not-is_spelled.true in cc

pub returns-clause-ok : goal.returns-clause-ok
returns-clause-ok c =
    let same = c.bytes-bytes.ensures.value in (
      let P : List ℕ → Type 0 = λ b. IsSpelled b in subst P same (c.is_spelled.ensures.0 c.if-not-is_spelled.false),
      facts.kind_read c.args.page.now ∙ ap (λ (b : List ℕ). slice_index b 0) (sym same) ∙ sym c.from-found.ensures ∙ c.if-found-expected.false ∙ c.from-expected.ensures,
    )
