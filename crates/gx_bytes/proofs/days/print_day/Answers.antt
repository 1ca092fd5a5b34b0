use Rattle.std.proofs.Common.{◌≡◌, ◌++◌, ℕ, List, OnOk, ◌∙◌, subst, arith}
use Rattle.std.proofs.lemmas.Int.{ints}
use Rattle.jiff_core.specs.Date.{epoch_day}
use Rattle.gx_bytes.proofs.DayLemmas.{date_printed}
use Rattle.gx_bytes.proofs.days.print_day.Goals as goal

pub returns-clause-ok : goal.returns-clause-ok
returns-clause-ok c =
    let number : epoch_day c.in-Ok.date ≡ c.args.day = omega (arith, ints, c.in-Ok.ensures.value) in
    let shown = c.as_bytes.ensures.value ∙ c.deref.ensures.0 ∙ c.date_text.ensures ∙ date_printed c.in-Ok.date c.args.day c.requires number in
    let P : List ℕ → Type 0 = λ t. OnOk c.extend_from_slice.result (c.extend_from_slice.new.self ≡ c.args.to.now ++ t) in
    subst P shown c.extend_from_slice.ensures.ok
