use Rattle.std.proofs.Common.{FitsSigned, w32, rules, sym, ◌∙◌, true≢false, to_z-of_z}
use Rattle.gx_class_scalar.proofs.ReadLemmas.{date_refused}
use Rattle.gx_class_scalar.proofs.read.date_from.Goals as goal

pub returns-else-are_days : goal.returns-else-are_days
returns-else-are_days c =
    let low : FitsSigned w32 c.four-lo.result = search rules in
    let high : FitsSigned w32 c.four-hi.result = search rules in
    let told = simp to_z-of_z at c.are_days.ensures in
    date_refused c.args.bytes.now _ _ c.four-lo.result c.four-hi.result low high c.split_at.ensures.front c.split_at.ensures.back c.four-lo.ensures c.four-hi.ensures
    (λ days. true≢false (sym (told.1 days) ∙ c.if-are_days.false))
