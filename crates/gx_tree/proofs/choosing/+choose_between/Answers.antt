use Rattle.std.proofs.Common.{◌≡◌, ◌+◌, ◌-◌, ◌/◌, ◌<◌, ◌≤◌, ℕ, Bool, List, length, sym, ◌∙◌, subst, arith}
use Rattle.std.proofs.lemmas.Result.{err_from_is_err_and, IfOk-weaker, IfErr-weaker}
use Rattle.gx_tree.specs.Changing.{Reaches}
use Rattle.gx_tree.proofs.Causes.{broken_weaker}
use Rattle.gx_tree.proofs.Chooses.{chosen, range_high, range_low}
use Rattle.gx_tree.proofs.choosing.+choose_between.Goals as goal

pub returns-then-rest-eq1-clause-chosen : goal.returns-then-rest-eq1-clause-chosen
returns-then-rest-eq1-clause-chosen g t c = λ items are range.
    let within = range.within in
    let low = c.requires in
    let one = c.if-rest-eq1.true in
    chosen g.S.Seek.order (g.S.Seek.sought c.args.seek.now) items c.args.slot c.args.end (omega (arith, low, one)) (omega (arith, low, within)) range.low range.high

pub returns-in_err-yes-clause-cause : goal.returns-in_err-yes-clause-cause
returns-in_err-yes-clause-cause g t c =
    let p = err_from_is_err_and c.from_residual.result c.from_residual.ensures.1 in
    rw (p.1, p.2)
    (broken_weaker c.in_err-yes.field-0.0 c.args.page _ _ (λ refused items are links within. refused items are links (let low = c.requires in omega (arith, low, within))) c.in_err-yes.ensures.cause)

pub returns-then-yes-clause-chosen : goal.returns-then-yes-clause-chosen
returns-then-yes-clause-chosen g t c =
    IfOk-weaker c.choose_between.result _ _ (λ found finds items are range.
    finds items are (range_low g.S.Seek.order (g.S.Seek.sought c.args.seek.now) items c.args.slot (c.args.slot + (c.args.end - c.args.slot) / 2) c.args.end range
    (subst (λ (b : Bool). Reaches g.S.Seek.order (g.S.Seek.sought c.args.seek.now) items (c.args.slot + (c.args.end - c.args.slot) / 2) b) c.if-yes.true
    (c.in_ok-yes.ensures.found items are (let within = range.within in let low = c.requires in omega (arith, low, within))))))
    c.choose_between.ensures.chosen

pub returns-clause-chosen : goal.returns-clause-chosen
returns-clause-chosen g t c =
    IfOk-weaker c.choose_between-2.result _ _ (λ found finds items are range.
    finds items are (range_high g.S.Seek.order (g.S.Seek.sought c.args.seek.now) items c.args.slot (c.args.slot + (c.args.end - c.args.slot) / 2) c.args.end range (let low = c.requires in omega (arith, low))
    (subst (λ (b : Bool). Reaches g.S.Seek.order (g.S.Seek.sought c.args.seek.now) items (c.args.slot + (c.args.end - c.args.slot) / 2) b) c.if-yes.false
    (c.in_ok-yes.ensures.found items are (let within = range.within in let low = c.requires in omega (arith, low, within))))))
    c.choose_between-2.ensures.chosen

pub returns-clause-cause : goal.returns-clause-cause
returns-clause-cause g t c =
    IfErr-weaker c.choose_between-2.result _ _ (λ error has.
    broken_weaker error c.args.page _ _ (λ refused items are links within. refused items are links (let low = c.requires in omega (arith, low, within))) has)
    c.choose_between-2.ensures.cause
