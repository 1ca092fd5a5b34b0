use Rattle.std.proofs.Common.{◌≡◌, ◌≢◌, ◌+◌, ◌-◌, ◌≤◌, ◌<◌, ℕ, List, length, take, drop, refl, sym, ◌∙◌, ap, subst, arith}
use Rattle.std.proofs.lemmas.Result.{err_from_is_err_and}
use Rattle.std.proofs.lemmas.List.{length-take-le}
use Rattle.gx_words.specs.PageMap.{PageMap, with_page}
use Rattle.gx_pages.specs.Frees.{Taken}
use Rattle.gx_pages.proofs.Footprints.{cause_weaker, quiet_join, starts_sound, takes_at}
use Rattle.gx_slot.specs.Slots.{Slots}
use Rattle.gx_tree.specs.Paging.{weight}
use Rattle.gx_tree.proofs.Causes.{broken_cause}
use Rattle.gx_tree.proofs.Writes.{few_refused, left_refused, others_refused, past_refused, right_refused, spelled, split_parted}
use Rattle.gx_tree.proofs.writing.split_items.Goals as goal

pub returns-then-place-least-clause-cause : goal.returns-then-place-least-clause-cause
returns-then-place-least-clause-cause g c =
    broken_cause c.broken.result c.args.page _ _ _ _ _ c.broken.ensures (λ tells free frees low full can. few_refused c.args.items.now c.middle_of-place.result c.args.least c.middle_of-place.ensures full can c.if-place-least.true)

pub returns-then-len-place-clause-cause : goal.returns-then-len-place-clause-cause
returns-then-len-place-clause-cause g c =
    broken_cause c.broken-then-len-place.result c.args.page _ _ _ _ _ c.broken-then-len-place.ensures (λ tells free frees low full can.
    past_refused c.args.items.now c.middle_of-place.result c.args.least c.middle_of-place.ensures full can (let test = c.if-len-place.true in let e = c.len-len.ensures in omega (arith, test, e)))

pub returns-then-others-least-clause-cause : goal.returns-then-others-least-clause-cause
returns-then-others-least-clause-cause g c =
    broken_cause c.broken-then-others-least.result c.args.page _ _ _ _ _ c.broken-then-others-least.ensures (λ tells free frees low full can.
    others_refused c.args.items.now c.middle_of-place.result c.args.least c.middle_of-place.ensures full can (let test = c.if-others-least.true in let e = c.len-len.ensures in omega (arith, test, e)))

pub returns-in_default-clause-cause : goal.returns-in_default-clause-cause
returns-in_default-clause-cause g c =
    broken_cause c.broken-in_default.result c.args.page _ _ _ _ _ c.broken-in_default.ensures (λ tells free frees low full can.
    left_refused c.args.items.now c.middle_of-place.result c.args.least c.middle_of-place.ensures full can c.in_default.ensures.none)

pub returns-in_default-page_with-clause-cause : goal.returns-in_default-page_with-clause-cause
returns-in_default-page_with-clause-cause g c =
    broken_cause c.broken-in_default-page_with.result c.args.page _ _ _ _ _ c.broken-in_default-page_with.ensures (λ tells free frees low full can.
    right_refused c.args.items.now c.middle_of-place.result c.args.least c.middle_of-place.ensures full can
    (subst (λ (n : ℕ). n ≤ length c.args.items.now → 8176 < weight (drop c.middle_of-place.result (take n c.args.items.now))) c.len-len.ensures c.in_default-page_with.ensures.none))

pub returns-in_err-beside-clause-cause : goal.returns-in_err-beside-clause-cause
returns-in_err-beside-clause-cause g c =
    let p = err_from_is_err_and c.from_residual.result c.from_residual.ensures.1 in
    rw (p.1, p.2)
    (cause_weaker c.in_err-beside.field-0.0 (g.P.Pages.faults c.args.pages.now) (g.P.Pages.faults c.args.pages.now) (g.P.Pages.faults c.take.new.self) (g.P.Pages.faults c.take.new.self)
    _ _ _ _ _ _ (omega arith) (omega arith)
    (λ at expected found broken tells free frees low full can. starts_sound (g.P.Pages.map c.args.pages.now) (g.P.Pages.count c.args.pages.now) free (broken tells) frees)
    (λ n space. space) (λ no. no) c.in_err-beside.ensures.cause)

pub returns-in_err-put-clause-cause : goal.returns-in_err-put-clause-cause
returns-in_err-put-clause-cause g c =
    let p = err_from_is_err_and c.from_residual-in_err-put.result c.from_residual-in_err-put.ensures.1 in
    rw (p.1, p.2)
    (cause_weaker c.in_err-put.field-0.0 (g.P.Pages.faults c.args.pages.now) (g.P.Pages.faults c.take.new.self) (g.P.Pages.faults c.put.new.self) (g.P.Pages.faults c.put.new.self)
    _ _ _ _ _ _ (let q = c.in_ok-beside.ensures.quiet.faults in omega (arith, q)) (omega arith)
    (λ at expected found broken tells free frees low full can. let below = c.in_ok-beside.ensures.below in let past = broken.1 in omega (arith, below, past))
    (λ n no. absurd no) (λ m. m) c.in_err-put.ensures.cause)

pub returns-in_err-put-2-clause-cause : goal.returns-in_err-put-2-clause-cause
returns-in_err-put-2-clause-cause g c =
    let p = err_from_is_err_and c.from_residual-in_err-put-2.result c.from_residual-in_err-put-2.ensures.1 in
    rw (p.1, p.2)
    (cause_weaker c.in_err-put-2.field-0.0 (g.P.Pages.faults c.args.pages.now) (g.P.Pages.faults c.put.new.self) (g.P.Pages.faults c.put-2.new.self) (g.P.Pages.faults c.put-2.new.self)
    _ _ _ _ _ _ (let q = c.in_ok-beside.ensures.quiet.faults in let r = c.in_ok-put.ensures.quiet.faults in omega (arith, q, r)) (omega arith)
    (λ at expected found broken tells free frees low full can. let grows = c.in_ok-beside.ensures.grows in let same = c.in_ok-put.ensures.count in let past = broken.1 in omega (arith, low, grows, same, past))
    (λ n no. absurd no) (λ m. m) c.in_err-put-2.ensures.cause)

pub returns-in_err-put-clause-quiet : goal.returns-in_err-put-clause-quiet
returns-in_err-put-clause-quiet g c = quiet_join g.P.Pages g.met.P.Pages.follows_on c.args.pages.now c.take.new.self c.put.new.self c.in_ok-beside.ensures.quiet c.in_err-put.ensures.quiet

pub returns-in_err-put-2-clause-quiet : goal.returns-in_err-put-2-clause-quiet
returns-in_err-put-2-clause-quiet g c =
    quiet_join g.P.Pages g.met.P.Pages.follows_on c.args.pages.now c.put.new.self c.put-2.new.self
    (quiet_join g.P.Pages g.met.P.Pages.follows_on c.args.pages.now c.take.new.self c.put.new.self c.in_ok-beside.ensures.quiet c.in_ok-put.ensures.quiet) c.in_err-put-2.ensures.quiet

pub returns-clause-quiet : goal.returns-clause-quiet
returns-clause-quiet g c =
    quiet_join g.P.Pages g.met.P.Pages.follows_on c.args.pages.now c.put.new.self c.put-2.new.self
    (quiet_join g.P.Pages g.met.P.Pages.follows_on c.args.pages.now c.take.new.self c.put.new.self c.in_ok-beside.ensures.quiet c.in_ok-put.ensures.quiet) c.in_ok-put-2.ensures.quiet

pub returns-clause-parted : goal.returns-clause-parted
unfolding split_parted
returns-clause-parted g c = λ tells free frees outside low.
    let old = c.args.pages.now in
    let new = c.put-2.new.self in
    let beside = c.in_ok-beside.beside in
    let len = c.len-len.ensures in
    let place = c.middle_of-place.result in
    let same : g.P.Pages.count new ≡ g.P.Pages.count c.take.new.self = c.in_ok-put-2.ensures.count ∙ c.in_ok-put.ensures.count in
    let has = takes_at (g.P.Pages.map old) (g.P.Pages.map old) (g.P.Pages.map c.take.new.self) (g.P.Pages.count old) (g.P.Pages.count old)
    (g.P.Pages.count c.take.new.self) (g.P.Pages.count new) beside refl refl (sym same) (c.in_ok-beside.ensures.taken tells) free frees in
    let within : place ≤ length c.args.items.now = (let test = c.if-len-place.false in omega (arith, test, len)) in
    let parted = split_parted g.P.Pages old new c.args.kind c.args.level c.args.least c.args.page c.args.items.now c.requires (g.P.Pages.map c.take.new.self) beside place c.page-2.result.now c.page.result.now
    c.in-Some.left c.in-Some-page_with.right (c.in-Some.ensures.some (omega arith))
    (c.in-Some-page_with.ensures.some (omega (arith, within, len)) ∙ ap (λ (n : ℕ). spelled c.args.kind c.args.level (drop place (take n c.args.items.now))) len)
    c.page-2.ensures.spelled c.page.ensures.spelled c.page-2.ensures.fits c.page.ensures.fits within
    (let test = c.if-place-least.false in omega (arith, test)) (let test = c.if-others-least.false in omega (arith, test, len))
    (c.in_ok-beside.ensures.header tells) (let grows = c.in_ok-beside.ensures.grows in omega (arith, grows, same)) (let below = c.in_ok-beside.ensures.below in omega (arith, below, same))
    (c.in_ok-put-2.ensures.map tells ∙ ap (λ (m : PageMap). with_page m c.args.page c.page-2.result.now) (c.in_ok-put.ensures.map tells)) free has.0 has.1 frees outside low in
    (has.0, parted, sym (length-take-le place c.args.items.now within))
