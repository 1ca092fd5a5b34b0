use Rattle.std.proofs.Common.{refl, sym, ◌∙◌, arith}
use Rattle.std.proofs.lemmas.Result.{err_from_is_err_and}
use Rattle.gx_pages.proofs.Footprints.{cause_weaker, quiet_join, starts_sound, takes_at}
use Rattle.gx_gist_tree.proofs.PutPages.{page_first}
use Rattle.gx_gist_tree.proofs.putting.put_both.Goals as goal

pub returns-in_err-taken-clause-cause : goal.returns-in_err-taken-clause-cause
returns-in_err-taken-clause-cause g c =
    let old = c.args.pages.now in
    let p = err_from_is_err_and c.from_residual.result c.from_residual.ensures.1 in
    rw (p.1, p.2)
    (cause_weaker c.in_err-taken.field-0.0 (g.P.Pages.faults old) (g.P.Pages.faults old) (g.P.Pages.faults c.take.new.self) (g.P.Pages.faults c.take.new.self) _ _ _ _ _ _ (omega arith) (omega arith)
    (λ at expected found broken tells free list. starts_sound (g.P.Pages.map old) (g.P.Pages.count old) free (broken tells) list) (λ n has. has) (λ has. has) c.in_err-taken.ensures.cause)

pub returns-in_err-put-clause-cause : goal.returns-in_err-put-clause-cause
returns-in_err-put-clause-cause g c =
    let old = c.args.pages.now in
    let p = err_from_is_err_and c.from_residual-in_err-put.result c.from_residual-in_err-put.ensures.1 in
    rw (p.1, p.2)
    (cause_weaker c.in_err-put.field-0.0 (g.P.Pages.faults old) (g.P.Pages.faults c.take.new.self) (g.P.Pages.faults c.put.new.self) (g.P.Pages.faults c.put.new.self) _ _ _ _ _ _
    (let q = c.in_ok-taken.ensures.quiet.faults in omega (arith, q)) (omega arith)
    (λ at expected found broken. absurd (let low = c.requires.below in let grows = c.in_ok-taken.ensures.grows in let high = broken.1 in omega (arith, low, grows, high))) (λ n no. absurd no) (λ has. has) c.in_err-put.ensures.cause)

pub returns-in_err-put-2-clause-cause : goal.returns-in_err-put-2-clause-cause
returns-in_err-put-2-clause-cause g c =
    let old = c.args.pages.now in
    let p = err_from_is_err_and c.from_residual-in_err-put-2.result c.from_residual-in_err-put-2.ensures.1 in
    rw (p.1, p.2)
    (cause_weaker c.in_err-put-2.field-0.0 (g.P.Pages.faults old) (g.P.Pages.faults c.put.new.self) (g.P.Pages.faults c.put-2.new.self) (g.P.Pages.faults c.put-2.new.self) _ _ _ _ _ _
    (let q = c.in_ok-taken.ensures.quiet.faults in let r = c.in_ok-put.ensures.quiet.faults in omega (arith, q, r)) (omega arith)
    (λ at expected found broken. absurd (let low = c.in_ok-taken.ensures.below in let same = c.in_ok-put.ensures.count in let high = broken.1 in omega (arith, low, same, high))) (λ n no. absurd no) (λ has. has) c.in_err-put-2.ensures.cause)

pub returns-clause-put : goal.returns-clause-put
returns-clause-put g c = λ tells free list out.
    let old = c.args.pages.now in
    let new = c.put-2.new.self in
    let mid = g.P.Pages.map c.take.new.self in
    let count = c.in_ok-put-2.ensures.count ∙ c.in_ok-put.ensures.count in
    let has = takes_at (g.P.Pages.map old) (g.P.Pages.map old) mid (g.P.Pages.count old) (g.P.Pages.count old) (g.P.Pages.count c.take.new.self) (g.P.Pages.count new) c.in_ok-taken.taken refl refl (sym count)
    (c.in_ok-taken.ensures.taken tells) free list in
    page_first g.P.Pages old new mid (g.P.Pages.map c.put.new.self) c.args.page c.in_ok-taken.taken free list has.0 has.1 (c.in_ok-taken.ensures.header tells)
    (let grows = c.in_ok-taken.ensures.grows in omega (arith, grows, count)) c.requires.below c.requires.nonzero out c.page.result.now c.page-2.result.now c.args.slots.now c.args.other.now
    c.page.ensures.spelled c.page.ensures.fits c.page-2.ensures.spelled c.page-2.ensures.fits (c.in_ok-put.ensures.map tells) (c.in_ok-put-2.ensures.map tells)

pub returns-in_err-put-clause-quiet : goal.returns-in_err-put-clause-quiet
returns-in_err-put-clause-quiet g c = quiet_join g.P.Pages g.met.P.Pages.follows_on c.args.pages.now c.take.new.self c.put.new.self c.take.ensures.quiet c.put.ensures.quiet

pub returns-in_err-put-2-clause-quiet : goal.returns-in_err-put-2-clause-quiet
returns-in_err-put-2-clause-quiet g c = quiet_join g.P.Pages g.met.P.Pages.follows_on c.args.pages.now c.put.new.self c.put-2.new.self (quiet_join g.P.Pages g.met.P.Pages.follows_on c.args.pages.now c.take.new.self c.put.new.self c.take.ensures.quiet c.put.ensures.quiet) c.put-2.ensures.quiet

pub returns-clause-quiet : goal.returns-clause-quiet
returns-clause-quiet g c = quiet_join g.P.Pages g.met.P.Pages.follows_on c.args.pages.now c.put.new.self c.put-2.new.self (quiet_join g.P.Pages g.met.P.Pages.follows_on c.args.pages.now c.take.new.self c.put.new.self c.take.ensures.quiet c.put.ensures.quiet) c.put-2.ensures.quiet
