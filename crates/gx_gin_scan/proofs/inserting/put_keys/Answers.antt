use Rattle.std.proofs.Common.{◌∙◌, ◌∷◌, [], ℕ, List, sym, subst, arith}
use Rattle.std.proofs.lemmas.Result.{IfErr-weaker, on_ok_weaker}
use Rattle.gx_pages.proofs.Footprints.{cause_weaker}
use Rattle.gx_gin_scan.specs.Lists.{Grows}
use Rattle.gx_gin_scan.proofs.Inserts.{no_keys, some_keys}
use Rattle.gx_gin_scan.proofs.inserting.put_keys.Goals as goal

pub returns-then-len-eq0-clause-put : goal.returns-then-len-eq0-clause-put
returns-then-len-eq0-clause-put g c =
    on_ok_weaker c.put_row.result (λ is tells lists feet free gin behind.
    let done = is tells lists feet free gin (behind (0 ∷ [])) in
    let keys = no_keys c.args.items.now (sym c.len.ensures.value ∙ c.if-len-eq0.true) in
    (done.0, done.1, done.2, done.3, done.4, subst (λ (l : List (List ℕ)). Grows l c.args.row lists done.0) (sym keys) done.5))
    c.put_row.ensures.put

pub returns-then-len-eq0-clause-cause : goal.returns-then-len-eq0-clause-cause
returns-then-len-eq0-clause-cause g c =
    let old = c.args.pages.now in
    let new = c.put_row.new.pages in
    IfErr-weaker c.put_row.result _ _ (λ error has.
    cause_weaker error (g.P.Pages.faults old) (g.P.Pages.faults old) (g.P.Pages.faults new) (g.P.Pages.faults new)
    _ _ _ _ _ _ (omega arith) (omega arith) (λ at expected found refused tells lists feet free gin behind. refused tells lists feet free gin (behind (0 ∷ []))) (λ n space. space) (λ m. m) has)
    c.put_row.ensures.cause

pub returns-clause-put : goal.returns-clause-put
returns-clause-put g c =
    let some = c.if-len-eq0.false in
    let size = c.len.ensures.value in
    on_ok_weaker c.put_items.result (λ is tells lists feet free gin behind.
    let done = is tells lists feet free gin behind in
    (done.0, done.1, done.2, done.3, done.4, subst (λ (l : List (List ℕ)). Grows l c.args.row lists done.0) (some_keys c.args.items.now (omega (arith, some, size))) done.5))
    c.put_items.ensures.put
