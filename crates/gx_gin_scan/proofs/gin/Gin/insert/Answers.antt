use Rattle.std.proofs.Common.{ℕ, List, ap, arith}
use Rattle.std.proofs.lemmas.Result.{IfErr-weaker, on_ok_weaker}
use Rattle.gx_pages.proofs.Footprints.{cause_weaker}
use Rattle.gx_gin_scan.specs.Lists.{keys_of}
use Rattle.gx_gin_scan.proofs.Inserts.{index_behind, index_more}
use Rattle.gx_gin_scan.proofs.gin.Gin.insert.Goals as goal

pub returns-clause-inserted : goal.returns-clause-inserted
returns-clause-inserted g c =
    let items_of = g.C.GinClass.items_of c.args.self.now.class in
    on_ok_weaker c.put_keys.result (λ is tells lists feet free gin all index below.
    let done = is tells lists feet free gin (index_behind items_of lists all c.args.row index below) in (
      done.0,
      done.1,
      done.2,
      done.3,
      done.4,
      index_more items_of g.P.Pages c.put_keys.new.pages c.args.self.now.root lists done.0 done.1 done.2 all c.args.row c.args.value.now (keys_of c.in-Ok.items) (ap (λ (l : List (List ℕ)). keys_of l) c.in-Ok.ensures) index below done.3 done.5,
    ))
    c.put_keys.ensures.put

pub returns-clause-cause : goal.returns-clause-cause
returns-clause-cause g c =
    let old = c.args.pages.now in
    let new = c.put_keys.new.pages in
    let items_of = g.C.GinClass.items_of c.args.self.now.class in
    IfErr-weaker c.put_keys.result _ _ (λ error has.
    cause_weaker error (g.P.Pages.faults old) (g.P.Pages.faults old) (g.P.Pages.faults new) (g.P.Pages.faults new)
    _ _ _ _ _ _ (omega arith) (omega arith) (λ at expected found refused tells lists feet free gin all index below. refused tells lists feet free gin (index_behind items_of lists all c.args.row index below)) (λ n space. space) (λ m. m) has)
    c.put_keys.ensures.cause
