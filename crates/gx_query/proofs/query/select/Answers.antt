use Rattle.std.proofs.Common.{sym, ◌∙◌, arith}
use Rattle.std.proofs.lemmas.Result.{err_from_is_err_and}
use Rattle.gx_pages.proofs.Footprints.{cause_weaker, quiet_join}
use Rattle.gx_parse.specs.Said.{query_of}
use Rattle.gx_engine.specs.Engines.{reply_of}
use Rattle.gx_query.proofs.Found.{columns_differ, err_map, ok_map, select_done, select_lacks, select_most, table_found, table_missing}
use Rattle.gx_query.proofs.query.select.Goals as goal

pub returns-in_err-catalog-clause-cause : goal.returns-in_err-catalog-clause-cause
returns-in_err-catalog-clause-cause g c =
    let p = err_from_is_err_and c.from_residual.result c.from_residual.ensures.1 in
    rw (p.1, p.2)
    (cause_weaker c.in_err-catalog.field-0.0 (g.P.Pages.faults c.args.pages.now) (g.P.Pages.faults c.args.pages.now) (g.P.Pages.faults c.load.new.pages) (g.P.Pages.faults c.load.new.pages)
    _ _ _ _ _ _ (omega arith) (omega arith)
    (λ at expected found broken. broken)
    (λ n no. absurd no) (λ memory. tt) c.in_err-catalog.ensures.cause)

pub returns-in_default-clause-done : goal.returns-in_default-clause-done
returns-in_default-clause-done g c =
    ok_map c.refused.result _ _
    (λ reply is tells db s.
    select_lacks g.P.Pages c.args.pages.now c.load.new.pages db (query_of c.args.query.now) s
    (table_missing g.P.Pages c.args.pages.now c.load.new.pages db s (g.met.P.Pages.counted c.args.pages.now tells) (g.met.P.Pages.bounded c.args.pages.now) c.in_ok-catalog.catalog (c.in_ok-catalog.ensures.held tells)
    c.args.query.now.table c.as_slice.result.now c.as_slice.ensures c.tables_are_found.ensures.none c.in_default.ensures)
    c.in_ok-catalog.ensures.map c.in_ok-catalog.ensures.count (reply_of reply) is)
    c.refused.ensures.reply

pub select_from-requires-clause-literals : goal.select_from-requires-clause-literals
select_from-requires-clause-literals g c = c.requires.literals

pub select_from-requires-clause-columns : goal.select_from-requires-clause-columns
select_from-requires-clause-columns g c = columns_differ c.as_slice.result.now c.in_ok-catalog.catalog.tables c.in_ok-catalog.catalog.indexes c.in-Some.info.now c.in_ok-catalog.ensures.valid (sym c.in-Some.ensures)

pub returns-clause-done : goal.returns-clause-done
returns-clause-done g c =
    ok_map c.select_from.result _ _
    (λ reply answers tells db s.
    let f = table_found g.P.Pages c.args.pages.now c.load.new.pages db s (g.met.P.Pages.counted c.args.pages.now tells) (g.met.P.Pages.bounded c.args.pages.now) c.in_ok-catalog.catalog (c.in_ok-catalog.ensures.held tells)
    c.args.query.now.table c.as_slice.result.now c.as_slice.ensures c.tables_are_found.ensures.some c.in_ok-catalog.ensures.map c.in_ok-catalog.ensures.count c.in-Some.info.now c.in-Some.ensures in
    select_done g.P.Pages c.args.pages.now c.load.new.pages c.select_from.new.pages db (query_of c.args.query.now) c.in-Some.info.now s f (c.select_from.ensures.map ∙ c.in_ok-catalog.ensures.map)
    (c.select_from.ensures.count ∙ c.in_ok-catalog.ensures.count) (reply_of reply) (answers tells f.table f.held))
    c.select_from.ensures.answers

pub returns-clause-ordinary : goal.returns-clause-ordinary
returns-clause-ordinary g c = c.select_from.ensures.ordinary

pub returns-clause-cause : goal.returns-clause-cause
returns-clause-cause g c =
    err_map c.select_from.result _ _
    (λ e has. cause_weaker e (g.P.Pages.faults c.args.pages.now) (g.P.Pages.faults c.load.new.pages) (g.P.Pages.faults c.select_from.new.pages) (g.P.Pages.faults c.select_from.new.pages)
    _ _ _ _ _ _ (let q = c.in_ok-catalog.ensures.quiet.faults in omega (arith, q)) (omega arith)
    (λ at expected found broken tells db s.
    let f = table_found g.P.Pages c.args.pages.now c.load.new.pages db s (g.met.P.Pages.counted c.args.pages.now tells) (g.met.P.Pages.bounded c.args.pages.now) c.in_ok-catalog.catalog (c.in_ok-catalog.ensures.held tells)
    c.args.query.now.table c.as_slice.result.now c.as_slice.ensures c.tables_are_found.ensures.some c.in_ok-catalog.ensures.map c.in_ok-catalog.ensures.count c.in-Some.info.now c.in-Some.ensures in
    broken tells f.table f.held)
    (λ n no. absurd no) (λ memory. tt) has)
    c.select_from.ensures.cause

pub returns-clause-least : goal.returns-clause-least
returns-clause-least g c = λ sound. let h = c.in_ok-catalog.ensures.heap in let t = c.select_from.ensures.ticks in omega (arith, h, t)

pub returns-clause-most : goal.returns-clause-most
returns-clause-most g c = λ tells db s n cost.
    let f = table_found g.P.Pages c.args.pages.now c.load.new.pages db s (g.met.P.Pages.counted c.args.pages.now tells) (g.met.P.Pages.bounded c.args.pages.now) c.in_ok-catalog.catalog (c.in_ok-catalog.ensures.held tells)
    c.args.query.now.table c.as_slice.result.now c.as_slice.ensures c.tables_are_found.ensures.some c.in_ok-catalog.ensures.map c.in_ok-catalog.ensures.count c.in-Some.info.now c.in-Some.ensures in
    select_most g.P.Pages c.args.pages.now c.load.new.pages c.select_from.new.pages db (query_of c.args.query.now) c.in-Some.info.now s f c.one_turn.ensures.step c.args.steps.now c.select_from.new.steps n c.select_from.ensures.most cost

pub returns-clause-quiet : goal.returns-clause-quiet
returns-clause-quiet g c = quiet_join g.P.Pages g.met.P.Pages.follows_on c.args.pages.now c.load.new.pages c.select_from.new.pages c.in_ok-catalog.ensures.quiet c.select_from.ensures.quiet
