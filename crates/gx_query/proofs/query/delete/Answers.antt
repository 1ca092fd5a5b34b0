use Rattle.std.proofs.Common.{arith, refl}
use Rattle.std.specs.Prelude.{option_copied, option_map}
use Rattle.std.proofs.lemmas.Result.{err_from_is_err_and}
use Rattle.gx_pages.proofs.Footprints.{cause_weaker, quiet_join}
use Rattle.gx_parse.specs.Trees.{tree_of}
use Rattle.gx_engine.specs.Engines.{reply_of}
use Rattle.gx_query.proofs.Deleted.{delete_done, delete_lacks, delete_most, placed}
use Rattle.gx_query.proofs.Found.{err_map, ok_map, table_found, table_missing}
use Rattle.gx_query.proofs.query.delete.Goals as goal

pub returns-in_err-catalog-clause-cause : goal.returns-in_err-catalog-clause-cause
returns-in_err-catalog-clause-cause g c =
    let p = err_from_is_err_and c.from_residual.result c.from_residual.ensures.1 in
    rw (p.1, p.2)
    (cause_weaker c.in_err-catalog.field-0.0 (g.P.Pages.faults c.args.pages.now) (g.P.Pages.faults c.args.pages.now) (g.P.Pages.faults c.load.new.pages) (g.P.Pages.faults c.load.new.pages)
    _ _ _ _ _ _ (omega arith) (omega arith)
    (λ at expected found broken. broken)
    (λ n no. absurd no) (λ memory. tt) c.in_err-catalog.ensures.cause)

pub returns-in_default-clause-done : goal.returns-in_default-clause-done
returns-in_default-clause-done g c =
    ok_map c.refused.result _ _
    (λ reply is tells db s.
    delete_lacks g.P.Pages c.args.pages.now c.load.new.pages db c.args.table.now (option_map tree_of (option_copied c.args.condition)) s
    (table_missing g.P.Pages c.args.pages.now c.load.new.pages db s (g.met.P.Pages.counted c.args.pages.now tells) (g.met.P.Pages.bounded c.args.pages.now) c.in_ok-catalog.catalog (c.in_ok-catalog.ensures.held tells)
    c.args.table.now c.args.table.now refl c.tables_are_found.ensures.none c.in_default.ensures)
    c.in_ok-catalog.ensures.map c.in_ok-catalog.ensures.count (reply_of reply) is)
    c.refused.ensures.reply

pub delete_from-requires : goal.delete_from-requires
delete_from-requires g c = record { literals = c.requires.literals }

pub returns-clause-done : goal.returns-clause-done
returns-clause-done g c =
    ok_map c.delete_from.result _ _
    (λ reply answers tells db s.
    let at = placed g.P.Pages c.args.pages.now c.load.new.pages db s (g.met.P.Pages.counted c.args.pages.now tells) (g.met.P.Pages.bounded c.args.pages.now) c.in_ok-catalog.catalog (c.in_ok-catalog.ensures.held tells)
    c.args.table.now c.args.table.now refl c.tables_are_found.ensures.some c.in-Some.info.now c.in-Some.ensures in
    delete_done g.P.Pages c.args.pages.now c.load.new.pages c.delete_from.new.pages db s c.in_ok-catalog.ensures.map c.in_ok-catalog.ensures.count
    (g.met.P.Pages.counted c.load.new.pages tells) (g.met.P.Pages.bounded c.load.new.pages) c.args.table.now (option_map tree_of (option_copied c.args.condition))
    c.in-Some.info.now at.table at.named at.place at.is_info c.delete_from.ensures.count (g.met.P.Pages.counted c.delete_from.new.pages tells) (g.met.P.Pages.ends c.delete_from.new.pages tells)
    c.stays_valid.ensures.sound c.requires (reply_of reply) (answers tells))
    c.delete_from.ensures.answers

pub returns-clause-ordinary : goal.returns-clause-ordinary
returns-clause-ordinary g c = c.delete_from.ensures.ordinary

pub returns-clause-cause : goal.returns-clause-cause
returns-clause-cause g c =
    err_map c.delete_from.result _ _
    (λ e has. cause_weaker e (g.P.Pages.faults c.args.pages.now) (g.P.Pages.faults c.load.new.pages) (g.P.Pages.faults c.delete_from.new.pages) (g.P.Pages.faults c.delete_from.new.pages)
    _ _ _ _ _ _ (let q = c.in_ok-catalog.ensures.quiet.faults in omega (arith, q)) (omega arith)
    (λ at expected found broken tells db s.
    let f = table_found g.P.Pages c.args.pages.now c.load.new.pages db s (g.met.P.Pages.counted c.args.pages.now tells) (g.met.P.Pages.bounded c.args.pages.now) c.in_ok-catalog.catalog (c.in_ok-catalog.ensures.held tells)
    c.args.table.now c.args.table.now refl c.tables_are_found.ensures.some c.in_ok-catalog.ensures.map c.in_ok-catalog.ensures.count c.in-Some.info.now c.in-Some.ensures in
    broken tells f.table f.held)
    (λ n no. absurd no) (λ memory. tt) has)
    c.delete_from.ensures.cause

pub returns-clause-least : goal.returns-clause-least
returns-clause-least g c = λ sound. let h = c.in_ok-catalog.ensures.heap in let t = c.delete_from.ensures.ticks in omega (arith, h, t)

pub returns-clause-most : goal.returns-clause-most
returns-clause-most g c = λ tells db s n cost.
    let at = placed g.P.Pages c.args.pages.now c.load.new.pages db s (g.met.P.Pages.counted c.args.pages.now tells) (g.met.P.Pages.bounded c.args.pages.now) c.in_ok-catalog.catalog (c.in_ok-catalog.ensures.held tells)
    c.args.table.now c.args.table.now refl c.tables_are_found.ensures.some c.in-Some.info.now c.in-Some.ensures in
    delete_most g.P.Pages c.args.pages.now c.load.new.pages c.delete_from.new.pages db s c.in_ok-catalog.ensures.map c.in_ok-catalog.ensures.count
    (g.met.P.Pages.counted c.load.new.pages tells) (g.met.P.Pages.bounded c.load.new.pages) c.args.table.now (option_map tree_of (option_copied c.args.condition))
    c.in-Some.info.now at.table at.named at.place at.is_info c.delete_from.ensures.count (g.met.P.Pages.counted c.delete_from.new.pages tells) (g.met.P.Pages.ends c.delete_from.new.pages tells)
    c.stays_valid.ensures.sound c.requires c.one_turn.ensures.step c.args.steps.now c.delete_from.new.steps n (c.delete_from.ensures.most tells) cost

pub returns-clause-quiet : goal.returns-clause-quiet
returns-clause-quiet g c = quiet_join g.P.Pages g.met.P.Pages.follows_on c.args.pages.now c.load.new.pages c.delete_from.new.pages c.in_ok-catalog.ensures.quiet c.delete_from.ensures.quiet
