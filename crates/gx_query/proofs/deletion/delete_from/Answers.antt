use Rattle.std.proofs.Common.{inl, inr, List, Result, Ok, Err, IfOk, None, option_copied, option_map, refl, sym, ◌∙◌, subst, arith}
use Rattle.std.proofs.lemmas.Result.{err_from_is_err_and}
use Rattle.gx_pages.proofs.Footprints.{cause_weaker, quiet_join}
use Rattle.gx_heap.proofs.Finds.{heap_same}
use Rattle.gx_parse.specs.Trees.{tree_of}
use Rattle.gx_value.specs.declared.fields.Column.{Column}
use Rattle.gx_model.specs.Checks.{Find}
use Rattle.gx_model.specs.Conditions.{BindsWhere, where_checks}
use Rattle.gx_engine.specs.Engines.{reply_of}
use Rattle.gx_plan.specs.Bounds.{kinds_of}
use Rattle.gx_query.specs.Answers.{Refused}
use Rattle.gx_query.specs.Seen.{AreSeen}
use Rattle.gx_query.specs.Walks.{condition_of}
use Rattle.gx_query.proofs.Gone.{delete_said, selected_many, rows_rise, are_rows, few_rows, removed}
use Rattle.gx_query.proofs.Looking.{break_cause}
use Rattle.gx_query.proofs.Stored.{are_seen, seen_of}
use Rattle.gx_query.proofs.deletion.delete_from.Goals as goal

ok_map : {T E : Type 0} (r : Result T E) (P Q : T → Type 0) → ((x : T) → P x → Q x) → IfOk r P → IfOk r Q
ok_map (Ok x) P Q more has = more x has
ok_map (Err e) P Q more has = tt

pub returns-in-Err-clause-answers : goal.returns-in-Err-clause-answers
returns-in-Err-clause-answers g c =
    ok_map c.refuse.result _ _
    (λ reply has tells t table. inl (
      subst (λ (cs : List Column). Refused (where_checks cs (option_map tree_of (option_copied c.args.condition))) (reply_of reply)) (c.as_slice-columns.ensures ∙ table.stored.columns)
          (has (where_checks c.as_slice-columns.result.now (option_map tree_of (option_copied c.args.condition))) c.in-Err.ensures.answer),
      refl,
    ))
    c.refuse.ensures.reply

pub returns-in-Err-clause-most : goal.returns-in-Err-clause-most
returns-in-Err-clause-most g c = λ tells t table. inl refl

pub returns-in_err-counts-clause-cause : goal.returns-in_err-counts-clause-cause
returns-in_err-counts-clause-cause g c =
    let p = err_from_is_err_and c.from_residual.result c.from_residual.ensures.1 in
    rw (p.1, p.2)
    (cause_weaker c.in_err-counts.field-0.0 (g.P.Pages.faults c.args.pages.now) (g.P.Pages.faults c.args.pages.now) (g.P.Pages.faults c.walk_rows.new.pages) (g.P.Pages.faults c.walk_rows.new.pages)
    _ _ _ _ _ _ (omega arith) (omega arith)
    (λ at expected found broken tells t table.
    broken tells table.rows table.feet table.free table.held (seen_of table.rows t.rows)
    (subst (λ (cs : List Column). AreSeen (kinds_of cs) table.rows (seen_of table.rows t.rows)) (sym (c.as_slice-columns.ensures ∙ table.stored.columns)) (are_seen t.columns table.rows t.rows table.stored.rows)))
    (λ n none. absurd none) (λ memory. memory) c.in_err-counts.ensures.cause)

pub returns-in_err-counts-clause-most : goal.returns-in_err-counts-clause-most
returns-in_err-counts-clause-most g c = λ tells t table.
    let tree = option_map tree_of (option_copied c.args.condition) in
    let condition = condition_of c.in-Ok.filter in
    let passes = subst (λ (cs : List Column). Find (where_checks cs tree) None × BindsWhere cs tree condition) (c.as_slice-columns.ensures ∙ table.stored.columns) c.in-Ok.ensures.answer in
    let walk = c.walk_rows.ensures.most in
    let next = table.stored.next in
    inr ((passes.0, (condition, passes.1)), omega (arith, walk, next))

pub returns-in_err-rows-clause-cause : goal.returns-in_err-rows-clause-cause
returns-in_err-rows-clause-cause g c =
    let p = err_from_is_err_and c.from_residual-in_err-rows.result c.from_residual-in_err-rows.ensures.1 in
    rw (p.1, p.2)
    (break_cause c.in_err-rows.field-0.0 (g.P.Pages.faults c.args.pages.now) (g.P.Pages.faults c.walk_rows.new.pages) _ _
    (λ broken at expected found tells t table.
    let are = subst (λ (cs : List Column). AreSeen (kinds_of cs) table.rows (seen_of table.rows t.rows)) (sym (c.as_slice-columns.ensures ∙ table.stored.columns)) (are_seen t.columns table.rows t.rows table.stored.rows) in
    let shown = c.in_ok-counts.ensures.shown tells table.rows table.feet table.free table.held (seen_of table.rows t.rows) are in
    broken (rows_rise g.P.Pages c.args.pages.now c.args.info.now t table (condition_of c.in-Ok.filter) c.as_slice-columns.result.now c.in_ok-counts.counts c.new-gathered.result c.walk_rows.new.visitor c.as_slice.result.now c.new-gathered.ensures c.as_slice.ensures shown))
    c.in_err-rows.ensures.cause)

pub returns-in_err-rows-clause-most : goal.returns-in_err-rows-clause-most
returns-in_err-rows-clause-most g c = λ tells t table.
    let tree = option_map tree_of (option_copied c.args.condition) in
    let condition = condition_of c.in-Ok.filter in
    let passes = subst (λ (cs : List Column). Find (where_checks cs tree) None × BindsWhere cs tree condition) (c.as_slice-columns.ensures ∙ table.stored.columns) c.in-Ok.ensures.answer in
    let walk = c.walk_rows.ensures.most in
    let next = table.stored.next in
    inr ((passes.0, (condition, passes.1)), omega (arith, walk, next))

pub returns-in_err-remove-clause-cause : goal.returns-in_err-remove-clause-cause
returns-in_err-remove-clause-cause g c =
    let p = err_from_is_err_and c.from_residual-in_err-remove.result c.from_residual-in_err-remove.ensures.1 in
    rw (p.1, p.2)
    (cause_weaker c.in_err-remove.field-0.0 (g.P.Pages.faults c.args.pages.now) (g.P.Pages.faults c.walk_rows.new.pages) (g.P.Pages.faults c.remove.new.pages) (g.P.Pages.faults c.remove.new.pages)
    _ _ _ _ _ _ (let q = c.in_ok-counts.ensures.quiet.faults in omega (arith, q)) (omega arith)
    (λ at expected found broken tells t table.
    let are = subst (λ (cs : List Column). AreSeen (kinds_of cs) table.rows (seen_of table.rows t.rows)) (sym (c.as_slice-columns.ensures ∙ table.stored.columns)) (are_seen t.columns table.rows t.rows table.stored.rows) in
    let shown = c.in_ok-counts.ensures.shown tells table.rows table.feet table.free table.held (seen_of table.rows t.rows) are in
    let mid = heap_same g.P.Pages c.args.pages.now c.walk_rows.new.pages c.args.info.now.heap table.rows table.feet table.free c.in_ok-counts.ensures.map c.in_ok-counts.ensures.count table.held in
    broken tells table.rows table.feet table.free mid (are_rows g.P.Pages c.args.pages.now c.args.info.now t table (condition_of c.in-Ok.filter) c.as_slice-columns.result.now c.in_ok-counts.counts c.new-gathered.result c.walk_rows.new.visitor c.in_ok-rows.rows c.new-gathered.ensures (c.in_ok-rows.ensures.same ∙ c.as_slice.ensures) shown))
    (λ n none. absurd none) (λ memory. memory) c.in_err-remove.ensures.cause)

pub returns-in_err-remove-clause-most : goal.returns-in_err-remove-clause-most
returns-in_err-remove-clause-most g c = λ tells t table.
    let are = subst (λ (cs : List Column). AreSeen (kinds_of cs) table.rows (seen_of table.rows t.rows)) (sym (c.as_slice-columns.ensures ∙ table.stored.columns)) (are_seen t.columns table.rows t.rows table.stored.rows) in
    let shown = c.in_ok-counts.ensures.shown tells table.rows table.feet table.free table.held (seen_of table.rows t.rows) are in
    let tree = option_map tree_of (option_copied c.args.condition) in
    let condition = condition_of c.in-Ok.filter in
    let passes = subst (λ (cs : List Column). Find (where_checks cs tree) None × BindsWhere cs tree condition) (c.as_slice-columns.ensures ∙ table.stored.columns) c.in-Ok.ensures.answer in
    let walk = c.walk_rows.ensures.most in
    let more = c.remove.ensures.most in
    let few = few_rows g.P.Pages c.args.pages.now c.args.info.now t table (condition_of c.in-Ok.filter) c.as_slice-columns.result.now c.in_ok-counts.counts c.new-gathered.result c.walk_rows.new.visitor c.in_ok-rows.rows c.new-gathered.ensures (c.in_ok-rows.ensures.same ∙ c.as_slice.ensures) shown in
    let next = table.stored.next in
    inr ((passes.0, (condition, passes.1)), omega (arith, walk, more, few, next))

pub returns-in_err-remove-clause-quiet : goal.returns-in_err-remove-clause-quiet
returns-in_err-remove-clause-quiet g c =
    quiet_join g.P.Pages g.met.P.Pages.follows_on c.args.pages.now c.walk_rows.new.pages c.remove.new.pages c.in_ok-counts.ensures.quiet c.in_err-remove.ensures.quiet

pub returns-clause-answers : goal.returns-clause-answers
returns-clause-answers g c =
    ok_map c.counted.result _ _
    (λ reply is tells t table.
    let are = subst (λ (cs : List Column). AreSeen (kinds_of cs) table.rows (seen_of table.rows t.rows)) (sym (c.as_slice-columns.ensures ∙ table.stored.columns)) (are_seen t.columns table.rows t.rows table.stored.rows) in
    let shown = c.in_ok-counts.ensures.shown tells table.rows table.feet table.free table.held (seen_of table.rows t.rows) are in
    let tree = option_map tree_of (option_copied c.args.condition) in
    let condition = condition_of c.in-Ok.filter in
    let passes = subst (λ (cs : List Column). Find (where_checks cs tree) None × BindsWhere cs tree condition) (c.as_slice-columns.ensures ∙ table.stored.columns) c.in-Ok.ensures.answer in
    let mid = heap_same g.P.Pages c.args.pages.now c.walk_rows.new.pages c.args.info.now.heap table.rows table.feet table.free c.in_ok-counts.ensures.map c.in_ok-counts.ensures.count table.held in
    let has = c.in_ok-remove.ensures.removed tells table.rows table.feet table.free mid (are_rows g.P.Pages c.args.pages.now c.args.info.now t table (condition_of c.in-Ok.filter) c.as_slice-columns.result.now c.in_ok-counts.counts c.new-gathered.result c.walk_rows.new.visitor c.in_ok-rows.rows c.new-gathered.ensures (c.in_ok-rows.ensures.same ∙ c.as_slice.ensures) shown) in
    inr (
      passes.0,
      (
        condition,
        passes.1,
        removed g.P.Pages c.args.pages.now c.args.info.now t table (condition_of c.in-Ok.filter) c.as_slice-columns.result.now c.in_ok-counts.counts c.new-gathered.result c.walk_rows.new.visitor c.in_ok-rows.rows c.new-gathered.ensures (c.in_ok-rows.ensures.same ∙ c.as_slice.ensures) shown c.walk_rows.new.pages c.remove.new.pages c.remove.new.self
            c.in_ok-remove.ensures.heap c.in_ok-counts.ensures.map c.in_ok-counts.ensures.count has,
        is ∙ delete_said t condition c.new.result c.in_ok-counts.counts.selected c.new.ensures (selected_many g.P.Pages c.args.pages.now c.args.info.now t table (condition_of c.in-Ok.filter) c.as_slice-columns.result.now c.in_ok-counts.counts c.new-gathered.result c.walk_rows.new.visitor c.in_ok-rows.rows c.new-gathered.ensures (c.in_ok-rows.ensures.same ∙ c.as_slice.ensures) shown),
      ),
    ))
    c.counted.ensures.reply

pub returns-clause-most : goal.returns-clause-most
returns-clause-most g c = λ tells t table.
    let are = subst (λ (cs : List Column). AreSeen (kinds_of cs) table.rows (seen_of table.rows t.rows)) (sym (c.as_slice-columns.ensures ∙ table.stored.columns)) (are_seen t.columns table.rows t.rows table.stored.rows) in
    let shown = c.in_ok-counts.ensures.shown tells table.rows table.feet table.free table.held (seen_of table.rows t.rows) are in
    let tree = option_map tree_of (option_copied c.args.condition) in
    let condition = condition_of c.in-Ok.filter in
    let passes = subst (λ (cs : List Column). Find (where_checks cs tree) None × BindsWhere cs tree condition) (c.as_slice-columns.ensures ∙ table.stored.columns) c.in-Ok.ensures.answer in
    let walk = c.walk_rows.ensures.most in
    let more = c.remove.ensures.most in
    let few = few_rows g.P.Pages c.args.pages.now c.args.info.now t table (condition_of c.in-Ok.filter) c.as_slice-columns.result.now c.in_ok-counts.counts c.new-gathered.result c.walk_rows.new.visitor c.in_ok-rows.rows c.new-gathered.ensures (c.in_ok-rows.ensures.same ∙ c.as_slice.ensures) shown in
    let next = table.stored.next in
    inr ((passes.0, (condition, passes.1)), omega (arith, walk, more, few, next))

pub returns-clause-quiet : goal.returns-clause-quiet
returns-clause-quiet g c =
    quiet_join g.P.Pages g.met.P.Pages.follows_on c.args.pages.now c.walk_rows.new.pages c.remove.new.pages c.in_ok-counts.ensures.quiet c.in_ok-remove.ensures.quiet
