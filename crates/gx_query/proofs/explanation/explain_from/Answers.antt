use Rattle.std.proofs.Common.{◌≡◌, inl, inr, false, List, length, Result, Ok, Err, IfOk, None, option_copied, option_map, sym, ◌∙◌, ap, subst, arith}
use Rattle.std.proofs.lemmas.Grind.{common_steps}
use Rattle.std.proofs.lemmas.Result.{err_from_is_err_and}
use Rattle.gx_pages.proofs.Footprints.{cause_weaker}
use Rattle.gx_parse.specs.Said.{query_of}
use Rattle.gx_value.specs.declared.fields.Column.{Column}
use Rattle.gx_model.specs.Checks.{Find}
use Rattle.gx_model.specs.Conditions.{BindsWhere}
use Rattle.gx_engine.specs.Engines.{reply_of}
use Rattle.gx_catalog.specs.declared.info.IndexInfo.{IndexInfo}
use Rattle.gx_plan.specs.Bounds.{bound_of, kinds_of}
use Rattle.gx_plan.specs.Plans.{is_table}
use Rattle.gx_query.specs.Answers.{Refused, checks_of, explained_reply}
use Rattle.gx_query.specs.Seen.{AreSeen}
use Rattle.gx_query.specs.Walks.{condition_of}
use Rattle.gx_query.proofs.Planned.{has_index, some_indexes, whole_text}
use Rattle.gx_query.proofs.Stored.{are_seen, chosen, picked_many, seen_many, seen_of}
use Rattle.gx_query.proofs.explanation.explain_from.Goals as goal

ok_map : {T E : Type 0} (r : Result T E) (P Q : T → Type 0) → ((x : T) → P x → Q x) → IfOk r P → IfOk r Q
ok_map (Ok x) P Q more has = more x has
ok_map (Err e) P Q more has = tt

pub returns-in-Err-clause-answers : goal.returns-in-Err-clause-answers
returns-in-Err-clause-answers g c =
    ok_map c.refuse.result _ _
    (λ reply has tells bare t table. inl
    (subst (λ (cs : List Column). Refused (checks_of cs (query_of c.args.query.now)) (reply_of reply)) (c.as_slice-columns.ensures ∙ table.stored.columns)
    (has (checks_of c.as_slice-columns.result.now (query_of c.args.query.now)) c.in-Err.ensures.answer)))
    c.refuse.ensures.reply

pub returns-in_err-counts-clause-cause : goal.returns-in_err-counts-clause-cause
returns-in_err-counts-clause-cause g c =
    let p = err_from_is_err_and c.from_residual-in_err-counts.result c.from_residual-in_err-counts.ensures.1 in
    rw (p.1, p.2)
    (cause_weaker c.in_err-counts.field-0.0 (g.P.Pages.faults c.args.pages.now) (g.P.Pages.faults c.args.pages.now) (g.P.Pages.faults c.walk_rows.new.pages) (g.P.Pages.faults c.walk_rows.new.pages)
    _ _ _ _ _ _ (omega arith) (omega arith)
    (λ at expected found broken tells bare t table.
    broken tells table.rows table.feet table.free table.held (seen_of table.rows t.rows)
    (subst (λ (cs : List Column). AreSeen (kinds_of cs) table.rows (seen_of table.rows t.rows)) (sym (c.as_slice-columns.ensures ∙ table.stored.columns)) (are_seen t.columns table.rows t.rows table.stored.rows)))
    (λ n none. absurd none) (λ memory. memory) c.in_err-counts.ensures.cause)

pub returns-clause-answers : goal.returns-clause-answers
returns-clause-answers g c =
    ok_map c.explained.result _ _
    (λ reply is tells bare t table.
    let same = c.as_slice-columns.ensures ∙ table.stored.columns in
    let q = query_of c.args.query.now in
    let condition = condition_of c.in-Ok.target.filter in
    let text = whole_text c.args.catalog.now c.args.info.now.number (option_map bound_of (option_copied c.as_ref.result)) c.in_ok-plan.plan bare c.in_ok-plan.ensures.chosen in
    let passes = subst (λ (cs : List Column). Find (checks_of cs q) None × BindsWhere cs q.condition condition) same c.in-Ok.ensures.answer in
    let are = subst (λ (cs : List Column). AreSeen (kinds_of cs) table.rows (seen_of table.rows t.rows)) (sym same) (are_seen t.columns table.rows t.rows table.stored.rows) in
    let shown = c.in_ok-counts.ensures.shown tells table.rows table.feet table.free table.held (seen_of table.rows t.rows) are in
    let rows : c.in_ok-counts.counts.rows ≡ length t.rows = (let here = shown.rows in let many = seen_many t.columns condition table.rows t.rows table.stored.rows in omega (arith, here, many)) in
    let selected : c.in_ok-counts.counts.selected ≡ length (chosen condition t.rows) = (let here = shown.selected in let many = picked_many t.columns condition table.rows t.rows table.stored.rows in omega (arith, here, many)) in
    inr (
      passes.0,
      (
        condition,
        passes.1,
        is ∙ (λ i. explained_reply (text i) (rows i) (selected i)),
      ),
    ))
    c.explained.ensures.reply

pub returns-then-not-is_table-clause-cause : goal.returns-then-not-is_table-clause-cause
returns-then-not-is_table-clause-cause g c =
    let catalog = c.args.catalog.now in
    let condition = option_map bound_of (option_copied c.as_ref.result) in
    let chosen = c.in_ok-plan.ensures.chosen in
    let test = c.if-not-is_table.true in
    let is = c.is_table.ensures in
    let other : is_table c.in_ok-plan.plan ≡ false = first_of (cc, grind (arith, common_steps, test, is)) in (
      λ same. some_indexes catalog c.args.info.now.number condition c.in_ok-plan.plan other chosen (same ∙ ap (λ (l : List IndexInfo). length l) c.indexes.ensures.value),
      λ tells bare t table. has_index catalog c.args.info.now.number condition c.in_ok-plan.plan other chosen bare,
    )
