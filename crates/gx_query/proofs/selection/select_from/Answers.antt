use Rattle.std.proofs.Common.{inl, inr, List, Result, Ok, Err, IfOk, None, sym, ◌∙◌, subst, arith}
use Rattle.std.proofs.lemmas.Result.{err_from_is_err_and}
use Rattle.gx_pages.proofs.Footprints.{cause_weaker}
use Rattle.gx_parse.specs.Said.{query_of}
use Rattle.gx_value.specs.declared.fields.Column.{Column}
use Rattle.gx_model.specs.Checks.{Find}
use Rattle.gx_model.specs.Conditions.{BindsWhere}
use Rattle.gx_engine.specs.Engines.{reply_of}
use Rattle.gx_plan.specs.Bounds.{kinds_of}
use Rattle.gx_query.specs.Answers.{Refused, checks_of, select_reply}
use Rattle.gx_query.specs.Seen.{AreSeen}
use Rattle.gx_query.specs.Walks.{condition_of}
use Rattle.gx_query.proofs.Stored.{are_seen, seen_of, select_said}
use Rattle.gx_query.proofs.selection.select_from.Goals as goal

ok_map : {T E : Type 0} (r : Result T E) (P Q : T → Type 0) → ((x : T) → P x → Q x) → IfOk r P → IfOk r Q
ok_map (Ok x) P Q more has = more x has
ok_map (Err e) P Q more has = tt

pub returns-in-Err-clause-answers : goal.returns-in-Err-clause-answers
returns-in-Err-clause-answers g c =
    ok_map c.refuse.result _ _
    (λ reply has tells t table. inl
    (subst (λ (cs : List Column). Refused (checks_of cs (query_of c.args.query.now)) (reply_of reply)) (c.as_slice-columns.ensures ∙ table.stored.columns)
    (has (checks_of c.as_slice-columns.result.now (query_of c.args.query.now)) c.in-Err.ensures.answer)))
    c.refuse.ensures.reply

pub returns-in_err-counts-clause-cause : goal.returns-in_err-counts-clause-cause
returns-in_err-counts-clause-cause g c =
    let p = err_from_is_err_and c.from_residual.result c.from_residual.ensures.1 in
    rw (p.1, p.2)
    (cause_weaker c.in_err-counts.field-0.0 (g.P.Pages.faults c.args.pages.now) (g.P.Pages.faults c.args.pages.now) (g.P.Pages.faults c.walk_rows.new.pages) (g.P.Pages.faults c.walk_rows.new.pages)
    _ _ _ _ _ _ (omega arith) (omega arith)
    (λ at expected found broken tells t table.
    broken tells table.rows table.feet table.free table.held (seen_of table.rows t.rows)
    (subst (λ (cs : List Column). AreSeen (kinds_of cs) table.rows (seen_of table.rows t.rows)) (sym (c.as_slice-columns.ensures ∙ table.stored.columns)) (are_seen t.columns table.rows t.rows table.stored.rows)))
    (λ n none. absurd none) (λ memory. memory) c.in_err-counts.ensures.cause)

pub returns-clause-answers : goal.returns-clause-answers
unfolding select_reply
returns-clause-answers g c =
    ok_map c.counted.result _ _
    (λ reply is tells t table.
    let same = c.as_slice-columns.ensures ∙ table.stored.columns in
    let q = query_of c.args.query.now in
    let condition = condition_of c.in-Ok.target.filter in
    let passes = subst (λ (cs : List Column). Find (checks_of cs q) None × BindsWhere cs q.condition condition) same c.in-Ok.ensures.answer in
    let are = subst (λ (cs : List Column). AreSeen (kinds_of cs) table.rows (seen_of table.rows t.rows)) (sym same) (are_seen t.columns table.rows t.rows table.stored.rows) in
    let shown = c.in_ok-counts.ensures.shown tells table.rows table.feet table.free table.held (seen_of table.rows t.rows) are in
    inr (
      passes.0,
      (
        condition,
        passes.1,
        is
            ∙ select_said c.as_slice-columns.result.now condition t q.columns table.rows (record { places = c.in-Ok.target.places; bytes = c.new.result }) c.walk_rows.new.visitor c.in_ok-counts.counts same
            table.stored.rows c.new.ensures c.in-Ok.ensures.places.named shown,
      ),
    ))
    c.counted.ensures.reply
