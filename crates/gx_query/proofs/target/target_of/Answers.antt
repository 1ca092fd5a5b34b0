use Rattle.std.proofs.Common.{ℕ, List, Option, None, subst}
use Rattle.std.specs.Option.{option_map}
use Rattle.std.proofs.lemmas.Result.{err_from_is_err_and}
use Rattle.gx_parse.specs.Trees.{tree_of}
use Rattle.gx_parse.specs.declared.statement.Condition.{Condition}
use Rattle.gx_model.proofs.Finding.{find_behind, refuse_behind, refuse_front}
use Rattle.gx_model.specs.Checks.{Find}
use Rattle.gx_model.specs.Conditions.{where_checks, BindsWhere}
use Rattle.gx_model.specs.Faults.{asked_checks}
use Rattle.gx_model.specs.Refusals.{Refuses}
use Rattle.gx_query.specs.Walks.{condition_of}
use Rattle.gx_query.proofs.target.target_of.Goals as goal

pub returns-in_err-places-clause-answer : goal.returns-in_err-places-clause-answer
returns-in_err-places-clause-answer c =
    let p = err_from_is_err_and c.from_residual.result c.from_residual.ensures.1 in
    rw (p.1, p.2)
    (refuse_front (asked_checks c.args.columns.now c.args.query.now.columns) (where_checks c.args.columns.now (option_map tree_of c.args.query.now.condition)) c.in_err-places.field-0.0
    (subst (λ (o : Option (List (List ℕ))). Refuses (asked_checks c.args.columns.now o) c.in_err-places.field-0.0) c.as_ref.ensures.value c.in_err-places.ensures))

pub returns-in_err-filter-clause-answer : goal.returns-in_err-filter-clause-answer
returns-in_err-filter-clause-answer c =
    let p = err_from_is_err_and c.from_residual-in_err-filter.result c.from_residual-in_err-filter.ensures.1 in
    rw (p.1, p.2)
    (refuse_behind (asked_checks c.args.columns.now c.args.query.now.columns) (where_checks c.args.columns.now (option_map tree_of c.args.query.now.condition)) c.in_err-filter.field-0.0
    (subst (λ (o : Option (List (List ℕ))). Find (asked_checks c.args.columns.now o) None) c.as_ref.ensures.value c.in_ok-places.ensures.0)
    (subst (λ (o : Option Condition). Refuses (where_checks c.args.columns.now (option_map tree_of o)) c.in_err-filter.field-0.0) c.as_ref-2.ensures.value c.in_err-filter.ensures.answer))

pub returns-clause-answer : goal.returns-clause-answer
returns-clause-answer c =
    let both = subst (λ (o : Option Condition). Find (where_checks c.args.columns.now (option_map tree_of o)) None × BindsWhere c.args.columns.now (option_map tree_of o) (condition_of c.in_ok-filter.filter))
    c.as_ref-2.ensures.value c.in_ok-filter.ensures.answer in (
      find_behind (asked_checks c.args.columns.now c.args.query.now.columns) (where_checks c.args.columns.now (option_map tree_of c.args.query.now.condition)) None
          (subst (λ (o : Option (List (List ℕ))). Find (asked_checks c.args.columns.now o) None) c.as_ref.ensures.value c.in_ok-places.ensures.0) both.0,
      both.1,
    )
