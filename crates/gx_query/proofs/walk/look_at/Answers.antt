use Rattle.std.proofs.Common.{rules, ◌≡◌, Some}
use Rattle.std.specs.List.{slice_get}
use Rattle.std.proofs.lemmas.Result.{err_from_is_err_and}
use Rattle.gx_plan.specs.Bounds.{kinds_of}
use Rattle.gx_query.specs.Walks.{condition_of}
use Rattle.gx_query.proofs.Looking.{break_weaker, row_breaks, shown_more}
use Rattle.gx_query.proofs.walk.look_at.Goals as goal

pub returns-in_err-look_at_one-clause-cause : goal.returns-in_err-look_at_one-clause-cause
returns-in_err-look_at_one-clause-cause g c =
    let p = err_from_is_err_and c.from_residual.result c.from_residual.ensures.1 in
    let there : slice_get c.args.rows.now c.loop-at.at ≡ Some (c.in-Some.place, c.in-Some.bytes.now) = search rules in
    rw (p.1, p.2)
    (break_weaker c.in_err-look_at_one.field-0.0 _ _
    (λ broken. row_breaks (kinds_of c.args.columns.now) c.args.rows.now c.loop-at.at c.in-Some.place c.in-Some.bytes.now there broken) c.in_err-look_at_one.ensures.cause)

pub loop-at-preserved : goal.loop-at-preserved
loop-at-preserved g c =
    let there : slice_get c.args.rows.now c.loop-at.at ≡ Some (c.in-Some.place, c.in-Some.bytes.now) = search rules in
    record {
      shown = shown_more (g.V.Visit.after c.args.columns.now) (condition_of c.args.filter.now) (kinds_of c.args.columns.now) c.args.rows.now c.loop-at.at c.in-Some.place c.in-Some.bytes.now there
          c.args.visitor.now c.loop-at.visitor c.look_at_one.new.visitor c.args.counts.now c.loop-at.counts c.look_at_one.new.counts c.loop-at.invariant.shown
          c.in_ok-look_at_one.ensures.shown;
      still = c.in_ok-look_at_one.ensures.still;
    }
