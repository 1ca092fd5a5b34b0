use Rattle.std.proofs.Common.{◌++◌, ℕ, List, Result, Ok, Err, OnOk, refl, ◌∙◌, ap}
use Rattle.gx_model.specs.Replies.{row_line}
use Rattle.gx_target.specs.Places.{columns_at}
use Rattle.gx_value.specs.Values.{row_of}
use Rattle.gx_query.specs.Seen.{Seen, row_seen}
use Rattle.gx_query.specs.Visitors.{line_of}
use Rattle.gx_query.proofs.visitors.LinesVisit.visit.Goals as goal

on_ok : {T E : Type 0} (r : Result T E) (A B : Type 0) → (A → B) → OnOk r A → OnOk r B
on_ok (Ok x) A B more has = more has
on_ok (Err e) A B more has = tt

pub returns-clause-shown : goal.returns-clause-shown
unfolding line_of
returns-clause-shown c =
    let s : Seen = (c.args.at, row_of c.args.fields.now) in
    on_ok c.push_row_line.result _ _
    (λ same i. record {
      places = c.args.self.now.places;
      bytes = (same ∙ ap (λ (l : List ℕ). c.args.self.now.bytes ++ row_line c.args.columns.now (columns_at c.args.columns.now l) (row_seen s)) c.as_slice.ensures.value) i;
    })
    (c.push_row_line.ensures (row_seen s) refl)
