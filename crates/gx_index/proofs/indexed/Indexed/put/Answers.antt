use Rattle.std.proofs.Common.{[], ◌∷◌, ◌++◌, ℕ, sym, subst, ap}
use Rattle.std.specs.Prelude.{Option}
use Rattle.std.specs.Option.{option_map}
use Rattle.std.proofs.lemmas.Result.{on_ok_weaker}
use Rattle.gx_value.specs.Values.{Datum, datum_of}
use Rattle.gx_index.proofs.IndexFacts.{Makes}
use Rattle.gx_index.proofs.indexed.Indexed.put.Goals as goal

pub returns-in-Some-clause-put : goal.returns-in-Some-clause-put
returns-in-Some-clause-put g c =
    on_ok_weaker c.put_value.result (λ put tells rows feet free h below.
    let Holds = g.M.Kept.holds c.args.self.now.kept in
    let old = c.args.pages.now in
    let new = c.put_value.new.pages in
    let made = λ (n : ℕ) (value : Option Datum). Makes g.P.Pages Holds old new n (rows ++ (c.args.row, value) ∷ []) feet free in
    subst (λ (n : ℕ). made n (option_map (λ v. datum_of v.now) c.args.value)) (ap (λ s. s.nulls) (sym c.put_value.ensures.same))
    (subst (λ v. made c.args.self.now.nulls (option_map (λ w. datum_of w.now) v)) (sym c.in-Some.is) (put tells rows feet free h below))) c.put_value.ensures.put

pub returns-in-Some-clause-heap : goal.returns-in-Some-clause-heap
returns-in-Some-clause-heap g c tells rows feet free h below = c.put_value.ensures.heap tells rows feet free h below

pub returns-in-None-clause-put : goal.returns-in-None-clause-put
returns-in-None-clause-put g c =
    on_ok_weaker c.put_null.result (λ put tells rows feet free h below.
    let Holds = g.M.Kept.holds c.args.self.now.kept in
    let old = c.args.pages.now in
    let new = c.put_null.new.pages in
    subst (λ v. Makes g.P.Pages Holds old new c.put_null.new.self.nulls (rows ++ (c.args.row, option_map (λ w. datum_of w.now) v) ∷ []) feet free) (sym c.in-None.is) (put tells rows feet free h below)) c.put_null.ensures.put
