-- A run goes on, or begins anew.
use Rattle.std.proofs.Common.{refl, sym, subst, arith, true≢false}
use Rattle.gx_lquery.specs.Matching.{MatchesItem}
use Rattle.gx_lquery.proofs.RunLemmas.{run_on, run_anew, label_at, no_label}
use Rattle.gx_lquery.proofs.operators.run_start.Goals as goal

pub returns-in-Some : goal.returns-in-Some
returns-in-Some c = λ inside. run_anew c.args.item.now c.args.path.now c.args.at (λ m.
    let label = label_at c.args.path.now c.args.at c.label.result c.in-Some.label c.in-Some.is c.label.ensures in
    true≢false (sym (c.if-not-item_matches.ensures.1 (subst (MatchesItem c.args.item.now) label m))))

pub returns-in_default : goal.returns-in_default
returns-in_default c = λ inside.
    let label = label_at c.args.path.now c.args.at c.label.result c.in-Some.label c.in-Some.is c.label.ensures in
    run_on c.args.item.now c.args.path.now c.args.start c.args.at (c.requires.run (omega arith)) (subst (MatchesItem c.args.item.now) (sym label) (c.if-not-item_matches.ensures.0 refl))

pub returns-in_default-2 : goal.returns-in_default-2
returns-in_default-2 c = λ inside. absurd (no_label c.args.path.now c.args.at c.label.result c.in_default.is c.label.ensures inside)
