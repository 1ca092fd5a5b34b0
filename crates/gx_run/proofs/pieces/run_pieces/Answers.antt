use Rattle.std.proofs.Common.{◌≡◌, ℕ, Bool, false, ◌||◌, List, [], ◌∷◌, ◌++◌, Result, Ok, Err, refl, sym, ◌∙◌, ap, subst, append_assoc, arith}
use Rattle.std.proofs.lemmas.Result.{err_from_is_err_and}
use Rattle.gx_lexer.specs.declared.piece.Piece.{Piece}
use Rattle.gx_run.specs.declared.stop.Stop.{Stop}
use Rattle.gx_run.proofs.RunFacts as facts
use Rattle.gx_run.proofs.TextFacts as texts
use Rattle.gx_run.proofs.pieces.run_pieces.Goals as goal

pub loop-piece-init : goal.loop-piece-init
loop-piece-init g c = record {
  ready = c.requires;
  follows = g.met.D.Desk.stays c.args.desk.now;
  ran = (
    [],
    refl,
    λ tells from all at are.
        let d = g.D.Desk in
        let P : List (List ℕ) → Type 0 = λ ps. facts.RanOk d.moment d.may_have_left_since d.may_leave d.said d.is_at d.emptied c.args.steps.now c.args.steps.now c.args.desk.now c.args.desk.now from ps false in
        subst P (sym (texts.no_text all are))
        (facts.ran_none d.moment d.may_have_left_since d.may_leave d.said d.is_at d.emptied c.args.desk.now from (λ map l. g.met.D.Desk.left tells c.args.desk.now from at map l) at),
  );
  disk = omega arith;
  answers = omega arith;
}

pub loop-piece-preserved : goal.loop-piece-preserved
loop-piece-preserved g c =
    let i = c.loop-piece.invariant.ran in
    let piece = c.in-Some.piece.now in
    let more = c.in-Some.after.now in
    let rest : c.loop-piece.rest.now ≡ piece ∷ more = c.in-Some.ensures.cases.0 in
    record {
      ready = c.in_ok-one.ensures.ready;
      follows = g.met.D.Desk.goes_on c.args.desk.now c.loop-piece.desk c.run_piece.new.desk c.loop-piece.invariant.follows c.run_piece.ensures.follows;
      ran = (
        i.0 ++ piece ∷ [],
        i.1 ∙ ap (λ (ps : List Piece). i.0 ++ ps) rest ∙ sym (append_assoc i.0 (piece ∷ []) more),
        λ tells from all at are.
            let d = g.D.Desk in
            let p = texts.parted all i.0 (piece ∷ []) are in
            let one = texts.one_text p.behind piece p.behind_of in
            let first = i.2 tells from p.front at p.front_of in
            let second = c.in_ok-one.ensures.headline tells (facts.behind d.moment d.may_have_left_since d.may_leave d.said d.is_at d.emptied c.args.desk.now c.loop-piece.desk from p.front c.loop-piece.refused first) one.text first.at.1 one.of in
            let Q : Bool → Type 0 = λ b. facts.RanOk d.moment d.may_have_left_since d.may_leave d.said d.is_at d.emptied c.args.steps.now c.run_piece.new.steps c.args.desk.now c.run_piece.new.desk from all b in
            let R : List (List ℕ) → Type 0 = λ ps. facts.RanOk d.moment d.may_have_left_since d.may_leave d.said d.is_at d.emptied c.args.steps.now c.run_piece.new.steps c.args.desk.now c.run_piece.new.desk from ps (c.loop-piece.refused || c.in_ok-one.one) in
            subst Q (sym c.either-refused.ensures)
            (subst R (sym (p.whole ∙ ap (λ (ps : List (List ℕ)). p.front ++ ps) one.are))
            (facts.ran_then d.moment d.may_have_left_since d.may_leave d.said d.is_at d.emptied c.args.desk.now c.loop-piece.desk c.run_piece.new.desk from p.front (one.text ∷ []) c.loop-piece.refused (Ok c.in_ok-one.one) first second)),
      );
      disk = let h = c.run_piece.ensures.counted in let k = c.loop-piece.invariant.disk in omega (arith, h.0, k);
      answers = let h = c.run_piece.ensures.counted in let k = c.loop-piece.invariant.answers in omega (arith, h.1, k);
    }

pub returns-in_err-one-clause-headline : goal.returns-in_err-one-clause-headline
returns-in_err-one-clause-headline g c = λ tells from all at are.
    let d = g.D.Desk in
    let e = err_from_is_err_and c.from_residual.result c.from_residual.ensures.1 in
    let i = c.loop-piece.invariant.ran in
    let piece = c.in-Some.piece.now in
    let more = c.in-Some.after.now in
    let rest : c.loop-piece.rest.now ≡ piece ∷ more = c.in-Some.ensures.cases.0 in
    let p = texts.parted all i.0 (piece ∷ more) (are ∙ i.1 ∙ ap (λ (ps : List Piece). i.0 ++ ps) rest) in
    let q = texts.parted p.behind (piece ∷ []) more p.behind_of in
    let one = texts.one_text q.front piece q.front_of in
    let first = i.2 tells from p.front at p.front_of in
    let mid = facts.behind d.moment d.may_have_left_since d.may_leave d.said d.is_at d.emptied c.args.desk.now c.loop-piece.desk from p.front c.loop-piece.refused first in
    let stop : Stop = c.in_err-one.field-0.0 in
    let second = c.in_err-one.ensures.headline tells mid one.text first.at.1 one.of in
    let both = facts.ran_then d.moment d.may_have_left_since d.may_leave d.said d.is_at d.emptied c.args.desk.now c.loop-piece.desk c.run_piece.new.desk from p.front (one.text ∷ []) c.loop-piece.refused (Err stop) first second in
    let pieces : (p.front ++ one.text ∷ []) ++ q.behind ≡ all =
    append_assoc p.front (one.text ∷ []) q.behind ∙ sym (p.whole ∙ ap (λ (ps : List (List ℕ)). p.front ++ ps) (q.whole ∙ ap (λ (ps : List (List ℕ)). ps ++ q.behind) one.are)) in
    let Q : List (List ℕ) → Type 0 = λ ps. facts.RanErr d.moment d.may_have_left_since d.may_leave d.said d.is_at d.emptied c.args.steps.now c.run_piece.new.steps c.args.desk.now c.run_piece.new.desk from ps stop in
    let R : Result Bool Stop → Type 0 = λ r. facts.RanAs d.moment d.may_have_left_since d.may_leave d.said d.is_at d.emptied c.args.steps.now c.run_piece.new.steps c.args.desk.now c.run_piece.new.desk from all r in
    let same : Err stop ≡ c.from_residual.result = sym (e.1 ∙ ap (λ (s : Stop). Err s) e.2) in
    subst R same (subst Q pieces (facts.ran_more d.moment d.may_have_left_since d.may_leave d.said d.is_at d.emptied c.args.desk.now c.run_piece.new.desk from (p.front ++ one.text ∷ []) q.behind stop both))
