use Rattle.std.proofs.Common.{inl, inr, ◌∙◌, ap, [], ◌∷◌}
use Rattle.gx_words.specs.Causes.{Said}
use Rattle.gx_run.specs.Moves.{OneOf}
use Rattle.gx_run.proofs.RunFacts.{joins}
use Rattle.gx_run.proofs.pieces.execute_piece.Goals as goal

pub returns-in-Ok-settle_after-clause-done : goal.returns-in-Ok-settle_after-clause-done
returns-in-Ok-settle_after-clause-done g c = λ tells from text at is.
    let d = g.D.Desk in
    let h = c.in-Ok.ensures.done tells from text at is in
    let k = c.in-Ok-settle_after.ensures.left tells h.0.after h.3 in
    let same = ap (λ (s : Said). s.bytes) c.in-Ok.ensures.said in (
      h.0,
      h.1,
      h.2,
      c.in-Ok-settle_after.ensures.at tells h.0.after h.3,
      joins d.moment d.may_have_left_since c.args.desk.now c.execute.new.self c.settle_after.new.desk
          (OneOf from.session.committed h.0.after.session.committed (d.said c.args.desk.now).bytes)
          (OneOf h.0.after.session.committed h.0.after.session.committed (d.said c.execute.new.self).bytes)
          (OneOf from.session.committed h.0.after.session.committed (d.said c.args.desk.now).bytes)
          (λ m p. p) (λ m p. (elim p.0 [ inl s ↦ inr s | inr s ↦ inr s ], p.1 ∙ same)) h.4 k.1,
    )

pub returns-in-Err-settle_after-clause-disk : goal.returns-in-Err-settle_after-clause-disk
returns-in-Err-settle_after-clause-disk g c = λ err tells from text at is.
    let d = g.D.Desk in
    let h = c.in-Ok.ensures.done tells from text at is in
    let k = c.in-Err-settle_after.ensures.left tells h.0.after h.3 in
    let same = ap (λ (s : Said). s.bytes) c.in-Ok.ensures.said in (
      h.0 ∷ [],
      (h.1, tt),
      λ map l. inr (k.0 map l),
      joins d.moment d.may_have_left_since c.args.desk.now c.execute.new.self c.settle_after.new.desk
          (OneOf from.session.committed h.0.after.session.committed (d.said c.args.desk.now).bytes)
          (OneOf h.0.after.session.committed h.0.after.session.committed (d.said c.execute.new.self).bytes)
          (OneOf from.session.committed h.0.after.session.committed (d.said c.args.desk.now).bytes)
          (λ m p. p) (λ m p. (elim p.0 [ inl s ↦ inr s | inr s ↦ inr s ], p.1 ∙ same)) h.4 k.1,
    )
