use Rattle.std.proofs.Common.{◌≡◌, ℕ, Bool, List, [], ◌∷◌, ◌++◌, take, Ok, Err, is_some, sym, ◌∙◌, ap, subst}
use Rattle.gx_model.specs.Replies.{Reply}
use Rattle.gx_run.specs.declared.stop.Stop.{Stop}
use Rattle.gx_run.specs.declared.stop.Stop.TheVariants.{Answer, Disk, Memory}
use Rattle.gx_run.proofs.RunFacts as facts
use Rattle.gx_run.proofs.pieces.run_piece.Goals as goal

pub returns-in-Err-clause-headline : goal.returns-in-Err-clause-headline
returns-in-Err-clause-headline g c = λ tells from text at is.
    let d = g.D.Desk in
    let left = c.in-Err.ensures.left tells from at in
    facts.not_settled d.moment d.may_have_left_since d.may_leave d.said d.is_at d.emptied c.args.desk.now c.settle.new.self from c.in-Err.ensures.said left.0 left.1 (text ∷ [])

pub returns-in-Err-Disk-clause-headline : goal.returns-in-Err-Disk-clause-headline
returns-in-Err-Disk-clause-headline g c = λ tells from text at is.
    let d = g.D.Desk in
    let left = c.in-Ok.ensures.left tells from at in
    let here = c.in-Ok.ensures.at tells from at in
    let err : c.execute_piece.result ≡ Err Disk = c.in-Err-Disk.is ∙ ap (λ (s : Stop). Err s) c.in-Err-Disk.field-0-is in
    let h = c.execute_piece.ensures.disk err tells from text here is in
    facts.after_settling d.moment d.may_have_left_since d.may_leave d.said d.is_at d.emptied c.args.desk.now c.settle.new.self c.execute_piece.new.desk from (text ∷ []) (Err Disk) c.in-Ok.ensures.said left.1
    (c.in-Ok.ensures.kept tells)
    (facts.not_executed d.moment d.may_have_left_since d.may_leave d.said d.is_at d.emptied c.settle.new.self c.execute_piece.new.desk from c.execute_piece.ensures.said text h.0 h.1 h.2 h.3
    (c.execute_piece.ensures.cost tells from text here is))

pub returns-in-Err-Memory-clause-headline : goal.returns-in-Err-Memory-clause-headline
returns-in-Err-Memory-clause-headline g c = λ tells from text at is.
    let d = g.D.Desk in
    let left = c.in-Ok.ensures.left tells from at in
    let here = c.in-Ok.ensures.at tells from at in
    let err : c.execute_piece.result ≡ Err Memory = c.in-Err-Memory.is ∙ ap (λ (s : Stop). Err s) c.in-Err-Memory.field-0-is in
    let h = c.execute_piece.ensures.memory err tells from here in
    facts.after_settling d.moment d.may_have_left_since d.may_leave d.said d.is_at d.emptied c.args.desk.now c.settle.new.self c.execute_piece.new.desk from (text ∷ []) (Err Memory) c.in-Ok.ensures.said left.1
    (c.in-Ok.ensures.kept tells)
    (facts.without_memory d.moment d.may_have_left_since d.may_leave d.said d.is_at d.emptied c.settle.new.self c.execute_piece.new.desk from c.execute_piece.ensures.said h.0 h.1 (text ∷ [])
    (c.execute_piece.ensures.cost tells from text here is))

pub returns-then-is_empty-clause-headline : goal.returns-then-is_empty-clause-headline
returns-then-is_empty-clause-headline g c = λ tells from text at is.
    let d = g.D.Desk in
    let left = c.in-Ok.ensures.left tells from at in
    let here = c.in-Ok.ensures.at tells from at in
    let h = c.in-Ok-execute_piece.ensures.done tells from text here is in
    let bytes : c.in-Ok-execute_piece.reply.bytes ≡ h.0.reply.bytes = ap (λ (r : Reply). r.bytes) h.2 in
    let empty : h.0.reply.bytes ≡ [] =
    facts.no_bytes c.is_empty.result c.as_slice-bytes.result.now h.0.reply.bytes c.if-is_empty.true c.is_empty.ensures (c.as_slice-bytes.ensures ∙ bytes) in
    let fault : is_some h.0.reply.fault ≡ c.is_some.result = ap (λ (r : Reply). is_some r.fault) (sym h.2) ∙ sym c.is_some.ensures in
    let P : Bool → Type 0 = λ b. facts.RanOk d.moment d.may_have_left_since d.may_leave d.said d.is_at d.emptied c.args.steps.now c.execute_piece.new.steps c.args.desk.now c.execute_piece.new.desk from (text ∷ []) b in
    subst P fault
    (facts.after_settling d.moment d.may_have_left_since d.may_leave d.said d.is_at d.emptied c.args.desk.now c.settle.new.self c.execute_piece.new.desk from (text ∷ []) (Ok (is_some h.0.reply.fault)) c.in-Ok.ensures.said left.1
    (c.in-Ok.ensures.kept tells)
    (facts.executed d.moment d.may_have_left_since d.may_leave d.said d.is_at d.emptied c.settle.new.self c.execute_piece.new.desk from c.execute_piece.ensures.said text h.0 h.1 h.4 empty
    (λ map l. g.met.D.Desk.left tells c.execute_piece.new.desk h.0.after h.3 map l) h.3
    (c.execute_piece.ensures.cost tells from text here is)
    (λ e before. c.in-Ok-execute_piece.ensures.silent (bytes ∙ e) tells before)
    (λ e. c.in-Ok-execute_piece.ensures.checkpoint (bytes ∙ e) tells)))

pub returns-in-Ok-answer-clause-headline : goal.returns-in-Ok-answer-clause-headline
returns-in-Ok-answer-clause-headline g c = λ tells from text at is.
    let d = g.D.Desk in
    let left = c.in-Ok.ensures.left tells from at in
    let here = c.in-Ok.ensures.at tells from at in
    let h = c.in-Ok-execute_piece.ensures.done tells from text here is in
    let same : c.in-Ok-execute_piece.reply.bytes ≡ h.0.reply.bytes = ap (λ (r : Reply). r.bytes) h.2 in
    let bytes : c.as_slice-bytes.result.now ≡ h.0.reply.bytes = c.as_slice-bytes.ensures ∙ same in
    let k = c.in-Ok-answer.ensures.at tells h.0.after h.3 in
    let W : List ℕ → Type 0 = λ more. facts.Saying d.moment d.may_have_left_since d.said c.execute_piece.new.desk c.answer.new.self h.0.after more in
    let fault : is_some h.0.reply.fault ≡ c.is_some-in-Ok-answer.result = ap (λ (r : Reply). is_some r.fault) (sym h.2) ∙ sym c.is_some-in-Ok-answer.ensures in
    let P : Bool → Type 0 = λ b. facts.RanOk d.moment d.may_have_left_since d.may_leave d.said d.is_at d.emptied c.args.steps.now c.execute_piece.new.steps c.args.desk.now c.answer.new.self from (text ∷ []) b in
    subst P fault
    (facts.after_settling d.moment d.may_have_left_since d.may_leave d.said d.is_at d.emptied c.args.desk.now c.settle.new.self c.answer.new.self from (text ∷ []) (Ok (is_some h.0.reply.fault)) c.in-Ok.ensures.said left.1
    (c.in-Ok.ensures.kept tells)
    (facts.answered d.moment d.may_have_left_since d.may_leave d.said d.is_at d.emptied c.settle.new.self c.execute_piece.new.desk from c.execute_piece.ensures.said text h.0 h.1 h.4
    c.answer.new.self (λ map l. g.met.D.Desk.left tells c.answer.new.self h.0.after k.0 map l) (subst W bytes k.1)
    (c.in-Ok-answer.ensures.said tells ∙ ap (λ (text : List ℕ). (d.said c.execute_piece.new.desk).bytes ++ text) bytes) k.0
    (c.execute_piece.ensures.cost tells from text here is)
    (λ e before. c.in-Ok-answer.ensures.emptied (c.in-Ok-execute_piece.ensures.silent (same ∙ e) tells before))
    (λ e. c.in-Ok-answer.ensures.emptied (c.in-Ok-execute_piece.ensures.checkpoint (same ∙ e) tells))))

pub returns-clause-headline : goal.returns-clause-headline
returns-clause-headline g c = λ tells from text at is.
    let d = g.D.Desk in
    let left = c.in-Ok.ensures.left tells from at in
    let here = c.in-Ok.ensures.at tells from at in
    let h = c.in-Ok-execute_piece.ensures.done tells from text here is in
    let bytes : c.as_slice-bytes.result.now ≡ h.0.reply.bytes = c.as_slice-bytes.ensures ∙ ap (λ (r : Reply). r.bytes) h.2 in
    let k = c.in-Err-answer.ensures.at tells h.0.after h.3 in
    let n = c.in-Err-answer.ensures.front tells in
    let W : List ℕ → Type 0 = λ more. facts.Saying d.moment d.may_have_left_since d.said c.execute_piece.new.desk c.answer.new.self h.0.after more in
    facts.after_settling d.moment d.may_have_left_since d.may_leave d.said d.is_at d.emptied c.args.desk.now c.settle.new.self c.answer.new.self from (text ∷ []) (Err Answer) c.in-Ok.ensures.said left.1
    (c.in-Ok.ensures.kept tells)
    (facts.not_answered d.moment d.may_have_left_since d.may_leave d.said d.is_at d.emptied c.settle.new.self c.execute_piece.new.desk from c.execute_piece.ensures.said text h.0 h.1 h.4
    c.answer.new.self (λ map l. g.met.D.Desk.left tells c.answer.new.self h.0.after k.0 map l) (subst W bytes k.1)
    n.0 (n.1 ∙ ap (λ (text : List ℕ). (d.said c.execute_piece.new.desk).bytes ++ take n.0 text) bytes)
    (c.execute_piece.ensures.cost tells from text here is))
