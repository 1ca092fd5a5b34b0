use Rattle.std.proofs.Common.{◌++◌, List, sym, ◌∙◌, ap}
use Rattle.gx_lexer.specs.declared.piece.Piece.{Piece}
use Rattle.gx_run.proofs.RunFacts as facts
use Rattle.gx_run.proofs.FrontFacts.{cut_front}
use Rattle.gx_run.proofs.ScriptFacts.{added_pieces}
use Rattle.gx_run.proofs.script.run_part.Goals as goal

pub returns-in-Err-clause-headline : goal.returns-in-Err-clause-headline
returns-in-Err-clause-headline g c = λ tells from fed at is.
    let d = g.D.Desk in
    let k = cut_front fed c.args.bytes.now in
    (k.0, k.1, facts.wants_memory d.moment d.may_have_left_since d.may_leave d.said d.is_at d.emptied c.args.desk.now from k.0 (λ map l. g.met.D.Desk.left tells c.args.desk.now from at map l))

pub returns-clause-headline : goal.returns-clause-headline
returns-clause-headline g c = λ tells from fed at is.
    let k = cut_front fed c.args.bytes.now in
    let cuts = c.in-Ok.ensures.cuts fed is in
    let are = added_pieces fed c.args.bytes.now cuts.added cuts.pieces ∙ sym (c.as_slice.ensures ∙ cuts.appended ∙ ap (λ (l : List Piece). l ++ cuts.added) c.new-pieces.ensures) in
    (k.0, k.1, c.run_pieces.ensures.headline tells from k.0 at are)
