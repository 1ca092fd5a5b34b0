use Rattle.std.proofs.Common.{sym, subst}
use Rattle.gx_words.specs.PageMap.{PageMap}
use Rattle.gx_database.specs.Standing.{StandsFor}
use Rattle.gx_engine.specs.Engines.{IsIn, HasAtMost}
use Rattle.gx_engine.specs.Times.{Between}
use Rattle.gx_run.specs.Moves.{OneOf}
use Rattle.gx_run.proofs.DeskFacts as facts
use Rattle.gx_engine.proofs.Gaps.{no_gap}
use Rattle.gx_run.proofs.file.FileDeskDesk.settle.Goals as goal

pub returns-clause-at : goal.returns-clause-at
returns-clause-at g c = facts.on_ok c.checkpoint.result _ (λ tells from at.
    let store = c.store_mut-store.result.now in
    let At : g.row.P.Denot → Type 0 = λ s. IsIn g.P.Pages s c.args.self.now.engine.kind from.session × HasAtMost g.P.Pages s from.pages in
    let here : At store = subst At (sym c.store_mut-store.ensures.value) at in
    let k = c.checkpoint.ensures in
    let gap = no_gap (g.P.Pages.committed store) from.session.committed here.0.committed in
    facts.stays_in g.P.Pages store c.checkpoint.new.self c.args.self.now.engine.kind from here (k.map tells gap) k.count (k.committed.0 (tells, gap)) k.committed.1 (k.images gap))

pub returns-clause-left : goal.returns-clause-left
returns-clause-left g c = λ tells from at.
    let store = c.store_mut-store.result.now in
    let same = c.store_mut-store.ensures.value in
    let settled = c.checkpoint.new.self in
    let kind = c.args.self.now.engine.kind in
    let At : g.row.P.Denot → Type 0 = λ s. IsIn g.P.Pages s kind from.session in
    let here : At store = subst At (sym same) at.0 in
    let k = c.checkpoint.ensures in
    let gap = no_gap (g.P.Pages.committed store) from.session.committed here.committed in
    let Left : g.row.P.Denot → Type 0 = λ s. ((map : PageMap) → g.P.Pages.may_leave settled map → StandsFor map from.session.committed)
    × Between g.P.Pages.moment g.P.Pages.may_have_left_since s settled (OneOf from.session.committed from.session.committed (g.P.Pages.said s).bytes) in
    subst Left same (λ map l. here.left map (k.images gap map l), facts.stays_made g.P.Pages store settled kind from.session here (k.time gap))
