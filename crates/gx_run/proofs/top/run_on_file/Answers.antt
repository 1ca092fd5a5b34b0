use Rattle.std.proofs.Common.{◌≡◌, ℕ, ◌≤◌, [], Err, IfSome, inr, sym, ◌∙◌, ap, subst, arith}
use Rattle.gx_words.specs.Image.{Image}
use Rattle.gx_words.specs.PageMap.{PageMap}
use Rattle.gx_log.specs.Records.{HasMap, count_in}
use Rattle.gx_lexer.specs.Cut.{statements}
use Rattle.gx_pages.specs.Frees.{HasCount}
use Rattle.gx_pager.specs.Layers.{pieces}
use Rattle.gx_pager.specs.Left.{counted_committed}
use Rattle.gx_pager.specs.Memory.{committed_map, now_map}
use Rattle.gx_pager.specs.Openings.{Opening}
use Rattle.gx_pager.specs.declared.pager.Pager.{Pager}
use Rattle.gx_run.proofs.PageFacts.{same_map}
use Rattle.gx_database.specs.Standing.{StandsFor}
use Rattle.gx_model.specs.Runs.{State, start}
use Rattle.gx_pages.specs.declared.error.PageError.{PageError}
use Rattle.gx_pages.specs.declared.error.PageError.TheVariants.{Broken}
use Rattle.gx_run.specs.Statuses.{IsWithout}
use Rattle.gx_run.specs.declared.halt.Halt.TheVariants.{Stopped}
use Rattle.gx_run.specs.Top.{Headline, ScriptHeadline}
use Rattle.gx_run.specs.declared.stop.Stop.{Stop}
use Rattle.gx_run.specs.declared.file.FileDesk.{FileDesk}
use Rattle.gx_run.specs.declared.script.TheConstants.{LIMIT}
use Rattle.gx_run.specs.declared.stop.Stop.TheVariants.{Memory}
use Rattle.gx_run.proofs.OpenFacts as opens
use Rattle.gx_run.proofs.TopFacts as facts
use Rattle.gx_run.proofs.top.run_on_file.Goals as goal

pub returns-in-Err-clause-headline : goal.returns-in-Err-clause-headline
returns-in-Err-clause-headline g c = λ tells db map has stands.
    let disk = g.H.Disk in
    let d = g.met.H.Disk in
    let from : State = start db (count_in (map 0)) in
    let sound : (page expected found : ℕ) → c.in-Err.error ≡ Broken page expected found → ⊥ = λ page expected found e. c.read_file.ensures.stands tells map has (opens.is_header map db stands) page expected found (c.in-Err.is ∙ ap (λ (x : PageError). Err x) e) in
    let W : Stop → Type 0 = λ stop. IsWithout (Err (Stopped stop)) in (
      subst W (sym c.stop_of.ensures) (opens.without c.in-Err.error sound),
      λ read script is.
          let P : Stop → Type 0 = λ stop. Headline disk c.args.steps.now c.args.steps.now c.args.host.now c.read_file.new.disk from (statements script) (Err stop) in (
            subst P (sym c.stop_of.ensures)
                (opens.not_opened disk tells d.only_now d.counts_now c.args.steps.now c.args.host.now c.read_file.new.disk from script c.in-Err.error _ _ c.read_file.ensures.opening c.in-Err.ensures.cause sound),
            opens.untaken script (g.S.Source.told c.args.source.now) LIMIT is,
          ),
    )

pub returns-in-Err-open-clause-headline : goal.returns-in-Err-open-clause-headline
returns-in-Err-open-clause-headline g c = λ tells db map has stands. (
  tt,
  λ read script is.
      let disk = g.H.Disk in
      let d = g.met.H.Disk in
      let from : State = start db (count_in (map 0)) in
      let same : c.in-Err-open.pager ≡ c.over-pager.result = c.in-Err-open.ensures.back.0 in
      let name = sym (c.close-host.ensures.name ∙ ap (λ (p : Pager g.row.H.Denot g.H.Disk). p.host.ghost_name) same ∙ c.over-pager.ensures.name) in
      let at_end = c.close-host.ensures.host ∙ ap (λ (p : Pager g.row.H.Denot g.H.Disk). p.host.now) same ∙ c.over-pager.ensures.host in
      let P : g.row.H.Denot → Type 0 = λ h. Headline disk c.args.steps.now c.args.steps.now c.args.host.now h from (statements script) (Err Memory) in (
        subst P (sym (c.host-1.given.1 name ∙ at_end))
            (facts.not_begun disk tells (λ (h : g.row.H.Denot). h) (λ h f. Unit {0}) d.counts_now d.only_now c.args.host.now c.read_file.new.disk from (statements script) c.read_file.ensures.opening Memory (λ n. inr n) (λ n c. omega arith)),
        opens.untaken script (g.S.Source.told c.args.source.now) LIMIT is,
      ),
)

pub returns-clause-opening : goal.returns-clause-opening
returns-clause-opening g c = λ tells page expected found broken. absurd (c.in-Ok.ensures.sound tells page expected found broken)

pub returns-clause-headline : goal.returns-clause-headline
returns-clause-headline g c = λ tells db map has stands.
    let disk = g.H.Disk in
    let d = g.met.H.Disk in
    let begin = c.args.host.now in
    let host = c.read_file.new.disk in
    let pager = c.over-pager.result in
    let engine = c.in-Ok-open.engine in
    let over : engine.store ≡ pager = c.in-Ok-open.ensures.over.0 in
    let held : pager.host.now ≡ host = c.over-pager.ensures.host in
    let opened : engine.store.host.now ≡ host = ap (λ (p : Pager g.row.H.Denot g.H.Disk). p.host.now) over ∙ held in
    let committed : PageMap = committed_map pager.layers (disk.told pager.host.now) in
    let Told : Image → Type 0 = λ i. HasMap i committed in
    let same : map ≡ committed = same_map (disk.told begin) map committed has (subst Told c.read_file.ensures.opening.told (c.over-pager.ensures.read tells)) in
    let stands' : StandsFor committed db = subst (λ (p : PageMap). StandsFor p db) same stands in
    let counted : IfSome (committed 0) (λ header. HasCount header pager.layers.committed_count) =
    counted_committed pager.layers.header (pieces (disk.told pager.host.now) 0) pager.layers.committed_count pager.layers.committed_count pager.layers.committed_counted in
    let count : count_in (map 0) ≡ pager.layers.committed_count =
    opens.count_of map db stands pager.layers.committed_count pager.layers.committed_bounded (subst (λ (p : PageMap). IfSome (p 0) (λ header. HasCount header pager.layers.committed_count)) (sym same) counted) in
    let from : State = start db (count_in (map 0)) in
    let Has : g.row.H.Denot → Type 0 = λ h. (i : Image) → disk.now_may_leave h i → HasMap i committed in
    let left = subst Has (sym opened) (c.over-pager.ensures.left tells) in
    let Open : g.row.H.Denot → Type 0 = λ h. Opening disk begin h in
    let Made : Pager g.row.H.Denot g.H.Disk → Type 0 = λ p. StandsFor (committed_map p.layers (disk.told p.host.now)) db in
    let Seen : Pager g.row.H.Denot g.H.Disk → Type 0 = λ p. StandsFor (now_map p.layers (disk.told p.host.now)) db in
    let Now : Pager g.row.H.Denot g.H.Disk → Type 0 = λ p. p.layers.count ≤ count_in (map 0) in
    let Then : Pager g.row.H.Denot g.H.Disk → Type 0 = λ p. p.layers.committed_count ≤ count_in (map 0) in
    let now : pager.layers.count ≡ pager.layers.committed_count = c.over-pager.ensures.count in
    let ran = c.run_script-result.ensures.headline tells from (
      record {
        block = c.in-Ok-open.ensures.over.1;
        committed = subst Made (sym over) stands';
        map = subst Seen (sym over) (subst (λ (p : PageMap). StandsFor p db) (sym c.over-pager.ensures.map) stands');
        left = λ p l. subst (λ (q : PageMap). StandsFor q db) (sym (same_map l.1.0 p committed l.1.2 (left l.1.0 l.1.1))) stands';
      },
      record { now = subst Now (sym over) (omega (arith, count, now)); committed = subst Then (sym over) (omega (arith, count)) },
    ) in (
      ran.0,
      λ read script is.
          let done = facts.script_headline disk tells (λ (k : FileDesk (Pager g.row.H.Denot g.H.Disk)). k.engine.store.host.now) _ d.counts_now d.only_now
          c.args.steps.now c.run_script-result.new.steps begin (record { engine = engine }) c.run_script-result.new.desk from committed
          (subst Open (sym opened) c.read_file.ensures.opening) left stands' c.run_script-result.ensures.follows.1 LIMIT script (g.S.Source.told c.run_script-result.new.source) c.run_script-result.result (ran.1 read script is) in
          let store = c.into_store-store.ensures in
          let name = sym (c.close-host-2.ensures.name ∙ ap (λ (p : Pager g.row.H.Denot g.H.Disk). p.host.ghost_name) store
          ∙ c.run_script-result.ensures.follows.0 ∙ ap (λ (p : Pager g.row.H.Denot g.H.Disk). p.host.ghost_name) over ∙ c.over-pager.ensures.name) in
          let at_end = c.close-host-2.ensures.host ∙ ap (λ (p : Pager g.row.H.Denot g.H.Disk). p.host.now) store in
          let End : g.row.H.Denot → Type 0 = λ h. ScriptHeadline disk c.args.steps.now c.run_script-result.new.steps begin h from LIMIT script (g.S.Source.told c.run_script-result.new.source) c.run_script-result.result in
          subst End (sym (c.host-2-1.given.1 name ∙ at_end)) done,
    )
