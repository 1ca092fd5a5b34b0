use Rattle.std.proofs.Common.{sym, ◌∙◌, subst, arith}
use Rattle.gx_words.specs.PageMap.{PageMap}
use Rattle.gx_pages.specs.Memories.{IsFresh}
use Rattle.gx_pages.specs.declared.memory.MemoryPages.{MemoryPages}
use Rattle.gx_database.specs.Standing.{StandsFor}
use Rattle.gx_model.specs.Runs.{State, start}
use Rattle.gx_pages.specs.Databases.{empty_pages}
use Rattle.gx_run.specs.Try.{TryHeadline}
use Rattle.gx_run.specs.declared.memory.MemoryDesk.{MemoryDesk}
use Rattle.gx_run.specs.declared.script.TheConstants.{LIMIT}
use Rattle.gx_run.proofs.TryFacts as facts
use Rattle.gx_run.proofs.attempt.run_in_memory.Goals as goal

pub returns-clause-headline : goal.returns-clause-headline
returns-clause-headline g c = λ tells db stands.
    let engine = c.in-Ok-open.engine in
    let Fresh : MemoryPages → Type 0 = λ s. IsFresh empty_pages 2 s in
    let fresh = subst Fresh (sym c.in-Ok-open.ensures.over.0) c.in-Ok.ensures in
    let from : State = start db 2 in
    let At : PageMap → Type 0 = λ p. StandsFor p db in
    let now = fresh.counted in
    let then = fresh.committed_counted in
    let ran = c.run_script-result.ensures.headline tells from (
      record {
        block = c.in-Ok-open.ensures.over.1;
        committed = subst At (sym fresh.committed) stands;
        map = subst At (sym fresh.now) stands;
        left = λ p l. subst At (sym (l ∙ fresh.committed)) stands;
      },
      record { now = omega (arith, now); committed = omega (arith, then) },
    ) in (
      ran.0,
      λ read script is.
          let done = facts.tries c.args.steps.now c.run_script-result.new.steps _ _ (λ (d : MemoryDesk g.row.H.Denot). g.H.Disk.said d.host.now) _ _ _ c.run_script-result.new.desk from LIMIT script (g.S.Source.told c.run_script-result.new.source) c.run_script-result.result (ran.1 read script is) in
          let End : g.row.H.Denot → Type 0 = λ h. TryHeadline from c.args.steps.now c.run_script-result.new.steps (g.H.Disk.said c.args.host.now).bytes (g.H.Disk.said h).bytes LIMIT script (g.S.Source.told c.run_script-result.new.source) c.run_script-result.result in
          subst End (sym (c.host-1.given.1 (sym c.run_script-result.ensures.follows.0))) done,
    )
