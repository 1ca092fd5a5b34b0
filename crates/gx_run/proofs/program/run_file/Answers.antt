use Rattle.std.proofs.Common.{ℕ, refl, sym, subst}
use Rattle.gx_words.specs.Causes.{Rose}
use Rattle.gx_log.specs.Records.{count_in}
use Rattle.gx_model.specs.Runs.{start}
use Rattle.gx_run.specs.declared.script.TheConstants.{LIMIT}
use Rattle.gx_run.proofs.ProgramFacts as facts
use Rattle.gx_run.proofs.program.run_file.Goals as goal

pub returns-clause-outcome : goal.returns-clause-outcome
returns-clause-outcome g c =
    let disk = g.H.Disk in
    let source = g.S.Source in
    let old = c.args.host.now in
    let mid = c.run_on_file-end.new.host in
    let new = c.finish.new.host in
    let end = c.run_on_file-end.result in
    let status = c.finish.result in
    let ran = c.run_on_file-end.ensures in
    let done = c.finish.ensures in
    let taking = c.run_on_file-end.new.source in
    let Faults : ℕ → Type 0 = λ n. Rose (disk.faults old) n in
    let Spoken : g.row.H.Denot → Type 0 = λ h. Rose (disk.said old).faults (disk.said h).faults in
    record {
      run = λ read tells db pages has stands.
          let h = ran.headline tells db pages has stands in
          facts.file_run disk c.args.steps.now c.run_on_file-end.new.steps old mid new (start db (count_in (pages 0))) LIMIT (source.told c.args.source.now) (source.told taking) end status done.same h.0
          (h.1 read (source.told c.args.source.now) refl);
      sound = λ tells db pages has stands. let h = ran.headline tells db pages has stands in facts.never_six end status (done.same h.0).0 h.0;
      complete = λ tells db pages has stands s d a.
          let w = (ran.headline tells db pages has stands).0 in
          facts.completes end status (done.same w).0 w (λ e. d (subst Faults (sym done.disk.faults) (ran.rose e))) (λ e. a (subst Spoken (sym (done.same w).1) (ran.answer_rose e))) (λ e. s (ran.source_rose e));
      broken = λ tells page expected found broken d a.
          facts.refused_as disk tells old mid new end status done.same done.broken done.disk.told (ran.opening tells page expected found broken) (λ e. d (subst Faults (sym done.disk.faults) (ran.rose e))) a;
      numbers = λ e. facts.number_cause disk mid new end status done.same done.broken ran.numbers e;
      limit = λ read. facts.takes_by disk mid new end status done.same done.broken LIMIT (source.told c.args.source.now) (source.told taking) (ran.length read);
      known = facts.known disk mid new end status done.same done.broken;
    }

pub returns-clause-disk_rose : goal.returns-clause-disk_rose
returns-clause-disk_rose g c = λ e.
    let disk = g.H.Disk in
    let Faults : ℕ → Type 0 = λ n. Rose (disk.faults c.args.host.now) n in
    subst Faults (sym c.finish.ensures.disk.faults)
    (c.run_on_file-end.ensures.rose (facts.disk_cause disk c.run_on_file-end.new.host c.finish.new.host c.run_on_file-end.result c.finish.result c.finish.ensures.same c.finish.ensures.broken e))

pub returns-clause-rose : goal.returns-clause-rose
returns-clause-rose g c = λ e.
    facts.answer_cause g.H.Disk c.run_on_file-end.new.host c.finish.new.host c.args.host.now _ c.run_on_file-end.ensures.counted.1 c.run_on_file-end.result c.finish.result c.finish.ensures.same c.finish.ensures.broken
    c.run_on_file-end.ensures.answer_rose c.run_on_file-end.ensures.source_rose e
