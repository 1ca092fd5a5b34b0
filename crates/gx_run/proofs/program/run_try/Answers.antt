use Rattle.std.proofs.Common.{refl, sym, ◌∙◌, subst}
use Rattle.gx_words.specs.Causes.{Rose}
use Rattle.gx_database.proofs.Empty.{empty_stands}
use Rattle.gx_model.specs.Database.{empty}
use Rattle.gx_model.specs.Runs.{start}
use Rattle.gx_run.specs.declared.script.TheConstants.{LIMIT}
use Rattle.gx_run.proofs.ProgramFacts as facts
use Rattle.gx_run.proofs.program.run_try.Goals as goal

pub returns-clause-outcome : goal.returns-clause-outcome
returns-clause-outcome g c =
    let disk = g.H.Disk in
    let source = g.S.Source in
    let old = c.args.host.now in
    let mid = c.run_in_memory-end.new.host in
    let new = c.finish.new.host in
    let end = c.run_in_memory-end.result in
    let status = c.finish.result in
    let ran = c.run_in_memory-end.ensures in
    let done = c.finish.ensures in
    let taking = c.run_in_memory-end.new.source in
    let Spoken : g.row.H.Denot → Type 0 = λ h. Rose (disk.said old).faults (disk.said h).faults in
    record {
      run = λ read tells.
          let h = ran.headline tells empty empty_stands in
          facts.try_run disk mid new (start empty 2) c.args.steps.now c.run_in_memory-end.new.steps (disk.said old).bytes LIMIT (source.told c.args.source.now) (source.told taking) end status done.same h.0
          (h.1 read (source.told c.args.source.now) refl);
      sound = λ tells. let h = ran.headline tells empty empty_stands in facts.never_six end status (done.same h.0).0 h.0;
      complete = λ tells s a.
          let w = (ran.headline tells empty empty_stands).0 in
          facts.completes end status (done.same w).0 w ran.no_disk (λ e. a (subst Spoken (sym (done.same w).1) (ran.answer_rose e))) (λ e. s (ran.source_rose e));
      disk = record {
        told = done.disk.told ∙ ran.disk.told;
        faults = done.disk.faults ∙ ran.disk.faults;
        images = λ i. ((λ l. (ran.disk.images i).0 ((done.disk.images i).0 l)), (λ l. (done.disk.images i).1 ((ran.disk.images i).1 l)));
      };
      no_disk = λ e. ran.no_disk (facts.disk_cause disk mid new end status done.same done.broken e);
      limit = λ read. facts.takes_by disk mid new end status done.same done.broken LIMIT (source.told c.args.source.now) (source.told taking) (ran.length read);
      known = facts.known disk mid new end status done.same done.broken;
    }

pub returns-clause-rose : goal.returns-clause-rose
returns-clause-rose g c = λ e.
    facts.answer_cause g.H.Disk c.run_in_memory-end.new.host c.finish.new.host c.args.host.now _ c.run_in_memory-end.ensures.counted.0 c.run_in_memory-end.result c.finish.result c.finish.ensures.same c.finish.ensures.broken
    c.run_in_memory-end.ensures.answer_rose c.run_in_memory-end.ensures.source_rose e
