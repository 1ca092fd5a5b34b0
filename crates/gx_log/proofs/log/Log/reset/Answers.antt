use Rattle.std.proofs.Common.{ℕ, [], sym, subst}
use Rattle.gx_log.specs.Disks.{IsAtRest, BeforeOrAfter, SamePages, FromWrite}
use Rattle.gx_log.proofs.Adding.{leaves_weaker, from_first, some_records, same_pages}
use Rattle.gx_log.proofs.log.Log.reset.Goals as goal

pub returns-in_err-set_gate-clause-any_moment : goal.returns-in_err-set_gate-clause-any_moment
returns-in_err-set_gate-clause-any_moment g c = λ tells records at_rest.
    let old = c.args.disk.now in
    let rest = subst (λ (n : ℕ). IsAtRest g.D.Disk n old records) (sym c.self.view_is) at_rest in
    let some = some_records g.D.Disk old records c.self.inside.front rest c.if-self-eq0.false in
    leaves_weaker g.D.Disk old c.set_gate.new.disk (FromWrite g.D.Disk old 0 1) (BeforeOrAfter g.D.Disk old records [])
    (λ image write. from_first g.D.Disk old records c.self.inside.front rest image some write) (c.in_err-set_gate.ensures.writes tells rest.settled).time

pub returns-in_err-set_gate-clause-same_pages : goal.returns-in_err-set_gate-clause-same_pages
returns-in_err-set_gate-clause-same_pages g c = λ tells records at_rest in_place.
    let old = c.args.disk.now in
    leaves_weaker g.D.Disk old c.set_gate.new.disk (BeforeOrAfter g.D.Disk old records []) (SamePages g.D.Disk old)
    (λ image here. same_pages g.D.Disk old records c.args.self.now at_rest image in_place here) (returns-in_err-set_gate-clause-any_moment g c tells records at_rest)

pub returns-clause-any_moment : goal.returns-clause-any_moment
returns-clause-any_moment g c = λ tells records at_rest.
    let old = c.args.disk.now in
    let rest = subst (λ (n : ℕ). IsAtRest g.D.Disk n old records) (sym c.self.view_is) at_rest in
    let some = some_records g.D.Disk old records c.self.inside.front rest c.if-self-eq0.false in
    leaves_weaker g.D.Disk old c.set_gate.new.disk (FromWrite g.D.Disk old 0 1) (BeforeOrAfter g.D.Disk old records [])
    (λ image write. from_first g.D.Disk old records c.self.inside.front rest image some write) (c.in_ok-set_gate.ensures.writes tells rest.settled).time

pub returns-clause-same_pages : goal.returns-clause-same_pages
returns-clause-same_pages g c = λ tells records at_rest in_place.
    let old = c.args.disk.now in
    leaves_weaker g.D.Disk old c.set_gate.new.disk (BeforeOrAfter g.D.Disk old records []) (SamePages g.D.Disk old)
    (λ image here. same_pages g.D.Disk old records c.args.self.now at_rest image in_place here) (returns-clause-any_moment g c tells records at_rest)
