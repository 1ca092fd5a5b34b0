use Rattle.std.proofs.Common.{ℕ, ◌+◌, ◌*◌, [], ◌∷◌, ◌++◌, length, sym, subst, arith}
use Rattle.gx_log.specs.Disks.{IsAtRest, BeforeOrAfter, FromWrite}
use Rattle.gx_log.specs.Records.{record_of}
use Rattle.gx_log.proofs.Bodies.{length-record_of}
use Rattle.gx_log.proofs.Stages.{long, opened_gate}
use Rattle.gx_log.proofs.Adding.{leaves_weaker, leaves_then, from_body, from_gate, end_of}
use Rattle.gx_log.proofs.log.Log.append.Goals as goal

pub returns-in_err-end-clause-any_moment : goal.returns-in_err-end-clause-any_moment
returns-in_err-end-clause-any_moment g c = λ tells records at_rest.
    let front = c.self.inside.front in
    let old = c.args.disk.now in
    let rest = subst (λ (n : ℕ). IsAtRest g.D.Disk n old records) (sym c.self.view_is) at_rest in
    let n = 9 + 8200 * length c.args.images.now.entries in
    let after = records ++ record_of c.args.images.now.entries ∷ [] in
    leaves_weaker g.D.Disk old c.write_record.new.disk (FromWrite g.D.Disk old (front + 1) n) (BeforeOrAfter g.D.Disk old records after)
    (from_body g.D.Disk old records front rest after n) (c.in_err-end.ensures.writes tells rest.settled).time

pub returns-in_err-set_gate-clause-any_moment : goal.returns-in_err-set_gate-clause-any_moment
returns-in_err-set_gate-clause-any_moment g c = λ tells records at_rest.
    let front = c.self.inside.front in
    let old = c.args.disk.now in
    let mid = c.write_record.new.disk in
    let rest = subst (λ (n : ℕ). IsAtRest g.D.Disk n old records) (sym c.self.view_is) at_rest in
    let n = 9 + 8200 * length c.args.images.now.entries in
    let entries = record_of c.args.images.now.entries in
    let after = records ++ entries ∷ [] in
    let writes = c.in_ok-end.ensures.writes tells rest.settled in
    let settled = c.in_ok-end.ensures.settled tells in
    let done = c.in_ok-end.ensures.done tells (long records front (g.D.Disk.told old).log rest.stands rest.at_front) in
    let P = BeforeOrAfter g.D.Disk old records after in
    leaves_then g.D.Disk old mid c.set_gate.new.disk P c.in_ok-end.ensures.said
    (leaves_weaker g.D.Disk old mid (FromWrite g.D.Disk old (front + 1) n) P (from_body g.D.Disk old records front rest after n) writes.time)
    (leaves_weaker g.D.Disk mid c.set_gate.new.disk (FromWrite g.D.Disk mid front 1) P
    (λ image write. from_gate g.D.Disk old records front rest mid entries n image c.in_ok-end.ensures.sound writes done settled write)
    (c.in_err-set_gate.ensures.writes tells settled).time)

pub returns-clause-any_moment : goal.returns-clause-any_moment
returns-clause-any_moment g c = λ tells records at_rest.
    let front = c.self.inside.front in
    let old = c.args.disk.now in
    let mid = c.write_record.new.disk in
    let rest = subst (λ (n : ℕ). IsAtRest g.D.Disk n old records) (sym c.self.view_is) at_rest in
    let n = 9 + 8200 * length c.args.images.now.entries in
    let entries = record_of c.args.images.now.entries in
    let after = records ++ entries ∷ [] in
    let writes = c.in_ok-end.ensures.writes tells rest.settled in
    let settled = c.in_ok-end.ensures.settled tells in
    let done = c.in_ok-end.ensures.done tells (long records front (g.D.Disk.told old).log rest.stands rest.at_front) in
    let P = BeforeOrAfter g.D.Disk old records after in
    leaves_then g.D.Disk old mid c.set_gate.new.disk P c.in_ok-end.ensures.said
    (leaves_weaker g.D.Disk old mid (FromWrite g.D.Disk old (front + 1) n) P (from_body g.D.Disk old records front rest after n) writes.time)
    (leaves_weaker g.D.Disk mid c.set_gate.new.disk (FromWrite g.D.Disk mid front 1) P
    (λ image write. from_gate g.D.Disk old records front rest mid entries n image c.in_ok-end.ensures.sound writes done settled write)
    (c.in_ok-set_gate.ensures.writes tells settled).time)

pub returns-clause-added : goal.returns-clause-added
returns-clause-added g c = λ tells records at_rest.
    let front = c.self.inside.front in
    let old = c.args.disk.now in
    let mid = c.write_record.new.disk in
    let rest = subst (λ (n : ℕ). IsAtRest g.D.Disk n old records) (sym c.self.view_is) at_rest in
    let entries = record_of c.args.images.now.entries in
    let done = c.in_ok-end.ensures.done tells (long records front (g.D.Disk.told old).log rest.stands rest.at_front) in
    record {
      stands = opened_gate records front (g.D.Disk.told old).log rest.stands rest.at_front entries c.in_ok-end.ensures.sound (g.D.Disk.told mid).log
          (g.D.Disk.told c.set_gate.new.disk).log done (c.in_ok-set_gate.ensures.done tells);
      at_front = omega (arith, end_of g.D.Disk old records front rest entries c.in_ok-end.ensures.sound, c.in_ok-end.ensures.end, length-record_of c.args.images.now.entries);
      settled = c.in_ok-set_gate.ensures.settled tells;
    }
