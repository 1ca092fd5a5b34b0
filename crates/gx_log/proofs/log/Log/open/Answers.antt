use Rattle.std.proofs.Common.{◌≡◌, List, length, sym, ◌∙◌, ap, subst}
use Rattle.gx_words.specs.Image.{Image}
use Rattle.gx_log.specs.Records.{Record, Stands, opened}
use Rattle.gx_log.proofs.Bodies.{stands_same}
use Rattle.gx_log.proofs.Finding.{earlier_cause}
use Rattle.gx_log.proofs.log.Log.open.Goals as goal

pub returns-in-Ok-find_front-clause-counted : goal.returns-in-Ok-find_front-clause-counted
returns-in-Ok-find_front-clause-counted g c = λ tells records stands.
    let front = c.in-Ok-find_front.ensures.front tells in
    let reads = c.in-Ok-find_front.ensures.reads in
    let log = (g.D.Disk.told c.args.disk.now).log in
    let there : Stands front.0 log = subst (λ (image : Image). Stands front.0 image.log) c.in-Ok.ensures.told front.1 in
    let same : front.0 ≡ records = stands_same front.0 records log there stands in
    let told : g.D.Disk.told c.find_front.new.disk ≡ g.D.Disk.told c.args.disk.now = reads.told ∙ c.in-Ok.ensures.told in
    record {
      stands = subst (λ (image : Image). Stands records image.log) (sym told) stands;
      at_front = front.2 ∙ ap (λ (l : List Record). length (opened l)) same;
      settled = λ image may.
          let is = c.in-Ok.ensures.settled tells image ((reads.images image).0 may) in
          ap (λ (i : Image). i.log) (is ∙ sym told);
    }

pub returns-in-Err-find_front-clause-cause : goal.returns-in-Err-find_front-clause-cause
returns-in-Err-find_front-clause-cause g c =
    earlier_cause c.in-Err-find_front.fault (g.D.Disk.faults c.args.disk.now) (g.D.Disk.faults c.sync_both.new.disk) (g.D.Disk.faults c.find_front.new.disk) g.D.Disk.tells
    (g.D.Disk.told c.args.disk.now).log (g.D.Disk.told c.sync_both.new.disk).log ⊥ c.in-Ok.ensures.faults (ap (λ (i : Image). i.log) c.in-Ok.ensures.told) c.in-Err-find_front.ensures.cause
