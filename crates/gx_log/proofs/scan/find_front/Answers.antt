use Rattle.std.proofs.Common.{◌≡◌, ◌++◌, ◌∷◌, [], length, sym, ◌∙◌, ap, subst, arith}
use Rattle.gx_words.specs.Image.{Image}
use Rattle.gx_log.specs.Places.{IsOpen, IsShut}
use Rattle.gx_log.proofs.Finding.{record_at, one_more, front_of, place_cause}
use Rattle.gx_log.proofs.Moves.{reads_join}
use Rattle.gx_log.proofs.scan.find_front.Goals as goal

pub loop-end-preserved : goal.loop-end-preserved
loop-end-preserved g c =
    let i = c.loop-end.invariant in
    let opens = rw c.in-Ok-Some.field-0-is at c.in-Ok-Some.ensures.open in
    let further = rw c.in-Ok-Some.field-0-is at c.in-Ok-Some.ensures.further in
    record {
      reads = reads_join g.D.Disk c.args.disk.now c.loop-end.disk c.record_end.new.disk i.reads c.in-Ok-Some.ensures.reads;
      within = further.1;
      found = λ tells.
          let log = (g.D.Disk.told c.args.disk.now).log in
          let size : c.in-Ok.size ≡ length log = c.in-Ok.ensures.size tells in
          let known : c.in-Ok.size ≡ length (g.D.Disk.told c.loop-end.disk).log = size ∙ ap (λ (image : Image). length image.log) (sym i.reads.told) in
          let found : IsOpen log c.loop-end.place c.in-Ok-Some.end = subst (λ (image : Image). IsOpen image.log c.loop-end.place c.in-Ok-Some.end) i.reads.told (opens tells known) in
          let before = i.found tells in
          (before.0 ++ record_at log c.loop-end.place found.count ∷ [], one_more log c.loop-end.place c.in-Ok-Some.end before.0 before.1 found (omega (arith, further.0, further.1, size)));
    }

pub returns-in-Ok-None-clause-front : goal.returns-in-Ok-None-clause-front
returns-in-Ok-None-clause-front g c =
    let i = c.loop-end.invariant in
    let shuts = rw c.in-Ok-None.field-0-is at c.in-Ok-None.ensures.shut in
    λ tells.
    let log = (g.D.Disk.told c.args.disk.now).log in
    let known : c.in-Ok.size ≡ length (g.D.Disk.told c.loop-end.disk).log = c.in-Ok.ensures.size tells ∙ ap (λ (image : Image). length image.log) (sym i.reads.told) in
    let shut : IsShut log c.loop-end.place = subst (λ (image : Image). IsShut image.log c.loop-end.place) i.reads.told (shuts tells known) in
    let before = i.found tells in
    let front = front_of log c.loop-end.place before.0 before.1 shut in
    (before.0, front.0, front.1)

pub returns-in-Err-record_end-clause-cause : goal.returns-in-Err-record_end-clause-cause
returns-in-Err-record_end-clause-cause g c =
    let i = c.loop-end.invariant in
    place_cause c.in-Err-record_end.fault (g.D.Disk.faults c.args.disk.now) (g.D.Disk.faults c.loop-end.disk) (g.D.Disk.faults c.record_end.new.disk) g.D.Disk.tells
    (g.D.Disk.told c.args.disk.now).log (g.D.Disk.told c.loop-end.disk).log c.loop-end.place c.in-Ok.size ⊥ i.reads.faults (ap (λ (image : Image). image.log) i.reads.told)
    (λ tells. c.in-Ok.ensures.size tells) i.found c.in-Err-record_end.ensures.cause
