use Rattle.std.proofs.Common.{◌≡◌, ℕ, ◌≤◌, ◌+◌, ◌-◌, ◌*◌, ◌/◌, List, ◌++◌, ◌∷◌, [], length, drop, sym, ◌∙◌, ap, subst, arith}
use Rattle.std.specs.BTreeMap.{get}
use Rattle.std.specs.Ordering.{nat_cmp}
use Rattle.gx_words.specs.Image.{Image}
use Rattle.gx_log.specs.Places.{IsOpen, IsShut, cut}
use Rattle.gx_log.specs.Records.{Record, entries_in, laid, laid_all, page_in}
use Rattle.gx_log.proofs.Bodies.{entries_in-push, stands_same}
use Rattle.gx_log.proofs.Cutting.{length-cut}
use Rattle.gx_log.proofs.Finding.{record_at, one_more, front_of, place_cause}
use Rattle.gx_log.proofs.Laying.{laid_all_push}
use Rattle.gx_log.proofs.Moves.{reads_join}
use Rattle.gx_log.proofs.replay.lay_records.Goals as goal

pub loop-end-preserved : goal.loop-end-preserved
unfolding record_at
loop-end-preserved g c =
    let i = c.loop-end.invariant in
    let opens = rw c.in-Ok-Some.field-0-is at c.in-Ok-Some.ensures.open in
    let further = rw c.in-Ok-Some.field-0-is at c.in-Ok-Some.ensures.further in
    let to_there = reads_join g.D.Disk c.args.disk.now c.loop-end.disk c.record_end.new.disk i.reads c.in-Ok-Some.ensures.reads in
    record {
      reads = reads_join g.D.Disk c.args.disk.now c.record_end.new.disk c.lay_entries.new.disk to_there c.in-Ok-lay_entries.ensures.reads;
      within = further.1;
      few = omega (arith, i.few, further.0);
      found = λ tells.
          let log = (g.D.Disk.told c.args.disk.now).log in
          let place = c.loop-end.place in
          let end = c.in-Ok-Some.end in
          let size : c.in-Ok.size ≡ length log = c.in-Ok.ensures.size tells in
          let known : c.in-Ok.size ≡ length (g.D.Disk.told c.loop-end.disk).log = size ∙ ap (λ (image : Image). length image.log) (sym i.reads.told) in
          let found : IsOpen log place end = subst (λ (image : Image). IsOpen image.log place end) i.reads.told (opens tells known) in
          let before = i.found tells in
          let count : (end - place - 9) / 8200 ≡ found.count = omega (arith, found.ends) in
          let inside : place + 9 + 8200 * ((end - place - 9) / 8200) ≤ length (g.D.Disk.told c.record_end.new.disk).log =
          subst (λ (image : Image). place + 9 + 8200 * ((end - place - 9) / 8200) ≤ length image.log) (sym to_there.told) (omega (arith, found.ends, found.within, count)) in (
            before.0 ++ record_at log place found.count ∷ [],
            one_more log place end before.0 before.1 found (omega (arith, further.0, further.1, size)),
            omega (arith, before.2, count, entries_in-push before.0 (record_at log place found.count), length-cut 8 8192 found.count (drop (place + 9) log)),
            λ page.
                c.in-Ok-lay_entries.ensures.laid tells inside page
                ∙ ap (λ (image : Image). laid (page_in (get nat_cmp c.loop-end.into page)) page (cut 8 8192 ((end - place - 9) / 8200) (drop (place + 9) image.log))) to_there.told
                ∙ ap (λ (n : ℕ). laid (page_in (get nat_cmp c.loop-end.into page)) page (cut 8 8192 n (drop (place + 9) log))) count
                ∙ ap (λ (b : _). laid b page (cut 8 8192 found.count (drop (place + 9) log))) (before.3 page)
                ∙ sym (laid_all_push (page_in (get nat_cmp c.args.into.now page)) page before.0 (cut 8 8192 found.count (drop (place + 9) log))),
          );
    }

pub returns-in-Ok-None-clause-laid : goal.returns-in-Ok-None-clause-laid
returns-in-Ok-None-clause-laid g c =
    let i = c.loop-end.invariant in
    let shuts = rw c.in-Ok-None.field-0-is at c.in-Ok-None.ensures.shut in
    λ tells records stands page.
    let log = (g.D.Disk.told c.args.disk.now).log in
    let known : c.in-Ok.size ≡ length (g.D.Disk.told c.loop-end.disk).log = c.in-Ok.ensures.size tells ∙ ap (λ (image : Image). length image.log) (sym i.reads.told) in
    let shut : IsShut log c.loop-end.place = subst (λ (image : Image). IsShut image.log c.loop-end.place) i.reads.told (shuts tells known) in
    let before = i.found tells in
    let same : before.0 ≡ records = stands_same before.0 records log (front_of log c.loop-end.place before.0 before.1 shut).0 stands in
    before.3 page ∙ ap (λ (l : List Record). laid_all (page_in (get nat_cmp c.args.into.now page)) page l) same

pub returns-in-Ok-None-clause-entries : goal.returns-in-Ok-None-clause-entries
returns-in-Ok-None-clause-entries g c =
    let i = c.loop-end.invariant in
    let shuts = rw c.in-Ok-None.field-0-is at c.in-Ok-None.ensures.shut in
    λ tells records stands.
    let log = (g.D.Disk.told c.args.disk.now).log in
    let known : c.in-Ok.size ≡ length (g.D.Disk.told c.loop-end.disk).log = c.in-Ok.ensures.size tells ∙ ap (λ (image : Image). length image.log) (sym i.reads.told) in
    let shut : IsShut log c.loop-end.place = subst (λ (image : Image). IsShut image.log c.loop-end.place) i.reads.told (shuts tells known) in
    let before = i.found tells in
    let same : before.0 ≡ records = stands_same before.0 records log (front_of log c.loop-end.place before.0 before.1 shut).0 stands in
    before.2 ∙ ap (λ (l : List Record). entries_in l) same

pub returns-in-Ok-None-clause-counted : goal.returns-in-Ok-None-clause-counted
returns-in-Ok-None-clause-counted g c =
    let i = c.loop-end.invariant in
    let shuts = rw c.in-Ok-None.field-0-is at c.in-Ok-None.ensures.shut in
    λ tells.
    let log = (g.D.Disk.told c.args.disk.now).log in
    let known : c.in-Ok.size ≡ length (g.D.Disk.told c.loop-end.disk).log = c.in-Ok.ensures.size tells ∙ ap (λ (image : Image). length image.log) (sym i.reads.told) in
    let shut : IsShut log c.loop-end.place = subst (λ (image : Image). IsShut image.log c.loop-end.place) i.reads.told (shuts tells known) in
    let before = i.found tells in
    (before.0, (front_of log c.loop-end.place before.0 before.1 shut).0)

pub returns-in-Err-record_end-clause-cause : goal.returns-in-Err-record_end-clause-cause
returns-in-Err-record_end-clause-cause g c =
    let i = c.loop-end.invariant in
    place_cause c.in-Err-record_end.fault (g.D.Disk.faults c.args.disk.now) (g.D.Disk.faults c.loop-end.disk) (g.D.Disk.faults c.record_end.new.disk) g.D.Disk.tells
    (g.D.Disk.told c.args.disk.now).log (g.D.Disk.told c.loop-end.disk).log c.loop-end.place c.in-Ok.size (Unit {0}) i.reads.faults (ap (λ (image : Image). image.log) i.reads.told)
    (λ tells. c.in-Ok.ensures.size tells) (λ tells. let found = i.found tells in (found.0, found.1)) c.in-Err-record_end.ensures.cause
