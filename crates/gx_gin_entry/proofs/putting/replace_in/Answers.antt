use Rattle.std.proofs.Common.{◌≡◌, ◌<◌, ℕ, List, Option, Some, length, ◌∙◌, ap}
use Rattle.gx_slot.specs.Slots.{Slots}
use Rattle.gx_gin_entry.proofs.Edits.{here_shorter, none_shorter, replaced_here}
use Rattle.gx_gin_entry.proofs.Stops.{between_none, when_false, when_true}
use Rattle.gx_gin_entry.proofs.putting.replace_in.Goals as goal

pub returns-in-Ok-clause-replaced : goal.returns-in-Ok-clause-replaced
returns-in-Ok-clause-replaced c = λ done list listed.
    let s = c.args.change.now in
    replaced_here c.args.slots.now.items c.replace.new.self.items list s.key.now s.posting.now c.as_slice.result.now c.in-Some.place.slot listed
    (when_true c.in-Some.place.here _ _ c.if-place.true (c.in-Some.ensures.found list listed)) (record { key = s.key_fits; posting = s.posting_fits }) (c.as_slice.ensures ∙ s.item_is)
    (ap (λ (t : Slots). t.items) c.in-Ok.ensures.ok)

pub returns-in-Err-clause-shorter : goal.returns-in-Err-clause-shorter
returns-in-Err-clause-shorter c = λ done list listed.
    let s = c.args.change.now in
    here_shorter c.args.slots.now.items list s.key.now s.posting.now c.as_slice.result.now c.in-Some.place.slot c.in-Err.field-0.free listed
    (when_true c.in-Some.place.here _ _ c.if-place.true (c.in-Some.ensures.found list listed)) (c.as_slice.ensures ∙ s.item_is) c.in-Err.ensures.refused.1

pub returns-clause-shorter : goal.returns-clause-shorter
returns-clause-shorter c = λ done list listed.
    let s = c.args.change.now in
    none_shorter list s.key.now s.posting.now (between_none list s.key.now c.in-Some.place.slot (when_false c.in-Some.place.here _ _ c.if-place.false (c.in-Some.ensures.found list listed)))
