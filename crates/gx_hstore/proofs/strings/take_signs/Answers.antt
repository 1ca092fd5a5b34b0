-- One sign more, and the end of the signs.
use Rattle.std.proofs.Common.{ℕ, List, sym, true≢false}
use Rattle.gx_hstore.specs.Text.{TakesSigns}
use Rattle.gx_hstore.proofs.Progress.{step, ended, refused}
use Rattle.gx_hstore.proofs.SignLemmas.{sign_found, sign_only, signs_end, no_signs}
use Rattle.gx_hstore.proofs.strings.take_signs.Goals as goal

pub loop-byte-preserved : goal.loop-byte-preserved
loop-byte-preserved c = λ tail.
    let R : List ℕ → List ℕ → Type 0 = λ text bytes. TakesSigns c.args.quoted text bytes tail in
    rw c.in_ok-push.ensures.ok (
    step R c.args.text.now c.loop-byte.rest.now c.in-Some.after.now c.loop-byte.bytes c.in-Some.byte (c.loop-byte.invariant tail)
    (λ later r. sign_found c.args.quoted c.loop-byte.rest.now c.in-Some.byte c.in-Some.after.now later tail c.in-Some.ensures r)
    (λ all r. sign_only c.args.quoted c.loop-byte.rest.now c.in-Some.byte c.in-Some.after.now all tail c.in-Some.ensures r)
    )

pub returns-then-not-stops : goal.returns-then-not-stops
returns-then-not-stops c = λ bytes tail.
    let R : List ℕ → List ℕ → Type 0 = λ text bytes. TakesSigns c.args.quoted text bytes tail in
    refused R c.args.text.now c.loop-byte.rest.now c.loop-byte.bytes (c.loop-byte.invariant tail)
    (λ later r. no_signs c.args.quoted c.loop-byte.rest.now later tail c.in_default.ensures (λ s. true≢false (sym (c.if-not-stops.ensures.1 s))) r) bytes

pub returns : goal.returns
returns c =
    let R : List ℕ → List ℕ → Type 0 = λ text bytes. TakesSigns c.args.quoted text bytes c.loop-byte.rest.now in
    ended R c.args.text.now c.loop-byte.rest.now c.loop-byte.bytes (c.loop-byte.invariant c.loop-byte.rest.now) (signs_end c.args.quoted c.loop-byte.rest.now (c.stops.ensures.0 c.if-not-stops.false))
