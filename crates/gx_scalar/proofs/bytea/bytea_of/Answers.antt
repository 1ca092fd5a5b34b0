use Rattle.std.proofs.Common.{[], ◌∷◌, Some, inl, inr, ◌∙◌}
use Rattle.std.proofs.lemmas.Bool.Decides.{Decides-eqb}
use Rattle.std.proofs.lemmas.Slice.Eq.{strip_prefix_is}
use Rattle.gx_scalar.proofs.TextLemmas.{bytea_read, bytea_refused, no_bytea}
use Rattle.gx_scalar.proofs.Pairs.{decoded_pairs}
use Rattle.gx_scalar.proofs.bytea.bytea_of.Goals as goal

pub returns-in_ok-copy_of-in-Ok : goal.returns-in_ok-copy_of-in-Ok
returns-in_ok-copy_of-in-Ok c =
    let cut = strip_prefix_is Decides-eqb c.args.text.now (92 ∷ 120 ∷ []) (Some c.in-Some.digits) (rw c.as_bytes.ensures.value at c.in-Some.ensures.cases) in
    bytea_read c.args.text.now c.in-Some.digits.now c.in-Ok.bytes.items c.in_ok-copy_of-in-Ok.field-0 cut
    (decoded_pairs c.in-Some.digits.now c.in-Ok.bytes.items c.in-Ok.ensures.ok)
    (c.in_ok-copy_of-in-Ok.ensures ∙ c.as_slice.ensures.value)

pub returns-in_default-fault : goal.returns-in_default-fault
returns-in_default-fault c =
    let cut = strip_prefix_is Decides-eqb c.args.text.now (92 ∷ 120 ∷ []) (Some c.in-Some.digits) (rw c.as_bytes.ensures.value at c.in-Some.ensures.cases) in
    elim c.in-Err.ensures.err [
      | inl memory ↦ absurd (c.in_default-fault.not-OutOfMemory memory)
      | inr refused ↦ no_bytea c.args.text.now (bytea_refused c.args.text.now c.in-Some.digits.now c.in-Err.fault cut refused)
    ]
