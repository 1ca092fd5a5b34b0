use Rattle.std.proofs.Common.{ℕ, List, length, sym, ◌∙◌, ap, subst}
use Rattle.gx_bytes.specs.Fields.{le64, paste}
use Rattle.gx_pages.specs.Frees.{HasCount}
use Rattle.gx_pages.proofs.Headers.{count_has}
use Rattle.gx_pages.proofs.header.set_count.Goals as goal

pub returns-clause-counted : goal.returns-clause-counted
returns-clause-counted c =
    let made = c.put_u64.ensures ∙ ap (λ (h : List ℕ). paste h 8 (le64 c.args.count)) c.bytes_mut.ensures.value in
    let size = sym (ap (λ (h : List ℕ). length h) c.bytes_mut.ensures.value) ∙ c.bytes_mut.ensures.len in
    subst (λ (h : List ℕ). HasCount h c.args.count) (sym made) (count_has c.args.header.now c.args.count size)
