use Rattle.std.proofs.Common.{ℕ, List, length, sym, ◌∙◌, ap, subst}
use Rattle.gx_bytes.specs.Fields.{le64, paste}
use Rattle.gx_pages.specs.Frees.{HasCount}
use Rattle.gx_pages.proofs.Headers.{first_keeps}
use Rattle.gx_pages.proofs.header.set_first_free.Goals as goal

pub returns-clause-counted : goal.returns-clause-counted
returns-clause-counted c = λ count has.
    let made = c.put_u64.ensures ∙ ap (λ (h : List ℕ). paste h 16 (le64 c.args.first)) c.bytes_mut.ensures.value in
    let size = sym (ap (λ (h : List ℕ). length h) c.bytes_mut.ensures.value) ∙ c.bytes_mut.ensures.len in
    subst (λ (h : List ℕ). HasCount h count) (sym made) (first_keeps c.args.header.now c.args.first size count has)
