use Rattle.std.proofs.Common.{◌≡◌, ℕ, List, take, drop, sym, ◌∙◌, ap, arith}
use Rattle.gx_bytes.specs.Fields.{le64}
use Rattle.gx_pages.specs.Frees.{free_page_of}
use Rattle.gx_pages.proofs.FreePages.{next_same, same_bytes}
use Rattle.gx_pages.proofs.free.next_free.Goals as goal

pub returns-else-eq-clause-none : goal.returns-else-eq-clause-none
returns-else-eq-clause-none c = λ next fits is.
    let page = c.args.page.now in
    let field : take 8 (drop 8 page) ≡ le64 c.in_ok-next.next = sym (ap (λ (l : List ℕ). take 8 (drop 8 l)) c.bytes-bytes.ensures.value) ∙ c.in_ok-next.ensures.some.1 in
    let number : c.in_ok-next.next ≡ next = next_same c.in_ok-next.next next page (omega arith) fits field is in
    let same : c.bytes-bytes.result.now ≡ c.bytes.result.now =
    c.bytes-bytes.ensures.value ∙ is ∙ ap free_page_of (sym number) ∙ sym c.free_page-free.ensures ∙ sym c.bytes.ensures.value in
    cc (c.eq.ensures, c.if-eq.false, same_bytes c.bytes-bytes.result.now c.bytes.result.now same)
