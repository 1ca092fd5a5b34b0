use Rattle.std.proofs.Common.{◌≡◌, List, ℕ, ◌++◌, ◌∙◌, ap, append_assoc}
use Rattle.gx_bytes.specs.Fields.{le64}
use Rattle.gx_catalog.specs.Items.{heap_bytes}
use Rattle.gx_catalog.proofs.writing.push_heap.Goals as goal

pub returns-clause-bytes : goal.returns-clause-bytes
unfolding heap_bytes
returns-clause-bytes c =
    let h = c.args.heap.now in
    c.in_ok-push_u64-3.ensures ∙ ap (λ (l : List ℕ). l ++ le64 h.last) (c.in_ok-push_u64-2.ensures ∙ ap (λ (l : List ℕ). l ++ le64 h.first) c.in_ok-push_u64.ensures)
    ∙ append_assoc (c.args.to.now ++ le64 h.next) (le64 h.first) (le64 h.last) ∙ append_assoc c.args.to.now (le64 h.next) (le64 h.first ++ le64 h.last)
