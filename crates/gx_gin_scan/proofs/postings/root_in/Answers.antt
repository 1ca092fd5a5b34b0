use Rattle.std.proofs.Common.{◌≡◌, ⊎_elim, ◌∷◌, ℕ, List, length, sym, ◌∙◌, ap}
use Rattle.gx_bytes.specs.Fields.{le64, length-le64}
use Rattle.gx_gin_scan.proofs.postings.root_in.Goals as goal

pub returns-else-first-eq-TREE-clause-none : goal.returns-else-first-eq-TREE-clause-none
returns-else-first-eq-TREE-clause-none c = λ root is.
    let h = c.in_ok-first.ensures.cases in
    let e : c.in_ok-first.first.now ∷ c.in_ok-first.field.now ≡ 1 ∷ le64 root = sym h.0 ∙ is in
    let first : c.in_ok-first.first.now ≡ 1 = cc in
    let field : c.in_ok-first.field.now ≡ le64 root = cc in
    ⊎_elim (λ both. both.1 (ap (λ (l : List ℕ). length l) field ∙ length-le64 root)) (λ other. other first) c.else-first-eq-TREE.either
