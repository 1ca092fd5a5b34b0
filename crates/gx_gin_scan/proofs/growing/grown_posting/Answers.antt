use Rattle.std.proofs.Common.{◌≡◌, ◌-◌, ◌∷◌, [], ◌++◌, ◌∙◌, ℕ, List, length, drop, take, inl, refl, sym, ap, subst, arith}
use Rattle.std.proofs.lemmas.List.{take_all}
use Rattle.std.proofs.lemmas.Result.{IfErr-weaker, IfOk-weaker}
use Rattle.gx_pages.proofs.Footprints.{cause_weaker, keeps_none}
use Rattle.gx_posting.specs.Postings.{Spells}
use Rattle.gx_gin_scan.proofs.growing.grown_posting.Goals as goal

-- what stands behind the first byte
behind_first : (bytes list : List ℕ) → bytes ≡ 0 ∷ list → take (length bytes - 1) (drop 1 bytes) ≡ list
behind_first bytes list is =
    let size = ap (λ (l : List ℕ). length l) is in
    let rest : drop 1 bytes ≡ list = ap (λ (l : List ℕ). drop 1 l) is in
    ap (λ (l : List ℕ). take (length bytes - 1) l) rest ∙ take_all (length bytes - 1) list (omega (arith, size))

pub returns-then-len-clause-grown : goal.returns-then-len-clause-grown
returns-then-len-clause-grown g c = λ tells rows free spells below list.
    let longer = c.in-Ok.ensures.posting rows spells (c.in_ok-last.ensures.last rows spells) in
    let size = ap (λ (l : List ℕ). length l) longer.1 in
    let len = c.len.ensures in
    let test = c.if-len.true in (
      [],
      free,
      inl (record { list = longer.0; is = longer.1; short = omega (arith, size, len, test); spells = longer.2; stand = refl }),
      keeps_none g.P.Pages c.args.pages.now [] free list,
    )

pub returns-clause-grown : goal.returns-clause-grown
returns-clause-grown g c =
    IfOk-weaker c.tree_of.result _ _ (λ posting is tells rows free spells below list.
    let longer = c.in-Ok.ensures.posting rows spells (c.in_ok-last.ensures.last rows spells) in
    let rest = behind_first c.as_slice.result.now longer.0 (c.as_slice.ensures ∙ longer.1) in
    is tells (rows ++ c.args.row ∷ []) free (subst (λ (l : List ℕ). Spells l (rows ++ c.args.row ∷ [])) (sym rest) longer.2) list)
    c.tree_of.ensures.made

pub returns-clause-cause : goal.returns-clause-cause
returns-clause-cause g c =
    let old = c.args.pages.now in
    IfErr-weaker c.tree_of.result _ _ (λ error has.
    cause_weaker error (g.P.Pages.faults old) (g.P.Pages.faults old) (g.P.Pages.faults c.tree_of.new.pages) (g.P.Pages.faults c.tree_of.new.pages)
    _ _ _ _ _ _ (omega arith) (omega arith)
    (λ at expected found refused tells rows free short spells below list.
    let longer = c.in-Ok.ensures.posting rows spells (c.in_ok-last.ensures.last rows spells) in
    let rest = behind_first c.as_slice.result.now longer.0 (c.as_slice.ensures ∙ longer.1) in
    refused tells (rows ++ c.args.row ∷ []) free (subst (λ (l : List ℕ). Spells l (rows ++ c.args.row ∷ [])) (sym rest) longer.2) list)
    (λ n space. space) (λ m. m) has)
    c.tree_of.ensures.cause
