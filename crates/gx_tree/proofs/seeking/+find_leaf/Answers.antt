use Rattle.std.proofs.Common.{◌≡◌, ◌≢◌, ◌≤◌, ◌<◌, ◌+◌, ◌-◌, [], ℕ, zero, suc, List, Option, Some, None, get_or, refl, sym, ◌∙◌, ap, subst, arith}
use Rattle.std.proofs.lemmas.Result.{err_from_is_err_and, IfOk-weaker, IfErr-weaker}
use Rattle.gx_pages.proofs.Footprints.{cause_weaker, quiet_join}
use Rattle.gx_slot.specs.Slots.{Slots}
use Rattle.gx_tree.specs.Finding.{LeafAt, Stands}
use Rattle.gx_tree.specs.Trees.{Node, named, slots_of}
use Rattle.gx_tree.proofs.Causes.{broken_cause, broken_or}
use Rattle.gx_tree.proofs.Finds.{leaf_at}
use Rattle.gx_tree.proofs.Recursion.{level_up}
use Rattle.gx_tree.proofs.Seeks.{inner_is, inner_lacks, inner_stands, items_are, leaf_here, leaf_same, page_fits, page_links, page_some, slot_below, stands_same}
use Rattle.gx_tree.proofs.seeking.+find_leaf.Goals as goal

pub returns-then-level-eq0-clause-found : goal.returns-then-level-eq0-clause-found
returns-then-level-eq0-clause-found g t c = λ tells.
    subst (λ (n : ℕ). (least end : Option (List ℕ)) (node : Node n) → Stands g.P.Pages c.args.pages.now g.S.Seek.order c.args.kind n c.args.page least end node → c.args.slots ≡ slots_of c.args.kind n node
    → LeafAt g.P.Pages c.args.pages.now g.S.Seek.order (g.S.Seek.sought c.args.seek.now) c.args.kind n least end node c.args.page c.args.slots) (sym c.if-level-eq0.true)
    (λ least end node stands is. leaf_at g.P.Pages c.args.pages.now g.S.Seek.order (g.S.Seek.sought c.args.seek.now) c.args.kind c.args.page least end node c.args.slots stands is)

pub returns-in_err-slot-clause-cause : goal.returns-in_err-slot-clause-cause
returns-in_err-slot-clause-cause g t c =
    let p = err_from_is_err_and c.from_residual.result c.from_residual.ensures.1 in
    let old = c.args.pages.now in
    let d = c.args.level - 1 in
    rw (p.1, p.2)
    (broken_or c.in_err-slot.field-0.0 c.args.page (g.P.Pages.faults old) (g.P.Pages.faults old) _ _ _ _ c.in_err-slot.ensures.cause
    (λ refused at expected found tells.
    subst (λ (n : ℕ). (least end : Option (List ℕ)) (node : Node n) → Stands g.P.Pages old g.S.Seek.order c.args.kind n c.args.page least end node → c.args.slots ≡ slots_of c.args.kind n node → ⊥) (level_up c.args.level c.if-level-eq0.false)
    (λ least end node stands is.
    refused (named d node.1)
    (items_are g.P.Pages g.S.Seek.order g.met.S.Seek.lawful (g.S.Seek.sought c.args.seek.now) c.args.kind c.args.page d old (g.met.P.Pages.bounded old) c.args.slots 0 least end node stands is)
    (page_links g.P.Pages g.S.Seek.order g.met.S.Seek.lawful (g.S.Seek.sought c.args.seek.now) c.args.kind c.args.page d old (g.met.P.Pages.bounded old) c.args.slots 0 least end node stands is)
    (page_some g.P.Pages g.S.Seek.order g.met.S.Seek.lawful (g.S.Seek.sought c.args.seek.now) c.args.kind c.args.page d old (g.met.P.Pages.bounded old) c.args.slots 0 least end node stands is))) tt)

pub returns-in_default-clause-cause : goal.returns-in_default-clause-cause
returns-in_default-clause-cause g t c =
    let old = c.args.pages.now in
    let d = c.args.level - 1 in
    let slot = c.in_ok-slot.slot in
    broken_cause c.broken.result c.args.page _ _ _ _ _ c.broken.ensures (λ tells.
    subst (λ (n : ℕ). (least end : Option (List ℕ)) (node : Node n) → Stands g.P.Pages old g.S.Seek.order c.args.kind n c.args.page least end node → c.args.slots ≡ slots_of c.args.kind n node → ⊥) (level_up c.args.level c.if-level-eq0.false)
    (λ least end node stands is.
    let e : None ≡ Some (get_or (named d node.1) slot ([], 0)).1 =
    c.in_default.ensures (named d node.1) [] 0
    (items_are g.P.Pages g.S.Seek.order g.met.S.Seek.lawful (g.S.Seek.sought c.args.seek.now) c.args.kind c.args.page d old (g.met.P.Pages.bounded old) c.args.slots slot least end node stands is)
    (page_fits g.P.Pages g.S.Seek.order g.met.S.Seek.lawful (g.S.Seek.sought c.args.seek.now) c.args.kind c.args.page d old (g.met.P.Pages.bounded old) c.args.slots slot least end node stands is)
    (slot_below g.P.Pages g.S.Seek.order g.met.S.Seek.lawful (g.S.Seek.sought c.args.seek.now) c.args.kind c.args.page d old (g.met.P.Pages.bounded old) c.args.slots slot least end node stands is c.in_ok-slot.ensures.chosen) in
    cc))

pub returns-in_err-inner-clause-cause : goal.returns-in_err-inner-clause-cause
returns-in_err-inner-clause-cause g t c =
    let p = err_from_is_err_and c.from_residual-in_err-inner.result c.from_residual-in_err-inner.ensures.1 in
    let old = c.args.pages.now in
    let d = c.args.level - 1 in
    let slot = c.in_ok-slot.slot in
    rw (p.1, p.2)
    (cause_weaker c.in_err-inner.field-0.0 (g.P.Pages.faults old) (g.P.Pages.faults old) (g.P.Pages.faults c.fetch_level.new.pages) (g.P.Pages.faults c.fetch_level.new.pages)
    _ _ _ _ _ _ (omega arith) (omega arith)
    (λ at expected found broken tells.
    subst (λ (n : ℕ). (least end : Option (List ℕ)) (node : Node n) → Stands g.P.Pages old g.S.Seek.order c.args.kind n c.args.page least end node → c.args.slots ≡ slots_of c.args.kind n node → ⊥) (level_up c.args.level c.if-level-eq0.false)
    (λ least end node stands is.
    inner_lacks g.P.Pages g.S.Seek.order g.met.S.Seek.lawful (g.S.Seek.sought c.args.seek.now) c.args.kind c.args.page d old (g.met.P.Pages.bounded old) c.args.slots slot least end node stands is c.in_ok-slot.ensures.chosen
    c.in-Some.child c.in-Some.ensures (broken tells)))
    (λ n no. absurd no) (λ no. absurd no) c.in_err-inner.ensures.cause)

pub returns-clause-found : goal.returns-clause-found
returns-clause-found g t c =
    let old = c.args.pages.now in
    let mid = c.fetch_level.new.pages in
    let d = c.args.level - 1 in
    let slot = c.in_ok-slot.slot in
    IfOk-weaker c.find_leaf.result _ _ (λ leaf finds tells.
    subst (λ (n : ℕ). (least end : Option (List ℕ)) (node : Node n) → Stands g.P.Pages old g.S.Seek.order c.args.kind n c.args.page least end node → c.args.slots ≡ slots_of c.args.kind n node
    → LeafAt g.P.Pages old g.S.Seek.order (g.S.Seek.sought c.args.seek.now) c.args.kind n least end node leaf.page leaf.slots) (level_up c.args.level c.if-level-eq0.false)
    (λ least end node stands is.
    let inner = inner_stands g.P.Pages g.S.Seek.order g.met.S.Seek.lawful (g.S.Seek.sought c.args.seek.now) c.args.kind c.args.page d old (g.met.P.Pages.bounded old) c.args.slots slot least end node stands is c.in_ok-slot.ensures.chosen
    c.in-Some.child c.in-Some.ensures in
    leaf_here g.P.Pages g.S.Seek.order g.met.S.Seek.lawful (g.S.Seek.sought c.args.seek.now) c.args.kind c.args.page d old (g.met.P.Pages.bounded old) c.args.slots slot least end node stands is c.in_ok-slot.ensures.chosen
    c.in-Some.child c.in-Some.ensures leaf.page leaf.slots
    (leaf_same g.P.Pages old mid g.S.Seek.order (g.S.Seek.sought c.args.seek.now) c.args.kind d _ _ _ leaf.page leaf.slots c.in_ok-inner.ensures.map
    (finds tells _ _ _ (stands_same g.P.Pages old mid g.S.Seek.order c.args.kind d c.in-Some.child _ _ _ c.in_ok-inner.ensures.map c.in_ok-inner.ensures.count inner)
    (inner_is g.P.Pages g.S.Seek.order g.met.S.Seek.lawful (g.S.Seek.sought c.args.seek.now) c.args.kind c.args.page d old (g.met.P.Pages.bounded old) c.args.slots slot least end node stands is c.in_ok-slot.ensures.chosen
    c.in-Some.child c.in-Some.ensures c.in_ok-inner.inner (c.in_ok-inner.ensures.one tells))))))
    c.find_leaf.ensures.found

pub returns-clause-cause : goal.returns-clause-cause
returns-clause-cause g t c =
    let old = c.args.pages.now in
    let mid = c.fetch_level.new.pages in
    let d = c.args.level - 1 in
    let slot = c.in_ok-slot.slot in
    IfErr-weaker c.find_leaf.result _ _ (λ error has.
    cause_weaker error (g.P.Pages.faults old) (g.P.Pages.faults mid) (g.P.Pages.faults c.find_leaf.new.pages) (g.P.Pages.faults c.find_leaf.new.pages)
    _ _ _ _ _ _ (let q = c.in_ok-inner.ensures.quiet.faults in omega (arith, q)) (omega arith)
    (λ at expected found refused tells.
    subst (λ (n : ℕ). (least end : Option (List ℕ)) (node : Node n) → Stands g.P.Pages old g.S.Seek.order c.args.kind n c.args.page least end node → c.args.slots ≡ slots_of c.args.kind n node → ⊥) (level_up c.args.level c.if-level-eq0.false)
    (λ least end node stands is.
    let inner = inner_stands g.P.Pages g.S.Seek.order g.met.S.Seek.lawful (g.S.Seek.sought c.args.seek.now) c.args.kind c.args.page d old (g.met.P.Pages.bounded old) c.args.slots slot least end node stands is c.in_ok-slot.ensures.chosen
    c.in-Some.child c.in-Some.ensures in
    refused tells _ _ _ (stands_same g.P.Pages old mid g.S.Seek.order c.args.kind d c.in-Some.child _ _ _ c.in_ok-inner.ensures.map c.in_ok-inner.ensures.count inner)
    (inner_is g.P.Pages g.S.Seek.order g.met.S.Seek.lawful (g.S.Seek.sought c.args.seek.now) c.args.kind c.args.page d old (g.met.P.Pages.bounded old) c.args.slots slot least end node stands is c.in_ok-slot.ensures.chosen
    c.in-Some.child c.in-Some.ensures c.in_ok-inner.inner (c.in_ok-inner.ensures.one tells))))
    (λ n no. absurd no) (λ m. m) has)
    c.find_leaf.ensures.cause

pub returns-clause-fetches : goal.returns-clause-fetches
returns-clause-fetches g t c =
    let first = c.in_ok-inner.ensures.fetches in
    let rest = c.find_leaf.ensures.fetches in
    let up = level_up c.args.level c.if-level-eq0.false in
    omega (arith, first, rest, up)

pub returns-clause-quiet : goal.returns-clause-quiet
returns-clause-quiet g t c = quiet_join g.P.Pages g.met.P.Pages.follows_on c.args.pages.now c.fetch_level.new.pages c.find_leaf.new.pages c.in_ok-inner.ensures.quiet c.find_leaf.ensures.quiet
