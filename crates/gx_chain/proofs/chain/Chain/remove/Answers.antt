use Rattle.std.proofs.Common.{◌≡◌, ◌≢◌, ℕ, ◌-◌, List, ◌∷◌, ◌++◌, sym, ◌∙◌, ap, subst, arith}
use Rattle.std.proofs.lemmas.Result.{err_from_is_err_and}
use Rattle.gx_pages.proofs.Footprints.{cause_weaker}
use Rattle.gx_chain.specs.declared.chain.Chain.{Chain}
use Rattle.gx_pages.specs.Footprints.{KeepsPages}
use Rattle.gx_chain.specs.Chains.{pages_of}
use Rattle.gx_chain.proofs.Slotted.{behind_link, kept_feet, removed_page, was_held}
use Rattle.gx_chain.proofs.chain.Chain.remove.Goals as goal
use Rattle.gx_chain.proofs.chain.Chain.remove.Goals.{then-next-eq0, else-next-eq0}

pub returns-in_err-slots-clause-cause : goal.returns-in_err-slots-clause-cause
returns-in_err-slots-clause-cause g c =
    let p = err_from_is_err_and c.from_residual.result c.from_residual.ensures.1 in
    rw (p.1, p.2)
    (cause_weaker c.in_err-slots.field-0.0 (g.P.Pages.faults c.args.pages.now) (g.P.Pages.faults c.args.pages.now) (g.P.Pages.faults c.remove_item.new.pages) (g.P.Pages.faults c.remove_item.new.pages)
    _ _ _ _ _ _ (omega arith) (omega arith)
    (λ at expected found broken tells links free front back item held same behind. broken tells c.args.self.now links front back item held.held same)
    (λ n no. absurd no) (λ memory. tt) c.in_err-slots.ensures.cause)

pub returns-then-before-eq0-clause-removed : goal.returns-then-before-eq0-clause-removed
returns-then-before-eq0-clause-removed g c = λ tells links free front back item held same behind.
    let r = c.in_ok-slots.ensures.removed tells c.args.self.now links free front back item held same in
    let stand = kept_feet r.0 r.1 c.args.page r.2 c.in_ok-slots.slots.items links r.3 in (
      r.0 ++ (c.args.page, c.in_ok-slots.slots.items) ∷ r.1,
      free,
      r.4,
      r.6,
      subst (λ (l : List ℕ). KeepsPages g.P.Pages c.args.pages.now c.remove_item.new.pages (pages_of links) free l free) (sym stand.0) r.7,
      λ exact. exact ∙ stand.1,
    )

pub returns-then-not-is_empty-clause-removed : goal.returns-then-not-is_empty-clause-removed
returns-then-not-is_empty-clause-removed g c = λ tells links free front back item held same behind.
    let r = c.in_ok-slots.ensures.removed tells c.args.self.now links free front back item held same in
    let stand = kept_feet r.0 r.1 c.args.page r.2 c.in_ok-slots.slots.items links r.3 in (
      r.0 ++ (c.args.page, c.in_ok-slots.slots.items) ∷ r.1,
      free,
      r.4,
      r.6,
      subst (λ (l : List ℕ). KeepsPages g.P.Pages c.args.pages.now c.remove_item.new.pages (pages_of links) free l free) (sym stand.0) r.7,
      λ exact. exact ∙ stand.1,
    )

pub returns-in_err-unlink_behind-clause-cause : goal.returns-in_err-unlink_behind-clause-cause
returns-in_err-unlink_behind-clause-cause g c =
    let p = err_from_is_err_and c.from_residual-in_err-unlink_behind.result c.from_residual-in_err-unlink_behind.ensures.1 in
    rw (p.1, p.2)
    (cause_weaker c.in_err-unlink_behind.field-0.0 (g.P.Pages.faults c.args.pages.now) (g.P.Pages.faults c.remove_item.new.pages) (g.P.Pages.faults c.unlink_behind.new.pages) (g.P.Pages.faults c.unlink_behind.new.pages)
    _ _ _ _ _ _ (let q = c.in_ok-slots.ensures.quiet.faults in omega (arith, q)) (omega arith)
    (λ at expected found broken tells links free front back item held same behind.
    let r = c.in_ok-slots.ensures.removed tells c.args.self.now links free front back item held same in
    let ll = behind_link links r.0 r.1 c.args.page c.args.before r.2 r.3 held.held.apart c.if-before-eq0.false behind in
    let was = was_held g.P.Pages c.args.pages.now c.remove_item.new.pages c.unlink_behind.new.pages c.args.kind c.args.before c.args.page c.next-next.result c.args.self.now c.args.self.now c.in_ok-slots.slots.items links r.0 r.1
    r.2 free front back c.if-before-eq0.false (c.is_empty.ensures.empty c.if-not-is_empty.false c.args.page) (c.next-next.ensures ∙ r.5) held behind r.3 r.4 in
    broken tells ll.front ((c.args.page, c.in_ok-slots.slots.items) ∷ r.1) ll.items was.held)
    (λ n no. absurd no) (λ memory. tt) c.in_err-unlink_behind.ensures.cause)

pub returns-clause-removed : goal.returns-clause-removed
returns-clause-removed g c = λ tells links free front back item held same behind.
    let r = c.in_ok-slots.ensures.removed tells c.args.self.now links free front back item held same in
    let ends : Chain = record { first = c.if-next-eq0.self.first; last = c.if-next-eq0.self.last; pages = c.saturating_sub-self.result } in
    let first_is : c.if-next-eq0.self.first ≡ c.args.self.now.first =
    elim c.if-next-eq0.branch [ then-next-eq0 w ↦ ap (λ (k : Chain). k.first) w.self-is | else-next-eq0 w ↦ ap (λ (k : Chain). k.first) w.self-is ] in
    let pages_is : c.if-next-eq0.self.pages ≡ c.args.self.now.pages =
    elim c.if-next-eq0.branch [ then-next-eq0 w ↦ ap (λ (k : Chain). k.pages) w.self-is | else-next-eq0 w ↦ ap (λ (k : Chain). k.pages) w.self-is ] in
    let at_end : c.next-next.result ≡ 0 → c.if-next-eq0.self.last ≡ c.args.before =
    λ none. elim c.if-next-eq0.branch [ then-next-eq0 w ↦ ap (λ (k : Chain). k.last) w.self-is | else-next-eq0 w ↦ absurd (w.if-next-eq0.false none) ] in
    let goes_on : c.next-next.result ≢ 0 → c.if-next-eq0.self.last ≡ c.args.self.now.last =
    λ some. elim c.if-next-eq0.branch [ then-next-eq0 w ↦ absurd (some w.if-next-eq0.true) | else-next-eq0 w ↦ ap (λ (k : Chain). k.last) w.self-is ] in
    removed_page g.P.Pages c.args.pages.now c.remove_item.new.pages c.unlink_behind.new.pages c.args.kind c.args.before c.args.page c.next-next.result c.args.self.now ends c.in_ok-slots.slots.items
    links r.0 r.1 r.2 free front back c.if-before-eq0.false (c.is_empty.ensures.empty c.if-not-is_empty.false c.args.page) (c.next-next.ensures ∙ r.5) held behind r.3 r.4 r.6 r.7
    (c.in_ok-unlink_behind.ensures.shorter tells) first_is (c.saturating_sub-self.ensures ∙ ap (λ (n : ℕ). n - 1) pages_is) at_end goes_on
