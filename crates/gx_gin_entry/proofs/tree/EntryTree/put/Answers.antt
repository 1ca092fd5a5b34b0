use Rattle.std.proofs.Common.{◌≡◌, ◌≤◌, ◌<◌, ◌+◌, ◌∙◌, ℕ, List, refl, sym, ap, subst, arith}
use Rattle.std.proofs.lemmas.Result.{err_from_is_err_and, on_ok_weaker, IfErr-weaker}
use Rattle.gx_pages.proofs.Footprints.{cause_weaker}
use Rattle.gx_slot.specs.Slots.{Slots}
use Rattle.gx_tree.proofs.Causes.{broken_cause, broken_or}
use Rattle.gx_gin_entry.proofs.Leaves.{entries_same, map_same_later, mid_listed, parts, whole_shorter}
use Rattle.gx_gin_entry.proofs.Maps.{all_unit, not_longer, put_changed, put_done, remove_done, remove_none}
use Rattle.gx_gin_entry.proofs.Stops.{when_false, when_true}
use Rattle.gx_pages.specs.Footprints.{KeepsPages}
use Rattle.gx_tree.specs.Trees.{entries}
use Rattle.gx_gin_entry.specs.EntryTrees.{Entry, HasLonger, HoldsEntries, IsPut}
use Rattle.gx_gin_entry.proofs.tree.EntryTree.put.Goals as goal

pub returns-then-done-clause-put : goal.returns-then-done-clause-put
returns-then-done-clause-put g c = λ tells list feet free held.
    let done = c.in_ok-done.ensures.put c.if-done.true tells list feet free held in (
      done.0,
      done.1,
      free,
      done.2,
      done.3,
      subst (λ (k : List ℕ). IsPut k c.args.posting.now list done.0) c.in-Ok.ensures.key (subst (λ (p : List ℕ). IsPut c.in-Ok.change.key.now p list done.0) c.in-Ok.ensures.posting done.4),
    )

pub returns-clause-put : goal.returns-clause-put
returns-clause-put g c = λ tells list feet free held.
    let done = put_changed g.P.Pages c.args.pages.now c.put_in_place.new.pages c.change_tree.new.pages c.args.self.now.page list feet free held (c.in_ok-done.ensures.map c.if-done.false) c.in_ok-done.ensures.count
    c.in-Ok.change.key.now c.in-Ok.change.posting.now
    (c.in_ok-change_tree.ensures.changed tells held.held.tree free (entries_same g.P.Pages c.args.pages.now c.put_in_place.new.pages c.args.self.now.page list feet free (c.in_ok-done.ensures.map c.if-done.false) c.in_ok-done.ensures.count held) held.held.keyed (record { key = c.in-Ok.change.key.now; short = c.in-Ok.change.key_fits; is = refl }) (all_unit (entries held.held.tree))) in (
      done.0,
      done.1,
      done.2,
      done.3,
      done.4,
      subst (λ (k : List ℕ). IsPut k c.args.posting.now list done.0) c.in-Ok.ensures.key (subst (λ (p : List ℕ). IsPut c.in-Ok.change.key.now p list done.0) c.in-Ok.ensures.posting done.5),
    )

pub returns-clause-stays : goal.returns-clause-stays
returns-clause-stays g c = λ tells list feet free held longer.
    absurd (not_longer list c.in-Ok.change.key.now c.in-Ok.change.posting.now (c.in_ok-done.ensures.shorter c.if-done.false tells list feet free held)
    (subst (λ (k : List ℕ). HasLonger list k c.in-Ok.change.posting.now) (sym c.in-Ok.ensures.key) (subst (λ (p : List ℕ). HasLonger list c.args.key.now p) (sym c.in-Ok.ensures.posting) longer)))

pub returns-in_err-change_tree-clause-stays : goal.returns-in_err-change_tree-clause-stays
returns-in_err-change_tree-clause-stays g c = λ tells list feet free held longer.
    absurd (not_longer list c.in-Ok.change.key.now c.in-Ok.change.posting.now (c.in_ok-done.ensures.shorter c.if-done.false tells list feet free held)
    (subst (λ (k : List ℕ). HasLonger list k c.in-Ok.change.posting.now) (sym c.in-Ok.ensures.key) (subst (λ (p : List ℕ). HasLonger list c.args.key.now p) (sym c.in-Ok.ensures.posting) longer)))

pub returns-in_err-change_tree-clause-cause : goal.returns-in_err-change_tree-clause-cause
returns-in_err-change_tree-clause-cause g c =
    let p = err_from_is_err_and c.from_residual-in_err-change_tree.result c.from_residual-in_err-change_tree.ensures.1 in
    rw (p.1, p.2)
    (cause_weaker c.in_err-change_tree.field-0.0 (g.P.Pages.faults c.args.pages.now) (g.P.Pages.faults c.put_in_place.new.pages) (g.P.Pages.faults c.change_tree.new.pages) (g.P.Pages.faults c.change_tree.new.pages)
    _ _ _ _ _ _ (let q = c.in_ok-done.ensures.quiet.faults in omega (arith, q)) (omega arith)
    (λ at expected found refused tells list feet free held.
    refused tells held.held.tree free (entries_same g.P.Pages c.args.pages.now c.put_in_place.new.pages c.args.self.now.page list feet free (c.in_ok-done.ensures.map c.if-done.false) c.in_ok-done.ensures.count held) held.held.keyed (record { key = c.in-Ok.change.key.now; short = c.in-Ok.change.key_fits; is = refl }) (all_unit (entries held.held.tree)))
    (λ n space. (
      space,
      λ tells list feet free held longer.
          not_longer list c.in-Ok.change.key.now c.in-Ok.change.posting.now (c.in_ok-done.ensures.shorter c.if-done.false tells list feet free held)
          (subst (λ (k : List ℕ). HasLonger list k c.in-Ok.change.posting.now) (sym c.in-Ok.ensures.key) (subst (λ (p : List ℕ). HasLonger list c.args.key.now p) (sym c.in-Ok.ensures.posting) longer)),
    ))
    (λ m. m) c.in_err-change_tree.ensures.cause)
