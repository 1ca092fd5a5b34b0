use Rattle.std.proofs.Common.{◌≡◌, ◌+◌, ◌<◌, ◌≤◌, ◌∙◌, sym, ap, ℕ, arith}
use Rattle.std.proofs.lemmas.Result.{err_from_is_err_and}
use Rattle.gx_slot.specs.Slots.{Slots, spelling}
use Rattle.gx_pages.proofs.Footprints.{cause_weaker}
use Rattle.gx_tree.specs.Trees.{Tree, Holds, page_of, slots_of}
use Rattle.gx_tree.proofs.Tops.{top_sound, top_level, top_is}
use Rattle.gx_tree.proofs.fetching.fetch_top.Goals as goal

pub returns-in_err-slots-clause-cause : goal.returns-in_err-slots-clause-cause
returns-in_err-slots-clause-cause g c =
    let p = err_from_is_err_and c.from_residual.result c.from_residual.ensures.1 in
    rw (p.1, p.2)
    (cause_weaker c.in_err-slots.field-0.0 (g.P.Pages.faults c.args.pages.now) (g.P.Pages.faults c.args.pages.now) (g.P.Pages.faults c.fetch_slots.new.pages) (g.P.Pages.faults c.fetch_slots.new.pages)
    _ _ _ _ _ _ (omega arith) (omega arith) (λ at expected found broken tells tree held.
    top_sound (g.P.Pages.map c.args.pages.now) (g.P.Pages.count c.args.pages.now) c.args.kind c.args.root tree held (λ some below bytes is. broken some below tells bytes is))
    (λ n no. absurd no) (λ no. absurd no) c.in_err-slots.ensures.cause)

pub returns-then-level-ge-LEVELS-clause-cause : goal.returns-then-level-ge-LEVELS-clause-cause
returns-then-level-ge-LEVELS-clause-cause g c = (
  λ same. let e = c.from.ensures in let f = c.from-then-level-ge-LEVELS.ensures in let deep = c.if-level-ge-LEVELS.true in omega (arith, same, e, f, deep),
  λ tells tree held.
      let is = top_is (g.P.Pages.map c.args.pages.now) (g.P.Pages.count c.args.pages.now) c.args.kind c.args.root tree held c.in_ok-slots.slots (c.in_ok-slots.ensures.one tells) in
      let few = top_level (g.P.Pages.map c.args.pages.now) (g.P.Pages.count c.args.pages.now) c.args.kind c.args.root tree held (g.met.P.Pages.bounded c.args.pages.now) in
      let same = ap (λ (s : Slots). s.level) is in
      let deep = c.if-level-ge-LEVELS.true in
      let level = c.level-level.ensures in
      omega (arith, few, same, deep, level),
)

pub returns-clause-top : goal.returns-clause-top
returns-clause-top g c = λ tells tree held.
    top_is (g.P.Pages.map c.args.pages.now) (g.P.Pages.count c.args.pages.now) c.args.kind c.args.root tree held c.in_ok-slots.slots (c.in_ok-slots.ensures.one tells)
