use Rattle.std.proofs.Common.{◌≡◌, ◌≢◌, ℕ, ◌+◌, suc, List, ◌∷◌, ◌++◌, take, drop, sym, ◌∙◌, ap, add-one}
use Rattle.std.proofs.lemmas.Slice.Eq.{bytes_eq-Decides}
use Rattle.gx_chain.specs.declared.entry.Entry.{Entry}
use Rattle.gx_catalog.proofs.Placed.{all_next, cut_at}
use Rattle.gx_catalog.proofs.place.entry_of.Goals as goal

pub returns-then-is_same-clause-some : goal.returns-then-is_same-clause-some
returns-then-is_same-clause-some c =
    let e = c.entry-item.result in
    let same = (bytes_eq-Decides c.as_slice.result.now c.args.item.now).0 (sym c.is_same.ensures ∙ c.if-is_same.true) in
    let item : e.item ≡ c.args.item.now = sym c.as_slice.ensures ∙ same in (
      take c.loop-entry.entry-index c.args.entries.now,
      drop (suc c.loop-entry.entry-index) c.args.entries.now,
      cut_at c.args.entries.now c.loop-entry.entry-index e c.loop-entry-test.true c.entry-item.is
          ∙ ap (λ (b : List ℕ). take c.loop-entry.entry-index c.args.entries.now ++ record e { item = b } ∷ drop (suc c.loop-entry.entry-index) c.args.entries.now) item,
    )

pub loop-entry-preserved : goal.loop-entry-preserved
loop-entry-preserved c =
    all_next (λ (entry : Entry). entry.item ≢ c.args.item.now) c.args.entries.now c.loop-entry.entry-index (c.loop-entry.entry-index + 1) c.entry-item.result (add-one c.loop-entry.entry-index)
    c.loop-entry-test.true c.entry-item.is c.loop-entry.invariant
    (λ same.
    let yes = (bytes_eq-Decides c.as_slice.result.now c.args.item.now).1 (c.as_slice.ensures ∙ same) in
    let no = c.if-is_same.false in
    let is = c.is_same.ensures in
    cc)
