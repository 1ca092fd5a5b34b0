use Rattle.std.proofs.Common.{◌≡◌, ◌≢◌, ◌<◌, ◌∷◌, ◌++◌, ℕ, List, Option, Some, None, length, sym, ◌∙◌}
use Rattle.gx_gin_entry.specs.EntryTrees.{AreListed, Entry}
use Rattle.gx_gin_entry.proofs.Stops.{listed_none, listed_same, listed_spelled, opt_weaker}
use Rattle.gx_gin_entry.proofs.places.entry_at.Goals as goal

pub returns-in_default-clause-entry : goal.returns-in_default-clause-entry
returns-in_default-clause-entry c = λ list listed below. listed_none c.args.slots.now.items list listed c.args.slot below c.in_default.ensures

pub returns-clause-entry : goal.returns-clause-entry
returns-clause-entry c =
    opt_weaker c.split_entry.result _ _ _ _
    (λ none list listed below.
    let found = listed_spelled c.args.slots.now.items list listed c.args.slot c.in-Some.item.now below c.in-Some.ensures in
    none found.0 found.1 found.2)
    (λ found has list front back entry listed cut at.
    listed_same c.args.slots.now.items list listed c.args.slot c.in-Some.item.now found.0.now found.1.now has.0 has.1 c.in-Some.ensures front back entry cut at)
    c.split_entry.ensures
