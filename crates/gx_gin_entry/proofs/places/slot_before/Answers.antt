use Rattle.std.proofs.Common.{◌≡◌, ◌<◌, ◌∷◌, ◌++◌, ℕ, List, length, sym, ◌∙◌, subst}
use Rattle.std.specs.Prelude.{MatchBool}
use Rattle.gx_gin_entry.specs.EntryTrees.{AreListed, Entry, IsBefore}
use Rattle.gx_gin_entry.proofs.places.slot_before.Goals as goal

pub returns-clause-before : goal.returns-clause-before
returns-clause-before c = λ list front back entry listed cut at.
    let same = (c.in-Some.ensures.entry list front back entry listed cut at).0 in
    subst (λ (k : List ℕ). MatchBool c.is_before.result (IsBefore k c.args.key.now) (IsBefore k c.args.key.now → ⊥)) same c.is_before.ensures
