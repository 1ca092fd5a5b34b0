use Rattle.std.proofs.Common.{rules, ℕ, List, Option, Box, is_some, ◌∙◌, ap}
use Rattle.std.specs.declared.alloc.Global.{Global}
use Rattle.std.specs.BTreeMap.{is_at}
use Rattle.std.specs.Map.{lookup}
use Rattle.std.specs.Ordering.{nat_cmp}
use Rattle.std.proofs.lemmas.Map.Made.{map_same_pairs, lookup-map_values}
use Rattle.gx_pager.specs.Layers.{shown}
use Rattle.gx_pager.proofs.Maps.{nothing, emptied_none, emptied_some}
use Rattle.gx_pager.proofs.layers.empty_places.Goals as goal

pub returns-clause-none : goal.returns-clause-none
returns-clause-none c = λ n.
    let made = map_same_pairs _ (λ place. nothing) _ (λ k v b w f' t. search rules) _ _ c.retain.ensures.filtered in
    ap (λ (l : List (ℕ × Option (Box (List ℕ) Global))). shown (lookup (is_at (nat_cmp n)) l)) made
    ∙ ap shown (lookup-map_values (λ (place : Option (Box (List ℕ) Global)). nothing) (is_at (nat_cmp n)) c.args.kept.now.entries)
    ∙ emptied_none (lookup (is_at (nat_cmp n)) c.args.kept.now.entries)

pub returns-clause-placed : goal.returns-clause-placed
returns-clause-placed c = λ n some.
    let made = map_same_pairs _ (λ place. nothing) _ (λ k v b w f' t. search rules) _ _ c.retain.ensures.filtered in
    ap (λ (l : List (ℕ × Option (Box (List ℕ) Global))). is_some (lookup (is_at (nat_cmp n)) l)) made
    ∙ ap (λ (o : Option (Option (Box (List ℕ) Global))). is_some o) (lookup-map_values (λ (place : Option (Box (List ℕ) Global)). nothing) (is_at (nat_cmp n)) c.args.kept.now.entries)
    ∙ emptied_some (lookup (is_at (nat_cmp n)) c.args.kept.now.entries) ∙ some
