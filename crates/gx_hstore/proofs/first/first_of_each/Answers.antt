-- The pairs are sorted, and of those with one key the first is kept.
use Rattle.std.proofs.Common.{◌≡◌, ◌∙◌, rules, ap}
use Rattle.std.specs.Ordering.{is_lt}
use Rattle.std.proofs.lemmas.Fn.{always_returns_same, dedup_same}
use Rattle.gx_hstore.specs.Map.{find}
use Rattle.gx_hstore.proofs.MapLemmas.{before, before_order, same_key, find_sorted, find_dedup, map_dedup}
use Rattle.gx_hstore.proofs.first.first_of_each.Goals as goal

pub from_pairs-requires : goal.from_pairs-requires
from_pairs-requires c =
    let compares = always_returns_same _ (λ a r. is_lt r ≡ before a.0.now a.1.0.now) _ (λ a r q k. search rules) in
    let kept = dedup_same _ same_key _ (λ x y b f' x' y' k. search rules) _ _ c.dedup_by.ensures.filtered in
    rw kept (map_dedup c.sort_by.new.self.items (c.in_ok-sort_by.ensures.sorted before before_order compares))

pub returns : goal.returns
returns c =
    let compares = always_returns_same _ (λ a r. is_lt r ≡ before a.0.now a.1.0.now) _ (λ a r q k. search rules) in
    let kept = dedup_same _ same_key _ (λ x y b f' x' y' k. search rules) _ _ c.dedup_by.ensures.filtered in
    let made = c.from_pairs.ensures ∙ kept in
    record {
      is_map = rw made (map_dedup c.sort_by.new.self.items (c.in_ok-sort_by.ensures.sorted before before_order compares));
      first = λ key. ap (find key) made ∙ find_dedup key c.sort_by.new.self.items ∙ find_sorted c.args.pairs.items c.sort_by.new.self.items (c.sort_by.ensures.stable before before_order compares) key;
    }
