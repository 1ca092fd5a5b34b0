use Rattle.std.proofs.Common.{ℕ, ◌≡◌, ◌∙◌, rules}
use Rattle.std.specs.Ordering.{is_lt}
use Rattle.std.proofs.lemmas.Result.{IfOk-weaker}
use Rattle.std.proofs.lemmas.Fn.{always_returns_same}
use Rattle.std.proofs.lemmas.List.Sorted.{ranks_by}
use Rattle.gx_gist.specs.Orders.{place_cmp}
use Rattle.gx_gist.proofs.OrderFacts.{place_total, ranked_from}
use Rattle.gx_gist.proofs.order.places_by_rank.Goals as goal

pub returns : goal.returns
returns g c =
    let keys = c.args.keys.now in
    let R = g.K.Ranked.rank_cmp in
    let rising = c.in_ok-sort_by.ensures.sorted (λ a b. is_lt (place_cmp R keys a b)) (ranks_by (place_total R g.met.K.Ranked.ranks keys) (λ (p : ℕ). p))
    (always_returns_same _ (λ a r. is_lt r ≡ is_lt (place_cmp R keys a.0.now a.1.0.now)) _ (λ a r q k. search rules)) in
    IfOk-weaker c.from_slice.result _ _ (λ made e. ranked_from R keys _ _ made c.in_ok-places.ensures c.in_ok-sort_by.ensures.permutation rising (e ∙ c.as_slice.ensures.value)) c.from_slice.ensures
