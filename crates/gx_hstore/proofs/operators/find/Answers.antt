-- What the search says where it finds the key, and where it finds none.
use Rattle.std.proofs.Common.{◌≡◌, ◌∙◌, ap, rules, Some}
use Rattle.std.proofs.lemmas.Fn.{always_returns_same}
use Rattle.gx_hstore.specs.Map.{Pair}
use Rattle.gx_hstore.proofs.MapLemmas.{compared, hit, miss}
use Rattle.gx_hstore.proofs.operators.find.Goals as goal

pub returns-in-Ok : goal.returns-in-Ok
returns-in-Ok c =
    let computes = always_returns_same _ (λ a r. r ≡ compared c.args.key.now a.0.now) _ (λ a r q k. search rules) in
    let pair : Pair = c.index-pairs-at.result in
    hit c.args.pairs.now c.args.key.now c.in-Ok.at pair c.requires c.in-Ok.ensures.bound c.index-pairs-at.is (c.in-Ok.ensures.position (compared c.args.key.now) computes) ∙ ap (λ (p : Pair). Some p.1) c.index-pairs-at.is

pub returns-in-Err : goal.returns-in-Err
returns-in-Err c =
    let computes = always_returns_same _ (λ a r. r ≡ compared c.args.key.now a.0.now) _ (λ a r q k. search rules) in
    miss c.args.pairs.now c.args.key.now c.in-Err.field-0 c.requires (c.in-Err.ensures.position (compared c.args.key.now) computes)
