-- What the search says where it finds the key, and where it finds none.
use Rattle.std.proofs.Common.{◌≡◌, refl, rules}
use Rattle.std.proofs.lemmas.Fn.{always_returns_same}
use Rattle.gx_json.proofs.OperatorLemmas.{answers_no}
use Rattle.gx_json.proofs.KeySearch.{compared, hit, miss}
use Rattle.gx_json.proofs.operators.has_pair.Goals as goal

pub returns-in-Ok : goal.returns-in-Ok
returns-in-Ok c =
    let computes = always_returns_same _ (λ a r. r ≡ compared c.args.key.now a.0.now) _ (λ a r q k. search rules) in
    (λ _. hit c.args.pairs.now c.args.key.now c.in-Ok.field-0 c.in-Ok.ensures.bound (c.in-Ok.ensures.position (compared c.args.key.now) computes), λ _. refl)

pub returns-in-Err : goal.returns-in-Err
returns-in-Err c =
    let computes = always_returns_same _ (λ a r. r ≡ compared c.args.key.now a.0.now) _ (λ a r q k. search rules) in
    answers_no (miss c.args.pairs.now c.args.key.now c.in-Err.field-0 c.requires (c.in-Err.ensures.position (compared c.args.key.now) computes))
