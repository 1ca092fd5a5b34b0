-- Lists of valid keys.
use Rattle.std.specs.Prelude.{◌≡◌, ℕ, ◌≤◌, List, [], ◌∷◌, ◌++◌, All, Contains}
use Rattle.std.proofs.Common.{inl, inr, subst, arith}
use Rattle.std.proofs.lemmas.List.Elements.{All-cons, Contains-push_cases}
use Rattle.gx_scalar.specs.declared.scalar.ScalarKind.TheVariants as kinds
use Rattle.gx_class_scalar.specs.declared.key.ScalarKey.{ScalarKey}
use Rattle.gx_class_scalar.specs.Keys.{IsKey}

abbrev pub AreKeys : List ScalarKey → Type 0
AreKeys keys = (k : ScalarKey) → Contains keys k → IsKey kinds.Int4 k

pub one_more : (keys : List ScalarKey) (k : ScalarKey) → AreKeys keys → IsKey kinds.Int4 k → AreKeys (keys ++ k ∷ [])
one_more keys k all valid x has = elim (Contains-push_cases keys k x has) [ inl before ↦ all x before | inr same ↦ subst (λ (s : ScalarKey). IsKey kinds.Int4 s) same valid ]

pub no_keys : AreKeys []
no_keys k has = absurd (omega (arith, has.1))

pub tens : All (λ size. size ≤ 1922) (10 ∷ 10 ∷ 10 ∷ 10 ∷ [])
tens = All-cons (λ size. size ≤ 1922) 10 (10 ∷ 10 ∷ 10 ∷ []) (omega arith) (All-cons (λ size. size ≤ 1922) 10 (10 ∷ 10 ∷ []) (omega arith)
    (All-cons (λ size. size ≤ 1922) 10 (10 ∷ []) (omega arith) (All-cons (λ size. size ≤ 1922) 10 [] (omega arith) (λ k d h. absurd (omega (arith, h))))))
