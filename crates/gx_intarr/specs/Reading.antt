-- What the parts of the reader of array texts say of what they take.
use Rattle.std.specs.Prelude.{◌≡◌, ℕ, Bool, ◌⊎◌, List, ◌∷◌, ◌++◌, map, Result, Ok, Err}
use Rattle.std.specs.List.{AllZip, AllByRecursion}
use Rattle.gx_bytes.specs.declared.error.ValueError.{ValueError}
use Rattle.gx_bytes.specs.declared.error.ValueError.TheVariants.{NoValue, OutOfRange, TooDeep, Memory}
use Rattle.gx_intarr.specs.Runs.{Stops}
use Rattle.gx_intarr.specs.Texts.{Sign, written, IsSign, signs_text, is_plain, IsBareword, SpellsElement, closed}

-- a byte as it is written between quotes, and a rest
pub record TakesSign (text : List ℕ) (byte : ℕ) (rest : List ℕ) : Type 0 where
  pub escaped : Bool
  pub is_sign : IsSign escaped byte
  pub parts : text ≡ written escaped byte ++ rest

-- signs, the closing quote, and a rest
pub record TakesQuoted (inside text rest : List ℕ) : Type 0 where
  pub signs : List Sign
  pub each : AllByRecursion (λ s. IsSign s.escaped s.byte) signs
  pub parts : inside ≡ signs_text signs ++ 34 ∷ rest
  pub value : text ≡ map (λ s. s.byte) signs

-- all plain bytes that come first, and a rest
pub record TakesBareword (bytes text rest : List ℕ) : Type 0 where
  pub raw : List ℕ
  pub parts : bytes ≡ raw ++ rest
  pub is_bareword : IsBareword raw text
  pub stops : Stops is_plain rest

-- an element at the front, and a rest
abbrev pub TakesElement : List ℕ → List ℕ → List ℕ → Type 0
TakesElement bytes text rest =
    ((inside : List ℕ) × (bytes ≡ 34 ∷ inside) × TakesQuoted inside text rest) ⊎ TakesBareword bytes text rest

-- what stands behind the opening brace: some elements, and the closing brace
pub record SpellsElements (text : List ℕ) (texts : List (List ℕ)) : Type 0 where
  pub raws : List (List ℕ)
  pub parts : 44 ∷ text ≡ closed raws
  pub each : AllZip SpellsElement raws texts

abbrev pub AnswersElements : List ℕ → Result (List (List ℕ)) ValueError → Type 0
AnswersElements text (Ok texts) = SpellsElements text texts
AnswersElements text (Err NoValue) = (texts : List (List ℕ)) → SpellsElements text texts → ⊥
AnswersElements text (Err OutOfRange) = ⊥
AnswersElements text (Err TooDeep) = ⊥
AnswersElements text (Err Memory) = Unit {0}
