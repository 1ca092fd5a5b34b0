-- A reader's answers, of which a text has one but for want of memory.
use Rattle.std.proofs.Common.{◌≡◌, ◌≢◌, Result, Ok, Err, refl, ap}
use Rattle.gx_bytes.specs.declared.error.ValueError.{ValueError}
use Rattle.gx_bytes.specs.declared.error.ValueError.TheVariants.{NoValue, OutOfRange, TooDeep, Memory}

-- no two values, and no two of a value and the faults, are said of the text at once
pub record IsSingle {V : Type 0} (Says : Result V ValueError → Type 0) : Type 0 where
  pub one : (v w : V) → Says (Ok v) → Says (Ok w) → v ≡ w
  pub no_value : (v : V) → Says (Ok v) → Says (Err NoValue) → ⊥
  pub out_of_range : (v : V) → Says (Ok v) → Says (Err OutOfRange) → ⊥
  pub too_deep : (v : V) → Says (Ok v) → Says (Err TooDeep) → ⊥
  pub none_or_out : Says (Err NoValue) → Says (Err OutOfRange) → ⊥
  pub none_or_deep : Says (Err NoValue) → Says (Err TooDeep) → ⊥
  pub out_or_deep : Says (Err OutOfRange) → Says (Err TooDeep) → ⊥

pub same_answer : {V : Type 0} (Says : Result V ValueError → Type 0) → IsSingle Says → (r s : Result V ValueError) → r ≢ Err Memory → s ≢ Err Memory → Says r → Says s → r ≡ s
same_answer Says single (Err Memory) s m n p q = absurd (m refl)
same_answer Says single r (Err Memory) m n p q = absurd (n refl)
same_answer Says single (Ok v) (Ok w) m n p q = ap Ok (single.one v w p q)
same_answer Says single (Ok v) (Err NoValue) m n p q = absurd (single.no_value v p q)
same_answer Says single (Ok v) (Err OutOfRange) m n p q = absurd (single.out_of_range v p q)
same_answer Says single (Ok v) (Err TooDeep) m n p q = absurd (single.too_deep v p q)
same_answer Says single (Err NoValue) (Ok w) m n p q = absurd (single.no_value w q p)
same_answer Says single (Err NoValue) (Err NoValue) m n p q = refl
same_answer Says single (Err NoValue) (Err OutOfRange) m n p q = absurd (single.none_or_out p q)
same_answer Says single (Err NoValue) (Err TooDeep) m n p q = absurd (single.none_or_deep p q)
same_answer Says single (Err OutOfRange) (Ok w) m n p q = absurd (single.out_of_range w q p)
same_answer Says single (Err OutOfRange) (Err NoValue) m n p q = absurd (single.none_or_out q p)
same_answer Says single (Err OutOfRange) (Err OutOfRange) m n p q = refl
same_answer Says single (Err OutOfRange) (Err TooDeep) m n p q = absurd (single.out_or_deep p q)
same_answer Says single (Err TooDeep) (Ok w) m n p q = absurd (single.too_deep w q p)
same_answer Says single (Err TooDeep) (Err NoValue) m n p q = absurd (single.none_or_deep q p)
same_answer Says single (Err TooDeep) (Err OutOfRange) m n p q = absurd (single.out_or_deep q p)
same_answer Says single (Err TooDeep) (Err TooDeep) m n p q = refl
