-- Calls that are numbered from 1 on, some of which are listed to fail.
use Rattle.std.specs.Prelude.{◌≡◌, ◌==◌, ◌⊎◌, ℕ, ◌+◌, ◌-◌, ◌^◌, min, List, Result, IsErr, IsTrue, OnOk, OnErr}
use Rattle.std.specs.List.{list_any}
use Rattle.gx_words.specs.Causes.{Rose}

abbrev pub IsListed : List ℕ → ℕ → Type 0
IsListed failing number = IsTrue (list_any (λ k. k == number) failing)

-- This is the call with the next number. Where the number is listed, it fails; where it isn't, it fails exactly where
-- the count of refusals rises. The count of faults rises by one where it fails, and stays where it doesn't.
pub record IsNumbered {T E : Type 0} (failing : List ℕ) (calls later refused refused_later faults faults_later : ℕ) (result : Result T E) : Type 0 where
  pub number : later ≡ min (calls + 1) (2 ^ 64 - 1)
  pub listed : IsListed failing later → IsErr result
  pub unlisted : IsErr result → IsListed failing later ⊎ Rose refused refused_later
  pub fails : OnErr result (faults_later ≡ min (faults + 1) (2 ^ 64 - 1))
  pub passes : OnOk result ((faults_later ≡ faults) × (refused_later ≡ refused))
