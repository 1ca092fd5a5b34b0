-- Facts of a result.
use Rattle.std.proofs.Common.{Result, Ok, Err, IfOk, IfErr, OnOk, OnErr}

module _ {T E : Type 0} where
  pub if_ok : (result : Result T E) (P Q : T → Type 0) → ((value : T) → P value → Q value) → IfOk result P → IfOk result Q
  if_ok (Ok value) P Q more has = more value has
  if_ok (Err error) P Q more has = tt

  pub if_ok_anyway : {P : Type 0} (result : Result T E) (Q : T → Type 0) → ((value : T) → P → Q value) → OnOk result P → IfOk result Q
  if_ok_anyway (Ok value) Q more has = more value has
  if_ok_anyway (Err error) Q more has = tt

  pub on_ok : {P Q : Type 0} (result : Result T E) → (P → Q) → OnOk result P → OnOk result Q
  on_ok (Ok value) more has = more has
  on_ok (Err error) more has = tt

  pub on_err : {P Q : Type 0} (result : Result T E) → (P → Q) → OnErr result P → OnErr result Q
  on_err (Ok value) more has = tt
  on_err (Err error) more has = more has

  pub on_ok_anyway : {Q : Type 0} (result : Result T E) → Q → OnOk result Q
  on_ok_anyway (Ok value) has = has
  on_ok_anyway (Err error) has = tt

  pub if_err_on : {P : Type 0} (result : Result T E) (Q R : E → Type 0) → ((error : E) → P → Q error → R error) → OnErr result P → IfErr result Q → IfErr result R
  if_err_on (Ok value) Q R more on has = tt
  if_err_on (Err error) Q R more on has = more error on has

  pub either : {P R : Type 0} (result : Result T E) (Q : T → Type 0) → ((value : T) → Q value → R) → (P → R) → IfOk result Q → OnErr result P → R
  either (Ok value) Q good bad has on = good value has
  either (Err error) Q good bad has on = bad on

  pub either_on : {P Q R : Type 0} (result : Result T E) → (P → R) → (Q → R) → OnOk result P → OnErr result Q → R
  either_on (Ok value) good bad has on = good has
  either_on (Err error) good bad has on = bad on
