-- What is so of results.
use Rattle.std.proofs.Common.{◌≡◌, ℕ, ◌≤◌, Some, None, Result, Ok, Err, OnOk, IfOk, IfErr, refl, sym, ap, subst}
use Rattle.gx_engine.specs.declared.engine.Kind.{Kind}
use Rattle.gx_engine.specs.declared.engine.Kind.TheVariants.{Idle, Begun}
use Rattle.gx_pages.specs.declared.error.PageError.{PageError}
use Rattle.gx_pages.specs.declared.error.PageError.TheVariants.{DiskFault, Broken, PageSpace, Memory}
use Rattle.gx_chain.specs.Chains.{IsSound}
use Rattle.gx_pages.specs.Pages.{HasCause}
use Rattle.gx_pages.proofs.Footprints.{cause_weaker}

pub never : (n : ℕ) → Some n ≡ None → ⊥
never n e = cc

pub begun_not_idle : (now : Kind) → now ≡ Begun → now ≡ Idle → ⊥
begun_not_idle now begun idle = cc

pub on_ok_then : {T E : Type 0} (result : Result T E) (P Q : Type 0) → (P → Q) → OnOk result P → OnOk result Q
on_ok_then (Ok value) P Q f p = f p
on_ok_then (Err error) P Q f p = tt

pub if_ok_then : {T E : Type 0} (result : Result T E) (P Q : T → Type 0) → ((x : T) → P x → Q x) → IfOk result P → IfOk result Q
if_ok_then (Ok value) P Q f p = f value p
if_ok_then (Err error) P Q f p = tt

pub on_ok_if : {T E : Type 0} (result : Result T E) (P : Type 0) → P → OnOk result P
on_ok_if (Ok value) P p = p
on_ok_if (Err error) P p = tt

pub if_ok_both : {T E : Type 0} (result : Result T E) (P : T → Type 0) (X : Type 0) (Q : T → Type 0) → ((x : T) → P x → X → Q x) → IfOk result P → OnOk result X → IfOk result Q
if_ok_both (Ok value) P X Q f p x = f value p x
if_ok_both (Err error) P X Q f p x = tt

pub cause_at_memory : (error : PageError) (before now : ℕ) (B : ℕ → ℕ → ℕ → Type 0) (S : ℕ → Type 0) → error ≡ Memory → HasCause before now B S (Unit {0}) error
cause_at_memory error before now B S e =
    let Has : PageError → Type 0 = λ x. HasCause before now B S (Unit {0}) x in
    let at_memory : Has Memory = tt in
    subst Has (sym e) at_memory

pub cause_of_memory : {T : Type 0} (result : Result T PageError) (before now : ℕ) (B : ℕ → ℕ → ℕ → Type 0) (S : ℕ → Type 0) → IfErr result (λ e. e ≡ Memory) → IfErr result (HasCause before now B S (Unit {0}))
cause_of_memory (Ok value) before now B S e = tt
cause_of_memory (Err error) before now B S e = cause_at_memory error before now B S e

pub no_memory_by : (error : PageError) (before now : ℕ) (B : ℕ → ℕ → ℕ → Type 0) (S : ℕ → Type 0) (M : Type 0) → error ≡ Memory → HasCause before now B S M error → M
no_memory_by error before now B S M e has = let Has : PageError → Type 0 = λ x. HasCause before now B S M x in subst Has e has

pub if_cause : {T : Type 0} (result : Result T PageError) (a b c d : ℕ) (B B' : ℕ → ℕ → ℕ → Type 0) (S S' : ℕ → Type 0) (M M' : Type 0) → a ≤ b → c ≤ d
    → ((p x y : ℕ) → B p x y → B' p x y) → ((n : ℕ) → S n → S' n) → (M → M') → IfErr result (HasCause b c B S M) → IfErr result (HasCause a d B' S' M')
if_cause (Ok value) a b c d B B' S S' M M' le more broken space memory has = tt
if_cause (Err error) a b c d B B' S S' M M' le more broken space memory has = cause_weaker error a b c d B B' S S' M M' le more broken space memory has

-- an error other than the want of pages
pub cause_without_space : (error : PageError) (before now : ℕ) (B : ℕ → ℕ → ℕ → Type 0) (S : ℕ → Type 0) (M : Type 0) → ((pages : ℕ) → error ≡ PageSpace pages → ⊥) → HasCause before now B S M error → HasCause before now B (λ _. ⊥) M error
cause_without_space DiskFault before now B S M not has = has
cause_without_space (Broken page expected found) before now B S M not has = has
cause_without_space (PageSpace pages) before now B S M not has = absurd (not pages refl)
cause_without_space Memory before now B S M not has = has

-- an error is broken whatever the result's type
pub sound_as : (T U : Type 0) (error : PageError) → IsSound {T = T} (Err error) → IsSound {T = U} (Err error)
sound_as T U DiskFault s = tt
sound_as T U (Broken page expected found) s = absurd s
sound_as T U (PageSpace pages) s = tt
sound_as T U Memory s = tt

abbrev pub failed : (T : Type 0) → PageError → Result T PageError
failed T error = Err error

abbrev pub finished : (T : Type 0) → T → Result T PageError
finished T value = Ok value

pub error_of : (T : Type 0) (a b : PageError) → failed T a ≡ failed T b → a ≡ b
error_of T a b e = cc

pub err_as : (T U : Type 0) (a b : PageError) → failed T a ≡ failed T b → failed U a ≡ failed U b
err_as T U a b e = ap (λ (x : PageError). failed U x) (error_of T a b e)
