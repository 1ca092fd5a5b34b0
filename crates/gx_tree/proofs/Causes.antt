-- Causes of errors.
use Rattle.std.proofs.Common.{◌≡◌, ◌≢◌, ℕ, sym, subst, arith}
use Rattle.gx_pages.specs.declared.error.PageError.{PageError}
use Rattle.gx_pages.specs.declared.error.PageError.TheVariants.{DiskFault, Broken, PageSpace, Memory}
use Rattle.gx_pages.specs.Pages.{HasCause}
use Rattle.gx_tree.specs.Trees.{IsBrokenOr}

-- want of memory, or a broken page
pub broken_or : (e : PageError) (page a b : ℕ) (H : Type 0) (B : ℕ → ℕ → ℕ → Type 0) (S : ℕ → Type 0) (M : Type 0) → IsBrokenOr page H e → (H → (at x y : ℕ) → B at x y) → M → HasCause a b B S M e
broken_or DiskFault page a b H B S M is broken memory = absurd is
broken_or (Broken at x y) page a b H B S M is broken memory = (is.0, broken is.1 at x y)
broken_or (PageSpace pages) page a b H B S M is broken memory = absurd is
broken_or Memory page a b H B S M is broken memory = memory

pub broken_weaker : (e : PageError) (page : ℕ) (H H' : Type 0) → (H → H') → IsBrokenOr page H e → IsBrokenOr page H' e
broken_weaker DiskFault page H H' weaker is = is
broken_weaker (Broken at x y) page H H' weaker is = (is.0, weaker is.1)
broken_weaker (PageSpace pages) page H H' weaker is = is
broken_weaker Memory page H H' weaker is = is

pub broken_is : (e : PageError) (page : ℕ) (H : Type 0) → e ≡ Broken page 1 0 → H → IsBrokenOr page H e
broken_is e page H is holds = subst (λ (x : PageError). IsBrokenOr page H x) (sym is) ((λ same. let s : 1 ≡ 0 = same in omega (arith, s)), holds)

pub broken_cause : (e : PageError) (page a b : ℕ) (B : ℕ → ℕ → ℕ → Type 0) (S : ℕ → Type 0) (M : Type 0) → e ≡ Broken page 1 0 → B page 1 0 → HasCause a b B S M e
broken_cause e page a b B S M is holds = subst (λ (x : PageError). HasCause a b B S M x) (sym is) ((λ same. let s : 1 ≡ 0 = same in omega (arith, s)), holds)
