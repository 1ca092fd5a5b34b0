-- Causes of errors, one weaker than another.
use Rattle.std.proofs.Common.{ℕ, ◌≢◌}
use Rattle.gx_pages.specs.declared.error.PageError.{PageError}
use Rattle.gx_pages.specs.declared.error.PageError.TheVariants.{DiskFault, Broken, PageSpace, Memory}
use Rattle.gx_pages.specs.Pages.{HasCause}

pub cause_weaker : (e : PageError) (before now : ℕ) (B C : ℕ → ℕ → ℕ → Type 0) (S T : ℕ → Type 0) (M N : Type 0)
    → ((at expected found : ℕ) → expected ≢ found → B at expected found → C at expected found) → ((pages : ℕ) → S pages → T pages) → (M → N)
    → HasCause before now B S M e → HasCause before now C T N e
cause_weaker DiskFault before now B C S T M N broken space memory cause = cause
cause_weaker (Broken at expected found) before now B C S T M N broken space memory cause = (cause.0, broken at expected found cause.0 cause.1)
cause_weaker (PageSpace pages) before now B C S T M N broken space memory cause = space pages cause
cause_weaker Memory before now B C S T M N broken space memory cause = memory cause
