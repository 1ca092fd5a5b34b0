-- A page that lends its bytes: it ends with what was written through them.
use Rattle.std.specs.Prelude.{ℕ, List}
use Rattle.std.specs.Borrow.{Lends, MutBor, Fml, Array, u8}
use Rattle.gx_pages.specs.contracts.page.Page.{the_row}

abbrev pub LendsBytes : MutBor (List ℕ) → MutBor (List ℕ) → Fml
LendsBytes page bytes = Lends the_row (Array u8 0) page bytes (λ written. written)
