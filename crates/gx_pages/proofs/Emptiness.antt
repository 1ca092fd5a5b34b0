-- The pages of an empty database.
use Rattle.std.proofs.Common.{◌≡◌, ℕ, ◌≤◌, [], ◌∷◌, Some, None, refl, arith}
use Rattle.std.proofs.lemmas.Grind.{common_steps}
use Rattle.gx_pages.specs.Contents.{Contents, below, given}
use Rattle.gx_pages.specs.Databases.{header_of, catalog_page, empty_pages}
use Rattle.gx_pages.specs.Frees.{HasFirst, IsFreeList}
use Rattle.gx_bytes.specs.Fields.{le32, le64}

none_above : (count : ℕ) (contents : Contents) (n : ℕ) → count ≤ n → below count contents n ≡ None
none_above count contents n le = grind (arith, common_steps)

header_first : HasFirst (header_of 2) 0
unfolding header_of le32 le64
header_first = refl

pub empty_header : empty_pages 0 ≡ Some (header_of 2)
empty_header = refl

pub empty_catalog : empty_pages 1 ≡ Some catalog_page
empty_catalog = refl

pub empty_above : (n : ℕ) → 2 ≤ n → empty_pages n ≡ None
empty_above n le = none_above 2 (given (header_of 2 ∷ catalog_page ∷ [])) n le

pub none_free : IsFreeList empty_pages 2 []
none_free = record {
  header = header_of 2;
  at_zero = refl;
  first = 0;
  fits = omega arith;
  at_first = header_first;
  chain = refl;
  apart = tt;
  below = tt;
}
