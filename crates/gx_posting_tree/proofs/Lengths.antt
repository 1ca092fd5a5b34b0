-- How many bytes rows take in posting lists.
use Rattle.std.proofs.Common.{◌≡◌, ℕ, ◌+◌, ◌-◌, ◌*◌, ◌^◌, ◌<◌, ◌≤◌, Bool, true, false, List, [], ◌∷◌, ◌++◌, length, filter, refl, length-append, arith}
use Rattle.std.specs.List.{AllByRecursion}
use Rattle.gx_bytes.specs.Varints.{IsVarint, varint_bytes}
use Rattle.gx_bytes.proofs.Spellings.{varint_is, varint_short}
use Rattle.gx_pages.specs.declared.row.RowRef.{RowRef}
use Rattle.gx_pages.specs.Rows.{IsRising}
use Rattle.gx_pages.proofs.Footprints as feet
use Rattle.gx_posting.specs.Postings.{Fits, entries_bytes, entry_bytes}

-- a lesser number is no longer
lesser_shorter : (a c : List ℕ) (m n : ℕ) → IsVarint a m → IsVarint c n → n ≤ m → length c ≤ length a
lesser_shorter [] c m n first last low = absurd first
lesser_shorter (x ∷ a) [] m n first last low = absurd last
lesser_shorter (x ∷ a) (y ∷ []) m n first last low = omega arith
lesser_shorter (x ∷ []) (y ∷ z ∷ c) m n first last low = absurd (omega (arith, first.0, first.1, last.0, last.3, last.4, low))
lesser_shorter (x ∷ w ∷ a) (y ∷ z ∷ c) m n first last low =
    let more = lesser_shorter (w ∷ a) (z ∷ c) first.2 last.2 first.5 last.5 (omega (arith, first.1, first.4, last.0, last.4, low)) in
    omega (arith, more)

-- a number that is greater by 127 at most is longer by one byte at most
one_longer : (a c : List ℕ) (m n : ℕ) → IsVarint a m → IsVarint c n → n ≤ m + 127 → length c ≤ length a + 1
one_longer [] c m n first last low = absurd first
one_longer (x ∷ a) [] m n first last low = absurd last
one_longer (x ∷ a) (y ∷ []) m n first last low = omega arith
one_longer (x ∷ []) (y ∷ z ∷ c) m n first last low =
    let high : last.2 < 128 = omega (arith, first.0, first.1, last.0, last.4, low) in
    let few = lesser_shorter (last.2 ∷ []) (z ∷ c) last.2 last.2 (high, refl) last.5 (omega arith) in
    omega (arith, few)
one_longer (x ∷ w ∷ a) (y ∷ z ∷ c) m n first last low =
    let more = one_longer (w ∷ a) (z ∷ c) first.2 last.2 first.5 last.5 (omega (arith, first.1, first.4, last.0, last.4, low)) in
    omega (arith, more)

-- a sum is no longer than both of its parts
sum_shorter : (a b c : List ℕ) (m n k : ℕ) → IsVarint a m → IsVarint b n → IsVarint c k → k ≤ m + n → length c ≤ length a + length b
sum_shorter [] b c m n k one other both low = absurd one
sum_shorter (x ∷ a) [] c m n k one other both low = absurd other
sum_shorter (x ∷ a) (y ∷ b) [] m n k one other both low = absurd both
sum_shorter (x ∷ a) (y ∷ b) (u ∷ []) m n k one other both low = omega arith
sum_shorter (x ∷ []) (y ∷ b) (u ∷ v ∷ c) m n k one other both low =
    let more = one_longer (y ∷ b) (u ∷ v ∷ c) n k other both (omega (arith, one.0, one.1, low)) in
    omega (arith, more)
sum_shorter (x ∷ w ∷ a) (y ∷ []) (u ∷ v ∷ c) m n k one other both low =
    let more = one_longer (x ∷ w ∷ a) (u ∷ v ∷ c) m k one both (omega (arith, other.0, other.1, low)) in
    omega (arith, more)
sum_shorter (x ∷ w ∷ a) (y ∷ z ∷ b) (u ∷ v ∷ c) m n k one other both low =
    let next = other.2 + 1 in
    let longer = one_longer (z ∷ b) (varint_bytes next) other.2 next other.5 (varint_is next) (omega arith) in
    let more = sum_shorter (w ∷ a) (varint_bytes next) (v ∷ c) one.2 next both.2 one.5 (varint_is next) both.5
    (omega (arith, one.1, one.4, other.1, other.4, both.0, both.4, low)) in
    omega (arith, more, longer)

small_short : (bytes : List ℕ) (n : ℕ) → n < 2 ^ 16 → IsVarint bytes n → length bytes ≤ 3
small_short [] n small is = absurd is
small_short (a ∷ []) n small is = omega arith
small_short (a ∷ b ∷ []) n small is = omega arith
small_short (a ∷ b ∷ c ∷ []) n small is = omega arith
small_short (a ∷ b ∷ c ∷ d ∷ bytes) n small is =
    absurd (omega (arith, small, is.0, is.4, is.5.0, is.5.4, is.5.5.0, is.5.5.3, is.5.5.4))

entry_len : (before : ℕ) (row : RowRef) → length (entry_bytes before row) ≡ length (varint_bytes (row.number - before)) + length (varint_bytes row.page) + length (varint_bytes row.slot)
entry_len before row =
    omega (
      arith,
      length-append (varint_bytes (row.number - before) ++ varint_bytes row.page) (varint_bytes row.slot),
      length-append (varint_bytes (row.number - before)) (varint_bytes row.page),
    )

some_byte : (bytes : List ℕ) (n : ℕ) → IsVarint bytes n → 0 < length bytes
some_byte [] n is = absurd is
some_byte (x ∷ bytes) n is = omega arith

-- a row takes three bytes at least, and 23 at most
pub entry_few : (before : ℕ) (row : RowRef) → Fits row → length (entry_bytes before row) ≤ 23
entry_few before row fits =
    let size = entry_len before row in
    let number = varint_short (row.number - before) (varint_bytes (row.number - before)) (let f = fits.0 in omega (arith, f)) (varint_is (row.number - before)) in
    let page = varint_short row.page (varint_bytes row.page) fits.1 (varint_is row.page) in
    let slot = small_short (varint_bytes row.slot) row.slot fits.2 (varint_is row.slot) in
    omega (arith, size, number, page, slot)

pub rows_many : (before : ℕ) (rows : List RowRef) → 3 * length rows ≤ length (entries_bytes before rows)
rows_many before [] = omega arith
rows_many before (row ∷ rows) =
    let size = entry_len before row in
    let rest = rows_many row.number rows in
    let a = some_byte (varint_bytes (row.number - before)) (row.number - before) (varint_is (row.number - before)) in
    let b = some_byte (varint_bytes row.page) row.page (varint_is row.page) in
    let c = some_byte (varint_bytes row.slot) row.slot (varint_is row.slot) in
    omega (arith, size, rest, a, b, c, length-append (entry_bytes before row) (entries_bytes row.number rows))

-- without the first row
without_first : (before : ℕ) (row : RowRef) (rows : List RowRef) → before ≤ row.number → AllByRecursion (λ other. row.number < other.number) rows
    → length (entries_bytes before rows) ≤ length (entry_bytes before row) + length (entries_bytes row.number rows)
without_first before row [] low above = omega arith
without_first before row (next ∷ rows) low above =
    let here = entry_len before row in
    let now = entry_len before next in
    let was = entry_len row.number next in
    let less = sum_shorter (varint_bytes (row.number - before)) (varint_bytes (next.number - row.number)) (varint_bytes (next.number - before)) (row.number - before) (next.number - row.number) (next.number - before)
    (varint_is (row.number - before)) (varint_is (next.number - row.number)) (varint_is (next.number - before)) (let up = above.0 in omega (arith, low, up)) in
    omega (arith, here, now, was, less, length-append (entry_bytes before next) (entries_bytes next.number rows), length-append (entry_bytes row.number next) (entries_bytes next.number rows))

pub filter_all : (Q : RowRef → Type 0) (p : RowRef → Bool) (rows : List RowRef) → AllByRecursion Q rows → AllByRecursion Q (filter p rows)
filter_all Q p [] all = tt
filter_all Q p (x ∷ rows) all = kept (p x) refl (filter_all Q p rows all.1)
  where
    kept : (b : Bool) → p x ≡ b → AllByRecursion Q (filter p rows) → AllByRecursion Q (filter p (x ∷ rows))
    kept true is more = rw is (all.0, more)
    kept false is more = rw is more

-- Some of the rows take no more bytes than all.
pub filter_shorter : (p : RowRef → Bool) (before : ℕ) (rows : List RowRef) → AllByRecursion (λ row. before ≤ row.number) rows → IsRising rows → length (entries_bytes before (filter p rows)) ≤ length (entries_bytes before rows)
filter_shorter p before [] low rising = omega arith
filter_shorter p before (x ∷ rows) low rising =
    kept (p x) refl
    (filter_shorter p x.number rows (feet.all_weaker (λ (row : RowRef). x.number < row.number) (λ (row : RowRef). x.number ≤ row.number) rows (λ row less. omega (arith, less)) rising.0) rising.1)
  where
    kept : (b : Bool) → p x ≡ b → length (entries_bytes x.number (filter p rows)) ≤ length (entries_bytes x.number rows) → length (entries_bytes before (filter p (x ∷ rows))) ≤ length (entries_bytes before (x ∷ rows))
    kept true is rest = rw is (omega (arith, rest, length-append (entry_bytes before x) (entries_bytes x.number (filter p rows)), length-append (entry_bytes before x) (entries_bytes x.number rows)))
    kept false is rest =
        let first = without_first before x (filter p rows) low.0 (filter_all (λ (row : RowRef). x.number < row.number) p rows rising.0) in
        rw is (omega (arith, rest, first, length-append (entry_bytes before x) (entries_bytes x.number rows)))
