-- Rows and their bytes.
use Rattle.std.proofs.Common.{◌≡◌, ◌==◌, true, false, length, length-append, ℕ, ◌+◌, ◌-◌, ◌<◌, ◌≤◌, ◌^◌, List, [], ◌∷◌, ◌++◌, Option, Some, None, IfSome, IfNone, refl, sym, ◌∙◌, ap, ap₂, subst, arith, ◌⊎◌, append_assoc, append-nil}
use Rattle.std.specs.List.{AllByRecursion}
use Rattle.std.proofs.lemmas.Bool.{false≢true, eqb-true}
use Rattle.gx_bytes.specs.Varints.{varint_bytes, IsVarint}
use Rattle.gx_bytes.proofs.Spellings.{varint_is, varint_short, varints_same}
use Rattle.gx_pages.specs.declared.row.RowRef.{RowRef}
use Rattle.gx_pages.specs.Rows.{AreBelow, IsRising}
use Rattle.gx_pages.proofs.Rising.{rising_push}
use Rattle.gx_posting.specs.Postings.{Fits, Spells, entry_bytes, entries_bytes, number_of, last_of}

-- the number of the last row, or the one before where there is none
abbrev pub behind : ℕ → List RowRef → ℕ
behind before [] = before
behind before (row ∷ rows) = behind row.number rows

pub behind_last : (before : ℕ) (row : RowRef) (rows : List RowRef) → behind before (row ∷ rows) ≡ number_of (last_of (row ∷ rows))
behind_last before row [] = refl
behind_last before row (other ∷ rows) = behind_last row.number other rows

pub behind_is : (rows : List RowRef) → behind 0 rows ≡ number_of (last_of rows)
behind_is [] = refl
behind_is (row ∷ rows) = behind_last 0 row rows

pub entries_push : (before : ℕ) (rows : List RowRef) (row : RowRef)
    → entries_bytes before (rows ++ row ∷ []) ≡ entries_bytes before rows ++ entry_bytes (behind before rows) row
entries_push before [] row = append-nil (entry_bytes before row)
entries_push before (first ∷ rows) row =
    ap (λ l. entry_bytes before first ++ l) (entries_push first.number rows row)
    ∙ sym (append_assoc (entry_bytes before first) (entries_bytes first.number rows) (entry_bytes (behind first.number rows) row))

pub fit_push : (rows : List RowRef) (row : RowRef) → AllByRecursion Fits rows → Fits row → AllByRecursion Fits (rows ++ row ∷ [])
fit_push [] row fit here = (here, tt)
fit_push (first ∷ rows) row fit here = (fit.0, fit_push rows row fit.1 here)

-- below a number above the last are all
pub last_above : (rows : List RowRef) (number : ℕ) → IsRising rows → IfSome (last_of rows) (λ last. last.number < number) → AreBelow rows number
last_above [] number rising above = tt
last_above (row ∷ []) number rising above = (above, tt)
last_above (row ∷ other ∷ rows) number rising above =
    let rest = last_above (other ∷ rows) number rising.1 above in
    (omega (arith, rising.0.0, rest.0), rest)

-- spellings of numbers at the front of the same bytes
pub number_same : (m n : ℕ) (x y : List ℕ) → varint_bytes m ++ x ≡ varint_bytes n ++ y → (m ≡ n) × (x ≡ y)
number_same m n x y same =
    let both = varints_same (varint_bytes m) (varint_bytes n) x y m n (varint_is m) (varint_is n) same in
    (both.1, both.2)

nothing_before : (l x : List ℕ) → l ++ x ≡ [] → l ≡ []
nothing_before [] x e = refl
nothing_before (c ∷ cs) x e = cc

not_nothing : (n : ℕ) (x : List ℕ) → varint_bytes n ++ x ≡ [] → ⊥
not_nothing n x e = subst (λ (l : List ℕ). IsVarint l n) (nothing_before (varint_bytes n) x e) (varint_is n)

-- the numbers of a row and what stands behind it, one behind another
pub row_parts : (before : ℕ) (row : RowRef) (after : List ℕ)
    → entry_bytes before row ++ after ≡ varint_bytes (row.number - before) ++ (varint_bytes row.page ++ (varint_bytes row.slot ++ after))
row_parts before row after =
    let a = varint_bytes (row.number - before) in
    let b = varint_bytes row.page in
    let c = varint_bytes row.slot in
    append_assoc (a ++ b) c after ∙ append_assoc a b (c ++ after)

-- no row stands at the front: where its number, its page or its slot can't be read, is too large, or is another
pub no_page : (bytes rest : List ℕ) (before more : ℕ) → bytes ≡ varint_bytes more ++ rest
    → ((n : ℕ) (after : List ℕ) → n < 2 ^ 64 → rest ≡ varint_bytes n ++ after → ⊥)
    → (row : RowRef) (after : List ℕ) → Fits row → before ≤ row.number → bytes ≡ entry_bytes before row ++ after → ⊥
no_page bytes rest before more is none row after fits from are =
    let same = number_same more (row.number - before) rest _ (sym is ∙ are ∙ row_parts before row after) in
    none row.page _ fits.1 same.1

pub no_slot : (bytes rest last : List ℕ) (before more page : ℕ) → bytes ≡ varint_bytes more ++ rest → rest ≡ varint_bytes page ++ last
    → ((n : ℕ) (after : List ℕ) → n < 2 ^ 64 → last ≡ varint_bytes n ++ after → ⊥)
    → (row : RowRef) (after : List ℕ) → Fits row → before ≤ row.number → bytes ≡ entry_bytes before row ++ after → ⊥
no_slot bytes rest last before more page is is_page none row after fits from are =
    let same = number_same more (row.number - before) rest _ (sym is ∙ are ∙ row_parts before row after) in
    let pages = number_same page row.page last _ (sym is_page ∙ same.1) in
    none row.slot after (omega (arith, fits.2)) pages.1

-- a row that stands at the front has the numbers that are read there
pub record IsRead (before more page slot : ℕ) (last : List ℕ) (row : RowRef) (after : List ℕ) : Type 0 where
  pub same_number : more ≡ row.number - before
  pub same_page : page ≡ row.page
  pub same_slot : slot ≡ row.slot
  pub same_rest : last ≡ after

pub is_read : (bytes rest back last : List ℕ) (before more page slot : ℕ) → bytes ≡ varint_bytes more ++ rest → rest ≡ varint_bytes page ++ back → back ≡ varint_bytes slot ++ last
    → (row : RowRef) (after : List ℕ) → bytes ≡ entry_bytes before row ++ after → IsRead before more page slot last row after
is_read bytes rest back last before more page slot is is_page is_slot row after are =
    let same = number_same more (row.number - before) rest _ (sym is ∙ are ∙ row_parts before row after) in
    let pages = number_same page row.page back _ (sym is_page ∙ same.1) in
    let slots = number_same slot row.slot last after (sym is_slot ∙ pages.1) in
    record { same_number = same.0; same_page = pages.0; same_slot = slots.0; same_rest = slots.1 }

pub row_read : (bytes rest back last : List ℕ) (before more page slot : ℕ) → bytes ≡ varint_bytes more ++ rest → rest ≡ varint_bytes page ++ back → back ≡ varint_bytes slot ++ last
    → (row : RowRef) → row.number ≡ before + more → row.page ≡ page → row.slot ≡ slot → bytes ≡ entry_bytes before row ++ last
row_read bytes rest back last before more page slot is is_page is_slot row number pages slots =
    let d : row.number - before ≡ more = omega (arith, number) in
    sym (row_parts before row last ∙ rw d (rw pages (rw slots (rw (sym is_slot) (rw (sym is_page) (sym is))))))

pub no_more : (bytes rest back last : List ℕ) (before more page slot : ℕ) → bytes ≡ varint_bytes more ++ rest → rest ≡ varint_bytes page ++ back → back ≡ varint_bytes slot ++ last
    → (65535 < slot) ⊎ (2 ^ 64 ≤ before + more)
    → (row : RowRef) (after : List ℕ) → Fits row → before ≤ row.number → bytes ≡ entry_bytes before row ++ after → ⊥
no_more bytes rest back last before more page slot is is_page is_slot far row after fits from are =
    let read = is_read bytes rest back last before more page slot is is_page is_slot row after are in
    omega (arith, far, fits.0, fits.2, read.same_number, read.same_slot, from)

-- each number is at least the one before
abbrev pub AreFrom : ℕ → List RowRef → Type 0
AreFrom before [] = Unit {0}
AreFrom before (row ∷ rows) = (before ≤ row.number) × AreFrom row.number rows

above_from : (before : ℕ) (rows : List RowRef) → AllByRecursion (λ (other : RowRef). before < other.number) rows → IsRising rows → AreFrom before rows
above_from before [] above rising = tt
above_from before (row ∷ rows) above rising = (omega (arith, above.0), above_from row.number rows rising.0 rising.1)

pub rising_from : (rows : List RowRef) → IsRising rows → AreFrom 0 rows
rising_from [] rising = tt
rising_from (row ∷ rows) rising = (omega arith, above_from row.number rows rising.0 rising.1)

pub from_push : (before : ℕ) (rows : List RowRef) (row : RowRef) → AreFrom before rows → behind before rows ≤ row.number → AreFrom before (rows ++ row ∷ [])
from_push before [] row from here = (here, tt)
from_push before (first ∷ rows) row from here = (from.0, from_push first.number rows row from.1 here)

abbrev row_of : ℕ → ℕ → ℕ → RowRef
row_of n p s = record { number = n; page = p; slot = s }

same_row : (a b : RowRef) → a.number ≡ b.number → a.page ≡ b.page → a.slot ≡ b.slot → a ≡ b
same_row a b number page slot =
    ap (λ (n : ℕ). row_of n a.page a.slot) number ∙ ap (λ (p : ℕ). row_of b.number p a.slot) page ∙ ap (λ (s : ℕ). row_of b.number b.page s) slot

pub no_rows : (before : ℕ) (rows : List RowRef) → entries_bytes before rows ≡ [] → rows ≡ []
no_rows before [] e = refl
no_rows before (row ∷ rows) e = absurd (not_nothing (row.number - before) _ (sym (row_parts before row (entries_bytes row.number rows)) ∙ e))

-- what begins with the bytes of some rows and spells others begins with these rows
pub front_same : (before : ℕ) (rows all : List RowRef) (rest : List ℕ) → AreFrom before rows → AreFrom before all
    → entries_bytes before rows ++ rest ≡ entries_bytes before all
    → (more : List RowRef) × (all ≡ rows ++ more) × (rest ≡ entries_bytes (behind before rows) more)
front_same before [] all rest from all_from same = (all, refl, same)
front_same before (row ∷ rows) [] rest from all_from same =
    absurd (not_nothing (row.number - before) _ (sym (row_parts before row (entries_bytes row.number rows ++ rest)) ∙ sym (append_assoc (entry_bytes before row) (entries_bytes row.number rows) rest) ∙ same))
front_same before (row ∷ rows) (first ∷ all) rest from all_from same =
    let left = sym (row_parts before row (entries_bytes row.number rows ++ rest)) ∙ sym (append_assoc (entry_bytes before row) (entries_bytes row.number rows) rest) in
    let whole : varint_bytes (row.number - before) ++ (varint_bytes row.page ++ (varint_bytes row.slot ++ (entries_bytes row.number rows ++ rest)))
    ≡ varint_bytes (first.number - before) ++ (varint_bytes first.page ++ (varint_bytes first.slot ++ entries_bytes first.number all)) =
    left ∙ same ∙ row_parts before first (entries_bytes first.number all) in
    let numbers = number_same _ _ _ _ whole in
    let pages = number_same _ _ _ _ numbers.1 in
    let slots = number_same _ _ _ _ pages.1 in
    let number : row.number ≡ first.number = omega (arith, numbers.0, from.0, all_from.0) in
    let row_is : row ≡ first = same_row row first number pages.0 slots.0 in
    let P : ℕ → Type 0 = λ n. entries_bytes row.number rows ++ rest ≡ entries_bytes n all in
    let Q : ℕ → Type 0 = λ n. AreFrom n all in
    let back = front_same row.number rows all rest from.1 (subst Q (sym number) all_from.1) (subst P (sym number) slots.1) in
    (back.0, ap₂ (λ (r : RowRef) (l : List RowRef). r ∷ l) (sym row_is) back.1, back.2)

-- Bytes spell at most one list.
pub one_spelled : (bytes : List ℕ) (a b : List RowRef) → Spells bytes a → Spells bytes b → a ≡ b
one_spelled bytes a b p q =
    let found = front_same 0 a b [] (rising_from a p.rise) (rising_from b q.rise) (append-nil (entries_bytes 0 a) ∙ sym p.are ∙ q.are) in
    let none = no_rows (behind 0 a) found.0 (sym found.2) in
    sym (found.1 ∙ ap (λ (l : List RowRef). a ++ l) none ∙ append-nil a)

-- A row behind the last one.
pub spells_push : (bytes : List ℕ) (rows : List RowRef) (row : RowRef) → Spells bytes rows → Fits row → IfSome (last_of rows) (λ last. last.number < row.number)
    → Spells (bytes ++ entry_bytes (number_of (last_of rows)) row) (rows ++ row ∷ [])
spells_push bytes rows row s fits above =
    let n : behind 0 rows ≡ number_of (last_of rows) = behind_is rows in
    let P : ℕ → Type 0 = λ m. bytes ++ entry_bytes m row ≡ entries_bytes 0 (rows ++ row ∷ []) in
    record {
      fit = fit_push rows row s.fit fits;
      rise = rising_push rows row s.rise (last_above rows row.number s.rise above);
      are = subst P n (ap (λ (l : List ℕ). l ++ entry_bytes (behind 0 rows) row) s.are ∙ sym (entries_push 0 rows row));
    }

-- Some rows were passed: they were added behind those of before, and the rest of the bytes stands behind theirs.
pub record Passed (bytes : List ℕ) (old now : List RowRef) (before : ℕ) (rest : List ℕ) : Type 0 where
  pub rows : List RowRef
  pub added : now ≡ old ++ rows
  pub rise : IsRising now
  pub fit : AllByRecursion Fits rows
  pub from : AreFrom 0 rows
  pub last : before ≡ behind 0 rows
  pub are : bytes ≡ entries_bytes 0 rows ++ rest

some_bytes : (n : ℕ) (l : List ℕ) → IsVarint l n → 0 < length l
some_bytes n [] is = absurd is
some_bytes n (c ∷ cs) is = omega arith

-- a row takes some bytes
pub fewer_bytes : (rest after : List ℕ) (before : ℕ) (row : RowRef) → rest ≡ entry_bytes before row ++ after → length after < length rest
fewer_bytes rest after before row is =
    let a = varint_bytes (row.number - before) in
    let whole : rest ≡ a ++ (varint_bytes row.page ++ (varint_bytes row.slot ++ after)) = is ∙ row_parts before row after in
    let first = length-append a (varint_bytes row.page ++ (varint_bytes row.slot ++ after)) in
    let second = length-append (varint_bytes row.page) (varint_bytes row.slot ++ after) in
    let third = length-append (varint_bytes row.slot) after in
    let lengths : length rest ≡ length (a ++ (varint_bytes row.page ++ (varint_bytes row.slot ++ after))) = ap length whole in
    omega (arith, lengths, first, second, third, some_bytes (row.number - before) a (varint_is (row.number - before)))

fit_back : (rows : List RowRef) (row : RowRef) (more : List RowRef) → AllByRecursion Fits (rows ++ row ∷ more) → Fits row
fit_back [] row more fit = fit.0
fit_back (first ∷ rows) row more fit = fit_back rows row more fit.1

from_back : (before : ℕ) (rows : List RowRef) (row : RowRef) (more : List RowRef) → AreFrom before (rows ++ row ∷ more) → behind before rows ≤ row.number
from_back before [] row more from = from.0
from_back before (first ∷ rows) row more from = from_back first.number rows row more from.1

above_all : (number : ℕ) (rows : List RowRef) (row : RowRef) (more : List RowRef) → AllByRecursion (λ (other : RowRef). number < other.number) (rows ++ row ∷ more) → number < row.number
above_all number [] row more all = all.0
above_all number (first ∷ rows) row more all = above_all number rows row more all.1

below_front : (rows : List RowRef) (row : RowRef) (more : List RowRef) → IsRising (rows ++ row ∷ more) → AreBelow rows row.number
below_front [] row more rising = tt
below_front (first ∷ rows) row more rising = (above_all first.number rows row more rising.0, below_front rows row more rising.1)

rising_back : (old rows : List RowRef) → IsRising (old ++ rows) → IsRising rows
rising_back [] rows rising = rising
rising_back (first ∷ old) rows rising = rising_back old rows rising.1

-- A row comes next in what the bytes spell, where some bytes are left.
record Next (old all now : List RowRef) (before : ℕ) (rest : List ℕ) : Type 0 where
  row : RowRef
  after : List ℕ
  fits : Fits row
  from : before ≤ row.number
  are : rest ≡ entry_bytes before row ++ after
  below : IsRising (old ++ all) → AreBelow now row.number

next_of : (bytes : List ℕ) (old now all more : List RowRef) (before : ℕ) (rest : List ℕ) (p : Passed bytes old now before rest) → Spells bytes all
    → all ≡ p.rows ++ more → rest ≡ entries_bytes before more → (rest ≡ [] → ⊥) → Next old all now before rest
next_of bytes old now all [] before rest p s is are some = absurd (some are)
next_of bytes old now all (row ∷ more) before rest p s is are some =
    let P : ℕ → Type 0 = λ n. n ≤ row.number in
    record {
      row = row;
      after = entries_bytes row.number more;
      fits = fit_back p.rows row more (subst (λ (l : List RowRef). AllByRecursion Fits l) is s.fit);
      from = subst P (sym p.last) (from_back 0 p.rows row more (subst (λ (l : List RowRef). AreFrom 0 l) is (rising_from all s.rise)));
      are = are;
      below = λ rising. subst (λ (l : List RowRef). AreBelow l row.number) (sym p.added)
          (below_front (old ++ p.rows) row more (subst (λ (l : List RowRef). IsRising l) (ap (λ (l : List RowRef). old ++ l) is ∙ sym (append_assoc old p.rows (row ∷ more))) rising));
    }

next : (bytes : List ℕ) (old now all : List RowRef) (before : ℕ) (rest : List ℕ) → Passed bytes old now before rest → Spells bytes all → (rest ≡ [] → ⊥) → Next old all now before rest
next bytes old now all before rest p s some =
    let found = front_same 0 p.rows all rest p.from (rising_from all s.rise) (sym p.are ∙ s.are) in
    let P : ℕ → Type 0 = λ n. rest ≡ entries_bytes n found.0 in
    next_of bytes old now all found.0 before rest p s found.1 (subst P (sym p.last) found.2) some

-- Where no row comes next, the bytes spell nothing.
pub none_spelled : (bytes : List ℕ) (old now : List RowRef) (before : ℕ) (rest : List ℕ) → Passed bytes old now before rest → (rest ≡ [] → ⊥)
    → ((row : RowRef) (after : List ℕ) → Fits row → before ≤ row.number → rest ≡ entry_bytes before row ++ after → ⊥)
    → (all : List RowRef) → Spells bytes all → ⊥
none_spelled bytes old now before rest p some none all s =
    let n = next bytes old now all before rest p s some in
    none n.row n.after n.fits n.from n.are

-- Where the row that comes next isn't above all, the bytes spell nothing that rises behind the rows of before.
pub not_rising : (bytes : List ℕ) (old now : List RowRef) (before : ℕ) (rest after : List ℕ) (row : RowRef) → Passed bytes old now before rest → (rest ≡ [] → ⊥)
    → before ≤ row.number → rest ≡ entry_bytes before row ++ after → (AreBelow now row.number → ⊥)
    → (all : List RowRef) → Spells bytes all → IsRising (old ++ all) → ⊥
not_rising bytes old now before rest after row p some from is above all s rising =
    let n = next bytes old now all before rest p s some in
    let same = number_same (row.number - before) (n.row.number - before) _ _ (sym (row_parts before row after) ∙ sym is ∙ n.are ∙ row_parts before n.row n.after) in
    let number : n.row.number ≡ row.number = omega (arith, same.0, from, n.from) in
    above (subst (λ (k : ℕ). AreBelow now k) number (n.below rising))

behind_push : (before : ℕ) (rows : List RowRef) (row : RowRef) → behind before (rows ++ row ∷ []) ≡ row.number
behind_push before [] row = refl
behind_push before (first ∷ rows) row = behind_push first.number rows row

pub passes_row : (bytes : List ℕ) (old now later : List RowRef) (before : ℕ) (rest after : List ℕ) (row : RowRef) → Passed bytes old now before rest
    → Fits row → before ≤ row.number → rest ≡ entry_bytes before row ++ after → AreBelow now row.number → later ≡ now ++ row ∷ []
    → Passed bytes old later row.number after
passes_row bytes old now later before rest after row p fits from is below later_is =
    let P : ℕ → Type 0 = λ n. n ≤ row.number in
    let Q : ℕ → Type 0 = λ n. entries_bytes 0 p.rows ++ entry_bytes n row ≡ entries_bytes 0 (p.rows ++ row ∷ []) in
    record {
      rows = p.rows ++ row ∷ [];
      added = later_is ∙ ap (λ (l : List RowRef). l ++ row ∷ []) p.added ∙ append_assoc old p.rows (row ∷ []);
      rise = subst (λ (l : List RowRef). IsRising l) (sym later_is) (rising_push now row p.rise below);
      fit = fit_push p.rows row p.fit fits;
      from = from_push 0 p.rows row p.from (subst P p.last from);
      last = sym (behind_push 0 p.rows row);
      are = p.are ∙ ap (λ (l : List ℕ). entries_bytes 0 p.rows ++ l) is ∙ sym (append_assoc (entries_bytes 0 p.rows) (entry_bytes before row) after)
          ∙ ap (λ (l : List ℕ). l ++ after) (subst Q (sym p.last) (sym (entries_push 0 p.rows row)));
    }

pub all_passed : (bytes : List ℕ) (old now : List RowRef) (before : ℕ) (rest : List ℕ) → Passed bytes old now before rest → rest ≡ []
    → (rows : List RowRef) × Spells bytes rows × (now ≡ old ++ rows)
all_passed bytes old now before rest p none = (
  p.rows,
  record {
    fit = p.fit;
    rise = rising_back old p.rows (subst (λ (l : List RowRef). IsRising l) p.added p.rise);
    are = p.are ∙ ap (λ (l : List ℕ). entries_bytes 0 p.rows ++ l) none ∙ append-nil (entries_bytes 0 p.rows);
  },
  p.added,
)

-- three numbers that were pushed are a row's bytes
pub row_pushed : (old new : List ℕ) (given before : ℕ) (row : RowRef) → given ≡ before
    → new ≡ old ++ varint_bytes (row.number - given) ++ varint_bytes row.page ++ varint_bytes row.slot → new ≡ old ++ entry_bytes before row
row_pushed old new given before row is pushed =
    let a = varint_bytes (row.number - before) in
    let b = varint_bytes row.page in
    let c = varint_bytes row.slot in
    pushed ∙ ap (λ (n : ℕ). old ++ varint_bytes (row.number - n) ++ b ++ c) is ∙ ap (λ (l : List ℕ). l ++ c) (append_assoc old a b) ∙ append_assoc old (a ++ b) c

pub pushed_list : (old new : List ℕ) (last : Option RowRef) (row : RowRef) → new ≡ old ++ entry_bytes (number_of last) row → Fits row → IfSome last (λ before. before.number < row.number)
    → (rows : List RowRef) → Spells old rows → last_of rows ≡ last → Spells new (rows ++ row ∷ [])
pushed_list old new last row is fits above rows s ends =
    let P : Option RowRef → Type 0 = λ o. IfSome o (λ before. before.number < row.number) in
    let Q : Option RowRef → Type 0 = λ o. old ++ entry_bytes (number_of o) row ≡ new in
    subst (λ (l : List ℕ). Spells l (rows ++ row ∷ [])) (subst Q (sym ends) (sym is)) (spells_push old rows row s fits (subst P (sym ends) above))

pub some_left : (rest : List ℕ) → (length rest == 0) ≡ false → rest ≡ [] → ⊥
some_left rest some none = false≢true (sym some ∙ ap (λ (l : List ℕ). length l == 0) none)

pub none_left : (rest : List ℕ) → (length rest == 0) ≡ true → rest ≡ []
none_left [] none = refl
none_left (c ∷ cs) none = let e : length (c ∷ cs) ≡ 0 = eqb-true (length (c ∷ cs)) 0 none in absurd (omega (arith, e))

-- Some rows were passed, the last of them is this one, and the rest of the bytes stands behind theirs.
pub record HasPassed (bytes : List ℕ) (last : Option RowRef) (before : ℕ) (rest : List ℕ) : Type 0 where
  pub rows : List RowRef
  pub passed : Passed bytes [] rows before rest
  pub is : last ≡ last_of rows

pub below_last : (rows : List RowRef) (number : ℕ) → AreBelow rows number → IfSome (last_of rows) (λ last. last.number < number)
below_last [] number below = tt
below_last (row ∷ []) number below = below.0
below_last (row ∷ other ∷ rows) number below = below_last (other ∷ rows) number below.1

last_pushed : (rows : List RowRef) (row : RowRef) → last_of (rows ++ row ∷ []) ≡ Some row
last_pushed [] row = refl
last_pushed (first ∷ []) row = refl
last_pushed (first ∷ other ∷ rows) row = last_pushed (other ∷ rows) row

no_last : (rows : List RowRef) → None ≡ last_of rows → rows ≡ []
no_last [] none = refl
no_last (row ∷ []) none = let e : None ≡ Some row = none in cc
no_last (row ∷ other ∷ rows) none = let e : other ∷ rows ≡ [] = no_last (other ∷ rows) none in cc

-- before any row
pub passed_none : (bytes : List ℕ) → HasPassed bytes None 0 bytes
passed_none bytes = record { rows = []; passed = record { rows = []; added = refl; rise = tt; fit = tt; from = tt; last = refl; are = refl }; is = refl }

-- a row more
pub passed_more : (bytes : List ℕ) (last : Option RowRef) (before : ℕ) (rest after : List ℕ) (row : RowRef) → HasPassed bytes last before rest → Fits row → before ≤ row.number → rest ≡ entry_bytes before row ++ after
    → IfSome last (λ l. l.number < row.number) → HasPassed bytes (Some row) row.number after
passed_more bytes last before rest after row p fits from is above =
    let P : Option RowRef → Type 0 = λ o. IfSome o (λ l. l.number < row.number) in
    record {
      rows = p.rows ++ row ∷ [];
      passed = passes_row bytes [] p.rows (p.rows ++ row ∷ []) before rest after row p.passed fits from is (last_above p.rows row.number p.passed.rise (subst P p.is above)) refl;
      is = sym (last_pushed p.rows row);
    }

-- where no row comes next, or one that isn't above the last, the bytes spell nothing
pub none_behind : (bytes : List ℕ) (last : Option RowRef) (before : ℕ) (rest : List ℕ) → HasPassed bytes last before rest → (rest ≡ [] → ⊥)
    → ((row : RowRef) (after : List ℕ) → Fits row → before ≤ row.number → rest ≡ entry_bytes before row ++ after → ⊥) → (all : List RowRef) → Spells bytes all → all ≡ []
none_behind bytes last before rest p some none all s = absurd (none_spelled bytes [] p.rows before rest p.passed some none all s)

pub not_behind : (bytes : List ℕ) (last : Option RowRef) (before : ℕ) (rest after : List ℕ) (row : RowRef) → HasPassed bytes last before rest → (rest ≡ [] → ⊥) → before ≤ row.number → rest ≡ entry_bytes before row ++ after
    → (IfSome last (λ l. l.number < row.number) → ⊥) → (all : List RowRef) → Spells bytes all → all ≡ []
not_behind bytes last before rest after row p some from is above all s =
    let P : Option RowRef → Type 0 = λ o. IfSome o (λ l. l.number < row.number) in
    absurd (not_rising bytes [] p.rows before rest after row p.passed some from is (λ below. above (subst P (sym p.is) (below_last p.rows row.number below))) all s s.rise)

-- at the end of the bytes
pub last_some : (bytes : List ℕ) (last : Option RowRef) (before : ℕ) (rest : List ℕ) → HasPassed bytes last before rest → rest ≡ [] → IfSome last (λ l. (rows : List RowRef) × Spells bytes rows × (last_of rows ≡ Some l))
last_some bytes None before rest p none = tt
last_some bytes (Some l) before rest p none =
    let all = all_passed bytes [] p.rows before rest p.passed none in
    (all.0, all.1, ap (λ (rows : List RowRef). last_of rows) (sym all.2) ∙ sym p.is)

pub last_none : (bytes : List ℕ) (last : Option RowRef) (before : ℕ) (rest : List ℕ) → HasPassed bytes last before rest → rest ≡ [] → IfNone last ((rows : List RowRef) → Spells bytes rows → rows ≡ [])
last_none bytes None before rest p none =
    let all = all_passed bytes [] p.rows before rest p.passed none in
    λ rows s. one_spelled bytes rows all.0 s all.1 ∙ sym all.2 ∙ no_last p.rows p.is
last_none bytes (Some l) before rest p none = tt

-- three numbers take 30 bytes at most
pub few_pushed : (old new : List ℕ) (before : ℕ) (row : RowRef) → Fits row → new ≡ old ++ entry_bytes before row → length new ≤ length old + 30
few_pushed old new before row fits is =
    let a = varint_short (row.number - before) (varint_bytes (row.number - before)) (let f = fits.0 in omega (arith, f)) (varint_is (row.number - before)) in
    let b = varint_short row.page (varint_bytes row.page) fits.1 (varint_is row.page) in
    let d = varint_short row.slot (varint_bytes row.slot) (let f = fits.2 in omega (arith, f)) (varint_is row.slot) in
    let e = ap (λ (l : List ℕ). length l) is in
    omega (
      arith,
      a,
      b,
      d,
      e,
      length-append old (entry_bytes before row),
      length-append (varint_bytes (row.number - before) ++ varint_bytes row.page) (varint_bytes row.slot),
      length-append (varint_bytes (row.number - before)) (varint_bytes row.page),
    )
