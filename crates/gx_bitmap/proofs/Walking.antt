-- A walk over the rows of a bitmap.
use Rattle.std.proofs.Common.{◌≡◌, ℕ, Bool, true, false, if◌then◌else◌, List, [], ◌∷◌, Option, Some, None, IfSome, refl, sym, ◌∙◌, ap, subst}
use Rattle.std.specs.List.{filter}
use Rattle.gx_words.specs.PageMap.{PageMap}
use Rattle.gx_pages.specs.declared.row.RowRef.{RowRef}
use Rattle.gx_slot.specs.Slots.{spelling}
use Rattle.gx_heap.specs.Heaps.{Row, IsIn, refs}
use Rattle.gx_bitmap.specs.declared.rescan.KeptPage.{KeptPage}
use Rattle.gx_bitmap.specs.Scans.{AreCandidates, IsKept}

-- what is kept is read
pub kept_read : (map : PageMap) (kept : Option KeptPage) (page : KeptPage) (number : ℕ) → kept ≡ Some page → IfSome kept (λ p. p.number ≡ number) → IsKept map kept
    → map number ≡ Some (spelling page.slots)
kept_read map kept page number is numbered kept_is =
    let read : map page.number ≡ Some (spelling page.slots) = subst (λ (o : Option KeptPage). IsKept map o) is kept_is in
    let same : page.number ≡ number = subst (λ (o : Option KeptPage). IfSome o (λ p. p.number ≡ number)) is numbered in
    ap (λ (n : ℕ). map n) (sym same) ∙ read

-- by the test
pub tested_no : {A : Type 0} (b : Bool) (x : A) → b ≡ false → None ≡ (if b then Some x else None)
tested_no true x is = absurd (let never : true ≡ false = is in cc)
tested_no false x is = refl

pub tested_yes : {A : Type 0} (b : Bool) (x y : A) → b ≡ true → y ≡ x → Some y ≡ (if b then Some x else None)
tested_yes {A = A} true x y is same = ap (λ (z : A). Some z) same
tested_yes {A = A} false x y is same = absurd (let never : false ≡ true = is in cc)

-- the first candidate stands where the first row that is left does
pub record First (at : RowRef) (rest : List RowRef) (rows candidates : List Row) : Type 0 where
  pub bytes : List ℕ
  pub behind : List Row
  pub cut : candidates ≡ (at, bytes) ∷ behind
  pub stands : IsIn (at, bytes) rows
  pub are : AreCandidates rest rows behind

pub first_candidate : (left : List RowRef) (at : RowRef) (rest : List RowRef) (rows candidates : List Row) → left ≡ at ∷ rest → AreCandidates left rows candidates → First at rest rows candidates
first_candidate left at rest rows [] cut are = absurd (let never : [] ≡ at ∷ rest = are.are ∙ cut in cc)
first_candidate left at rest rows (row ∷ behind) cut are =
    let same : row.0 ∷ refs behind ≡ at ∷ rest = are.are ∙ cut in
    let first : row.0 ≡ at = (cc) in
    let others : refs behind ≡ rest = (cc) in
    record {
      bytes = row.1;
      behind = behind;
      cut = λ i. (first i, row.1) ∷ behind;
      stands = subst (λ (r : RowRef). IsIn (r, row.1) rows) first are.stand.0;
      are = record { are = others; stand = are.stand.1 };
    }

-- none is left
pub none_left : (left : List RowRef) (rows candidates : List Row) → left ≡ [] → AreCandidates left rows candidates → candidates ≡ []
none_left left rows [] none are = refl
none_left left rows (row ∷ candidates) none are = absurd (let never : row.0 ∷ refs candidates ≡ [] = are.are ∙ none in cc)

pub filtered_no : (p : Row → Bool) (row : Row) (rows : List Row) → p row ≡ false → filter p (row ∷ rows) ≡ filter p rows
filtered_no p row rows fails = rw fails refl

pub filtered_yes : (p : Row → Bool) (row : Row) (rows : List Row) → p row ≡ true → filter p (row ∷ rows) ≡ row ∷ filter p rows
filtered_yes p row rows holds = rw holds refl

-- by what was found
found_none : {A : Type 0} (b : Bool) (x : A) → None ≡ (if b then Some x else None) → b ≡ false
found_none true x is = absurd (cc)
found_none false x is = refl

found_some : {A : Type 0} (b : Bool) (x y : A) → Some y ≡ (if b then Some x else None) → (b ≡ true) × (y ≡ x)
found_some true x y is = (refl, (cc))
found_some false x y is = absurd (cc)

-- one more row is passed
module _ (q : List ℕ → Bool) (left rest : List RowRef) (at : RowRef) (rows candidates behind : List Row) (cut : left ≡ at ∷ rest) (are : AreCandidates left rows behind) (found : Option (List ℕ))
    (same : filter (λ (row : Row). q row.1) candidates ≡ filter (λ (row : Row). q row.1) behind) (decides : (bytes : List ℕ) → IsIn (at, bytes) rows → found ≡ (if q bytes then Some bytes else None)) where
  abbrev p : Row → Bool
  p row = q row.1

  first : First at rest rows behind
  first = first_candidate left at rest rows behind cut are

  pub skips : found ≡ None → (later : List Row) × AreCandidates rest rows later × (filter p candidates ≡ filter p later)
  skips none =
      let no : q first.bytes ≡ false = found_none (q first.bytes) first.bytes (sym none ∙ decides first.bytes first.stands) in
      (first.behind, first.are, same ∙ ap (λ (l : List Row). filter p l) first.cut ∙ filtered_no p (at, first.bytes) first.behind no)

  pub gives : (row : List ℕ) → found ≡ Some row → (later : List Row) × AreCandidates rest rows later × (filter p candidates ≡ (at, row) ∷ filter p later)
  gives row some =
      let yes = found_some (q first.bytes) first.bytes row (sym some ∙ decides first.bytes first.stands) in (
        first.behind,
        first.are,
        same ∙ ap (λ (l : List Row). filter p l) first.cut ∙ filtered_yes p (at, first.bytes) first.behind yes.0 ∙ ap (λ (b : List ℕ). (at, b) ∷ filter p first.behind) (sym yes.1),
      )
