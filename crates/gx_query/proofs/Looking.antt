-- Rows are looked at one after another.
use Rattle.std.proofs.Common.{◌≡◌, ℕ, ◌+◌, zero, suc, add-one, Bool, true, false, if◌then◌else◌, List, [], ◌∷◌, ◌++◌, length, take, Option, None, Some, refl, sym, ◌∙◌, ap, subst, arith}
use Rattle.std.specs.Prelude.{IsSomeAnd, MatchOption}
use Rattle.std.specs.List.{AllZip, slice_get}
use Rattle.std.proofs.lemmas.Slice.Zip.{AllZip-left}
use Rattle.std.proofs.lemmas.List.Elements.{filter-append}
use Rattle.std.proofs.lemmas.List.{length-append}
use Rattle.gx_pages.specs.declared.error.PageError.{PageError}
use Rattle.gx_pages.specs.declared.error.PageError.TheVariants.{DiskFault, Broken, PageSpace, Memory}
use Rattle.gx_pages.specs.Pages.{HasCause}
use Rattle.gx_pages.specs.declared.row.RowRef.{RowRef}
use Rattle.gx_heap.specs.Heaps.{Row}
use Rattle.gx_value.specs.declared.types.ColumnType.{ColumnType}
use Rattle.gx_value.specs.Rows.{SpellsRow}
use Rattle.gx_value.specs.Values.{Datum}
use Rattle.gx_model.specs.Truth.{Bound, selects}
use Rattle.gx_query.specs.declared.counts.Counts.{Counts}
use Rattle.gx_query.specs.Seen.{Seen, IsSeen, AreSeen}
use Rattle.gx_query.specs.Walks.{Breaks, Shown, picked, visited}
use Rattle.gx_query.proofs.Lists.{split}

visited_join : {V : Type 0} (after : V → Seen → V) (v : V) (seen more : List Seen) → visited after v (seen ++ more) ≡ visited after (visited after v seen) more
visited_join after v [] more = refl
visited_join after v (s ∷ seen) more = visited_join after (after v s) seen more

module _ {V : Type 0} (after : V → Seen → V) (condition : Option Bound) where
  pub shown_none : (v : V) (counts : Counts) → Shown after condition v v counts counts []
  shown_none v counts = record { visitor = refl; rows = omega arith; selected = omega arith }

  pub shown_join : (a b c : V) (k m n : Counts) (seen more : List Seen) → Shown after condition a b k m seen → Shown after condition b c m n more → Shown after condition a c k n (seen ++ more)
  shown_join a b c k m n seen more first second =
      let both : picked condition (seen ++ more) ≡ picked condition seen ++ picked condition more = filter-append (λ (s : Seen). selects condition s.1) seen more in
      record {
        visitor = second.visitor ∙ ap (λ (v : V). visited after v (picked condition more)) first.visitor ∙ sym (visited_join after a (picked condition seen) (picked condition more))
            ∙ ap (λ (l : List Seen). visited after a l) (sym both);
        rows = (let x = first.rows in let y = second.rows in let l = length-append seen more in omega (arith, x, y, l));
        selected = (let x = first.selected in let y = second.selected in let l : length (picked condition (seen ++ more)) ≡ length (picked condition seen) + length (picked condition more) =
            ap (λ (q : List Seen). length q) both ∙ length-append (picked condition seen) (picked condition more) in omega (arith, x, y, l));
      }

  -- one row was shown, or wasn't
  pub shown_one : (a b : V) (k n : Counts) (s : Seen) (yes : Bool) → yes ≡ selects condition s.1 → (yes ≡ true → b ≡ after a s) → (yes ≡ false → b ≡ a) → n.rows ≡ k.rows + 1
      → n.selected ≡ k.selected + (if yes then 1 else 0) → Shown after condition a b k n (s ∷ [])
  shown_one a b k n s true is shown hidden rows selected =
      let one : picked condition (s ∷ []) ≡ s ∷ [] = rw (← is) refl in
      record {
        visitor = shown refl ∙ ap (λ (l : List Seen). visited after a l) (sym one);
        rows = rows;
        selected = selected ∙ ap (λ (l : List Seen). k.selected + length l) (sym one);
      }
  shown_one a b k n s false is shown hidden rows selected =
      let none : picked condition (s ∷ []) ≡ [] = rw (← is) refl in
      record {
        visitor = hidden refl ∙ ap (λ (l : List Seen). visited after a l) (sym none);
        rows = rows;
        selected = selected ∙ ap (λ (l : List Seen). k.selected + length l) (sym none);
      }

-- One row of some.

take_suc : {A : Type 0} (xs : List A) (n : ℕ) (x : A) → slice_get xs n ≡ Some x → take (suc n) xs ≡ take n xs ++ x ∷ []
take_suc [] n x some = absurd (let never : None ≡ Some x = some in cc)
take_suc {A = A} (y ∷ xs) zero x some = let same : y ≡ x = (cc) in ap (λ (z : A). z ∷ []) same
take_suc {A = A} (y ∷ xs) (suc n) x some = ap (λ (l : List A). y ∷ l) (take_suc xs n x some)

take_at : {A : Type 0} (xs : List A) (n : ℕ) (x : A) → slice_get xs n ≡ Some x → take (n + 1) xs ≡ take n xs ++ x ∷ []
take_at {A = A} xs n x some = ap (λ (k : ℕ). take k xs) (add-one n) ∙ take_suc xs n x some

some_and : {B : Type 0} (o : Option B) (Q : B → Type 0) → IsSomeAnd o Q → (y : B) × Q y
some_and None Q fails = absurd fails
some_and (Some y) Q so = (y, so)

-- what goes with the element at a place
with_at : {A B : Type 0} (R : A → B → Type 0) (xs : List A) (ys : List B) (n : ℕ) (x : A) → AllZip R xs ys → slice_get xs n ≡ Some x → (y : B) × R x y
with_at {A = A} {B = B} R xs ys n x all some =
    some_and (slice_get ys n) (R x) (subst (λ (o : Option A). MatchOption o (Unit {0}) (λ z. IsSomeAnd (slice_get ys n) (R z))) some (AllZip-left R xs ys all n))

module _ {V : Type 0} (after : V → Seen → V) (condition : Option Bound) (kinds : List ColumnType) where
  pub shown_start : (v : V) (counts : Counts) (seen : List Seen) → AreSeen kinds [] seen → Shown after condition v v counts counts seen
  shown_start v counts [] are = shown_none after condition v counts
  shown_start v counts (s ∷ seen) are = absurd are

  shown_single : (b c : V) (m e : Counts) (place : RowRef) (bytes : List ℕ) → ((fields : List (Option Datum)) → SpellsRow kinds bytes fields → Shown after condition b c m e ((place, fields) ∷ []))
      → (seen : List Seen) → AreSeen kinds ((place, bytes) ∷ []) seen → Shown after condition b c m e seen
  shown_single b c m e place bytes one [] are = absurd are
  shown_single b c m e place bytes one (s ∷ t ∷ seen) are = absurd are.1
  shown_single b c m e place bytes one (s ∷ []) are =
      let same : place ≡ s.0 = are.0.place in
      subst (λ (r : RowRef). Shown after condition b c m e ((r, s.1) ∷ [])) same (one s.1 are.0.spelled)

  pub shown_more : (rows : List Row) (n : ℕ) (place : RowRef) (bytes : List ℕ) → slice_get rows n ≡ Some (place, bytes) → (a b c : V) (k m e : Counts)
      → ((seen : List Seen) → AreSeen kinds (take n rows) seen → Shown after condition a b k m seen)
      → ((fields : List (Option Datum)) → SpellsRow kinds bytes fields → Shown after condition b c m e ((place, fields) ∷ []))
      → (seen : List Seen) → AreSeen kinds (take (n + 1) rows) seen → Shown after condition a c k e seen
  shown_more rows n place bytes there a b c k m e before one seen are =
      let cut = split (IsSeen kinds) (take n rows) ((place, bytes) ∷ []) seen (subst (λ (l : List Row). AreSeen kinds l seen) (take_at rows n (place, bytes) there) are) in
      subst (λ (l : List Seen). Shown after condition a c k e l) (sym cut.cut)
      (shown_join after condition a b c k m e cut.front cut.back (before cut.front cut.with_front) (shown_single b c m e place bytes one cut.back cut.with_back))

  -- the rows of one more page
  pub shown_page : (old page : List Row) (a b c : V) (k m e : Counts) → ((seen : List Seen) → AreSeen kinds old seen → Shown after condition a b k m seen)
      → ((seen : List Seen) → AreSeen kinds page seen → Shown after condition b c m e seen) → (seen : List Seen) → AreSeen kinds (old ++ page) seen → Shown after condition a c k e seen
  shown_page old page a b c k m e before here seen are =
      let cut = split (IsSeen kinds) old page seen are in
      subst (λ (l : List Seen). Shown after condition a c k e l) (sym cut.cut)
      (shown_join after condition a b c k m e cut.front cut.back (before cut.front cut.with_front) (here cut.back cut.with_back))

-- one row that isn't one of the table is among them
pub row_breaks : (kinds : List ColumnType) (rows : List Row) (n : ℕ) (place : RowRef) (bytes : List ℕ) → slice_get rows n ≡ Some (place, bytes)
    → ((fields : List (Option Datum)) → SpellsRow kinds bytes fields → ⊥) → (seen : List Seen) → AreSeen kinds rows seen → ⊥
row_breaks kinds rows n place bytes there broken seen are =
    let it = with_at (IsSeen kinds) rows seen n (place, bytes) are there in broken it.0.1 it.1.spelled

-- an error of which a row is the cause, handed on
pub break_weaker : (e : PageError) (B C : Type 0) → (B → C) → Breaks B e → Breaks C e
break_weaker DiskFault B C weaker fails = absurd fails
break_weaker (Broken page expected found) B C weaker has = (has.0, weaker has.1)
break_weaker (PageSpace pages) B C weaker fails = absurd fails
break_weaker Memory B C weaker memory = memory

pub break_cause : (e : PageError) (before now : ℕ) (B : Type 0) (C : ℕ → ℕ → ℕ → Type 0) → (B → (page expected found : ℕ) → C page expected found) → Breaks B e
    → HasCause before now C (λ n. ⊥) (Unit {0}) e
break_cause DiskFault before now B C weaker fails = absurd fails
break_cause (Broken page expected found) before now B C weaker has = (has.0, weaker has.1 page expected found)
break_cause (PageSpace pages) before now B C weaker fails = absurd fails
break_cause Memory before now B C weaker memory = memory
