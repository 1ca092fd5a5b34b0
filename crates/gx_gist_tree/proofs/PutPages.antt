-- Two pages that are put, one of them taken before.
use Rattle.std.proofs.Common.{◌≡◌, ◌≢◌, ℕ, ◌<◌, ◌≤◌, List, [], ◌∷◌, ◌++◌, Some, Result, Ok, Err, is_ok, is_err, true, sym, ◌∙◌, ap, subst, append-nil, arith}
use Rattle.std.specs.Prelude.{IfErr, OnOk}
use Rattle.std.specs.List.{AllByRecursion}
use Rattle.gx_words.specs.PageMap.{PageMap, with_page}
use Rattle.gx_pages.specs.declared.store.Pages.{Ghosts as PageGhosts}
use Rattle.gx_pages.specs.Frees.{IsApart, IsFreeList, KeepsHeader, Taken}
use Rattle.gx_pages.specs.Footprints.{ChangesOnly, IsOutside, KeepsPages, grown}
use Rattle.gx_pages.proofs.Footprints as feet
use Rattle.gx_slot.specs.Slots.{Slots, Fits, spelling}
use Rattle.gx_gist_tree.specs.Insertion.{IsWritten}

outside_both : (a b : ℕ) (old new : PageMap) (pages : List ℕ) → ((n : ℕ) → n ≢ a → n ≢ b → new n ≡ old n) → AllByRecursion (λ n. a ≢ n) pages → AllByRecursion (λ n. b ≢ n) pages → AllByRecursion (λ n. new n ≡ old n) pages
outside_both a b old new [] others x y = tt
outside_both a b old new (n ∷ pages) others x y = (others n (λ e. x.0 (sym e)) (λ e. y.0 (sym e)), outside_both a b old new pages others x.1 y.1)

pub written : (map : PageMap) (page : ℕ) (bytes : List ℕ) (slots : Slots) → page ≢ 0 → map page ≡ Some bytes → bytes ≡ spelling slots → Fits slots → IsWritten map page slots
written map page bytes slots some is spelled fits = record { some = some; is = is ∙ ap (λ (b : List ℕ). Some b) spelled; fits = fits }

module _ {P : Type 0} (p : PageGhosts P) (old new : P) (mid : PageMap) (page taken : ℕ) (free : List ℕ) (list : IsFreeList (p.map old) (p.count old) free) (rest : List ℕ)
    (t : Taken (p.map old) mid (p.count old) (p.count new) taken free rest) (header : KeepsHeader (p.map old) mid) (grows : p.count old ≤ p.count new) (low : page < p.count old) (some : page ≢ 0) (out : IsOutside page free)
    (others : (n : ℕ) → n ≢ page → n ≢ taken → p.map new n ≡ mid n) where
  apart : IsApart ((page ∷ []) ++ taken ∷ rest)
  apart = feet.taken_apart (p.map old) mid (p.count old) (p.count new) taken free rest (page ∷ []) t (out, list.apart) (low, list.below)

  zero_same : p.map new 0 ≡ mid 0
  zero_same = others 0 (λ e. some (sym e)) (λ e. t.nonzero (sym e))

  frees : IsFreeList (p.map new) (p.count new) rest
  frees = feet.free_list_same mid (p.map new) (p.count new) (p.count new) rest zero_same (outside_both page taken mid (p.map new) rest others apart.0.1 apart.1.0) (omega arith) t.frees

  only : ChangesOnly (p.map old) (p.map new) ((page ∷ []) ++ (page ∷ taken ∷ []))
  only n nonzero outside = others n outside.0 outside.1.1.0 ∙ t.others n nonzero outside.1.1.0

  pub both_keep : KeepsPages p old new (page ∷ []) free (page ∷ taken ∷ []) rest
  both_keep = feet.keeps_of p old new (page ∷ []) free (page ∷ taken ∷ []) rest grows only (feet.header_same (p.map old) mid (p.map new) header zero_same) frees
      (feet.same_pages ((page ∷ []) ++ free ++ grown (p.count old) (p.count new)) ((page ∷ taken ∷ []) ++ rest) (feet.taken_pages (p.map old) mid (p.count old) (p.count new) taken free rest (page ∷ []) t))

-- a page that was taken is none that stands beside the free ones
pub taken_apart : (old mid : PageMap) (count later page taken : ℕ) (free rest : List ℕ) → Taken old mid count later taken free rest → IsFreeList old count free → page < count → IsOutside page free → page ≢ taken
taken_apart old mid count later page taken free rest t list low out =
    (feet.taken_apart old mid count later taken free rest (page ∷ []) t (out, list.apart) (low, list.below)).0.0

module _ {P : Type 0} (p : PageGhosts P) (old new : P) (mid one : PageMap) (page taken : ℕ) (free : List ℕ) (list : IsFreeList (p.map old) (p.count old) free) (rest : List ℕ)
    (t : Taken (p.map old) mid (p.count old) (p.count new) taken free rest) (header : KeepsHeader (p.map old) mid) (grows : p.count old ≤ p.count new) (low : page < p.count old) (some : page ≢ 0) (out : IsOutside page free)
    (bytes more : List ℕ) (slots other : Slots) (spelled : bytes ≡ spelling slots) (fits : Fits slots) (spelled_other : more ≡ spelling other) (fits_other : Fits other) where
  differ : page ≢ taken
  differ = taken_apart (p.map old) mid (p.count old) (p.count new) page taken free rest t list low out

  -- the page first, and then the one that was taken
  pub page_first : one ≡ with_page mid page bytes → p.map new ≡ with_page one taken more
      → IsWritten (p.map new) page slots × IsWritten (p.map new) taken other × ((left : List ℕ) × KeepsPages p old new (page ∷ []) free (page ∷ taken ∷ []) left)
  page_first first second = (
    written (p.map new) page bytes slots some
        (ap (λ (m : PageMap). m page) second ∙ feet.with_other one taken more page differ ∙ ap (λ (m : PageMap). m page) first ∙ feet.with_same mid page bytes) spelled fits,
    written (p.map new) taken more other t.nonzero (ap (λ (m : PageMap). m taken) second ∙ feet.with_same one taken more) spelled_other fits_other,
    (
      rest,
      both_keep p old new mid page taken free list rest t header grows low some out
          (λ n np nt. ap (λ (m : PageMap). m n) second ∙ feet.with_other one taken more n nt ∙ ap (λ (m : PageMap). m n) first ∙ feet.with_other mid page bytes n np),
    ),
  )

  -- the one that was taken first
  pub taken_first : one ≡ with_page mid taken more → p.map new ≡ with_page one page bytes
      → IsWritten (p.map new) taken other × IsWritten (p.map new) page slots × KeepsPages p old new (page ∷ []) free (page ∷ taken ∷ []) rest
  taken_first first second = (
    written (p.map new) taken more other t.nonzero
        (ap (λ (m : PageMap). m taken) second ∙ feet.with_other one page bytes taken (λ e. differ (sym e)) ∙ ap (λ (m : PageMap). m taken) first ∙ feet.with_same mid taken more) spelled_other fits_other,
    written (p.map new) page bytes slots some (ap (λ (m : PageMap). m page) second ∙ feet.with_same one page bytes) spelled fits,
    both_keep p old new mid page taken free list rest t header grows low some out
        (λ n np nt. ap (λ (m : PageMap). m n) second ∙ feet.with_other one page bytes n np ∙ ap (λ (m : PageMap). m n) first ∙ feet.with_other mid taken more n nt),
  )

-- one page that is put
pub one_keeps : {P : Type 0} (p : PageGhosts P) (old new : P) (page : ℕ) (bytes : List ℕ) (free : List ℕ) → IsFreeList (p.map old) (p.count old) free → page ≢ 0 → IsOutside page free → p.map new ≡ with_page (p.map old) page bytes
    → p.count new ≡ p.count old → KeepsPages p old new (page ∷ []) free (page ∷ []) free
one_keeps p old new page bytes free list some out put count =
    let zero_same : p.map new 0 ≡ p.map old 0 = ap (λ (m : PageMap). m 0) put ∙ feet.with_other (p.map old) page bytes 0 (λ e. some (sym e)) in
    feet.keeps_of p old new (page ∷ []) free (page ∷ []) free (omega (arith, count)) (λ n nonzero outside. ap (λ (m : PageMap). m n) put ∙ feet.with_other (p.map old) page bytes n outside.0)
    (feet.header_same (p.map old) (p.map old) (p.map new) (feet.header_none (p.map old)) zero_same)
    (subst (λ (m : PageMap). IsFreeList m (p.count new) free) (sym put) (subst (λ (n : ℕ). IsFreeList (with_page (p.map old) page bytes) n free) (sym count) (feet.free_list_put (p.map old) (p.count old) page bytes free some out list)))
    (feet.same_pages ((page ∷ []) ++ free ++ grown (p.count old) (p.count new)) ((page ∷ []) ++ free)
    (ap (λ (l : List ℕ). (page ∷ []) ++ free ++ l) (feet.same_count (p.count old) (p.count new) (sym count)) ∙ append-nil ((page ∷ []) ++ free)))

pub err_refused : {T E : Type 0} (r : Result T E) (Q : E → Type 0) → is_err r ≡ true → IfErr r Q → (e : E) × Q e
err_refused (Ok x) Q is h = cc
err_refused (Err x) Q is h = (x, h)

pub ok_added : {T E : Type 0} (r : Result T E) (Q : Type 0) → is_ok r ≡ true → OnOk r Q → Q
ok_added (Ok x) Q is h = h
ok_added (Err x) Q is h = cc
