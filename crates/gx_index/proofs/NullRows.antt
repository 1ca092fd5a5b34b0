-- NULL rows and their posting tree.
use Rattle.std.proofs.Common.{◌≡◌, ◌≢◌, inl, inr, ⊎_elim, ℕ, zero, suc, List, [], ◌∷◌, ◌++◌, Result, Ok, Err, IfErr, refl, sym, subst, append-nil, arith}
use Rattle.std.specs.Prelude.{IsPermutation}
use Rattle.std.proofs.lemmas.Result.{IfErr-weaker}
use Rattle.gx_words.specs.PageMap.{PageMap}
use Rattle.gx_pages.specs.declared.row.RowRef.{RowRef}
use Rattle.gx_pages.specs.declared.error.PageError.{PageError}
use Rattle.gx_pages.specs.declared.error.PageError.TheVariants.{DiskFault, Broken, PageSpace, Memory}
use Rattle.gx_chain.specs.Chains.{IsSound}
use Rattle.gx_pages.specs.declared.store.Pages.{Ghosts}
use Rattle.gx_pages.specs.Footprints.{KeepsPages}
use Rattle.gx_pages.specs.Frees.{IsApart}
use Rattle.gx_pages.specs.Pages.{HasCause}
use Rattle.gx_pages.proofs.Footprints.{apart_moved, cause_weaker, keeps_join, same_count}
use Rattle.gx_tree.specs.Trees.{Tree, Stand, page_of}
use Rattle.gx_posting_tree.specs.PostingTrees.{HoldsList, HoldsRows}
use Rattle.gx_index.specs.Beside.{Beside}
use Rattle.gx_index.specs.Nulls.{HasNone, HasSome, HoldsNulls}

-- A cause of which another one is a part.
pub broken_weaker : {T : Type 0} (r : Result T PageError) (a b : ℕ) (B B' : ℕ → ℕ → ℕ → Type 0) (S : ℕ → Type 0) (M : Type 0) → ((p x y : ℕ) → B p x y → B' p x y)
    → IfErr r (HasCause a b B S M) → IfErr r (HasCause a b B' S M)
broken_weaker r a b B B' S M under h =
    IfErr-weaker r _ _ (λ e c. cause_weaker e a a b b B B' S S M M (omega arith) (omega arith) under (λ n s. s) (λ m. m) c) h

stands_some : (map : PageMap) (kind : ℕ) (tree : Tree) → Stand map kind tree.0 (tree.1 ∷ []) → page_of tree.0 tree.1 ≢ 0
stands_some map kind (zero, node) stand = stand.0.some
stands_some map kind (suc level, node) stand = stand.0.0.some

pub root_some : (map : PageMap) (count root : ℕ) (rows : List RowRef) (feet : List ℕ) → HoldsList map count root rows feet → root ≢ 0
root_some map count root rows feet h = subst (λ (n : ℕ). n ≢ 0) h.held.begins (stands_some map 6 h.tree h.held.stand)

pub some_held : (map : PageMap) (count nulls : ℕ) (rows : List RowRef) (feet : List ℕ) → nulls ≢ 0 → HoldsNulls map count nulls rows feet → HasSome map count nulls rows feet
some_held map count nulls rows feet not_zero h = ⊎_elim (λ none. absurd (not_zero none.no_root)) (λ some. some) h

pub none_held : (map : PageMap) (count nulls : ℕ) (rows : List RowRef) (feet : List ℕ) → nulls ≡ 0 → HoldsNulls map count nulls rows feet → HasNone nulls rows feet
none_held map count nulls rows feet is_zero h = ⊎_elim (λ none. none) (λ some. absurd (some.root is_zero)) h

pub pushed_some : (rows : List RowRef) (row : RowRef) → rows ++ row ∷ [] ≢ []
pushed_some [] row e = absurd (no e)
  where
    no : row ∷ [] ≡ [] → ⊥
    no g = cc
pushed_some (other ∷ rows) row e = absurd (no e)
  where
    no : other ∷ (rows ++ row ∷ []) ≡ [] → ⊥
    no g = cc

module _ {P : Type 0} (p : Ghosts P) where
  abbrev pub Nulls : P → ℕ → List RowRef → List ℕ → List ℕ → Type 0
  Nulls pages nulls rows feet free = Beside p (λ map count at. HoldsNulls map count nulls rows at) pages feet free

  pub posting_of : (pages : P) (page nulls : ℕ) (rows : List RowRef) (feet free : List ℕ) → page ≡ nulls → nulls ≢ 0 → Nulls pages nulls rows feet free → HoldsRows p pages page rows feet free
  posting_of pages page nulls rows feet free same not_zero h =
      subst (λ (n : ℕ). HoldsRows p pages n rows feet free) (sym same)
      (record { held = (some_held (p.map pages) (p.count pages) nulls rows feet not_zero h.held).held; frees = h.frees; apart = h.apart })

  pub of_posting : (pages : P) (root : ℕ) (rows : List RowRef) (feet free : List ℕ) → rows ≢ [] → HoldsRows p pages root rows feet free → Nulls pages root rows feet free
  of_posting pages root rows feet free some h =
      record { held = inr (record { root = root_some (p.map pages) (p.count pages) root rows feet h.held; some = some; held = h.held }); frees = h.frees; apart = h.apart }

  -- what a change makes of NULL rows
  abbrev pub Makes : P → P → ℕ → List RowRef → List ℕ → List ℕ → Type 0
  Makes old new root rows feet free = (later : List ℕ) × (rest : List ℕ) × Nulls new root rows later rest × KeepsPages p old new feet free later rest

  pub first_made : (old new : P) (page root : ℕ) (row : RowRef) (rows : List RowRef) (free : List ℕ) → root ≡ page → rows ≡ row ∷ []
      → (feet : List ℕ) × (rest : List ℕ) × HoldsRows p new page rows feet rest × KeepsPages p old new [] free feet rest → Makes old new root (row ∷ []) [] free
  first_made old new page root row rows free same is made =
      let held = subst (λ (l : List RowRef). HoldsRows p new page l made.0 made.1) is made.2 in
      (made.0, made.1, of_posting new root (row ∷ []) made.0 made.1 (pushed_some [] row) (subst (λ (n : ℕ). HoldsRows p new n (row ∷ []) made.0 made.1) (sym same) held), made.3)

  pub from_none : (old new : P) (nulls root : ℕ) (row : RowRef) (rows : List RowRef) (feet free : List ℕ) → nulls ≡ 0 → Nulls old nulls rows feet free
      → (Nulls old 0 [] [] free → Makes old new root (row ∷ []) [] free) → Makes old new root (rows ++ row ∷ []) feet free
  from_none old new nulls root row rows feet free is_zero h made =
      let none = none_held (p.map old) (p.count old) nulls rows feet is_zero h.held in
      let first = made (record { held = inl (record { no_root = refl; no_rows = refl; no_feet = refl }); frees = h.frees; apart = subst (λ (f : List ℕ). IsApart (f ++ free)) none.no_feet h.apart }) in
      subst (λ (l : List RowRef). Makes old new root (l ++ row ∷ []) feet free) (sym none.no_rows) (subst (λ (f : List ℕ). Makes old new root (row ∷ []) f free) (sym none.no_feet) first)

  pub more_made : (old new : P) (nulls page : ℕ) (row : RowRef) (rows : List RowRef) (feet free : List ℕ) → page ≡ nulls
      → (later : List ℕ) × (rest : List ℕ) × HoldsRows p new page (rows ++ row ∷ []) later rest × KeepsPages p old new feet free later rest → Makes old new nulls (rows ++ row ∷ []) feet free
  more_made old new nulls page row rows feet free same made = (
    made.0,
    made.1,
    of_posting new nulls (rows ++ row ∷ []) made.0 made.1 (pushed_some rows row)
        (subst (λ (n : ℕ). HoldsRows p new n (rows ++ row ∷ []) made.0 made.1) same made.2),
    made.3,
  )

module _ {P : Type 0} (p : Ghosts P) where
  -- no rows are left, and their pages were given back
  pub none_left : (old mid new : P) (rows : List RowRef) (feet free rest : List ℕ) → rows ≡ [] → IsApart (feet ++ free) → p.count new ≡ p.count old → KeepsPages p old mid feet free feet free
      → KeepsPages p mid new feet free [] rest → Makes p old new 0 rows feet free
  none_left old mid new rows feet free rest none apart same first second =
      let keeps = keeps_join p old mid new feet free feet free [] rest first second in
      let whole = subst (λ (l : List ℕ). IsPermutation (feet ++ free ++ l) rest) (same_count (p.count old) (p.count new) (sym same)) keeps.kept in (
        [],
        rest,
        record { held = inl (record { no_root = refl; no_rows = none; no_feet = refl }); frees = keeps.frees; apart = apart_moved (feet ++ free) rest (subst (λ (l : List ℕ). IsPermutation l rest) (append-nil (feet ++ free)) whole) apart },
        keeps,
      )

-- An error that isn't a broken page, where none can be.
pub never_broken : {T : Type 0} (r : Result T PageError) (a b : ℕ) (B : ℕ → ℕ → ℕ → Type 0) (S : ℕ → Type 0) (M : Type 0) → ((p x y : ℕ) → B p x y → ⊥) → IfErr r (HasCause a b B S M) → IsSound r
never_broken (Ok x) a b B S M never cause = tt
never_broken (Err DiskFault) a b B S M never cause = tt
never_broken (Err (Broken page expected found)) a b B S M never cause = absurd (never page expected found cause.1)
never_broken (Err (PageSpace pages)) a b B S M never cause = tt
never_broken (Err Memory) a b B S M never cause = tt
