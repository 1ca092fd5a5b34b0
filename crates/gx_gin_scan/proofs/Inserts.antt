-- A row under the keys of its items, one by one.
use Rattle.std.proofs.Common.{◌≡◌, ◌≢◌, ⊎_elim, ℕ, zero, suc, ◌+◌, ◌<◌, Bool, true, false, ◌||◌, cond, List, [], ◌∷◌, ◌++◌, length, map, filter, take, slice_get, Contains, Some, None, refl, sym, ◌∙◌, ap, subst, append-nil, arith}
use Rattle.std.specs.List.{AllByRecursion}
use Rattle.std.specs.Str.{bytes_eq}
use Rattle.std.proofs.lemmas.Bool.{false≢true}
use Rattle.std.proofs.lemmas.List.Folds.{list_any-append}
use Rattle.gx_pages.specs.declared.row.RowRef.{RowRef}
use Rattle.gx_pages.specs.declared.store.Pages.{Ghosts}
use Rattle.gx_pages.specs.Footprints.{KeepsPages}
use Rattle.gx_pages.specs.Rows.{AreBelow}
use Rattle.gx_pages.proofs.Footprints.{keeps_join, keeps_none}
use Rattle.gx_gin.specs.Reach.{is_among}
use Rattle.gx_gin.specs.Rising.{IsRising}
use Rattle.gx_gin_entry.specs.EntryTrees.{IsBefore}
use Rattle.gx_gin_entry.specs.Keys.{before_on}
use Rattle.gx_gin_scan.specs.Gins.{HoldsGin}
use Rattle.gx_gin_scan.specs.Lists.{Grows, IsBehind, IsIndexOf, Lists, keys_of, rows_under}
use Rattle.gx_gin_scan.specs.Searches.{item_key}
use Rattle.gx_gin_scan.proofs.Grows.{held_rising, held_some, index_grows}
use Rattle.gx_gin_scan.proofs.Held.{before_differs, bytes_differ, bytes_tell}
use Rattle.gx_gin_scan.proofs.Reading.{keys_push}

first_before : (y : List ℕ) (ys : List (List ℕ)) (i : ℕ) (x : List ℕ) → IsRising (y ∷ ys) → slice_get ys i ≡ Some x → IsBefore y x
first_before y [] i x rise at = let e : None ≡ Some x = at in cc
first_before y (z ∷ zs) zero x rise at = let e : Some z ≡ Some x = at in let same : z ≡ x = cc in subst (λ (w : List ℕ). IsBefore y w) same rise.0
first_before y (z ∷ zs) (suc i) x rise at = before_on y z x rise.0 (first_before z zs i x rise.1 at)

tail_rises : (y : List ℕ) (ys : List (List ℕ)) → IsRising (y ∷ ys) → IsRising ys
tail_rises y [] rise = tt
tail_rises y (z ∷ zs) rise = rise.1

-- an item isn't among those before it
among_not : (items : List (List ℕ)) (i : ℕ) (x : List ℕ) → IsRising items → slice_get items i ≡ Some x → is_among (map item_key (take i items)) (item_key x) ≡ false
among_not [] zero x rise at = refl
among_not [] (suc i) x rise at = refl
among_not (y ∷ ys) zero x rise at = refl
among_not (y ∷ ys) (suc i) x rise at =
    let differ : item_key y ≢ item_key x = λ same. before_differs y x (first_before y ys i x rise at) (let e : 1 ∷ y ≡ 1 ∷ x = same in cc) in
    ap (λ (b : Bool). b || is_among (map item_key (take i ys)) (item_key x)) (bytes_differ (item_key y) (item_key x) differ) ∙ among_not ys i x (tail_rises y ys rise) at

add_either : (l : List RowRef) (row : RowRef) (a b : Bool) → (a ≡ true → b ≡ true → ⊥) → (l ++ cond a (row ∷ []) []) ++ cond b (row ∷ []) [] ≡ l ++ cond (a || b) (row ∷ []) []
add_either l row true true both = absurd (both refl refl)
add_either l row true false both = append-nil (l ++ row ∷ [])
add_either l row false true both = ap (λ (m : List RowRef). m ++ row ∷ []) (append-nil l)
add_either l row false false both = append-nil (l ++ [])

key_among : (key k : List ℕ) → is_among (key ∷ []) k ≡ true → key ≡ k
key_among key k among = ⊎_elim (λ same. same.1) (λ differ. absurd (false≢true (sym (one differ.0) ∙ among))) (bytes_tell key k)
  where
    one : bytes_eq key k ≡ false → is_among (key ∷ []) k ≡ false
    one other = rw other refl

pub more_grows : (items : List (List ℕ)) (i : ℕ) (x : List ℕ) (row : RowRef) (lists after later : Lists) → IsRising items → slice_get items i ≡ Some x → Grows (map item_key (take i items)) row lists after → Grows (item_key x ∷ []) row after later
    → Grows (map item_key (take (i + 1) items)) row lists later
more_grows items i x row lists after later rise at first second k =
    let keys = map item_key (take i items) in
    second k ∙ ap (λ (l : List RowRef). l ++ cond (is_among (item_key x ∷ []) k) (row ∷ []) []) (first k)
    ∙ add_either (rows_under lists k) row (is_among keys k) (is_among (item_key x ∷ []) k)
    (λ before here. let same = key_among (item_key x) k here in false≢true (sym (among_not items i x rise at) ∙ ap (λ (l : List ℕ). is_among keys l) same ∙ before))
    ∙ ap (λ (b : Bool). rows_under lists k ++ cond b (row ∷ []) []) (sym (list_any-append (λ (other : List ℕ). bytes_eq other k) keys (item_key x ∷ [])) ∙ ap (λ (l : List (List ℕ)). is_among l k) (keys_push items i x at))

pub key_below : (items : List (List ℕ)) (i : ℕ) (x : List ℕ) (row : RowRef) (lists after : Lists) → IsRising items → slice_get items i ≡ Some x → IsBehind lists row → Grows (map item_key (take i items)) row lists after
    → AreBelow (rows_under after (item_key x)) row.number
key_below items i x row lists after rise at behind grows =
    subst (λ (l : List RowRef). AreBelow l row.number)
    (sym (grows (item_key x) ∙ ap (λ (b : Bool). rows_under lists (item_key x) ++ cond b (row ∷ []) []) (among_not items i x rise at) ∙ append-nil (rows_under lists (item_key x))))
    (behind (item_key x))

-- the row stands under the first items
pub record SoFar {P : Type 0} (g : Ghosts P) (old now : P) (root : ℕ) (lists : Lists) (feet free : List ℕ) (row : RowRef) (items : List (List ℕ)) (i : ℕ) : Type 0 where
  pub after : Lists
  pub later : List ℕ
  pub rest : List ℕ
  pub gin : HoldsGin g now root after later rest
  pub keeps : KeepsPages g old now feet free later rest
  pub grows : Grows (map item_key (take i items)) row lists after

module _ {P : Type 0} (g : Ghosts P) (old : P) (root : ℕ) (lists : Lists) (feet free : List ℕ) (row : RowRef) (items : List (List ℕ)) where
  pub none_so_far : HoldsGin g old root lists feet free → SoFar g old old root lists feet free row items 0
  none_so_far gin = record { after = lists; later = feet; rest = free; gin = gin; keeps = keeps_none g old feet free gin.frees; grows = λ k. sym (append-nil (rows_under lists k)) }

  pub more_so_far : (now new : P) (i : ℕ) (x : List ℕ) → IsRising items → slice_get items i ≡ Some x → (so_far : SoFar g old now root lists feet free row items i)
      → (after : Lists) × (later : List ℕ) × (rest : List ℕ) × HoldsGin g new root after later rest × KeepsPages g now new so_far.later so_far.rest later rest × Grows (item_key x ∷ []) row so_far.after after
      → SoFar g old new root lists feet free row items (i + 1)
  more_so_far now new i x rise at so_far done = record {
    after = done.0;
    later = done.1;
    rest = done.2;
    gin = done.3;
    keeps = keeps_join g old now new feet free so_far.later so_far.rest done.1 done.2 so_far.keeps done.4;
    grows = more_grows items i x row lists so_far.after done.0 rise at so_far.grows done.5;
  }

-- the keys of some items
pub some_keys : (items : List (List ℕ)) → 0 < length items → map item_key items ≡ keys_of items
some_keys [] some = absurd (omega (arith, some))
some_keys (item ∷ items) some = refl

pub no_keys : (items : List (List ℕ)) → length items ≡ 0 → keys_of items ≡ (0 ∷ []) ∷ []
no_keys [] none = refl
no_keys (item ∷ items) none = absurd (omega (arith, none))

-- rows that are picked are below what all are below
below_picked : {V : Type 0} (all : List (RowRef × V)) (p : (RowRef × V) → Bool) (n : ℕ) → AreBelow (map (λ row. row.0) all) n → AreBelow (map (λ row. row.0) (filter p all)) n
below_picked [] p n below = tt
below_picked {V} (x ∷ all) p n below = pick (p x) refl (below_picked all p n below.1)
  where
    pick : (b : Bool) → p x ≡ b → AreBelow (map (λ (row : RowRef × V). row.0) (filter p all)) n → AreBelow (map (λ (row : RowRef × V). row.0) (filter p (x ∷ all))) n
    pick true is rest = rw is (below.0, rest)
    pick false is rest = rw is rest

pub index_behind : {V : Type 0} (items_of : V → List (List ℕ)) (lists : Lists) (all : List (RowRef × V)) (row : RowRef) → IsIndexOf items_of lists all → AreBelow (map (λ r. r.0) all) row.number → IsBehind lists row
index_behind items_of lists all row index below key =
    subst (λ (l : List RowRef). AreBelow l row.number) (sym (index.under key)) (below_picked all (λ r. is_among (keys_of (items_of r.1)) key) row.number below)

-- the index with a row more
pub index_more : {V : Type 0} (items_of : V → List (List ℕ)) {P : Type 0} (g : Ghosts P) (new : P) (root : ℕ) (lists after : Lists) (later rest : List ℕ) (all : List (RowRef × V)) (row : RowRef) (value : V) (keys : List (List ℕ))
    → keys ≡ keys_of (items_of value) → IsIndexOf items_of lists all → AreBelow (map (λ r. r.0) all) row.number → HoldsGin g new root after later rest → Grows keys row lists after → IsIndexOf items_of after (all ++ (row, value) ∷ [])
index_more items_of g new root lists after later rest all row value keys same index below gin grows =
    index_grows items_of lists after all row value index below
    (held_rising (g.map new) (g.count new) gin.held.entries after gin.held.trees gin.held.are gin.held.held.rising)
    (held_some (g.map new) (g.count new) gin.held.entries after gin.held.trees gin.held.are)
    (subst (λ (l : List (List ℕ)). Grows l row lists after) same grows)

pub all_of : (Q : List ℕ → Type 0) (xs : List (List ℕ)) → ((x : List ℕ) → Contains xs x → Q x) → AllByRecursion Q xs
all_of Q [] each = tt
all_of Q (x ∷ xs) each = (each x (zero, omega arith, refl), all_of Q xs (λ z c. each z (suc c.0, omega (arith, c.1), c.2)))

-- the item at a place
pub item_at : (Q : List ℕ → Type 0) (xs : List (List ℕ)) (i : ℕ) (x : List ℕ) → AllByRecursion Q xs → slice_get xs i ≡ Some x → Q x
item_at Q [] i x all at = let e : None ≡ Some x = at in cc
item_at Q (y ∷ ys) zero x all at = let e : Some y ≡ Some x = at in let same : y ≡ x = cc in subst Q same all.0
item_at Q (y ∷ ys) (suc i) x all at = item_at Q ys i x all.1 at
