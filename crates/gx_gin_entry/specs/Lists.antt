-- Entries as items of pages.
use Rattle.std.proofs.Common.{◌≡◌, ◌≢◌, ℕ, zero, suc, ◌+◌, ◌^◌, ◌<◌, ◌≤◌, List, [], ◌∷◌, ◌++◌, length, map, take, drop, refl, sym, ◌∙◌, ap, ap₂, subst, append_assoc, append-nil, length-append, length-drop, arith}
use Rattle.std.specs.List.{AllByRecursion}
use Rattle.std.proofs.lemmas.List.{drop_at, take_at}
use Rattle.gx_bytes.specs.Fields.{le16, le16-same, length-le16}
use Rattle.gx_gin_entry.specs.EntryTrees.{Entry, IsEntry, entry_bytes, key_bytes, key_of}

-- lists of which the first parts are as long
pub fronts_same : (a b c d : List ℕ) → length a ≡ length c → a ++ b ≡ c ++ d → (a ≡ c) × (b ≡ d)
fronts_same a b c d long same = (
  sym (take_at a b (length a) refl) ∙ ap (λ (l : List ℕ). take (length a) l) same ∙ take_at c d (length a) (sym long),
  sym (drop_at a b (length a) refl) ∙ ap (λ (l : List ℕ). drop (length a) l) same ∙ drop_at c d (length a) (sym long),
)

pub key_again : (key : List ℕ) → key_of (key_bytes key) ≡ key
key_again key = drop_at (le16 (length key)) key 2 (length-le16 (length key))

-- one item is of one entry
pub one_entry : (a b : Entry) → length a.0 < 2 ^ 16 → length b.0 < 2 ^ 16 → entry_bytes a ≡ entry_bytes b → a ≡ b
one_entry a b short small same =
    let whole : le16 (length a.0) ++ (a.0 ++ a.1) ≡ le16 (length b.0) ++ (b.0 ++ b.1) = sym (append_assoc (le16 (length a.0)) a.0 a.1) ∙ same ∙ append_assoc (le16 (length b.0)) b.0 b.1 in
    let first = fronts_same (le16 (length a.0)) (a.0 ++ a.1) (le16 (length b.0)) (b.0 ++ b.1) (length-le16 (length a.0) ∙ sym (length-le16 (length b.0))) whole in
    let sizes : length a.0 ≡ length b.0 = le16-same (length a.0) (length b.0) short small first.0 in
    let rest = fronts_same a.0 a.1 b.0 b.1 sizes first.1 in
    ap₂ (λ (k p : List ℕ). (k, p)) rest.0 rest.1

pub entry_len : (item : List ℕ) (entry : Entry) → item ≡ entry_bytes entry → length item ≡ 2 + length entry.0 + length entry.1
entry_len item entry is =
    let e = ap (λ (l : List ℕ). length l) is in
    omega (arith, e, length-append (key_bytes entry.0) entry.1, length-append (le16 (length entry.0)) entry.0, length-le16 (length entry.0))

pub no_entry : (item : List ℕ) (entry : Entry) (n : ℕ) (rest : List ℕ) → IsEntry entry → item ≡ entry_bytes entry → take 2 item ≡ le16 n → n < 2 ^ 16 → rest ≡ drop 2 item → length rest < n → ⊥
no_entry item entry n rest fits is first small back low =
    let whole : item ≡ le16 (length entry.0) ++ (entry.0 ++ entry.1) = is ∙ append_assoc (le16 (length entry.0)) entry.0 entry.1 in
    let front : take 2 item ≡ le16 (length entry.0) = ap (λ (l : List ℕ). take 2 l) whole ∙ take_at (le16 (length entry.0)) (entry.0 ++ entry.1) 2 (length-le16 (length entry.0)) in
    let key = fits.key in
    let size : n ≡ length entry.0 = le16-same n (length entry.0) small (omega (arith, key)) (sym first ∙ front) in
    let long = entry_len item entry is in
    let left = ap (λ (l : List ℕ). length l) back in
    omega (arith, size, long, left, low, length-drop 2 item)

pub entry_short : (entry : Entry) → IsEntry entry → length entry.0 < 2 ^ 16
entry_short entry is = let short = is.key in omega (arith, short)

-- items are of one list of entries
pub one_list : (a b : List Entry) → AllByRecursion IsEntry a → AllByRecursion IsEntry b → map entry_bytes a ≡ map entry_bytes b → a ≡ b
one_list [] [] first second same = refl
one_list [] (y ∷ b) first second same = absurd (let e = ap (λ (l : List (List ℕ)). length l) same in omega (arith, e))
one_list (x ∷ a) [] first second same = absurd (let e = ap (λ (l : List (List ℕ)). length l) same in omega (arith, e))
one_list (x ∷ a) (y ∷ b) first second same =
    let head : entry_bytes x ≡ entry_bytes y = cc in
    let tail : map entry_bytes a ≡ map entry_bytes b = cc in
    ap₂ (λ (e : Entry) (l : List Entry). e ∷ l) (one_entry x y (entry_short x first.0) (entry_short y second.0) head) (one_list a b first.1 second.1 tail)

-- the entries of the first items, and those of the others
pub record Split (front back : List (List ℕ)) (list : List Entry) : Type 0 where
  pub left : List Entry
  pub right : List Entry
  pub cut : list ≡ left ++ right
  pub before : front ≡ map entry_bytes left
  pub behind : back ≡ map entry_bytes right

pub split_list : (front back : List (List ℕ)) (list : List Entry) → front ++ back ≡ map entry_bytes list → Split front back list
split_list [] back list are = record { left = []; right = list; cut = refl; before = refl; behind = are }
split_list (x ∷ front) back [] are = absurd (let e = ap (λ (l : List (List ℕ)). length l) are in omega (arith, e))
split_list (x ∷ front) back (y ∷ list) are =
    let head : x ≡ entry_bytes y = cc in
    let tail : front ++ back ≡ map entry_bytes list = cc in
    let more = split_list front back list tail in
    record {
      left = y ∷ more.left;
      right = more.right;
      cut = ap (λ (l : List Entry). y ∷ l) more.cut;
      before = ap₂ (λ (i : List ℕ) (l : List (List ℕ)). i ∷ l) head more.before;
      behind = more.behind;
    }

pub map_join : (a b : List Entry) → map entry_bytes (a ++ b) ≡ map entry_bytes a ++ map entry_bytes b
map_join [] b = refl
map_join (x ∷ a) b = ap (λ (l : List (List ℕ)). entry_bytes x ∷ l) (map_join a b)
