-- Entries that are cut off the front of bytes.
use Rattle.std.proofs.Common.{◌≡◌, ℕ, zero, suc, ◌+◌, ◌*◌, ◌≤◌, List, [], ◌∷◌, ◌++◌, length, take, drop, refl, sym, ◌∙◌, ap, arith, rules, length-take-le, length-drop}
use Rattle.std.specs.List.{flat_map, AllByRecursion}
use Rattle.std.proofs.lemmas.List.{same_lists, places, drop-drop}
use Rattle.gx_log.specs.Records.{Entry, Record, entry_bytes}
use Rattle.gx_log.specs.Places.{cut}

pub take_join : (m n : ℕ) (l : List ℕ) → take (m + n) l ≡ take m l ++ take n (drop m l)
take_join m n l = same_lists _ _ (search (rules, places)) (λ k d h. grind (arith, places))

pub length-cut : (a b n : ℕ) (bytes : List ℕ) → length (cut a b n bytes) ≡ n
unfolding cut
length-cut a b zero bytes = refl
length-cut a b (suc n) bytes = ap suc (length-cut a b n (drop (a + b) bytes))

pub cut_entries : (a b n : ℕ) (bytes : List ℕ) → (a + b) * n ≤ length bytes → AllByRecursion (λ (e : Entry). (length e.0 ≡ a) × (length e.1 ≡ b)) (cut a b n bytes)
unfolding cut
cut_entries a b zero bytes le = tt
cut_entries a b (suc n) bytes le =
    let size : (a + b) * suc n ≡ (a + b) + (a + b) * n = omega arith in (
      (length-take-le a bytes (omega (arith, le, size)), length-take-le b (drop a bytes) (omega (arith, le, size, length-drop a bytes))),
      cut_entries a b n (drop (a + b) bytes) (omega (arith, le, size, length-drop (a + b) bytes)),
    )

pub cut_bytes : (a b n : ℕ) (bytes : List ℕ) → flat_map entry_bytes (cut a b n bytes) ≡ take ((a + b) * n) bytes
unfolding cut
cut_bytes a b zero bytes = let none : (a + b) * 0 ≡ 0 = omega arith in ap (λ (k : ℕ). take k bytes) (sym none)
cut_bytes a b (suc n) bytes =
    let size : (a + b) * suc n ≡ (a + b) + (a + b) * n = omega arith in
    ap (λ (l : List ℕ). take a bytes ++ take b (drop a bytes) ++ l) (cut_bytes a b n (drop (a + b) bytes))
    ∙ ap (λ (l : List ℕ). l ++ take ((a + b) * n) (drop (a + b) bytes)) (sym (take_join a b bytes))
    ∙ sym (take_join (a + b) ((a + b) * n) bytes) ∙ ap (λ (k : ℕ). take k bytes) (sym size)

pub cut_more : (a b n : ℕ) (bytes : List ℕ) → cut a b (n + 1) bytes ≡ cut a b n bytes ++ (take a (drop ((a + b) * n) bytes), take b (drop ((a + b) * n + a) bytes)) ∷ []
unfolding cut
cut_more a b zero bytes =
    let none : 0 ≡ (a + b) * 0 = omega arith in
    let shifted : a ≡ (a + b) * 0 + a = omega arith in
    ap (λ (k : ℕ). (take a (drop k bytes), take b (drop a bytes)) ∷ []) none ∙ ap (λ (k : ℕ). (take a (drop ((a + b) * 0) bytes), take b (drop k bytes)) ∷ []) shifted
cut_more a b (suc n) bytes =
    let size : (a + b) * suc n ≡ (a + b) + (a + b) * n = omega arith in
    let more : suc n + 1 ≡ suc (n + 1) = omega arith in
    let rest = drop (a + b) bytes in
    let one : drop ((a + b) * n) rest ≡ drop ((a + b) * suc n) bytes = drop-drop ((a + b) * n) (a + b) bytes ∙ ap (λ (k : ℕ). drop k bytes) (sym size) in
    let shifted : (a + b) + ((a + b) * n + a) ≡ (a + b) * suc n + a = omega arith in
    let two : drop ((a + b) * n + a) rest ≡ drop ((a + b) * suc n + a) bytes = drop-drop ((a + b) * n + a) (a + b) bytes ∙ ap (λ (k : ℕ). drop k bytes) shifted in
    let here : Entry = (take a bytes, take b (drop a bytes)) in
    ap (λ (k : ℕ). cut a b k bytes) more
    ∙ ap (λ (l : Record). here ∷ l) (cut_more a b n rest)
    ∙ ap (λ (l : List ℕ). here ∷ cut a b n rest ++ (take a l, take b (drop ((a + b) * n + a) rest)) ∷ []) one
    ∙ ap (λ (l : List ℕ). here ∷ cut a b n rest ++ (take a (drop ((a + b) * suc n) bytes), take b l) ∷ []) two
