-- How a free page is written, part by part.
use Rattle.std.proofs.Common.{◌≡◌, ℕ, ◌+◌, ◌<◌, ◌^◌, List, [], ◌∷◌, ◌++◌, length, take, drop, replicate, set, refl, sym, ◌∙◌, ap, arith, length-append, append_assoc}
use lib.Pointwise.{pointwise}
use Rattle.std.proofs.Common.{Bool, true, ◌&&◌, nat_eq, eq-eqb}
use Rattle.std.proofs.lemmas.List.{take_at, drop_at, replicate-append-replicate}
use Rattle.gx_bytes.specs.Fields.{le16, le64, paste, length-le16, length-le64, le64-same}
use Rattle.gx_pages.specs.Frees.{free_page_of}

-- one part of three is written over
pub paste_part : (a old b new : List ℕ) (at : ℕ) → length a ≡ at → length old ≡ length new → paste (a ++ old ++ b) at new ≡ a ++ new ++ b
paste_part a old b new at place size =
    let whole : a ++ old ++ b ≡ a ++ (old ++ b) = append_assoc a old b in
    ap (λ (l : List ℕ). take at l ++ new ++ drop (at + length new) (a ++ old ++ b)) whole
    ∙ ap (λ (l : List ℕ). l ++ new ++ drop (at + length new) (a ++ old ++ b)) (take_at a (old ++ b) at place)
    ∙ ap (λ (l : List ℕ). a ++ new ++ l) (drop_at (a ++ old) b (at + length new) (omega (arith, length-append a old, place, size)))

-- the parts of a page of zeros
abbrev zeros2 : List ℕ
zeros2 = 0 ∷ 0 ∷ []

abbrev zeros8 : List ℕ
zeros8 = 0 ∷ 0 ∷ 0 ∷ 0 ∷ 0 ∷ 0 ∷ 0 ∷ 0 ∷ []

module _ (rest : List ℕ) where
  abbrev parts : ℕ → List ℕ
  parts kind = kind ∷ 0 ∷ zeros2 ++ zeros2 ++ (zeros2 ++ zeros8 ++ rest)

  made : (next : ℕ) (first second third : List ℕ) → first ≡ parts 7 → second ≡ paste first 4 (le16 8192) → third ≡ paste second 8 (le64 next)
      → third ≡ 7 ∷ 0 ∷ zeros2 ++ le16 8192 ++ zeros2 ++ le64 next ++ rest
  made next first second third one two three =
      let then_two : second ≡ 7 ∷ 0 ∷ zeros2 ++ le16 8192 ++ (zeros2 ++ zeros8 ++ rest) =
      two ∙ ap (λ (l : List ℕ). paste l 4 (le16 8192)) one ∙ paste_part (7 ∷ 0 ∷ zeros2) zeros2 (zeros2 ++ zeros8 ++ rest) (le16 8192) 4 refl (sym (length-le16 8192)) in
      let head = 7 ∷ 0 ∷ zeros2 ++ le16 8192 in
      let grouped : head ++ (zeros2 ++ zeros8 ++ rest) ≡ head ++ zeros2 ++ zeros8 ++ rest =
      ap (λ (l : List ℕ). head ++ l) (append_assoc zeros2 zeros8 rest) ∙ sym (append_assoc head zeros2 (zeros8 ++ rest)) ∙ sym (append_assoc (head ++ zeros2) zeros8 rest) in
      let size : length (head ++ zeros2) ≡ 8 = omega (arith, length-append head zeros2, length-append (7 ∷ 0 ∷ zeros2) (le16 8192), length-le16 8192) in
      three ∙ ap (λ (l : List ℕ). paste l 8 (le64 next)) (then_two ∙ grouped) ∙ paste_part (head ++ zeros2) zeros8 rest (le64 next) 8 size (sym (length-le64 next))

zeros_split : replicate {A = ℕ} 8192 0 ≡ parts (replicate {A = ℕ} 8176 0) 0
zeros_split = sym (replicate-append-replicate {A = ℕ} 16 8176 0)

pub free_made : (zeros first second third : List ℕ) (next : ℕ) → zeros ≡ replicate {A = ℕ} 8192 0 → first ≡ set zeros 0 7 → second ≡ paste first 4 (le16 8192) → third ≡ paste second 8 (le64 next)
    → third ≡ free_page_of next
unfolding free_page_of le16
free_made zeros first second third next all one two three =
    made (replicate {A = ℕ} 8176 0) next first second third (one ∙ ap (λ (l : List ℕ). set l 0 7) (all ∙ zeros_split)) two three

-- one free page has one next page
pub next_same : (m n : ℕ) (page : List ℕ) → m < 2 ^ 64 → n < 2 ^ 64 → take 8 (drop 8 page) ≡ le64 m → page ≡ free_page_of n → m ≡ n
unfolding free_page_of le16
next_same m n page small fits field is =
    let there : take 8 (drop 8 page) ≡ le64 n =
    ap (λ (l : List ℕ). take 8 (drop 8 l)) is ∙ take_at (le64 n) (replicate {A = ℕ} 8176 0) 8 (length-le64 n) in
    le64-same m n small fits (sym field ∙ there)

-- the field of the next free page
pub next_field : (n : ℕ) → take 8 (drop 8 (free_page_of n)) ≡ le64 n
unfolding free_page_of le16
next_field n = take_at (le64 n) (replicate {A = ℕ} 8176 0) 8 (length-le64 n)

pub same_bytes : (l m : List ℕ) → l ≡ m → pointwise nat_eq l m ≡ true
same_bytes l m is = ap (λ (k : List ℕ). pointwise nat_eq l k) (sym is) ∙ every l
  where
    every : (l : List ℕ) → pointwise nat_eq l l ≡ true
    every [] = refl
    every (x ∷ l) = ap (λ (b : Bool). b && pointwise nat_eq l l) (eq-eqb x x refl) ∙ every l
