-- How the pages of an empty database are written, field by field.
use Rattle.std.proofs.Common.{◌≡◌, ℕ, List, [], ◌∷◌, ◌++◌, replicate, set, refl, sym, ◌∙◌, ap}
use Rattle.std.proofs.lemmas.List.{replicate-append-replicate}
use Rattle.gx_bytes.specs.Fields.{le16, le32, le64, paste}
use Rattle.gx_pages.specs.Databases.{header_of, catalog_page}
use Rattle.gx_pages.specs.Frees.{HasCount}

abbrev zeros8 : List ℕ
zeros8 = 0 ∷ 0 ∷ 0 ∷ 0 ∷ 0 ∷ 0 ∷ 0 ∷ 0 ∷ []

header_zeros : replicate {A = ℕ} 8192 0 ≡ zeros8 ++ zeros8 ++ zeros8 ++ zeros8 ++ replicate {A = ℕ} 8160 0
header_zeros = sym (replicate-append-replicate {A = ℕ} 32 8160 0)

written : (count : ℕ) (rest : List ℕ)
    → paste (paste (paste (paste (zeros8 ++ zeros8 ++ zeros8 ++ zeros8 ++ rest) 0 (le32 1481197392)) 4 (le32 2)) 8 (le64 count)) 24 (le64 1)
    ≡ le32 1481197392 ++ le32 2 ++ le64 count ++ le64 0 ++ le64 1 ++ rest
unfolding le32 le64
written count rest = refl

pub header_made : (zeros first second third fourth : List ℕ) (count : ℕ) → zeros ≡ replicate {A = ℕ} 8192 0 → first ≡ paste zeros 0 (le32 1481197392) → second ≡ paste first 4 (le32 2)
    → third ≡ paste second 8 (le64 count) → fourth ≡ paste third 24 (le64 1) → fourth ≡ header_of count
unfolding header_of
header_made zeros first second third fourth count all one two three four =
    four ∙ ap (λ (l : List ℕ). paste l 24 (le64 1)) (three ∙ ap (λ (l : List ℕ). paste l 8 (le64 count)) (two ∙ ap (λ (l : List ℕ). paste l 4 (le32 2)) (one
    ∙ ap (λ (l : List ℕ). paste l 0 (le32 1481197392)) (all ∙ header_zeros))))
    ∙ written count (replicate {A = ℕ} 8160 0)

pub header_counted : (count : ℕ) → HasCount (header_of count) count
unfolding header_of le32 le64
header_counted count = refl

catalog_zeros : replicate {A = ℕ} 8192 0 ≡ zeros8 ++ zeros8 ++ replicate {A = ℕ} 8176 0
catalog_zeros = sym (replicate-append-replicate {A = ℕ} 16 8176 0)

catalog_written : (rest : List ℕ) → paste (set (zeros8 ++ zeros8 ++ rest) 0 3) 4 (le16 8192) ≡ 3 ∷ 0 ∷ le16 0 ++ le16 8192 ++ le16 0 ++ le64 0 ++ rest
unfolding le16 le64
catalog_written rest = refl

pub catalog_made : (zeros first second : List ℕ) → zeros ≡ replicate {A = ℕ} 8192 0 → first ≡ set zeros 0 3 → second ≡ paste first 4 (le16 8192) → second ≡ catalog_page
unfolding catalog_page
catalog_made zeros first second all one two =
    two ∙ ap (λ (l : List ℕ). paste l 4 (le16 8192)) (one ∙ ap (λ (l : List ℕ). set l 0 3) (all ∙ catalog_zeros)) ∙ catalog_written (replicate {A = ℕ} 8176 0)
