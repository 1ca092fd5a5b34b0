-- An image has one map, and the fields of a header are its numbers.
use Rattle.std.proofs.Common.{◌≡◌, ℕ, ◌^◌, ◌<◌, List, take, drop, sym, ◌∙◌, ap}
use Rattle.gx_bytes.specs.Fields.{le32, le64, of32, of64, of32-le32, of64-le64}
use Rattle.gx_words.specs.Image.{Image}
use Rattle.gx_words.specs.PageMap.{PageMap}
use Rattle.gx_log.specs.Records.{Record, HasMap, counted_pages, laid_all, piece}
use Rattle.gx_log.proofs.Bodies.{stands_same}
use Rattle.gx_pager.specs.Headers.{wrong_number, wrong_field}

pub same_map : (c : Image) (a b : PageMap) → HasMap c a → HasMap c b → a ≡ b
same_map c a b x y = (λ i n. x.are n i) ∙ ap (λ (all : PageMap). counted_pages all) whole ∙ sym (λ i n. y.are n i)
  where
    each : (n : ℕ) → x.all n ≡ y.all n
    each n = x.pages.are n ∙ ap (λ (r : List Record). laid_all (piece c.pages n) n r) (stands_same x.pages.records y.pages.records c.log x.pages.counted y.pages.counted) ∙ sym (y.pages.are n)

    whole : x.all ≡ y.all
    whole = λ i n. each n i

pub wrong_is : (header : List ℕ) (magic format count : ℕ) → magic < 2 ^ 32 → format < 2 ^ 32 → count < 2 ^ 64 → take 4 (drop 0 header) ≡ le32 magic → take 4 (drop 4 header) ≡ le32 format
    → take 8 (drop 8 header) ≡ le64 count → wrong_field header ≡ wrong_number magic format count
wrong_is header magic format count small fits most first second third =
    ap (λ (n : ℕ). wrong_number n (of32 (take 4 (drop 4 header))) (of64 (take 8 (drop 8 header)))) (ap of32 first ∙ of32-le32 magic small)
    ∙ ap (λ (n : ℕ). wrong_number magic n (of64 (take 8 (drop 8 header)))) (ap of32 second ∙ of32-le32 format fits)
    ∙ ap (λ (n : ℕ). wrong_number magic format n) (ap of64 third ∙ of64-le64 count most)
