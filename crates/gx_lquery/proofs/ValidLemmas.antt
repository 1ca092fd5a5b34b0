-- A query that a text spells is valid.
use Rattle.std.proofs.Common.{◌≡◌, ◌<◌, ℕ, Bool, true, false, List, [], ◌∷◌, length, Option, None, Some, refl, sym, ◌∙◌, ap, subst, arith}
use Rattle.std.specs.List.{AllZip, AllByRecursion}
use Rattle.std.specs.Prelude.{if◌then◌else◌, ◌==◌}
use Rattle.gx_lquery.specs.declared.variant.Variant.{Variant}
use Rattle.gx_lquery.specs.declared.query.LqueryItem.{LqueryItem}
use Rattle.gx_lquery.specs.declared.query.Lquery.{Lquery}
use Rattle.gx_lquery.specs.Query.{IsItem, IsLquery}
use Rattle.gx_lquery.specs.Text.{before_pieces, split, cut, without_bang, SpellsVariant, SpellsBody, SpellsWith, SpellsParts, SpellsItem, SpellsLquery}

some_before : (c : ℕ) (pieces : List (List ℕ)) → 0 < length (before_pieces c pieces)
some_before c [] = omega arith
some_before c (p ∷ pieces) = omega arith

some_pieces : (separator : ℕ) (text : List ℕ) → 0 < length (split separator text)
some_pieces separator [] = omega arith
some_pieces separator (c ∷ text) =
    elim (c == separator) as (λ b. 0 < length (if b then [] ∷ split separator text else before_pieces c (split separator text))) [
      | true ↦ omega arith
      | false ↦ some_before c (split separator text)
    ]

as_many : (pieces : List (List ℕ)) (variants : List Variant) → AllZip SpellsVariant pieces variants → 0 < length pieces → 0 < length variants
as_many [] variants z some = absurd (omega (arith, some))
as_many (p ∷ pieces) [] z some = absurd z
as_many (p ∷ pieces) (v ∷ variants) z some = omega arith

body_star : (star negated : Bool) (body : List ℕ) (variants : List Variant) → SpellsBody star body negated variants → star ≡ true → (negated ≡ false) × (variants ≡ [])
body_star star negated body variants s is = let P : Bool → Type 0 = λ b. SpellsBody b body negated variants in subst P is s

body_words : (star negated : Bool) (body : List ℕ) (variants : List Variant) → SpellsBody star body negated variants → star ≡ false → 0 < length variants
body_words star negated body variants s is =
    let P : Bool → Type 0 = λ b. SpellsBody b body negated variants in
    as_many (split 124 (without_bang body)) variants (subst P is s).1 (some_pieces 124 (without_bang body))

with_valid : (body : List ℕ) (count : Option (List ℕ)) (item : LqueryItem) → SpellsWith body count item → IsItem item
with_valid body count item s = record {
  star = body_star item.star item.negated body item.variants s.words;
  words = body_words item.star item.negated body item.variants s.words;
}

parts_valid : (parts : Option (List ℕ × List ℕ)) (text : List ℕ) (item : LqueryItem) → SpellsParts parts text item → IsItem item
parts_valid None text item s = with_valid text None item s
parts_valid (Some p) text item s = with_valid p.0 (Some p.1) item s

pub items_valid : (texts : List (List ℕ)) (items : List LqueryItem) → AllZip SpellsItem texts items → AllByRecursion IsItem items
items_valid [] [] z = tt
items_valid [] (i ∷ items) z = absurd z
items_valid (t ∷ texts) [] z = absurd z
items_valid (t ∷ texts) (i ∷ items) z = (parts_valid (cut 123 t) t i z.0, items_valid texts items z.1)

pub spelled_valid : (text : List ℕ) (query : Lquery) → SpellsLquery text query → IsLquery query
spelled_valid text query s = items_valid (split 46 text) query.items s
