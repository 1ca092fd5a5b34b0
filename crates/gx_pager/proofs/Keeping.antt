-- What a checkpoint leaves of a map with a gap: each page that was there.
use Rattle.std.proofs.Common.{◌≡◌, inl, inr, ℕ, ◌<◌, ◌≤◌, ◌==◌, nat_lt, Bool, true, false, cond, List, Option, Some, None, is_some, refl, ◌∙◌, ap}
use Rattle.std.proofs.lemmas.Bool.{cases_lt, ltb-true}
use Rattle.gx_words.specs.Image.{Image}
use Rattle.gx_words.specs.PageMap.{PageMap}
use Rattle.gx_log.specs.Records.{piece}
use Rattle.gx_pager.specs.Layers.{over, pieces, map_over, committed_in}
use Rattle.gx_pager.specs.Maps.{cut}
use Rattle.gx_pager.proofs.Closing.{due_none, due_some}

below_count : (t : Bool) (a b : Option (List ℕ)) (bytes : List ℕ) → (t ≡ true → a ≡ Some bytes → b ≡ Some bytes) → cond t a None ≡ Some bytes → cond t b None ≡ Some bytes
below_count true a b bytes keeps there = keeps refl there
below_count false a b bytes keeps there = there

in_layers : (unit : Option (List ℕ)) (zero : Bool) (header : List ℕ) (above later below new : Option (List ℕ)) (bytes : List ℕ)
    → (unit ≡ None → over above below ≡ Some bytes → over later new ≡ Some bytes)
    → over (over unit (cond zero (Some header) above)) below ≡ Some bytes → over (over unit (cond zero (Some header) later)) new ≡ Some bytes
in_layers (Some page) zero header above later below new bytes keeps there = there
in_layers None true header above later below new bytes keeps there = there
in_layers None false header above later below new bytes keeps there = keeps refl there

in_overlay : (above below new : Option (List ℕ)) (bytes : List ℕ) → (above ≡ None → below ≡ Some bytes → new ≡ Some bytes) → over above below ≡ Some bytes → over above new ≡ Some bytes
in_overlay None below new bytes keeps there = keeps refl there
in_overlay (Some page) below new bytes keeps there = there

taken : (o : Option (List ℕ)) → is_some o ≡ true → o ≡ None → ⊥
taken None some none = cc
taken (Some page) some none = cc

-- A unit over pages below a committed count; where it has each page between that count and its own.
module _ (unit overlay : PageMap) (header : List ℕ) (committed count : ℕ) (old new : Image) (fresh : (n : ℕ) → committed ≤ n → n < count → is_some (unit n) ≡ true)
    (stays : (n : ℕ) (bytes : List ℕ) → cut committed overlay n ≡ None → piece old.pages n ≡ Some bytes → piece new.pages n ≡ Some bytes)
  where
    abbrev Shown : PageMap → Image → PageMap
    Shown above image = cut count (map_over (map_over unit (committed_in header above)) (pieces image))

    -- after a checkpoint that failed
    pub left_keeps : (n : ℕ) (bytes : List ℕ) → Shown overlay old n ≡ Some bytes → Shown overlay new n ≡ Some bytes
    left_keeps n bytes there =
        below_count (nat_lt n count) (map_over (map_over unit (committed_in header overlay)) (pieces old) n) (map_over (map_over unit (committed_in header overlay)) (pieces new) n) bytes
        (λ small. in_layers (unit n) (n == 0) header (overlay n) (overlay n) (piece old.pages n) (piece new.pages n) bytes
        (λ none. in_overlay (overlay n) (piece old.pages n) (piece new.pages n) bytes (λ lacks. stays n bytes (due_none committed overlay n lacks)))) there

    -- and after one that was made
    pub made_keeps : (later : PageMap) → ((n : ℕ) (bytes : List ℕ) → cut committed overlay n ≡ Some bytes → piece new.pages n ≡ Some bytes) → ((n : ℕ) → later n ≡ None)
        → (n : ℕ) (bytes : List ℕ) → Shown overlay old n ≡ Some bytes → Shown later new n ≡ Some bytes
    made_keeps later written none n bytes there =
        below_count (nat_lt n count) (map_over (map_over unit (committed_in header overlay)) (pieces old) n) (map_over (map_over unit (committed_in header later)) (pieces new) n) bytes
        (λ small. in_layers (unit n) (n == 0) header (overlay n) (later n) (piece old.pages n) (piece new.pages n) bytes (λ lacks shows.
        ap (λ (o : Option (List ℕ)). over o (piece new.pages n)) (none n) ∙ placed (overlay n) refl lacks (ltb-true n count small) shows)) there
      where
        placed : (o : Option (List ℕ)) → overlay n ≡ o → unit n ≡ None → n < count → over o (piece old.pages n) ≡ Some bytes → piece new.pages n ≡ Some bytes
        placed None is lacks low shows = stays n bytes (due_none committed overlay n is) shows
        placed (Some page) is lacks low shows = elim (cases_lt n committed) [
          | inl small ↦ written n bytes (due_some committed overlay n bytes small (is ∙ shows))
          | inr large ↦ absurd (taken (unit n) (fresh n large low) lacks)
        ]
