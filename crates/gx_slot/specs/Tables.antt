-- The table of a slot page and the items that it names, slot by slot.
use Rattle.std.specs.Prelude.{◌≡◌, ℕ, ◌+◌, ◌-◌, ◌*◌, List, [], ◌∷◌, length, take, drop}
use Rattle.gx_slot.specs.Slots.{packed, entries, slot_of, slots_of}

-- The slot's entry stands as it has to behind items that begin at `end`; its own item lies from `start` to there.
pub record IsEntry (page : List ℕ) (at end start : ℕ) : Type 0 where
  pub entry : take 4 (drop at page) ≡ entries end (slot_of page at ∷ [])
  pub size : start + length (packed (slot_of page at ∷ [])) ≡ end
  pub item : take (end - start) (drop start page) ≡ packed (slot_of page at ∷ [])

-- The entries of the first slots stand as they have to; their items lie from `start` to the page's end.
pub record IsTable (page : List ℕ) (count start : ℕ) : Type 0 where
  pub table : take (4 * count) (drop 16 page) ≡ entries 8192 (slots_of page count 16)
  pub size : start + length (packed (slots_of page count 16)) ≡ 8192
  pub items : drop start page ≡ packed (slots_of page count 16)
