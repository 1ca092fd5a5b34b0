-- Which trees are documents: RFC 8259 as PostgreSQL 16, 8.14 has it, with whole numbers of 64 bits.
use Rattle.std.specs.Prelude.{◌≡◌, ◌==◌, ℕ, ◌^◌, ◌<◌, ◌≤◌, Bool, true, false, ◌&&◌, ◌||◌, List, is_some, pos, negsuc, IsUtf8}
use Rattle.std.specs.List.{list_any}
use Rattle.std.specs.Ordering.{nat_cmp}
use Rattle.std.specs.Cmp.Lexicographic.{slice_cmp}
use Rattle.std.specs.declared.cmp.Ordering.TheVariants.{Less}
use Rattle.serde_json.specs.Data.{Num, unsigned, negative, float, Data, null, boolean, number, string, array, object, Items, no_items, item, Members, no_members, member, depth}
use Rattle.serde_json.specs.Find.{as_i64}

abbrev mutual
  -- each number is held as one of 64 bits with a sign
  pub all_whole : Data → Bool
  all_whole null = true
  all_whole (boolean b) = true
  all_whole (number n) = is_some (as_i64 n)
  all_whole (string s) = true
  all_whole (array ds) = items_whole ds
  all_whole (object ms) = members_whole ms

  pub items_whole : Items → Bool
  items_whole no_items = true
  items_whole (item d ds) = all_whole d && items_whole ds

  pub members_whole : Members → Bool
  members_whole no_members = true
  members_whole (member k d ms) = all_whole d && members_whole ms

abbrev pub holds_zero : List ℕ → Bool
holds_zero text = list_any (λ byte. byte == 0) text

abbrev mutual
  -- a text or a key holds the character U+0000
  pub has_zero : Data → Bool
  has_zero null = false
  has_zero (boolean b) = false
  has_zero (number n) = false
  has_zero (string s) = holds_zero s
  has_zero (array ds) = items_zero ds
  has_zero (object ms) = members_zero ms

  pub items_zero : Items → Bool
  items_zero no_items = false
  items_zero (item d ds) = has_zero d || items_zero ds

  pub members_zero : Members → Bool
  members_zero no_members = false
  members_zero (member k d ms) = (holds_zero k || has_zero d) || members_zero ms

-- a whole number from -2 ^ 63 to 2 ^ 63 - 1
abbrev pub IsWholeNumber : Num → Type 0
IsWholeNumber (unsigned n) = n < 2 ^ 63
IsWholeNumber (negative (pos n)) = ⊥
IsWholeNumber (negative (negsuc n)) = n < 2 ^ 63
IsWholeNumber (float x) = ⊥

abbrev pub IsBelow : List ℕ → List ℕ → Type 0
IsBelow k l = slice_cmp nat_cmp k l ≡ Less

-- the key is below all keys of the members
abbrev pub IsBelowAll : List ℕ → Members → Type 0
IsBelowAll k no_members = Unit {0}
IsBelowAll k (member l d ms) = IsBelow k l × IsBelowAll k ms

-- keys rise by their bytes
abbrev pub IsRising : Members → Type 0
IsRising no_members = Unit {0}
IsRising (member k d ms) = IsBelowAll k ms × IsRising ms

abbrev mutual
  -- whole numbers, texts and keys in UTF-8, and rising keys in each object
  pub IsStored : Data → Type 0
  IsStored null = Unit {0}
  IsStored (boolean b) = Unit {0}
  IsStored (number n) = IsWholeNumber n
  IsStored (string s) = IsUtf8 s
  IsStored (array ds) = AreStored ds
  IsStored (object ms) = IsRising ms × MembersStored ms

  pub AreStored : Items → Type 0
  AreStored no_items = Unit {0}
  AreStored (item d ds) = IsStored d × AreStored ds

  pub MembersStored : Members → Type 0
  MembersStored no_members = Unit {0}
  MembersStored (member k d ms) = (IsUtf8 k × IsStored d) × MembersStored ms

-- a valid tree: at most 64 arrays and objects stand in one another, and no text has U+0000
pub record IsDocument (d : Data) : Type 0 where
  pub stored : IsStored d
  pub shallow : depth d ≤ 64
  pub plain : has_zero d ≡ false
