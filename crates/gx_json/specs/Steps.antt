-- What the parts of the program say of members.
use Rattle.std.specs.Prelude.{◌≡◌, ℕ, List}
use Rattle.serde_json.specs.Data.{Data, Members, no_members, member}
use Rattle.gx_json.specs.Valid.{IsBelow, IsStored, IsRising, MembersStored}

-- the members of an object that is stored
pub record AreMembers (ms : Members) : Type 0 where
  pub rising : IsRising ms
  pub stored : MembersStored ms

-- these members, and those behind them
abbrev pub joined : Members → Members → Members
joined no_members ms = ms
joined (member k d es) ms = member k d (joined es ms)

-- each key of the members is below this one
abbrev pub AreBelow : Members → List ℕ → Type 0
AreBelow no_members key = Unit {0}
AreBelow (member k d ms) key = IsBelow k key × AreBelow ms key

-- the key's value, and what stands behind it
pub record Found (key : List ℕ) (ms : Members) (d : Data) (rest : Members) : Type 0 where
  pub before : Members
  pub parts : ms ≡ joined before (member key d rest)
  pub below : AreBelow before key
  pub stored : IsStored d
  pub are : AreMembers rest
