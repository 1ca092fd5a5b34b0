-- Conditions within one another, as far as they are read.
use Rattle.std.specs.Prelude.{◌≡◌, ℕ, ◌+◌, Bool, false, if◌then◌else◌, List, [], ◌∷◌, map, reverse, Option, Some, None}
use Rattle.std.specs.Option.{option_map}
use Rattle.gx_parse.specs.declared.nest.Group as code_group
use Rattle.gx_parse.specs.declared.nest.Frame as code_frame
use Rattle.gx_parse.specs.declared.nest.Frames as code_frames
use Rattle.gx_parse.specs.declared.nest.Nest as code_nest
use Rattle.gx_parse.specs.Trees.{Tree, And, Or, Not, tree_of}

-- what stands before the last OR, and what is joined by AND behind it
pub record Group : Type 0 where
  pub sum : Option Tree
  pub product : Option Tree

-- what stands before an open NOT or parenthesis
pub record Frame : Type 0 where
  pub group : Group
  pub negated : Bool

-- what is open, the innermost first; what is joined behind it; and how many ANDs and ORs there are
pub record Nest : Type 0 where
  pub frames : List Frame
  pub group : Group
  pub joins : ℕ

abbrev pub group_of : code_group.Group → Group
group_of g = record { sum = option_map tree_of g.sum; product = option_map tree_of g.product }

abbrev pub frame_of : code_frame.Frame → Frame
frame_of f = record { group = group_of f.group; negated = f.negated }

abbrev pub frames_of : code_frames.Frames → List Frame
frames_of f = reverse (map frame_of f.frames.items)

abbrev pub nest_of : code_nest.Nest → Nest
nest_of n = record { frames = frames_of n.frames; group = group_of n.group; joins = n.joins }

abbrev pub no_group : Group
no_group = record { sum = None; product = None }

abbrev pub no_nest : Nest
no_nest = record { frames = []; group = no_group; joins = 0 }

abbrev pub is_negated : List Frame → Bool
is_negated [] = false
is_negated (f ∷ fs) = f.negated

-- the innermost one is split off
abbrev pub SplitOff : List Frame → Option Frame → List Frame → Type 0
SplitOff frames None others = (frames ≡ []) × (others ≡ [])
SplitOff frames (Some f) others = frames ≡ f ∷ others

abbrev pub joined : Option Tree → Tree → Tree
joined None t = t
joined (Some p) t = And p t

-- ANDs are grouped from the left
abbrev pub with_operand : Group → Tree → Group
with_operand g t = record { sum = g.sum; product = Some (joined g.product t) }

abbrev pub total_of : Option Tree → Option Tree → Option Tree
total_of sum None = None
total_of None (Some p) = Some p
total_of (Some s) (Some p) = Some (Or s p)

-- ORs are grouped from the left
abbrev pub total : Group → Option Tree
total g = total_of g.sum g.product

abbrev pub behind_or : Group → Group
behind_or g = record { sum = total g; product = None }

abbrev pub opened : Nest → Bool → Nest
opened n negated = record { frames = record { group = n.group; negated = negated } ∷ n.frames; group = no_group; joins = n.joins }

-- an operand ends each NOT right before it
abbrev pub settled : List Frame → Group → ℕ → Tree → Nest
settled [] g joins t = record { frames = []; group = with_operand g t; joins = joins }
settled (f ∷ fs) g joins t = if f.negated then settled fs f.group joins (Not t) else record { frames = f ∷ fs; group = with_operand g t; joins = joins }

-- an operand is joined in the same way behind these and behind those
abbrev pub SettleAlike : List Frame → Group → Tree → List Frame → Group → Tree → Type 0
SettleAlike frames g t frames_left g_left t_left = (joins : ℕ) → settled frames g joins t ≡ settled frames_left g_left joins t_left

-- and there no NOT is open before it
abbrev pub Settles : List Frame → Group → Tree → List Frame → Group → Tree → Type 0
Settles frames g t frames_left g_left t_left = SettleAlike frames g t frames_left g_left t_left × (is_negated frames_left ≡ false)

abbrev pub settle_closed : List Frame → ℕ → Option Tree → Option Nest
settle_closed [] joins t = None
settle_closed (f ∷ fs) joins None = None
settle_closed (f ∷ fs) joins (Some t) = Some (settled fs f.group joins t)

abbrev pub closed : Nest → Option Nest
closed n = settle_closed n.frames n.joins (total n.group)

abbrev pub and_behind : Nest → Nest
and_behind n = record n { joins = n.joins + 1 }

abbrev pub or_behind : Nest → Nest
or_behind n = record { frames = n.frames; group = behind_or n.group; joins = n.joins + 1 }

abbrev pub whole_in : List Frame → Option Tree → Option Tree
whole_in [] t = t
whole_in (f ∷ fs) t = None

-- the whole condition, where nothing is open
abbrev pub whole : Nest → Option Tree
whole n = whole_in n.frames (total n.group)
