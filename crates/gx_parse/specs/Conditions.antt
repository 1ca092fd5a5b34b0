-- Conditions, token by token.
use Rattle.std.specs.Prelude.{ℕ, Bool, true, false, nat_lt, if◌then◌else◌, List, length, codes, Option, Some, None}
use Rattle.gx_lexer.specs.declared.token.Token.{Token}
use Rattle.gx_value.specs.declared.operators.Operator.{Operator}
use Rattle.gx_parse.specs.declared.statement.Given.{Given}
use Rattle.gx_parse.specs.declared.given.GivenReader.{GivenReader}
use Rattle.gx_parse.specs.declared.outcome.Outcome.{Outcome}
use Rattle.gx_parse.specs.declared.outcome.Outcome.TheVariants.{Goes, Wrong, Deep}
use Rattle.gx_parse.specs.declared.condition.Part.{Part}
use Rattle.gx_parse.specs.declared.condition.Part.TheVariants.{Operand, Column, Sign, Literal, Is, IsNot, Joint}
use Rattle.gx_parse.specs.declared.condition.ConditionReader.{ConditionReader}
use Rattle.gx_parse.specs.Literals.{given_from, given_after, given_of}
use Rattle.gx_parse.specs.Nests.{Nest, nest_of, no_nest, opened, settled, closed, and_behind, or_behind, whole}
use Rattle.gx_parse.specs.Outcomes.{Limits}
use Rattle.gx_parse.specs.Trees.{Tree, Atom, IsNull}
use Rattle.gx_parse.specs.Words.{is_word, is_open, is_close, name_in, operator_in}

-- a condition as far as it is read
pub record Standing : Type 0 where
  pub nest : Nest
  pub part : Part

abbrev pub standing_of : ConditionReader → Standing
standing_of r = record { nest = nest_of r.nest; part = r.part }

abbrev pub begun : Standing
begun = record { nest = no_nest; part = Operand }

abbrev pub on : Nest → Part → Outcome Standing
on n p = Goes (record { nest = n; part = p })

-- an operand joined to what stands before it
abbrev pub and_operand : Nest → Tree → Nest
and_operand n t = settled n.frames n.group n.joins t

abbrev pub open_after : Limits → Nest → Bool → Outcome Standing
open_after lim n negated = if nat_lt (length n.frames) lim.open_most then on (opened n negated) Operand else Deep

abbrev pub named_after : Nest → Option (List ℕ) → Outcome Standing
named_after n None = Wrong
named_after n (Some column) = on n (Column column)

abbrev pub column_after : Nest → Token → Outcome Standing
column_after n t = named_after n (name_in t)

abbrev pub operand_after : Limits → Nest → Token → Outcome Standing
operand_after lim n t = if is_word (codes "not") t then open_after lim n true else (if is_open t then open_after lim n false else column_after n t)

abbrev pub signed_after : Nest → List ℕ → Option Operator → Outcome Standing
signed_after n column None = Wrong
signed_after n column (Some op) = on n (Sign column op)

abbrev pub behind_column : Nest → List ℕ → Token → Outcome Standing
behind_column n column t = if is_word (codes "is") t then on n (Is column) else signed_after n column (operator_in t)

abbrev pub given_on : Nest → List ℕ → Operator → Option GivenReader → Outcome Standing
given_on n column op None = Wrong
given_on n column op (Some given) = on n (Literal column op given)

abbrev pub behind_operator : Nest → List ℕ → Operator → Token → Outcome Standing
behind_operator n column op t = given_on n column op (given_from t)

abbrev pub and_after : Limits → Nest → Outcome Standing
and_after lim n = if nat_lt n.joins lim.joins_most then on (and_behind n) Operand else Deep

abbrev pub or_after : Limits → Nest → Outcome Standing
or_after lim n = if nat_lt n.joins lim.joins_most then on (or_behind n) Operand else Deep

abbrev pub closed_on : Option Nest → Outcome Standing
closed_on None = Wrong
closed_on (Some n) = on n Joint

abbrev pub close_after : Nest → Outcome Standing
close_after n = closed_on (closed n)

abbrev pub joint_after : Limits → Nest → Token → Outcome Standing
joint_after lim n t =
    if is_word (codes "and") t then and_after lim n
    else (if is_word (codes "or") t then or_after lim n else (if is_close t then close_after n else Wrong))

-- behind a literal that ends here, or can't
abbrev pub behind_literal : Limits → Nest → List ℕ → Operator → Token → Option Given → Outcome Standing
behind_literal lim n column op t None = Wrong
behind_literal lim n column op t (Some given) = joint_after lim (and_operand n (Atom column op given)) t

abbrev pub literal_on : Limits → Nest → List ℕ → Operator → GivenReader → Token → Option GivenReader → Outcome Standing
literal_on lim n column op given t (Some next) = on n (Literal column op next)
literal_on lim n column op given t None = behind_literal lim n column op t (given_of given)

abbrev pub literal_after : Limits → Nest → List ℕ → Operator → GivenReader → Token → Outcome Standing
literal_after lim n column op given t = literal_on lim n column op given t (given_after given t)

abbrev pub null_after : Nest → List ℕ → Bool → Token → Outcome Standing
null_after n column negated t = if is_word (codes "null") t then on (and_operand n (IsNull column negated)) Joint else Wrong

abbrev pub behind_is : Nest → List ℕ → Token → Outcome Standing
behind_is n column t = if is_word (codes "not") t then on n (IsNot column) else null_after n column false t

abbrev pub part_after : Limits → Nest → Token → Part → Outcome Standing
part_after lim n t Operand = operand_after lim n t
part_after lim n t (Column column) = behind_column n column t
part_after lim n t (Sign column op) = behind_operator n column op t
part_after lim n t (Literal column op given) = literal_after lim n column op given t
part_after lim n t (Is column) = behind_is n column t
part_after lim n t (IsNot column) = null_after n column true t
part_after lim n t Joint = joint_after lim n t

abbrev pub condition_after : Limits → Standing → Token → Outcome Standing
condition_after lim s t = part_after lim s.nest t s.part

abbrev pub ended_in : Nest → List ℕ → Operator → Option Given → Option Tree
ended_in n column op None = None
ended_in n column op (Some given) = whole (and_operand n (Atom column op given))

abbrev pub condition_at : Nest → Part → Option Tree
condition_at n Joint = whole n
condition_at n (Literal column op given) = ended_in n column op (given_of given)
condition_at n _ = None

-- the condition, where it may end here
abbrev pub condition_of : Standing → Option Tree
condition_of s = condition_at s.nest s.part
