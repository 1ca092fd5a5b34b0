-- What statements answer of a table.
use Rattle.std.specs.Prelude.{◌≡◌, ◌⊎◌, ℕ, List, ◌++◌, length, codes, Option, None, Some}
use Rattle.std.specs.Fmt.{decimal}
use Rattle.gx_parse.specs.Said.{Query}
use Rattle.gx_parse.specs.Trees.{Tree}
use Rattle.gx_value.specs.declared.fields.Column.{Column}
use Rattle.gx_model.specs.Checks.{Check, Find}
use Rattle.gx_model.specs.Conditions.{BindsWhere, where_checks}
use Rattle.gx_model.specs.Database.{Table}
use Rattle.gx_model.specs.Faults.{asked_checks}
use Rattle.gx_model.specs.Replies.{Reply, accepted, line, refusal}
use Rattle.gx_model.specs.Steps.{explanation, selected, selection}
use Rattle.gx_model.specs.Truth.{Bound}

-- the first fault that the checks find is answered
abbrev pub Refused : List Check → Reply → Type 0
Refused checks reply = (n : ℕ) × Find checks (Some n) × (reply ≡ refusal n)

-- the checks of a query of a table with these columns
abbrev pub checks_of : List Column → Query → List Check
checks_of columns q = asked_checks columns q.columns ++ where_checks columns q.condition

-- The checks find no fault, and the condition is bound.
abbrev pub Passes : List Check → List Column → Option Tree → Type 0
Passes checks columns tree = Find checks None × ((condition : Option Bound) × BindsWhere columns tree condition)

-- the replies of statements that are accepted
unfoldable pub select_reply : Query → Table → Option Bound → Reply
select_reply q t condition = accepted (selection t q.columns (selected condition t))

unfoldable pub explained_reply : List ℕ → ℕ → ℕ → Reply
explained_reply by candidates rows = accepted (explanation by candidates rows)

-- the rows of the whole table are looked at
abbrev pub explain_reply : Table → Option Bound → Reply
explain_reply t condition = explained_reply (codes "*") (length t.rows) (length (selected condition t))

unfoldable pub delete_reply : Table → Option Bound → Reply
delete_reply t condition = accepted (line (codes "DELETE " ++ decimal (length (selected condition t))))

-- The query of this table is refused, or accepted with the reply that its condition gives.
abbrev pub Answers : (Option Bound → Reply) → Query → Table → Reply → Type 0
Answers reply_for q t reply =
    Refused (checks_of t.columns q) reply
    ⊎ (Find (checks_of t.columns q) None × ((condition : Option Bound) × BindsWhere t.columns q.condition condition × (reply ≡ reply_for condition)))
