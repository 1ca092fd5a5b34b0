-- What single tokens can be.
use Rattle.std.specs.Prelude.{ℕ, Bool, true, false, ◌||◌, if◌then◌else◌, List, codes, Option, Some, None}
use Rattle.std.specs.Str.{bytes_eq}
use Rattle.std.specs.Option.{option_or}
use Rattle.gx_lexer.specs.declared.token.Token.{Token}
use Rattle.gx_lexer.specs.declared.token.Token.TheVariants.{Word, Number, Text, Operator, Open, Close, Comma}
use Rattle.gx_value.specs.declared.operators.Operator as operators
use Rattle.gx_value.specs.declared.operators.Operator.TheVariants as op

-- words that can't be names: those that begin a part of a statement
abbrev pub is_clause : List ℕ → Bool
is_clause w =
    bytes_eq w (codes "analyze") || bytes_eq w (codes "constraint") || bytes_eq w (codes "create") || bytes_eq w (codes "from")
    || bytes_eq w (codes "into") || bytes_eq w (codes "limit") || bytes_eq w (codes "on") || bytes_eq w (codes "order")
    || bytes_eq w (codes "select") || bytes_eq w (codes "table") || bytes_eq w (codes "using") || bytes_eq w (codes "where")
    || bytes_eq w (codes "with")

-- and those of conditions and literals
abbrev pub is_other_reserved : List ℕ → Bool
is_other_reserved w =
    bytes_eq w (codes "and") || bytes_eq w (codes "array") || bytes_eq w (codes "is") || bytes_eq w (codes "not")
    || bytes_eq w (codes "null") || bytes_eq w (codes "or")

abbrev pub is_reserved : List ℕ → Bool
is_reserved w = is_clause w || is_other_reserved w

abbrev pub is_word : List ℕ → Token → Bool
is_word w (Word x) = bytes_eq x w
is_word w _ = false

abbrev pub is_open : Token → Bool
is_open Open = true
is_open _ = false

abbrev pub is_close : Token → Bool
is_close Close = true
is_close _ = false

abbrev pub is_comma : Token → Bool
is_comma Comma = true
is_comma _ = false

-- `=`
abbrev pub is_equal : Token → Bool
is_equal (Operator t) = bytes_eq t (codes "=")
is_equal _ = false

abbrev pub word_in : Token → Option (List ℕ)
word_in (Word w) = Some w
word_in _ = None

-- a word that can be a name
abbrev pub name_in : Token → Option (List ℕ)
name_in (Word w) = if is_reserved w then None else Some w
name_in _ = None

abbrev pub number_in : Token → Option (List ℕ)
number_in (Number n) = Some n
number_in _ = None

-- a text or a number
abbrev pub element_in : Token → Option (List ℕ)
element_in (Text t) = Some t
element_in (Number n) = Some n
element_in _ = None

abbrev pub comparison_of : List ℕ → Option operators.Operator
comparison_of t =
    if bytes_eq t (codes "=") then Some op.Equal
    else (if bytes_eq t (codes "<>") then Some op.NotEqual
    else (if bytes_eq t (codes "<") then Some op.Less
    else (if bytes_eq t (codes "<=") then Some op.LessEqual
    else (if bytes_eq t (codes ">") then Some op.Greater
    else (if bytes_eq t (codes ">=") then Some op.GreaterEqual
    else None)))))

abbrev pub relation_of : List ℕ → Option operators.Operator
relation_of t =
    if bytes_eq t (codes "&&") then Some op.Overlaps
    else (if bytes_eq t (codes "@>") then Some op.Contains
    else (if bytes_eq t (codes "<@") then Some op.Within
    else (if bytes_eq t (codes "<<") then Some op.Left
    else (if bytes_eq t (codes ">>") then Some op.Right
    else (if bytes_eq t (codes "&<") then Some op.NotRight
    else (if bytes_eq t (codes "&>") then Some op.NotLeft
    else (if bytes_eq t (codes "-|-") then Some op.Adjacent
    else None)))))))

abbrev pub match_of : List ℕ → Option operators.Operator
match_of t =
    if bytes_eq t (codes "<<=") then Some op.LeftEqual
    else (if bytes_eq t (codes ">>=") then Some op.RightEqual
    else (if bytes_eq t (codes "~") then Some op.Matches
    else (if bytes_eq t (codes "?") then Some op.Has
    else (if bytes_eq t (codes "@") then Some op.Words
    else (if bytes_eq t (codes "?&") then Some op.HasAll
    else (if bytes_eq t (codes "?|") then Some op.HasAny
    else (if bytes_eq t (codes "@@") then Some op.Formula
    else None)))))))

-- the operator of a condition that a text is; `<->` is none
unfoldable pub operator_of : List ℕ → Option operators.Operator
operator_of t = option_or (comparison_of t) (option_or (relation_of t) (match_of t))

abbrev pub operator_in : Token → Option operators.Operator
operator_in (Operator t) = operator_of t
operator_in _ = None
