-- Types and literals, token by token.
use Rattle.std.specs.Prelude.{ℕ, true, false, if◌then◌else◌, List, [], ◌∷◌, ◌++◌, codes, Option, Some, None}
use Rattle.std.specs.Str.{bytes_eq}
use Rattle.std.specs.Option.{option_map}
use Rattle.gx_lexer.specs.declared.token.Token.{Token}
use Rattle.gx_lexer.specs.declared.token.Token.TheVariants as token
use Rattle.gx_value.specs.declared.literal.Form.{Form}
use Rattle.gx_value.specs.declared.literal.Form.TheVariants as form
use Rattle.gx_value.specs.declared.literal.Literal.{Literal}
use Rattle.gx_parse.specs.declared.statement.TypeWord.{TypeWord}
use Rattle.gx_parse.specs.declared.statement.Given.{Given}
use Rattle.gx_parse.specs.declared.given.TypeReader.{TypeReader}
use Rattle.gx_parse.specs.declared.given.TypeReader.TheVariants as kind
use Rattle.gx_parse.specs.declared.given.GivenReader.{GivenReader}
use Rattle.gx_parse.specs.declared.given.GivenReader.TheVariants.{Array, First, Next, Element, Whole, Cast, Typed}
use Rattle.gx_parse.specs.Words.{word_in, element_in}

-- A type: a word, and `[` and `]` or not.

abbrev pub type_after : TypeReader → Token → Option TypeReader
type_after (kind.Word w) token.OpenBracket = Some (kind.Bracket w)
type_after (kind.Bracket w) token.CloseBracket = Some (kind.List w)
type_after _ _ = None

abbrev pub type_of : TypeReader → Option TypeWord
type_of (kind.Word w) = Some (record { word = w; list = false })
type_of (kind.Bracket w) = None
type_of (kind.List w) = Some (record { word = w; list = true })

-- A literal: NULL, a text, a number, or ARRAY with texts and numbers in brackets; and `::` and a type or not.

abbrev pub single : Form → List ℕ → GivenReader
single f text = Whole (record { form = f; texts = text ∷ [] })

abbrev pub list : List (List ℕ) → GivenReader
list texts = Whole (record { form = form.List; texts = texts })

abbrev pub given_from_word : List ℕ → Option GivenReader
given_from_word w =
    if bytes_eq w (codes "null") then Some (Whole (record { form = form.Null; texts = [] }))
    else (if bytes_eq w (codes "array") then Some Array else None)

abbrev pub given_from : Token → Option GivenReader
given_from (token.Word w) = given_from_word w
given_from (token.Text t) = Some (single form.Text t)
given_from (token.Number n) = Some (single form.Number n)
given_from _ = None

abbrev pub after_array : Token → Option GivenReader
after_array token.OpenBracket = Some (First [])
after_array _ = None

abbrev pub at_next : List (List ℕ) → Token → Option GivenReader
at_next texts t = option_map (λ text. Element (texts ++ text ∷ [])) (element_in t)

abbrev pub at_first : List (List ℕ) → Token → Option GivenReader
at_first texts token.CloseBracket = Some (list texts)
at_first texts t = at_next texts t

abbrev pub behind_element : List (List ℕ) → Token → Option GivenReader
behind_element texts token.Comma = Some (Next texts)
behind_element texts token.CloseBracket = Some (list texts)
behind_element texts _ = None

abbrev pub behind_literal : Literal → Token → Option GivenReader
behind_literal l token.Cast = Some (Cast l)
behind_literal l _ = None

abbrev pub behind_cast : Literal → Token → Option GivenReader
behind_cast l t = option_map (λ w. Typed l (kind.Word w)) (word_in t)

abbrev pub behind_type : Literal → TypeReader → Token → Option GivenReader
behind_type l k t = option_map (λ next. Typed l next) (type_after k t)

abbrev pub given_after : GivenReader → Token → Option GivenReader
given_after Array t = after_array t
given_after (First texts) t = at_first texts t
given_after (Next texts) t = at_next texts t
given_after (Element texts) t = behind_element texts t
given_after (Whole l) t = behind_literal l t
given_after (Cast l) t = behind_cast l t
given_after (Typed l k) t = behind_type l k t

abbrev pub given_of : GivenReader → Option Given
given_of (Whole l) = Some (record { literal = l; cast = None })
given_of (Typed l k) = option_map (λ w. record { literal = l; cast = Some w }) (type_of k)
given_of _ = None
