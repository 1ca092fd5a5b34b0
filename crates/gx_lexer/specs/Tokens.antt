-- The tokens of a piece: words, numbers, texts, signs and operators, with white space and comments between them.
use Rattle.std.specs.Prelude.{ℕ, ◌+◌, Bool, true, false, not, ◌&&◌, ◌||◌, ◌==◌, nat_lt, nat_le, if◌then◌else◌, List, [], ◌∷◌, ◌++◌, length, map, take, zero, suc, slice_index, Option, Some, None, codes}
use Rattle.std.specs.List.{prefix_len, list_any}
use Rattle.std.specs.Str.{bytes_eq}
use Rattle.std.specs.Option.{option_map}
use Rattle.gx_lexer.specs.declared.token.Token.{Token}
use Rattle.gx_lexer.specs.declared.token.Token.TheVariants.{Word, Number, Text, Operator, Open, Close, OpenBracket, CloseBracket, Comma, Star, Cast, Unknown}
use Rattle.gx_lexer.specs.Letters.{is_white, is_digit, is_sign, is_letter, is_word, is_comment, folded}

-- no token begins, and nothing behind is read
abbrev pub unknown : List ℕ → Option Token × ℕ
unknown bs = (Some Unknown, length bs)

-- A word goes on as long as letters, digits and `_` follow. It is folded to lower case, and has at most 63 bytes.
abbrev pub word_of : ℕ → List ℕ → Option Token × ℕ
word_of b bs = let n = prefix_len is_word bs in if nat_lt n 63 then (Some (Word (map folded (b ∷ take n bs))), n) else unknown bs

-- A number goes on as long as digits follow.
abbrev pub number_of : ℕ → List ℕ → Option Token × ℕ
number_of b bs = let n = prefix_len is_digit bs in (Some (Number (b ∷ take n bs)), n)

abbrev pub and_byte : ℕ → Option (List ℕ × ℕ) → Option (List ℕ × ℕ)
and_byte b found = option_map (λ x. (b ∷ x.0, x.1 + 1)) found

abbrev pub and_quote : Option (List ℕ × ℕ) → Option (List ℕ × ℕ)
and_quote found = option_map (λ x. (x.0, x.1 + 1)) found

-- A text and how many bytes it takes with its closing quote, which may have been the byte before. Nothing where it isn't closed.
abbrev pub text_from : Bool → List ℕ → Option (List ℕ × ℕ)
text_from false [] = None
text_from true [] = Some ([], 0)
text_from false (b ∷ bs) = if b == 39 then and_quote (text_from true bs) else and_byte b (text_from false bs)
text_from true (b ∷ bs) = if b == 39 then and_byte 39 (text_from false bs) else Some ([], 0)

abbrev pub text_found : List ℕ → Option (List ℕ × ℕ) → Option Token × ℕ
text_found bs None = unknown bs
text_found bs (Some x) = (Some (Text x.0), x.1)

abbrev pub text_of : List ℕ → Option Token × ℕ
text_of bs = text_found bs (text_from false bs)

abbrev pub sign_of : ℕ → Option Token
sign_of b =
    if b == 40 then Some Open else (if b == 41 then Some Close else (if b == 91 then Some OpenBracket else (if b == 93 then Some CloseBracket
    else (if b == 44 then Some Comma else (if b == 42 then Some Star else None)))))

-- the comparisons, with `!=` for `<>`
abbrev pub comparisons : List (List ℕ)
comparisons = codes "=" ∷ codes "<>" ∷ codes "!=" ∷ codes "<" ∷ codes "<=" ∷ codes ">" ∷ codes ">=" ∷ []

-- the other operators, with `<->`
abbrev pub relations : List (List ℕ)
relations =
    codes "&&" ∷ codes "@>" ∷ codes "<@" ∷ codes "<<" ∷ codes ">>" ∷ codes "&<" ∷ codes "&>" ∷ codes "-|-" ∷ codes "<<=" ∷ codes ">>="
    ∷ codes "~" ∷ codes "?" ∷ codes "@" ∷ codes "?&" ∷ codes "?|" ∷ codes "@@" ∷ codes "<->" ∷ []

abbrev pub is_comparison : List ℕ → Bool
is_comparison text = list_any (λ o. bytes_eq text o) comparisons

abbrev pub is_relation : List ℕ → Bool
is_relation text = list_any (λ o. bytes_eq text o) relations

abbrev pub is_operator : List ℕ → Bool
is_operator text = is_comparison text || is_relation text

-- Whether the byte b with n more is an operator. Its last byte begins no comment.
abbrev pub stands : ℕ → ℕ → List ℕ → Bool
stands n b bs = nat_le n (length bs) && (is_operator (b ∷ take n bs) && not (slice_index (b ∷ bs) n == 45 && slice_index bs n == 45))

-- an operator's text, with `<>` for `!=`
abbrev pub operator_text : List ℕ → List ℕ
operator_text text = if bytes_eq text (codes "!=") then codes "<>" else text

abbrev pub operator_with : ℕ → List ℕ → ℕ → Option Token × ℕ
operator_with b bs n = (Some (Operator (operator_text (b ∷ take n bs))), n)

-- the longest operator that begins with b
abbrev pub operator_of : ℕ → List ℕ → Option Token × ℕ
operator_of b bs =
    if stands 2 b bs then operator_with b bs 2 else (if stands 1 b bs then operator_with b bs 1 else (if stands 0 b bs then operator_with b bs 0 else unknown bs))

abbrev pub sign_or : ℕ → List ℕ → Option Token → Option Token × ℕ
sign_or b bs (Some sign) = (Some sign, 0)
sign_or b bs None = operator_of b bs

-- What begins at the byte b, which bs follow, and how many of these belong to it: white space or a comment, or a token.
unfoldable pub first_of : ℕ → List ℕ → Option Token × ℕ
first_of b bs =
    if is_white b then (None, 0)
    else (if b == 45 && slice_index bs 0 == 45 then (None, prefix_len is_comment bs)
    else (if is_letter b then word_of b bs
    else (if is_digit b then number_of b bs
    else (if is_sign b && is_digit (slice_index bs 0) then number_of b bs
    else (if b == 39 then text_of bs
    else (if b == 58 && slice_index bs 0 == 58 then (Some Cast, 1)
    else sign_or b bs (sign_of b)))))))

-- a token with its place, where there is one
abbrev pub placed : ℕ → Option Token → List (ℕ × Token)
placed at None = []
placed at (Some token) = (at, token) ∷ []

-- the tokens of bs, which begins at a place, after its first n bytes, which belong to what stands before
unfoldable pub tokens_from : ℕ → ℕ → List ℕ → List (ℕ × Token)
tokens_from at n [] = []
tokens_from at (suc n) (b ∷ bs) = tokens_from (at + 1) n bs
tokens_from at zero (b ∷ bs) = placed at (first_of b bs).0 ++ tokens_from (at + 1) (first_of b bs).1 bs

-- the tokens of a piece, each with its place
abbrev pub tokens_of : List ℕ → List (ℕ × Token)
tokens_of piece = tokens_from 0 0 piece
