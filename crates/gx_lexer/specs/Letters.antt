-- Classes of bytes (manual of PostgreSQL 16, section 4.1, "Lexical Structure").
use Rattle.std.specs.Prelude.{ℕ, ◌+◌, Bool, not, ◌&&◌, ◌||◌, ◌==◌, nat_le, if◌then◌else◌}

-- space, tab, line feed, carriage return, form feed
abbrev pub is_white : ℕ → Bool
is_white b = b == 32 || b == 9 || b == 10 || b == 13 || b == 12

abbrev pub is_digit : ℕ → Bool
is_digit b = nat_le 48 b && nat_le b 57

-- `+` or `-`
abbrev pub is_sign : ℕ → Bool
is_sign b = b == 43 || b == 45

abbrev pub is_upper : ℕ → Bool
is_upper b = nat_le 65 b && nat_le b 90

abbrev pub is_lower : ℕ → Bool
is_lower b = nat_le 97 b && nat_le b 122

-- an ASCII letter, or `_`
abbrev pub is_letter : ℕ → Bool
is_letter b = is_upper b || is_lower b || b == 95

abbrev pub is_word : ℕ → Bool
is_word b = is_letter b || is_digit b

-- a letter in lower case
abbrev pub folded : ℕ → ℕ
folded b = if is_upper b then b + 32 else b

-- any byte but a line feed
abbrev pub is_comment : ℕ → Bool
is_comment b = not (b == 10)
