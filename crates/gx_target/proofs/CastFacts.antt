-- Words of types, and casts.
use Rattle.std.proofs.Common.{◌≡◌, ◌==◌, ne_eqb, inl, inr, ℕ, zero, suc, ◌<◌, ◌≤◌, Bool, true, false, not, ◌&&◌, cond, nat_lt, is_none, List, [], ◌∷◌, IsUtf8, slice_index, Option, Some, None, option_map, find, refl, sym, ap, ◌∙◌, subst, arith}
use Rattle.std.proofs.lemmas.Bool.Decides.{nat_tests}
use Rattle.std.proofs.lemmas.Slice.Eq.{bytes_eq-Decides}
use Rattle.std.proofs.lemmas.Str.{IsUtf8-from_ascii}
use Rattle.std.specs.List.{list_all}
use Rattle.std.specs.Str.{bytes_eq}
use Rattle.gx_parse.specs.declared.statement.TypeWord.{TypeWord}
use Rattle.gx_value.specs.declared.types.ColumnType.{ColumnType}
use Rattle.gx_value.specs.declared.types.ColumnType.TheVariants as column
use Rattle.gx_value.specs.declared.types.OperandType.{OperandType}
use Rattle.gx_value.specs.declared.types.OperandType.TheVariants as operand
use Rattle.gx_value.specs.Types.{TypeLine, words, list_words, operand_named, operand_number, type_number, same_operand, as_operand, as_column}
use Rattle.gx_model.specs.Checks.{Find}
use Rattle.gx_model.specs.Faults.{is_other_type}
use Rattle.gx_target.specs.Encoded.{cast_checks}

-- ---- a word that isn't UTF-8 names no type

abbrev is_ascii : List ℕ → Bool
is_ascii text = list_all (λ b. nat_lt b 128) text

and_true : (a b : Bool) → (a && b) ≡ true → (a ≡ true) × (b ≡ true)
and_true true b e = (refl, e)
and_true false b e = absurd cc

below_of : (b : ℕ) → nat_lt b 128 ≡ true → b < 128
below_of b e = grind (arith, nat_tests)

ascii_of : (text : List ℕ) → is_ascii text ≡ true → (i : ℕ) → slice_index text i < 128
ascii_of [] e i = omega arith
ascii_of (b ∷ bs) e zero = below_of b (and_true (nat_lt b 128) (is_ascii bs) e).0
ascii_of (b ∷ bs) e (suc i) = ascii_of bs (and_true (nat_lt b 128) (is_ascii bs) e).1 i

abbrev first_of_word : List ℕ → List TypeLine → Option TypeLine
first_of_word w lines = find (λ (l : TypeLine). bytes_eq l.word w) lines

none_step : (w : List ℕ) (l : TypeLine) (ls : List TypeLine) (r : Bool) → bytes_eq l.word w ≡ r → is_ascii l.word ≡ true → (IsUtf8 w → ⊥) → first_of_word w ls ≡ None → cond r (Some l) (first_of_word w ls) ≡ None
none_step w l ls true is ascii not_text rest =
    absurd (not_text (subst IsUtf8 ((bytes_eq-Decides l.word w).0 is) (IsUtf8-from_ascii l.word (ascii_of l.word ascii))))
none_step w l ls false is ascii not_text rest = rest

none_of_word : (w : List ℕ) (lines : List TypeLine) → list_all (λ (l : TypeLine). is_ascii l.word) lines ≡ true → (IsUtf8 w → ⊥) → first_of_word w lines ≡ None
none_of_word w [] ascii not_text = refl
none_of_word w (l ∷ ls) ascii not_text =
    let parts = and_true (is_ascii l.word) (list_all (λ (k : TypeLine). is_ascii k.word) ls) ascii in
    none_step w l ls (bytes_eq l.word w) refl parts.0 not_text (none_of_word w ls parts.1 not_text)

pub no_text : (w : List ℕ) (list : Bool) → (IsUtf8 w → ⊥) → operand_named w list ≡ None
no_text w true not_text = ap (option_map (λ (l : TypeLine). l.kind)) (none_of_word w list_words refl not_text)
no_text w false not_text = ap (option_map (λ (l : TypeLine). l.kind)) (none_of_word w words refl not_text)

-- ---- an operand's type and a column's

number_of_column : (k : ColumnType) → operand_number (as_operand k) ≡ type_number k
number_of_column column.Int4 = refl
number_of_column column.Int8 = refl
number_of_column column.Text = refl
number_of_column column.Bytea = refl
number_of_column column.Date = refl
number_of_column column.Uuid = refl
number_of_column column.Int4Range = refl
number_of_column column.Int8Range = refl
number_of_column column.DateRange = refl
number_of_column column.Inet = refl
number_of_column column.Ltree = refl
number_of_column column.Hstore = refl
number_of_column column.Jsonb = refl
number_of_column column.Int4Array = refl

-- the number of an operand type that is a column type, or one above all of those
abbrev number_in : Option ColumnType → ℕ → Type 0
number_in (Some k) n = n ≡ type_number k
number_in None n = 14 < n

number_as : (t : OperandType) → number_in (as_column t) (operand_number t)
number_as operand.Int4 = refl
number_as operand.Int8 = refl
number_as operand.Text = refl
number_as operand.Bytea = refl
number_as operand.Date = refl
number_as operand.Uuid = refl
number_as operand.Int4Range = refl
number_as operand.Int8Range = refl
number_as operand.DateRange = refl
number_as operand.Inet = refl
number_as operand.Ltree = refl
number_as operand.Hstore = refl
number_as operand.Jsonb = refl
number_as operand.Int4Array = refl
number_as operand.TextArray = omega arith
number_as operand.Lquery = omega arith
number_as operand.LqueryArray = omega arith
number_as operand.Ltxtquery = omega arith
number_as operand.QueryInt = omega arith

most_number : (k : ColumnType) → type_number k ≤ 14
most_number column.Int4 = omega arith
most_number column.Int8 = omega arith
most_number column.Text = omega arith
most_number column.Bytea = omega arith
most_number column.Date = omega arith
most_number column.Uuid = omega arith
most_number column.Int4Range = omega arith
most_number column.Int8Range = omega arith
most_number column.DateRange = omega arith
most_number column.Inet = omega arith
most_number column.Ltree = omega arith
most_number column.Hstore = omega arith
most_number column.Jsonb = omega arith
most_number column.Int4Array = omega arith

pub same_as_column : (t : OperandType) (other kind : ColumnType) → as_column t ≡ Some other → (type_number other == type_number kind) ≡ same_operand t (as_operand kind)
same_as_column t other kind is =
    let number : operand_number t ≡ type_number other = subst (λ (o : Option ColumnType). number_in o (operand_number t)) is (number_as t) in
    ap (λ (n : ℕ). n == type_number kind) (sym number) ∙ ap (λ (n : ℕ). operand_number t == n) (sym (number_of_column kind))

pub no_column : (t : OperandType) (kind : ColumnType) → as_column t ≡ None → false ≡ same_operand t (as_operand kind)
no_column t kind is =
    let above : 14 < operand_number t = subst (λ (o : Option ColumnType). number_in o (operand_number t)) is (number_as t) in
    let below : type_number kind ≤ 14 = most_number kind in
    let same : operand_number (as_operand kind) ≡ type_number kind = number_of_column kind in
    sym (ne_eqb (operand_number t) (operand_number (as_operand kind)) (omega arith))

-- ---- the checks of a cast

module _ (kind : ColumnType) (w : TypeWord) where
  pub cast_unknown : operand_named w.word w.list ≡ None → Find (cast_checks kind (Some w)) (Some 6)
  cast_unknown none = inr (6, (ap is_none none, refl), refl)

  pub cast_same : (t : OperandType) → operand_named w.word w.list ≡ Some t → same_operand t (as_operand kind) ≡ true → Find (cast_checks kind (Some w)) None
  cast_same t some same = inl (ap is_none some, inl (ap (is_other_type kind) some ∙ ap not same, refl))

  pub cast_other : (t : OperandType) → operand_named w.word w.list ≡ Some t → same_operand t (as_operand kind) ≡ false → Find (cast_checks kind (Some w)) (Some 8)
  cast_other t some other = inl (ap is_none some, inr (8, (ap (is_other_type kind) some ∙ ap not other, refl), refl))
