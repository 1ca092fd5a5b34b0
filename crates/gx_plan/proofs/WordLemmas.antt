-- A word that isn't UTF-8 names no type.
use Rattle.std.proofs.Common.{◌≡◌, ℕ, zero, suc, Bool, true, false, cond, ◌&&◌, nat_lt, List, [], ◌∷◌, Option, None, Some, option_map, IsUtf8, IsAscii, bytes_eq, refl, subst, arith}
use Rattle.std.specs.List.{find, list_all}
use Rattle.std.proofs.lemmas.Bool.{false_from_ne_true, ltb-true}
use Rattle.std.proofs.lemmas.Slice.Eq.{bytes_eq-Decides}
use Rattle.std.proofs.lemmas.Str.{IsUtf8-from_ascii}
use Rattle.gx_value.specs.Types.{TypeLine, words, list_words, kind_among, operand_named}

abbrev ascii : List ℕ → Bool
ascii bytes = list_all (λ b. nat_lt b 128) bytes

abbrev are_ascii : List TypeLine → Bool
are_ascii lines = list_all (λ l. ascii l.word) lines

both : (a b : Bool) → (a && b) ≡ true → (a ≡ true) × (b ≡ true)
both true true e = (refl, refl)
both true false e = cc
both false b e = cc

is_ascii : (bytes : List ℕ) → ascii bytes ≡ true → IsAscii bytes
is_ascii [] e i = omega arith
is_ascii (b ∷ bs) e zero = ltb-true b 128 (both (nat_lt b 128) (ascii bs) e).0
is_ascii (b ∷ bs) e (suc i) = is_ascii bs (both (nat_lt b 128) (ascii bs) e).1 i

other : (l : TypeLine) (w : List ℕ) → ascii l.word ≡ true → (IsUtf8 w → ⊥) → bytes_eq l.word w ≡ false
other l w text not_utf8 =
    false_from_ne_true (bytes_eq l.word w) (λ e. not_utf8 (subst IsUtf8 ((bytes_eq-Decides l.word w).0 e) (IsUtf8-from_ascii l.word (is_ascii l.word text))))

behind : (same : Bool) (l : TypeLine) (rest : Option TypeLine) → same ≡ false → option_map (λ (x : TypeLine). x.kind) rest ≡ None → option_map (λ (x : TypeLine). x.kind) (cond same (Some l) rest) ≡ None
behind true l rest e h = cc
behind false l rest e h = h

among : (lines : List TypeLine) (w : List ℕ) → are_ascii lines ≡ true → (IsUtf8 w → ⊥) → kind_among lines w ≡ None
among [] w texts not_utf8 = refl
among (l ∷ ls) w texts not_utf8 =
    let h = both (ascii l.word) (are_ascii ls) texts in
    behind (bytes_eq l.word w) l (find (λ x. bytes_eq x.word w) ls) (other l w h.0 not_utf8) (among ls w h.1 not_utf8)

pub names_none : (w : List ℕ) (list : Bool) → (IsUtf8 w → ⊥) → operand_named w list ≡ None
names_none w true not_utf8 = among list_words w refl not_utf8
names_none w false not_utf8 = among words w refl not_utf8
