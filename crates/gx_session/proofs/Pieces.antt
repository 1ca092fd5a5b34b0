-- What pieces are read as.
use Rattle.std.proofs.Common.{◌≡◌, ℕ, Bool, true, false, cond, nat_lt, nat_le, List, length, Option, Some, None, refl, sym, ◌∙◌, ap, arith}
use Rattle.std.proofs.lemmas.Bool.Decides.{nat_tests}
use Rattle.gx_lexer.specs.Feeding.{longest, piece_of}
use Rattle.gx_lexer.specs.declared.piece.Piece.TheVariants as piece
use Rattle.gx_model.specs.Turns.{reading_of}
use Rattle.gx_model.specs.Replies.{Reply}
use Rattle.gx_parse.specs.Answers.{Answer, answer_of, says}
use Rattle.gx_parse.specs.Said.{Said}
use Rattle.gx_session.specs.Readings.{fault_of}

pub too_long : (text : List ℕ) → piece_of text ≡ piece.TooLong → reading_of text ≡ None
too_long text e = cases (nat_le (length text) longest) (nat_lt longest (length text)) refl refl e
  where
    cases : (b d : Bool) → nat_le (length text) longest ≡ b → nat_lt longest (length text) ≡ d → cond b (piece.Text text) piece.TooLong ≡ piece.TooLong → cond d None (Some (answer_of text)) ≡ None
    cases true d p q h = cc
    cases false true p q h = refl
    cases false false p q h = absurd (grind (arith, nat_tests))

pub not_too_long : (text bytes : List ℕ) → piece_of text ≡ piece.Text bytes → reading_of text ≡ Some (answer_of bytes)
not_too_long text bytes e = cases (nat_le (length text) longest) (nat_lt longest (length text)) refl refl e
  where
    cases : (b d : Bool) → nat_le (length text) longest ≡ b → nat_lt longest (length text) ≡ d → cond b (piece.Text text) piece.TooLong ≡ piece.Text bytes → cond d None (Some (answer_of text)) ≡ Some (answer_of bytes)
    cases true true p q h = absurd (grind (arith, nat_tests))
    cases true false p q h = let same : text ≡ bytes = cc in ap (λ (t : List ℕ). Some (answer_of t)) same
    cases false d p q h = cc

-- a piece says one statement
pub says_so : (answer : Option Answer) (s next : Said) → answer ≡ Some (says s) → answer ≡ Some (says next) → s ≡ next
says_so answer s next e f = cc

-- where it says one, it isn't refused
pub not_refused : (answer : Option Answer) (s : Said) (reply : Reply) → fault_of answer ≡ Some reply → answer ≡ Some (says s) → ⊥
not_refused answer s reply refuses e = none_some (ap fault_of (sym e) ∙ refuses)
  where
    none_some : None ≡ Some reply → ⊥
    none_some h = cc
