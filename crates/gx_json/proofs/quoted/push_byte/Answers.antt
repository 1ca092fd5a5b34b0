use Rattle.std.proofs.Common.{◌++◌, List, ℕ, ap, ◌∙◌, sym}
use Rattle.gx_json.proofs.EscapeLemmas.{letter_written, code_written, byte_written}
use Rattle.gx_json.proofs.quoted.push_byte.Goals as goal

pub returns-in_ok-extend_from_slice : goal.returns-in_ok-extend_from_slice
returns-in_ok-extend_from_slice c =
    c.in_ok-extend_from_slice.ensures.ok
    ∙ ap (λ (t : List ℕ). c.args.to.now ++ t) (sym (letter_written c.args.byte c.escape_letter-letter.result c.escape_letter-letter.ensures c.if-letter-gt0.true))

pub returns-in_ok-extend_from_slice-2 : goal.returns-in_ok-extend_from_slice-2
returns-in_ok-extend_from_slice-2 c =
    c.in_ok-extend_from_slice-2.ensures.ok
    ∙ ap (λ (t : List ℕ). c.args.to.now ++ t) (sym (code_written c.args.byte c.escape_letter-letter.result c.hex_digit.result c.hex_digit-then-byte-lt32.result c.escape_letter-letter.ensures c.if-letter-gt0.false c.if-byte-lt32.true c.hex_digit.ensures c.hex_digit-then-byte-lt32.ensures))

pub returns-in_ok-push : goal.returns-in_ok-push
returns-in_ok-push c =
    c.in_ok-push.ensures.ok
    ∙ ap (λ (t : List ℕ). c.args.to.now ++ t) (sym (byte_written c.args.byte c.escape_letter-letter.result c.escape_letter-letter.ensures c.if-letter-gt0.false c.if-byte-lt32.false))
