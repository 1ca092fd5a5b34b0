-- What std writes of the address.
use Rattle.std.proofs.Common.{◌≡◌, List, ℕ, subst, IfOk}
use Rattle.std.specs.String.{string_bytes}
use Rattle.gx_inet.proofs.TextLemmas.{dotted_text_of}
use Rattle.gx_inet.proofs.print.dotted_of.Goals as goal

pub returns : goal.returns
returns c = let P : List ℕ → Type 0 = λ bs. IfOk c.to_string.result (λ text. string_bytes text ≡ bs) in subst P (dotted_text_of c.from_bits.result c.args.address c.from_bits.ensures) c.to_string.ensures.ok
