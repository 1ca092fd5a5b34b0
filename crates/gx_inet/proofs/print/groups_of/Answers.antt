-- What std writes of the address.
use Rattle.std.proofs.Common.{◌≡◌, List, ℕ, subst, ap, ◌∙◌, IfOk}
use Rattle.std.specs.String.{string_bytes}
use Rattle.std.specs.Net.Addr.{ipv6_segments}
use Rattle.std.specs.Net.Text.{hex_groups_text}
use Rattle.gx_inet.proofs.TextLemmas.{groups_text_of}
use Rattle.gx_inet.proofs.print.groups_of.Goals as goal

pub returns : goal.returns
returns c = let P : List ℕ → Type 0 = λ bs. IfOk c.to_string.result (λ text. string_bytes text ≡ bs) in subst P (ap (λ a. hex_groups_text (ipv6_segments a)) c.hex_groups.ensures ∙ groups_text_of c.from_bits.result c.args.address c.from_bits.ensures) c.to_string.ensures.ok
