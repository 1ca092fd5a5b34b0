use Rattle.std.proofs.Common.{◌≡◌, ℕ, ◌+◌, List, [], ◌∷◌, ◌++◌, length, map, ◌∙◌, ap, rules}
use Rattle.gx_gin.specs.declared.strings.Part.{Part}
use Rattle.gx_gin.specs.Parts.{cut}
use Rattle.gx_gin.proofs.Cuts.{strings_push}
use Rattle.gx_gin.proofs.strings.Strings.push.Goals as goal

pub returns-clause-ok : goal.returns-clause-ok
returns-clause-ok c =
    let part : Part = record { from = c.len-from.result; to = c.len-to.result } in
    let old = c.self.inside.parts.items in
    let bytes = c.self.inside.bytes.items in
    let parts : c.push.new.self.items ≡ old ++ part ∷ [] = c.in-Ok.ensures.items ∙ ap (λ (l : List Part). l ++ part ∷ []) c.reserve.ensures.items in
    let from : c.len-from.result ≡ length bytes = search rules in
    let to : c.len-to.result ≡ length bytes + length c.args.string.now = search rules in
    ap (λ (l : List Part). map (cut c.extend_from_slice.new.self.items) l) parts
    ∙ ap (λ (b : List ℕ). map (cut b) (old ++ part ∷ [])) c.in_ok-extend_from_slice.ensures.items
    ∙ strings_push old bytes c.args.string.now part c.self.invariant from to
    ∙ ap (λ (l : List (List ℕ)). l ++ c.args.string.now ∷ []) c.self.view_is
