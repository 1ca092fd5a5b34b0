use Rattle.std.proofs.Common.{◌≡◌, ℕ, ◌+◌, List, [], ◌∷◌, ◌++◌, length, map, ◌∙◌, ap, rules}
use Rattle.gx_pages.specs.declared.row.RowRef.{RowRef}
use Rattle.gx_pages.specs.declared.rows.Part.{Part}
use Rattle.gx_pages.specs.Rows.{part_of}
use Rattle.gx_pages.proofs.Parts.{rows_push}
use Rattle.gx_pages.proofs.rows.Rows.push.Goals as goal

pub returns-clause-ok : goal.returns-clause-ok
returns-clause-ok c =
    let part : Part = record { row = c.args.row; from = c.len-from.result; to = c.len-to.result } in
    let old = c.self.inside.parts.items in
    let bytes = c.self.inside.bytes.items in
    let parts : c.push.new.self.items ≡ old ++ part ∷ [] = c.in-Ok.ensures.items ∙ ap (λ (l : List Part). l ++ part ∷ []) c.reserve.ensures.items in
    let from : c.len-from.result ≡ length bytes = search rules in
    let to : c.len-to.result ≡ length bytes + length c.args.bytes.now = search rules in
    ap (λ (l : List Part). map (part_of c.extend_from_slice.new.self.items) l) parts
    ∙ ap (λ (b : List ℕ). map (part_of b) (old ++ part ∷ [])) c.in_ok-extend_from_slice.ensures.items
    ∙ rows_push old bytes c.args.bytes.now part c.self.invariant from to
    ∙ ap (λ (l : List (RowRef × List ℕ)). l ++ (c.args.row, c.args.bytes.now) ∷ []) c.self.view_is
