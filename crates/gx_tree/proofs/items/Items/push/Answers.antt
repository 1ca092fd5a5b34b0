use Rattle.std.proofs.Common.{◌≡◌, ℕ, ◌+◌, List, [], ◌∷◌, ◌++◌, length, map, ◌∙◌, ap, rules}
use Rattle.gx_tree.specs.declared.items.Span.{Span}
use Rattle.gx_tree.specs.Spans.{span_of}
use Rattle.gx_tree.proofs.Buffers.{items_push}
use Rattle.gx_tree.proofs.items.Items.push.Goals as goal

pub returns-clause-ok : goal.returns-clause-ok
returns-clause-ok c =
    let span : Span = record { from = c.len-from.result; to = c.len-to.result } in
    let old = c.self.inside.spans.items in
    let bytes = c.self.inside.bytes.items in
    let spans : c.push.new.self.items ≡ old ++ span ∷ [] = c.in-Ok.ensures.items ∙ ap (λ (l : List Span). l ++ span ∷ []) c.reserve.ensures.items in
    let from : c.len-from.result ≡ length bytes = search rules in
    let to : c.len-to.result ≡ length bytes + length c.args.item.now = search rules in
    ap (λ (l : List Span). map (span_of c.extend_from_slice.new.self.items) l) spans
    ∙ ap (λ (b : List ℕ). map (span_of b) (old ++ span ∷ [])) c.in_ok-extend_from_slice.ensures.items
    ∙ items_push old bytes c.args.item.now span c.self.invariant from to
    ∙ ap (λ (l : List (List ℕ)). l ++ c.args.item.now ∷ []) c.self.view_is
