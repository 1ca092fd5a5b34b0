use Rattle.std.proofs.Common.{List, ℕ, ◌∙◌, ap}
use Rattle.gx_bytes.specs.Fields.{le16, le64, paste}
use Rattle.gx_gist_tree.proofs.items.row_bytes.Goals as goal

pub returns : goal.returns
unfolding le16 le64
returns c =
    let row = c.args.row in
    c.put_u16.ensures ∙ ap (λ (l : List ℕ). paste l 16 (le16 row.slot)) (c.put_u64-2.ensures ∙ ap (λ (l : List ℕ). paste l 8 (le64 row.page)) c.put_u64.ensures)
