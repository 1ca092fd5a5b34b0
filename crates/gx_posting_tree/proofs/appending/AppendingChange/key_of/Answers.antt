use Rattle.std.proofs.Common.{ℕ, ◌∙◌, ap}
use Rattle.gx_bytes.specs.Fields.{le64}
use Rattle.gx_posting_tree.proofs.Edits.{begin_item}
use Rattle.gx_posting_tree.proofs.appending.AppendingChange.key_of.Goals as goal

pub returns-in_default : goal.returns-in_default
returns-in_default c = λ least end front back have.
    let first = begin_item least end front back c.args.item.now have in
    c.in_default.ensures.again first.row.number first.rest first.fits first.is

pub returns : goal.returns
unfolding le64
returns c = λ least end front back have.
    let first = begin_item least end front back c.args.item.now have in
    let number = (c.in-Some.ensures.again first.row.number first.rest first.fits first.is).0 in
    record { row = first.row; rows = first.rows; spells = first.spells; is = c.in_ok-key.ensures ∙ c.to_le_bytes.ensures ∙ ap (λ (n : ℕ). le64 n) number }
