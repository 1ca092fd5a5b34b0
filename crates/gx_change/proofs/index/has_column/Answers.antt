use Rattle.std.proofs.Common.{sym, ◌∙◌, ap}
use Rattle.std.specs.Prelude.{is_some}
use Rattle.gx_change.proofs.Indexes.{copied_some}
use Rattle.gx_change.proofs.index.has_column.Goals as goal

pub returns : goal.returns
returns c = c.is_some.ensures ∙ sym (copied_some c.column_of.result) ∙ ap is_some c.column_of.ensures
