use Rattle.std.proofs.Common.{◌≡◌, List, ℕ, find, bytes_eq, sym, ◌∙◌, ap}
use Rattle.gx_value.specs.declared.fields.Column.{Column}
use Rattle.gx_catalog.proofs.TailFacts.{copied_some}
use Rattle.gx_catalog.proofs.validity.is_new_column.Goals as goal

pub returns-then-is_some : goal.returns-then-is_some
returns-then-is_some c = (
  λ never. cc,
  λ new. absurd (copied_some c.column_named.result _ c.column_named.ensures (sym c.is_some.ensures ∙ c.if-is_some.true)
      (ap (λ (n : List ℕ). find (λ (o : Column). bytes_eq o.name n) c.args.others.now) c.as_slice.ensures ∙ new.new)),
)
