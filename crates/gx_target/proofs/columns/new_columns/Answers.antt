-- A name that stands before, a word that names no type, and one column more.
use Rattle.std.proofs.Common.{◌≡◌, ◌++◌, ◌∷◌, [], Bool, true, false, List, ℕ, ap₂, sym, ◌∙◌}
use Rattle.std.specs.List.{list_any}
use Rattle.std.specs.Str.{bytes_eq}
use Rattle.gx_value.specs.declared.fields.Column.{Column}
use Rattle.gx_target.proofs.ColumnFacts.{named_twice, unknown_type, made_more}
use Rattle.gx_target.proofs.Lists.{when_ok}
use Rattle.gx_target.proofs.columns.new_columns.Goals as goal

abbrev is_among : List ℕ → List Column → Bool
is_among name columns = list_any (λ (c : Column). bytes_eq name c.name) columns

pub returns-then-is_named : goal.returns-then-is_named
returns-then-is_named c =
    let twice : is_among c.word-item.result.name c.loop-word.columns ≡ true = ap₂ is_among (sym c.as_slice-in-loop-word.ensures) (sym c.as_slice.ensures) ∙ sym c.if-is_named.ensures in
    named_twice c.args.words.now c.loop-word.columns c.loop-word.word-index c.word-item.result c.word-item.result c.loop-word-test.true c.word-item.is c.loop-word.invariant twice

pub returns-in_default : goal.returns-in_default
returns-in_default c =
    let new : is_among c.word-item.result.name c.loop-word.columns ≡ false = ap₂ is_among (sym c.as_slice-in-loop-word.ensures) (sym c.as_slice.ensures) ∙ sym c.if-is_named.ensures in
    unknown_type c.args.words.now c.loop-word.columns c.loop-word.word-index c.word-item.result c.word-item.result c.loop-word-test.true c.word-item.is c.loop-word.invariant new (sym c.in_default.ensures)

pub loop-word-preserved : goal.loop-word-preserved
loop-word-preserved c =
    let new : is_among c.word-item.result.name c.loop-word.columns ≡ false = ap₂ is_among (sym c.as_slice-in-loop-word.ensures) (sym c.as_slice.ensures) ∙ sym c.if-is_named.ensures in
    let column : Column = record { name = c.word-item.result.name; kind = c.in-Some.kind } in
    let grown : c.push_column.new.columns ≡ c.loop-word.columns ++ column ∷ [] = when_ok c.push_column.result (c.push_column.new.columns ≡ c.loop-word.columns ++ column ∷ []) c.if-is_err.ensures.value c.push_column.ensures in
    made_more c.args.words.now c.loop-word.columns c.loop-word.word-index c.word-item.result c.word-item.result c.loop-word-test.true c.word-item.is c.loop-word.invariant new c.in-Some.kind c.push_column.new.columns
    (sym c.in-Some.ensures) grown
