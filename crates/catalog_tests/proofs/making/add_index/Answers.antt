use Rattle.std.proofs.Common.{◌≡◌, ℕ, List, length, true, Option, None, refl, sym, ◌∙◌, ap, subst, arith}
use Rattle.std.specs.Prelude.{IsSomeAnd}
use Rattle.std.specs.List.{slice_get}
use Rattle.std.proofs.lemmas.Option.{slice_get_read}
use Rattle.gx_value.specs.Classes.{takes}
use Rattle.gx_value.specs.declared.classes.Class.TheVariants.{GistInt4}
use Rattle.gx_value.specs.declared.fields.Column.{Column}
use Rattle.gx_catalog.specs.declared.info.IndexInfo.{IndexInfo}
use Rattle.gx_catalog.specs.declared.info.TableInfo.{TableInfo}
use Rattle.gx_catalog.specs.Validity.{TakesColumn, count_on, index_named}
use Rattle.catalog_tests.proofs.making.add_index.Goals as goal

pub add_index-requires : goal.add_index-requires
add_index-requires c =
    let index : IndexInfo = record { name = c.in-Ok.name; table = c.args.table; column = 0; class = GistInt4; parameter = 0; root = 9; nulls = 0 } in
    let there = c.in-Some-get.ensures.lookup in
    let got = sym (slice_get_read c.as_slice.result.now (length c.as_slice.result.now) 0 c.in-Some-get.column.now refl there.3.0 there.1) ∙ ap (λ (l : List Column). slice_get l 0) c.as_slice.ensures in
    let taken : TakesColumn index c.in-Some-table_numbered.info.now =
    subst (λ (o : Option Column). IsSomeAnd o (λ (column : Column). takes GistInt4 column.kind ≡ true)) got (sym c.takes.ensures ∙ c.if-not-takes.false) in
    c.one_more_index.ensures c.args.catalog.now.tables c.args.catalog.now.indexes index c.indexes.ensures.valid
    (record {
      name = (let small = c.if-name-gt63.false in let same = ap (λ (l : List ℕ). length l) c.in-Ok.ensures in omega (arith, small, same));
      column = subst (λ (o : Option TableInfo). IsSomeAnd o (TakesColumn index)) c.in-Some-table_numbered.ensures taken;
      parameter = refl;
    })
    (subst (λ (k : List ℕ). index_named k c.args.catalog.now.indexes ≡ None) (sym c.in-Ok.ensures) (sym c.in_default.ensures))
    (let few = c.if-count_on-ge32.false in let counted = c.count_on.ensures ∙ ap (λ (l : List IndexInfo). count_on c.args.table l) c.indexes.ensures.value in omega (arith, few, counted))
