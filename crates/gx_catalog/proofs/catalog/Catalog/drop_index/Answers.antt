use Rattle.std.proofs.Common.{◌≡◌, ◌≢◌, ◌≤◌, ◌<◌, ◌==◌, ◌++◌, ◌∷◌, List, ℕ, length, bytes_eq, Option, Some, None, refl, sym, ◌∙◌, ap, subst, arith}
use Rattle.std.specs.List.{AllByRecursion}
use Rattle.std.proofs.lemmas.Result.{err_from_is_err_and}
use Rattle.std.proofs.lemmas.Slice.Eq.{bytes_eq-Decides}
use Rattle.std.proofs.lemmas.Bool.Decides.{Decides-eqb}
use Rattle.gx_words.specs.PageMap.{PageMap}
use Rattle.gx_pages.proofs.Footprints as feet
use Rattle.gx_chain.specs.declared.chain.Chain.{Chain}
use Rattle.gx_chain.specs.declared.entry.Entry.{Entry}
use Rattle.gx_chain.specs.Chains.{Holds, HoldsBeside, Link, entries_of}
use Rattle.gx_chain.proofs.Links.{held_same}
use Rattle.gx_heap.specs.declared.heap.Heap.{Heap}
use Rattle.gx_catalog.specs.declared.info.TableInfo.{TableInfo}
use Rattle.gx_catalog.specs.declared.info.IndexInfo.{IndexInfo}
use Rattle.gx_catalog.specs.declared.info.Item.TheVariants.{Table, Index}
use Rattle.gx_catalog.specs.Items.{table_part, index_part}
use Rattle.gx_catalog.specs.Places.{HasNoItem, IsPlace}
use Rattle.gx_catalog.specs.Validity.{AreCatalog, HasNoIndex, IsAmong, IsTable, index_named, table_numbered}
use Rattle.gx_catalog.specs.Catalogs.{Directory, HoldsCatalog, HoldsNoCatalog, with_heap, with_nulls, without_index, without_table}
use Rattle.gx_catalog.proofs.Keys.{among_found, find_some}
use Rattle.gx_catalog.proofs.Moves.{Becomes, heap_becomes, heap_length, index_becomes, missing_index, missing_table, nulls_becomes, nulls_length, table_becomes}
use Rattle.gx_catalog.proofs.Stored.{to_beside}
use Rattle.gx_catalog.proofs.Whole.{all_among, heap_valid, index_valid, nulls_valid, table_valid, removed_catalog, replaced_catalog}
use Rattle.gx_catalog.proofs.catalog.Catalog.drop_index.Goals as goal

pub unreachable-requires : goal.unreachable-requires
unreachable-requires g c =
    let there = c.requires in
    let view : Directory = record { chain = c.self.inside.chain; tables = c.self.inside.tables.items; indexes = c.self.inside.indexes.items } in
    let is : view ≡ c.args.self.now = cc in
    let among : IsAmong there.0 c.as_slice.result.now =
    subst (λ (l : List IndexInfo). IsAmong there.0 l) (ap (λ (d : Directory). d.indexes) (sym is) ∙ sym c.as_slice.ensures.value) there.1 in
    let some = among_found (λ (i : IndexInfo). i.name) bytes_eq bytes_eq-Decides c.as_slice.result.now c.args.name.now there.0 among there.2 in
    let never : None ≡ Some some.found = c.in_default.ensures ∙ some.is in cc

pub returns-in_err-place-clause-cause : goal.returns-in_err-place-clause-cause
returns-in_err-place-clause-cause g c =
    let p = err_from_is_err_and c.from_residual.result c.from_residual.ensures.1 in
    let view : Directory = record { chain = c.self.inside.chain; tables = c.self.inside.tables.items; indexes = c.self.inside.indexes.items } in
    let is : view ≡ c.args.self.now = cc in
    let found = find_some (λ (i : IndexInfo). i.name) bytes_eq bytes_eq-Decides c.as_slice.result.now c.args.name.now c.in-Some.info.now (sym c.in-Some.ensures) in
    let among : IsAmong c.in-Some.info.now c.self.inside.indexes.items = subst (λ (l : List IndexInfo). IsAmong c.in-Some.info.now l) c.as_slice.ensures.value found.0 in
    let bytes = c.as_slice-2.ensures ∙ c.in-Ok.ensures.bytes in
    rw (p.1, p.2)
    (feet.cause_weaker c.in_err-place.field-0.0 (g.P.Pages.faults c.args.pages.now) (g.P.Pages.faults c.args.pages.now) (g.P.Pages.faults c.find_place.new.pages) (g.P.Pages.faults c.find_place.new.pages)
    _ _ _ _ _ _ (omega arith) (omega arith)
    (λ at expected found broken tells.
    subst (λ (d : Directory). HoldsNoCatalog g.P.Pages c.args.pages.now d) is
    (missing_index g.P.Pages c.args.pages.now view c.in-Some.info.now among
    (subst (λ (b : List ℕ). HasNoItem (g.P.Pages.map c.args.pages.now) (g.P.Pages.count c.args.pages.now) b) bytes (broken tells))))
    (λ n no. absurd no) (λ memory. tt) c.in_err-place.ensures.cause)

pub returns-in_err-remove-clause-cause : goal.returns-in_err-remove-clause-cause
returns-in_err-remove-clause-cause g c =
    let p = err_from_is_err_and c.from_residual-in_err-remove.result c.from_residual-in_err-remove.ensures.1 in
    let view : Directory = record { chain = c.self.inside.chain; tables = c.self.inside.tables.items; indexes = c.self.inside.indexes.items } in
    let is : view ≡ c.args.self.now = cc in
    rw (p.1, p.2)
    (feet.cause_weaker c.in_err-remove.field-0.0 (g.P.Pages.faults c.args.pages.now) (g.P.Pages.faults c.find_place.new.pages) (g.P.Pages.faults c.remove.new.pages) (g.P.Pages.faults c.remove.new.pages)
    _ _ _ _ _ _ (let q = c.in_ok-place.ensures.quiet.faults in omega (arith, q)) (omega arith)
    (λ at expected found broken tells.
    subst (λ (d : Directory). HoldsNoCatalog g.P.Pages c.args.pages.now d) is (λ footprint free held.
    let b = to_beside g.P.Pages c.args.pages.now view footprint free held in
    let place = c.in_ok-place.ensures.found tells view.chain held.stored.links b.1 b.0.held in
    broken tells held.stored.links free place.front place.back c.as_slice-2.result.now
    (held_same g.P.Pages c.args.pages.now c.find_place.new.pages 3 view.chain held.stored.links free c.in_ok-place.ensures.map c.in_ok-place.ensures.count b.0) place.is place.behind))
    (λ n no. absurd no) (λ memory. tt) c.in_err-remove.ensures.cause)

pub returns-clause-dropped : goal.returns-clause-dropped
returns-clause-dropped g c = λ tells footprint free held.
    let view : Directory = record { chain = c.self.inside.chain; tables = c.self.inside.tables.items; indexes = c.self.inside.indexes.items } in
    let is : view ≡ c.args.self.now = cc in
    let found = find_some (λ (i : IndexInfo). i.name) bytes_eq bytes_eq-Decides c.as_slice.result.now c.args.name.now c.in-Some.info.now (sym c.in-Some.ensures) in
    let among : IsAmong c.in-Some.info.now c.self.inside.indexes.items = subst (λ (l : List IndexInfo). IsAmong c.in-Some.info.now l) c.as_slice.ensures.value found.0 in
    let bytes = c.as_slice-2.ensures ∙ c.in-Ok.ensures.bytes in
    let now : without_index c.in-Some.info.now.name c.self.inside.indexes.items ≡ c.drop_index_of.new.indexes.items = ap (λ (k : List ℕ). without_index k c.self.inside.indexes.items) found.1 ∙ sym c.drop_index_of.ensures in
    let whole = subst (λ (d : Directory). HoldsCatalog g.P.Pages c.args.pages.now d footprint free) (sym is) held in
    let places = c.in_ok-place.ensures.found tells in
    let b = to_beside g.P.Pages c.args.pages.now view footprint free whole in
    let place = places view.chain whole.stored.links b.1 b.0.held in
    removed_catalog g.P.Pages c.args.pages.now c.find_place.new.pages c.remove.new.pages view c.in_ok-place.place.before c.in_ok-place.place.page c.in_ok-place.place.slot c.as_slice-2.result.now
    c.in_ok-place.ensures.map c.in_ok-place.ensures.count places footprint free whole c.self.inside.tables.items c.drop_index_of.new.indexes.items c.remove.new.self
    (λ later then.
    subst (λ (l : List IndexInfo). Becomes later c.self.inside.tables.items l) now
    (index_becomes (entries_of whole.stored.links) place.front place.back (record { page = c.in_ok-place.place.page; slot = c.in_ok-place.place.slot; item = c.as_slice-2.result.now }) view.tables view.indexes
    whole.stored.spelled whole.stored.valid place.is later c.in-Some.info.now bytes c.in-Ok.ensures.fits then))
    c.in_ok-remove.ensures.first (c.in_ok-remove.ensures.removed tells)

pub invariant_of-self : goal.invariant_of-self
invariant_of-self g c =
    let found = find_some (λ (i : IndexInfo). i.name) bytes_eq bytes_eq-Decides c.as_slice.result.now c.args.name.now c.in-Some.info.now (sym c.in-Some.ensures) in
    let among : IsAmong c.in-Some.info.now c.self.inside.indexes.items = subst (λ (l : List IndexInfo). IsAmong c.in-Some.info.now l) c.as_slice.ensures.value found.0 in
    let now : without_index c.in-Some.info.now.name c.self.inside.indexes.items ≡ c.drop_index_of.new.indexes.items = ap (λ (k : List ℕ). without_index k c.self.inside.indexes.items) found.1 ∙ sym c.drop_index_of.ensures in
    subst (λ (l : List IndexInfo). AreCatalog c.self.inside.tables.items l) now (index_valid c.self.inside.tables.items c.self.inside.indexes.items c.self.invariant c.in-Some.info.now among)
