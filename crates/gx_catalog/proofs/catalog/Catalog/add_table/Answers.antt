use Rattle.std.proofs.Common.{◌≡◌, ◌≤◌, ◌++◌, ◌∷◌, [], List, ℕ, length, sym, ◌∙◌, ap, subst, append-nil, arith}
use Rattle.std.proofs.lemmas.Result.{err_from_is_err_and}
use Rattle.gx_pages.proofs.Footprints as feet
use Rattle.gx_catalog.specs.declared.info.TableInfo.{TableInfo}
use Rattle.gx_catalog.specs.declared.info.Item.TheVariants.{Table}
use Rattle.gx_chain.specs.Chains.{HoldsNone}
use Rattle.gx_catalog.specs.Catalogs.{Directory, HoldsCatalog}
use Rattle.gx_catalog.specs.Validity.{AreCatalog, IsTable}
use Rattle.gx_catalog.proofs.Adding.{added_item, no_catalog}
use Rattle.gx_catalog.proofs.Lengths.{table_len}
use Rattle.gx_catalog.proofs.catalog.Catalog.add_table.Goals as goal

pub append-requires : goal.append-requires
append-requires g c =
    let is : IsTable c.args.table = (feet.all_right IsTable c.args.self.now.tables (c.args.table ∷ []) c.requires.each_table).0 in
    let short = table_len c.args.table is in
    let long = ap (λ (l : List ℕ). length l) (c.as_slice.ensures ∙ c.in-Ok.ensures.bytes) in
    omega (arith, short, long)

pub returns-in_err-append-clause-cause : goal.returns-in_err-append-clause-cause
returns-in_err-append-clause-cause g c =
    let p = err_from_is_err_and c.from_residual.result c.from_residual.ensures.1 in
    let view : Directory = record { chain = c.self.inside.chain; tables = c.self.inside.tables.items; indexes = c.self.inside.indexes.items } in
    let is : view ≡ c.args.self.now = cc in
    rw (p.1, p.2)
    (feet.cause_weaker c.in_err-append.field-0.0 (g.P.Pages.faults c.args.pages.now) (g.P.Pages.faults c.args.pages.now) (g.P.Pages.faults c.append.new.pages) (g.P.Pages.faults c.append.new.pages)
    _ _ _ _ _ _ (omega arith) (omega arith)
    (λ at expected found broken tells. no_catalog g.P.Pages c.args.pages.now c.args.self.now (subst (λ (d : Directory). HoldsNone g.P.Pages c.args.pages.now 3 d.chain) is (broken tells)))
    (λ n full. full.0) (λ memory. tt) c.in_err-append.ensures.cause)

pub returns-clause-added : goal.returns-clause-added
returns-clause-added g c = λ tells footprint free held.
    let view : Directory = record { chain = c.self.inside.chain; tables = c.self.inside.tables.items; indexes = c.self.inside.indexes.items } in
    let is : view ≡ c.args.self.now = cc in
    added_item g.P.Pages c.args.pages.now c.append.new.pages view c.append.new.self c.push.new.self.items c.self.inside.indexes.items (Table c.args.table) c.as_slice.result.now c.in_ok-append.field-0.0 c.in_ok-append.field-0.1
    (c.as_slice.ensures ∙ c.in-Ok.ensures.bytes) c.in-Ok.ensures.fits
    (c.in-Ok-push.ensures.items ∙ ap (λ (l : List TableInfo). l ++ c.args.table ∷ []) c.in-Ok-reserve.ensures.items)
    (sym (append-nil c.self.inside.indexes.items))
    (subst (λ (l : List TableInfo). AreCatalog l c.self.inside.indexes.items) (sym (c.in-Ok-push.ensures.items ∙ ap (λ (l : List TableInfo). l ++ c.args.table ∷ []) c.in-Ok-reserve.ensures.items)) (subst (λ (d : Directory). AreCatalog (d.tables ++ c.args.table ∷ []) d.indexes) (sym is) c.requires))
    c.in_ok-append.ensures.first (c.in_ok-append.ensures.added tells) footprint free (subst (λ (d : Directory). HoldsCatalog g.P.Pages c.args.pages.now d footprint free) (sym is) held)
