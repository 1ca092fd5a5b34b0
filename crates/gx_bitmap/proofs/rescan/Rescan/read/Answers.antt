use Rattle.std.proofs.Common.{◌≡◌, true, false, List, ℕ, Option, refl, sym, ◌∙◌, ap, subst, arith}
use Rattle.std.proofs.lemmas.Result.{err_from_is_err_and}
use Rattle.gx_pages.proofs.Footprints.{cause_weaker}
use Rattle.gx_chain.proofs.Links.{broken_cause}
use Rattle.gx_heap.proofs.Finds.{heap_same}
use Rattle.gx_bitmap.specs.declared.rescan.KeptPage.{KeptPage}
use Rattle.gx_bitmap.specs.Scans.{Scan, IsKept}
use Rattle.gx_bitmap.proofs.Walking.{kept_read, tested_no, tested_yes}
use Rattle.gx_bitmap.proofs.rescan.Rescan.read.Goals as goal

pub returns-in_err-keep-clause-cause : goal.returns-in_err-keep-clause-cause
returns-in_err-keep-clause-cause g c =
    let p = err_from_is_err_and c.from_residual.result c.from_residual.ensures.1 in
    rw (p.1, p.2)
    (cause_weaker c.in_err-keep.field-0.0 (g.P.Pages.faults c.args.pages.now) (g.P.Pages.faults c.args.pages.now) (g.P.Pages.faults c.keep.new.pages) (g.P.Pages.faults c.keep.new.pages)
    _ _ _ _ _ _ (omega arith) (omega arith)
    (λ at expected found broken tells kept rows feet free held is. broken tells rows feet free held (c.args.at, is, refl))
    (λ n none. absurd none) (λ none. absurd none) c.in_err-keep.ensures.cause)

pub returns-in_err-row-clause-cause : goal.returns-in_err-row-clause-cause
returns-in_err-row-clause-cause g c =
    let p = err_from_is_err_and c.from_residual-in_err-row.result c.from_residual-in_err-row.ensures.1 in
    rw (p.1, p.2)
    (broken_cause c.in_err-row.field-0.0 c.args.at.page (g.P.Pages.faults c.args.pages.now) (g.P.Pages.faults c.keep.new.pages) _ _ _ c.in_err-row.ensures.broken
    (λ at expected what tells kept rows feet free held is.
    let inside : IsKept (g.P.Pages.map c.args.pages.now) c.self.inside.kept = subst (λ (o : Option KeptPage). IsKept (g.P.Pages.map c.args.pages.now) o) (sym (ap (λ (s : Scan g.row.K.Denot). s.kept) c.self.view_is)) kept in
    let read = kept_read (g.P.Pages.map c.keep.new.pages) c.keep.new.kept c.in-Some.page c.args.at.page c.in-Some.is c.in_ok-keep.ensures.page.0 (c.in_ok-keep.ensures.kept tells inside) in
    c.in_err-row.ensures.err tells read rows feet free
    (heap_same g.P.Pages c.args.pages.now c.keep.new.pages c.args.heap.now rows feet free c.in_ok-keep.ensures.map c.in_ok-keep.ensures.count held) is))

pub returns-then-not-passes-clause-found : goal.returns-then-not-passes-clause-found
returns-then-not-passes-clause-found g c = λ tells kept rows feet free held bytes is.
    let inside : IsKept (g.P.Pages.map c.args.pages.now) c.self.inside.kept = subst (λ (o : Option KeptPage). IsKept (g.P.Pages.map c.args.pages.now) o) (sym (ap (λ (s : Scan g.row.K.Denot). s.kept) c.self.view_is)) kept in
    let read = kept_read (g.P.Pages.map c.keep.new.pages) c.keep.new.kept c.in-Some.page c.args.at.page c.in-Some.is c.in_ok-keep.ensures.page.0 (c.in_ok-keep.ensures.kept tells inside) in
    let row = c.in_ok-row.ensures.found tells read rows bytes feet free
    (heap_same g.P.Pages c.args.pages.now c.keep.new.pages c.args.heap.now rows feet free c.in_ok-keep.ensures.map c.in_ok-keep.ensures.count held) is in
    let test = ap (λ (s : Scan g.row.K.Denot). s.test) c.self.view_is in
    let tells_no : g.K.RowTest.passes c.args.self.now.test bytes ≡ false =
    ap (λ (t : g.row.K.Denot). g.K.RowTest.passes t bytes) (sym test) ∙ ap (λ (b : List ℕ). g.K.RowTest.passes c.self.inside.test b) (sym row) ∙ sym c.in-Ok.ensures ∙ c.if-not-passes.true in
    tested_no (g.K.RowTest.passes c.args.self.now.test bytes) bytes tells_no

pub returns-clause-found : goal.returns-clause-found
returns-clause-found g c = λ tells kept rows feet free held bytes is.
    let inside : IsKept (g.P.Pages.map c.args.pages.now) c.self.inside.kept = subst (λ (o : Option KeptPage). IsKept (g.P.Pages.map c.args.pages.now) o) (sym (ap (λ (s : Scan g.row.K.Denot). s.kept) c.self.view_is)) kept in
    let read = kept_read (g.P.Pages.map c.keep.new.pages) c.keep.new.kept c.in-Some.page c.args.at.page c.in-Some.is c.in_ok-keep.ensures.page.0 (c.in_ok-keep.ensures.kept tells inside) in
    let row = c.in_ok-row.ensures.found tells read rows bytes feet free
    (heap_same g.P.Pages c.args.pages.now c.keep.new.pages c.args.heap.now rows feet free c.in_ok-keep.ensures.map c.in_ok-keep.ensures.count held) is in
    let test = ap (λ (s : Scan g.row.K.Denot). s.test) c.self.view_is in
    let tells_yes : g.K.RowTest.passes c.args.self.now.test bytes ≡ true =
    ap (λ (t : g.row.K.Denot). g.K.RowTest.passes t bytes) (sym test) ∙ ap (λ (b : List ℕ). g.K.RowTest.passes c.self.inside.test b) (sym row) ∙ sym c.in-Ok.ensures ∙ c.if-not-passes.false in
    tested_yes (g.K.RowTest.passes c.args.self.now.test bytes) bytes c.in-Ok-from_slice.row tells_yes (c.in-Ok-from_slice.ensures ∙ row)
