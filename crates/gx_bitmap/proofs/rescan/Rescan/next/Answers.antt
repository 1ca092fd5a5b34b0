use Rattle.std.proofs.Common.{◌≡◌, List, [], ◌∷◌, ◌++◌, length, Option, Some, None, if◌then◌else◌, sym, ◌∙◌, ap, subst, append_assoc, arith}
use Rattle.std.proofs.lemmas.Result.{err_from_is_err_and}
use Rattle.gx_pages.specs.declared.row.RowRef.{RowRef}
use Rattle.gx_pages.proofs.Footprints.{all_right, cause_weaker, quiet_join}
use Rattle.gx_heap.proofs.Finds.{heap_same}
use Rattle.gx_heap.specs.Heaps.{AreRows, IsRef, turns}
use Rattle.gx_bitmap.specs.declared.rescan.KeptPage.{KeptPage}
use Rattle.gx_bitmap.specs.Scans.{AreCandidates, IsKept, kept_page}
use Rattle.gx_bitmap.proofs.Walking.{gives, skips}
use Rattle.gx_bitmap.proofs.rescan.Rescan.next.Goals as goal

pub returns-in_err-row-clause-cause : goal.returns-in_err-row-clause-cause
returns-in_err-row-clause-cause g c =
    let p = err_from_is_err_and c.from_residual.result c.from_residual.ensures.1 in
    let before = c.loop-at.invariant in
    rw (p.1, p.2)
    (cause_weaker c.in_err-row.field-0.0 (g.P.Pages.faults c.args.pages.now) (g.P.Pages.faults c.loop-at.pages) (g.P.Pages.faults c.read.new.pages) (g.P.Pages.faults c.read.new.pages)
    _ _ _ _ _ _ (let q = before.quiet.faults in omega (arith, q)) (omega arith)
    (λ at expected found broken tells kept rows feet free held are.
    let cut = before.passed.1 ∙ ap (λ (l : List RowRef). before.passed.0 ++ l) c.in-Some.ensures.some in
    broken tells (subst (λ (o : Option KeptPage). IsKept (g.P.Pages.map c.loop-at.pages) o) (sym c.in-Some.ensures.same.1) (before.kept tells kept)) rows feet free
    (heap_same g.P.Pages c.args.pages.now c.loop-at.pages c.args.heap.now rows feet free before.map before.count held)
    (all_right (λ (r : RowRef). IsRef r rows) before.passed.0 (c.in-Some.at ∷ c.pass_first.new.self.left) (subst (λ (l : List RowRef). AreRows l rows) cut are)).0)
    (λ n none. absurd none) (λ memory. memory) c.in_err-row.ensures.cause)

pub returns-in-Some-2-clause-next : goal.returns-in-Some-2-clause-next
returns-in-Some-2-clause-next g c = λ tells kept rows feet free held candidates are.
    let before = c.loop-at.invariant in
    let went = before.skipped tells kept rows feet free held candidates are in
    let test = c.in-Some.ensures.same.0 ∙ before.test in
    let kept_then = subst (λ (o : Option KeptPage). IsKept (g.P.Pages.map c.loop-at.pages) o) (sym c.in-Some.ensures.same.1) (before.kept tells kept) in
    let held_then = heap_same g.P.Pages c.args.pages.now c.loop-at.pages c.args.heap.now rows feet free before.map before.count held in
    gives (g.K.RowTest.passes c.args.self.now.test) c.loop-at.self.left c.read.new.self.left c.in-Some.at rows candidates went.0
    (c.in-Some.ensures.some ∙ ap (λ (l : List RowRef). c.in-Some.at ∷ l) (sym c.in_ok-row.ensures.same.1)) went.1 c.in_ok-row.field-0 went.2
    (λ bytes is.
    c.in_ok-row.ensures.found tells kept_then rows feet free held_then bytes is ∙ ap (λ (t : g.row.K.Denot). if g.K.RowTest.passes t bytes then Some bytes else None) test)
    c.in-Some-2.row c.in-Some-2.is

pub loop-at-preserved : goal.loop-at-preserved
loop-at-preserved g c =
    let before = c.loop-at.invariant in
    let here = c.in_ok-row.ensures in
    let cut = c.in-Some.ensures.some ∙ ap (λ (l : List RowRef). c.in-Some.at ∷ l) (sym here.same.1) in
    record {
      test = here.same.0 ∙ c.in-Some.ensures.same.0 ∙ before.test;
      kept = λ tells kept. here.kept tells (subst (λ (o : Option KeptPage). IsKept (g.P.Pages.map c.loop-at.pages) o) (sym c.in-Some.ensures.same.1) (before.kept tells kept));
      skipped = λ tells kept rows feet free held candidates are.
          let went = before.skipped tells kept rows feet free held candidates are in
          let test = c.in-Some.ensures.same.0 ∙ before.test in
          let kept_then = subst (λ (o : Option KeptPage). IsKept (g.P.Pages.map c.loop-at.pages) o) (sym c.in-Some.ensures.same.1) (before.kept tells kept) in
          let held_then = heap_same g.P.Pages c.args.pages.now c.loop-at.pages c.args.heap.now rows feet free before.map before.count held in
          skips (g.K.RowTest.passes c.args.self.now.test) c.loop-at.self.left c.read.new.self.left c.in-Some.at rows candidates went.0 cut went.1 c.in_ok-row.field-0 went.2
          (λ bytes is.
          here.found tells kept_then rows feet free held_then bytes is ∙ ap (λ (t : g.row.K.Denot). if g.K.RowTest.passes t bytes then Some bytes else None) test)
          c.in_default-2.is;
      passed = (
        before.passed.0 ++ c.in-Some.at ∷ [],
        before.passed.1 ∙ ap (λ (l : List RowRef). before.passed.0 ++ l) cut ∙ sym (append_assoc before.passed.0 (c.in-Some.at ∷ []) c.read.new.self.left),
      );
      map = here.map ∙ before.map;
      count = here.count ∙ before.count;
      ticks = (let first = before.ticks in let after = here.ticks in omega (arith, first, after));
      most = (let first = before.most in let after = here.most in let long = ap (λ (l : List RowRef). length l) cut in omega (arith, first, after, long));
      fetches = (let first = before.fetches in
          let after = here.fetches c.read.new.self.left in
          let same : turns (kept_page c.pass_first.new.self.kept) (c.in-Some.at ∷ c.read.new.self.left) ≡ turns (kept_page c.loop-at.self.kept) c.loop-at.self.left =
          ap (λ (o : Option KeptPage). turns (kept_page o) (c.in-Some.at ∷ c.read.new.self.left)) c.in-Some.ensures.same.1 ∙ ap (λ (l : List RowRef). turns (kept_page c.loop-at.self.kept) l) (sym cut) in
          omega (arith, first, after, same));
      quiet = quiet_join g.P.Pages g.met.P.Pages.follows_on c.args.pages.now c.loop-at.pages c.read.new.pages before.quiet here.quiet;
    }

pub returns-clause-next : goal.returns-clause-next
returns-clause-next g c = λ tells kept rows feet free held candidates are.
    let went = c.loop-at.invariant.skipped tells kept rows feet free held candidates are in
    (went.0, subst (λ (l : List RowRef). AreCandidates l rows went.0) (c.in_default.ensures.none ∙ sym c.in_default.ensures.end) went.1, went.2)
