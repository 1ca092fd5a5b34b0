use Rattle.std.proofs.Common.{List, [], length, ◌∙◌, ap, arith}
use Rattle.std.proofs.lemmas.Result.{err_from_is_err_and}
use Rattle.gx_pages.proofs.Footprints.{cause_weaker}
use Rattle.gx_catalog.specs.declared.info.IndexInfo.{IndexInfo}
use Rattle.gx_step.proofs.Loading.{loads, opened}
use Rattle.gx_step.proofs.opening.load.Goals as goal

pub returns-in_err-catalog-clause-cause : goal.returns-in_err-catalog-clause-cause
returns-in_err-catalog-clause-cause g c =
    let p = err_from_is_err_and c.from_residual.result c.from_residual.ensures.1 in
    rw (p.1, p.2)
    (cause_weaker c.in_err-catalog.field-0.0 (g.P.Pages.faults c.args.pages.now) (g.P.Pages.faults c.args.pages.now) (g.P.Pages.faults c.load.new.pages) (g.P.Pages.faults c.load.new.pages)
    _ _ _ _ _ _ (omega arith) (omega arith)
    (λ at expected found broken tells db s.
    broken tells s.infos [] s.feet (loads g.P.Pages c.args.pages.now db s (record {
      counted = g.met.P.Pages.counted c.args.pages.now tells;
      bounded = g.met.P.Pages.bounded c.args.pages.now;
      ends = g.met.P.Pages.ends c.args.pages.now tells;
    })))
    (λ n no. absurd no) (λ memory. tt) c.in_err-catalog.ensures.cause)

pub returns-then-indexes-ne0-clause-cause : goal.returns-then-indexes-ne0-clause-cause
returns-then-indexes-ne0-clause-cause g c = (
  λ same. omega (arith, same),
  λ tells db s.
      let o = opened g.P.Pages c.args.pages.now c.load.new.pages c.in_ok-catalog.catalog db s (record {
        counted = g.met.P.Pages.counted c.args.pages.now tells;
        bounded = g.met.P.Pages.bounded c.args.pages.now;
        ends = g.met.P.Pages.ends c.args.pages.now tells;
      }) c.in_ok-catalog.ensures.map c.in_ok-catalog.ensures.count (c.in_ok-catalog.ensures.held tells) in
      let none = ap (λ (l : List IndexInfo). length l) (c.indexes-indexes.ensures.value ∙ o.holds.bare) in
      omega (arith, none),
)

pub returns-clause-opened : goal.returns-clause-opened
returns-clause-opened g c = λ tells db s.
    opened g.P.Pages c.args.pages.now c.load.new.pages c.in_ok-catalog.catalog db s (record {
      counted = g.met.P.Pages.counted c.args.pages.now tells;
      bounded = g.met.P.Pages.bounded c.args.pages.now;
      ends = g.met.P.Pages.ends c.args.pages.now tells;
    }) c.in_ok-catalog.ensures.map c.in_ok-catalog.ensures.count (c.in_ok-catalog.ensures.held tells)
