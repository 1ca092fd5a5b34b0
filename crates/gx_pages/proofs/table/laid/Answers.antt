use Rattle.std.proofs.Common.{◌≡◌, ◌==◌, if◌then◌else◌, take, replicate, sym, ◌∙◌, arith}
use Rattle.std.proofs.lemmas.Grind.{common_steps}
use Rattle.std.specs.BTreeMap.{get}
use Rattle.std.specs.Ordering.{nat_cmp}
use Rattle.gx_pages.specs.Contents.{bytes_of, given}
use Rattle.gx_pages.proofs.Giving.{given_more}
use Rattle.gx_pages.proofs.table.laid.Goals as goal

pub loop-i-preserved : goal.loop-i-preserved
loop-i-preserved c = λ n.
    let pages = c.args.pages.now in
    let i = c.loop-i.i in
    let page = c.index-pages-i.result in
    let step : bytes_of (get nat_cmp c.insert.new.self n) ≡ (if n == i then page else given (take i pages) n) = grind (arith, common_steps, c.loop-i.invariant n, c.in_ok-insert.ensures.updates.0 n, c.in_ok-page.ensures) in
    step ∙ sym (given_more pages i n page (replicate 8192 0) (omega arith) c.index-pages-i.is)
