use Rattle.std.proofs.Common.{◌++◌, ◌∙◌, List, take, get_or, sym, ap, arith}
use Rattle.std.proofs.lemmas.Result.{err_from_is_err_and}
use Rattle.gx_pages.specs.declared.row.RowRef.{RowRef}
use Rattle.gx_pages.proofs.Footprints.{cause_weaker, quiet_join}
use Rattle.gx_gin_entry.specs.declared.listing.EntryBytes.{EntryBytes}
use Rattle.gx_gin_scan.specs.Lists.{Lists}
use Rattle.gx_gin_scan.specs.Searches.{all_rows}
use Rattle.gx_gin_scan.proofs.Held.{posting_at}
use Rattle.gx_gin_scan.proofs.Listed.{posted, posted_all}
use Rattle.gx_gin_scan.proofs.looking.rows_of_entries.Goals as goal

pub returns-in_err-list-clause-cause : goal.returns-in_err-list-clause-cause
returns-in_err-list-clause-cause g c =
    let p = err_from_is_err_and c.from_residual.result c.from_residual.ensures.1 in
    let old = c.args.pages.now in
    let mid = c.loop-entry.pages in
    let entry = c.entry-item.result in
    rw (p.1, p.2)
    (cause_weaker c.in_err-list.field-0.0 (g.P.Pages.faults old) (g.P.Pages.faults mid) (g.P.Pages.faults c.rows_of_posting.new.pages) (g.P.Pages.faults c.rows_of_posting.new.pages)
    _ _ _ _ _ _ (let q = c.loop-entry.invariant.quiet.faults in omega (arith, q)) (omega arith)
    (λ at expected found refused tells lists feet are.
    let one = posted (g.P.Pages.map old) (g.P.Pages.count old) c.args.entries.now lists feet c.loop-entry.entry-index entry are c.loop-entry-test.true in
    refused tells one.list.1 one.own
    (posting_at (g.P.Pages.map old) (g.P.Pages.map mid) (g.P.Pages.count old) (g.P.Pages.count mid) (get_or c.args.entries.now c.loop-entry.entry-index entry).posting c.as_slice.result.now one.list.1 one.own
    c.loop-entry.invariant.map c.loop-entry.invariant.count (c.as_slice.ensures ∙ ap (λ (e : EntryBytes). e.posting) c.entry-item.is) one.stands))
    (λ n none. none) (λ m. m) c.in_err-list.ensures.cause)

pub returns-in_err-list-clause-quiet : goal.returns-in_err-list-clause-quiet
returns-in_err-list-clause-quiet g c = quiet_join g.P.Pages g.met.P.Pages.follows_on c.args.pages.now c.loop-entry.pages c.rows_of_posting.new.pages c.loop-entry.invariant.quiet c.in_err-list.ensures.quiet

pub returns-in_err-push_rows-clause-quiet : goal.returns-in_err-push_rows-clause-quiet
returns-in_err-push_rows-clause-quiet g c = quiet_join g.P.Pages g.met.P.Pages.follows_on c.args.pages.now c.loop-entry.pages c.rows_of_posting.new.pages c.loop-entry.invariant.quiet c.in_ok-list.ensures.quiet

pub loop-entry-preserved : goal.loop-entry-preserved
loop-entry-preserved g c =
    let old = c.args.pages.now in
    let mid = c.loop-entry.pages in
    let before = c.loop-entry.invariant in
    let entry = c.entry-item.result in
    record {
      rows = λ tells lists feet are.
          let one = posted (g.P.Pages.map old) (g.P.Pages.count old) c.args.entries.now lists feet c.loop-entry.entry-index entry are c.loop-entry-test.true in
          let list = c.in_ok-list.ensures.rows tells one.list.1 one.own
          (posting_at (g.P.Pages.map old) (g.P.Pages.map mid) (g.P.Pages.count old) (g.P.Pages.count mid) (get_or c.args.entries.now c.loop-entry.entry-index entry).posting c.as_slice.result.now one.list.1 one.own
          before.map before.count (c.as_slice.ensures ∙ ap (λ (e : EntryBytes). e.posting) c.entry-item.is) one.stands) in
          c.in_ok-push_rows.ensures.ok ∙ ap (λ (l : List RowRef). l ++ c.in_ok-list.list) (before.rows tells lists feet are)
          ∙ ap (λ (l : List RowRef). all_rows (take c.loop-entry.entry-index lists) ++ l) list ∙ sym one.more;
      map = c.in_ok-list.ensures.map ∙ before.map;
      count = c.in_ok-list.ensures.count ∙ before.count;
      heap = c.in_ok-list.ensures.heap tt ∙ before.heap;
      quiet = quiet_join g.P.Pages g.met.P.Pages.follows_on old mid c.rows_of_posting.new.pages before.quiet c.in_ok-list.ensures.quiet;
    }

pub returns-clause-rows : goal.returns-clause-rows
returns-clause-rows g c = λ tells lists feet are.
    let past = c.loop-entry-test.false in
    c.loop-entry.invariant.rows tells lists feet are
    ∙ ap (λ (l : Lists). all_rows l) (posted_all (g.P.Pages.map c.args.pages.now) (g.P.Pages.count c.args.pages.now) c.args.entries.now lists feet c.loop-entry.entry-index are (omega (arith, past)))
