use Rattle.std.proofs.Common.{◌∙◌, get_or, refl, ap, arith}
use Rattle.std.proofs.lemmas.Result.{err_from_is_err_and}
use Rattle.gx_pages.proofs.Footprints.{cause_weaker, quiet_join, quiet_none}
use Rattle.gx_gin_entry.specs.declared.listing.EntryBytes.{EntryBytes}
use Rattle.gx_gin_scan.proofs.Frames.{drops_all, drops_front, drops_next, drops_none, front_apart}
use Rattle.gx_gin_scan.proofs.Held.{posting_at}
use Rattle.gx_gin_scan.proofs.dropping.drop_postings.Goals as goal

pub loop-entry-init : goal.loop-entry-init
loop-entry-init g c = record {
  dropped = λ tells lists feet free are frees apart. drops_none g.P.Pages c.args.pages.now c.args.entries.now lists feet free are frees apart;
  count = refl;
  heap = refl;
  quiet = quiet_none g.P.Pages g.met.P.Pages.follows_itself c.args.pages.now;
}

pub returns-in_err-drop_posting-clause-quiet : goal.returns-in_err-drop_posting-clause-quiet
returns-in_err-drop_posting-clause-quiet g c = quiet_join g.P.Pages g.met.P.Pages.follows_on c.args.pages.now c.loop-entry.pages c.drop_posting.new.pages c.loop-entry.invariant.quiet c.in_err-drop_posting.ensures.quiet

pub returns-in_err-drop_posting-clause-cause : goal.returns-in_err-drop_posting-clause-cause
returns-in_err-drop_posting-clause-cause g c =
    let p = err_from_is_err_and c.from_residual.result c.from_residual.ensures.1 in
    let old = c.args.pages.now in
    let now = c.loop-entry.pages in
    let entry = c.entry-item.result in
    rw (p.1, p.2)
    (cause_weaker c.in_err-drop_posting.field-0.0 (g.P.Pages.faults old) (g.P.Pages.faults now) (g.P.Pages.faults c.drop_posting.new.pages) (g.P.Pages.faults c.drop_posting.new.pages)
    _ _ _ _ _ _ (let q = c.loop-entry.invariant.quiet.faults in omega (arith, q)) (omega arith)
    (λ at expected found refused tells lists feet free are frees apart.
    let drops = c.loop-entry.invariant.dropped tells lists feet free are frees apart in
    let front = drops_front g.P.Pages old c.args.entries.now lists feet free now c.loop-entry.entry-index entry c.loop-entry-test.true drops in
    refused tells front.rows front.own drops.rest
    (posting_at (g.P.Pages.map now) (g.P.Pages.map now) (g.P.Pages.count now) (g.P.Pages.count now) (get_or c.args.entries.now c.loop-entry.entry-index entry).posting c.as_slice.result.now front.rows front.own refl refl
    (c.as_slice.ensures ∙ ap (λ (e : EntryBytes). e.posting) c.entry-item.is) front.stands)
    front.keeps.frees
    (front_apart g.P.Pages old c.args.entries.now lists feet free now c.loop-entry.entry-index (get_or c.args.entries.now c.loop-entry.entry-index entry).posting drops.rest front))
    (λ n none. none) (λ m. m) c.in_err-drop_posting.ensures.cause)

pub loop-entry-preserved : goal.loop-entry-preserved
loop-entry-preserved g c =
    let old = c.args.pages.now in
    let now = c.loop-entry.pages in
    let new = c.drop_posting.new.pages in
    let before = c.loop-entry.invariant in
    let entry = c.entry-item.result in
    record {
      dropped = λ tells lists feet free are frees apart.
          let drops = before.dropped tells lists feet free are frees apart in
          let posting = (get_or c.args.entries.now c.loop-entry.entry-index entry).posting in
          let front = drops_front g.P.Pages old c.args.entries.now lists feet free now c.loop-entry.entry-index entry c.loop-entry-test.true drops in
          let gone = c.in_ok-drop_posting.ensures.dropped tells front.rows front.own drops.rest
          (posting_at (g.P.Pages.map now) (g.P.Pages.map now) (g.P.Pages.count now) (g.P.Pages.count now) posting c.as_slice.result.now front.rows front.own refl refl
          (c.as_slice.ensures ∙ ap (λ (e : EntryBytes). e.posting) c.entry-item.is) front.stands)
          front.keeps.frees
          (front_apart g.P.Pages old c.args.entries.now lists feet free now c.loop-entry.entry-index posting drops.rest front) in
          drops_next g.P.Pages old c.args.entries.now lists feet free now new c.loop-entry.entry-index posting drops.rest gone.0 front gone.1;
      count = c.in_ok-drop_posting.ensures.count ∙ before.count;
      heap = c.in_ok-drop_posting.ensures.heap tt ∙ before.heap;
      quiet = quiet_join g.P.Pages g.met.P.Pages.follows_on old now new before.quiet c.in_ok-drop_posting.ensures.quiet;
    }

pub returns-clause-dropped : goal.returns-clause-dropped
returns-clause-dropped g c = λ tells lists feet free are frees apart.
    let past = c.loop-entry-test.false in
    drops_all g.P.Pages c.args.pages.now c.args.entries.now lists feet free c.loop-entry.pages c.loop-entry.entry-index (omega (arith, past)) (c.loop-entry.invariant.dropped tells lists feet free are frees apart)
