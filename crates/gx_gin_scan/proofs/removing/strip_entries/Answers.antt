use Rattle.std.proofs.Common.{◌+◌, ◌∙◌, ◌∷◌, ◌++◌, List, drop, refl, sym, ap, subst, arith}
use Rattle.std.proofs.lemmas.Result.{err_from_is_err_and}
use Rattle.gx_pages.proofs.Footprints.{cause_weaker, quiet_join, quiet_none}
use Rattle.gx_gin_entry.specs.EntryTrees.{Entry}
use Rattle.gx_gin_entry.specs.Listed.{entries_of}
use Rattle.gx_gin_entry.specs.declared.listing.EntryBytes.{EntryBytes}
use Rattle.gx_gin_scan.specs.Removing.{LosesRows}
use Rattle.gx_gin_scan.proofs.Strips.{entries_cut, walks_all, walks_next, walks_none}
use Rattle.gx_gin_scan.proofs.removing.strip_entries.Goals as goal

pub loop-entry-init : goal.loop-entry-init
loop-entry-init g c = record {
  stripped = λ tells lists feet free gin are. walks_none g.P.Pages c.args.pages.now c.args.root lists feet free c.args.entries.now c.args.gone.now gin are;
  count = refl;
  heap = refl;
  quiet = quiet_none g.P.Pages g.met.P.Pages.follows_itself c.args.pages.now;
}

pub returns-in_err-strip_entry-clause-cause : goal.returns-in_err-strip_entry-clause-cause
returns-in_err-strip_entry-clause-cause g c =
    let p = err_from_is_err_and c.from_residual.result c.from_residual.ensures.1 in
    let old = c.args.pages.now in
    let now = c.loop-entry.pages in
    let entry = c.entry-item.result in
    let entries = c.args.entries.now in
    let i = c.loop-entry.entry-index in
    rw (p.1, p.2)
    (cause_weaker c.in_err-strip_entry.field-0.0 (g.P.Pages.faults old) (g.P.Pages.faults now) (g.P.Pages.faults c.strip_entry.new.pages) (g.P.Pages.faults c.strip_entry.new.pages)
    _ _ _ _ _ _ (let q = c.loop-entry.invariant.quiet.faults in omega (arith, q)) (omega arith)
    (λ at expected found refused tells lists feet free gin are.
    let w = c.loop-entry.invariant.stripped tells lists feet free gin are in
    let cut = w.are ∙ ap (λ (l : List Entry). w.done ++ l) (entries_cut entries i entry c.loop-entry-test.true) in
    refused tells w.after w.later w.rest w.gin w.done (drop (i + 1) (entries_of entries)) (cut ∙ ap (λ (e : EntryBytes). w.done ++ (e.key, e.posting) ∷ drop (i + 1) (entries_of entries)) (sym c.entry-item.is)))
    (λ n none. none) (λ m. m) c.in_err-strip_entry.ensures.cause)

pub loop-entry-preserved : goal.loop-entry-preserved
loop-entry-preserved g c =
    let old = c.args.pages.now in
    let now = c.loop-entry.pages in
    let new = c.strip_entry.new.pages in
    let before = c.loop-entry.invariant in
    let entry = c.entry-item.result in
    let entries = c.args.entries.now in
    let gone = c.args.gone.now in
    let i = c.loop-entry.entry-index in
    record {
      stripped = λ tells lists feet free gin are.
          let w = before.stripped tells lists feet free gin are in
          let cut = w.are ∙ ap (λ (l : List Entry). w.done ++ l) (entries_cut entries i entry c.loop-entry-test.true) in
          let lost = c.in_ok-strip_entry.ensures.stripped tells w.after w.later w.rest w.gin w.done (drop (i + 1) (entries_of entries))
          (cut ∙ ap (λ (e : EntryBytes). w.done ++ (e.key, e.posting) ∷ drop (i + 1) (entries_of entries)) (sym c.entry-item.is)) in
          walks_next g.P.Pages old c.args.root lists feet free entries gone now new i entry c.loop-entry-test.true w
          (subst (λ (e : EntryBytes). LosesRows g.P.Pages now new c.args.root w.after w.later w.rest w.done e.key (drop (i + 1) (entries_of entries)) gone) c.entry-item.is lost);
      count = c.in_ok-strip_entry.ensures.count ∙ before.count;
      heap = c.in_ok-strip_entry.ensures.heap tt ∙ before.heap;
      quiet = quiet_join g.P.Pages g.met.P.Pages.follows_on old now new before.quiet c.in_ok-strip_entry.ensures.quiet;
    }

pub returns-in_err-strip_entry-clause-quiet : goal.returns-in_err-strip_entry-clause-quiet
returns-in_err-strip_entry-clause-quiet g c = quiet_join g.P.Pages g.met.P.Pages.follows_on c.args.pages.now c.loop-entry.pages c.strip_entry.new.pages c.loop-entry.invariant.quiet c.in_err-strip_entry.ensures.quiet

pub returns-clause-stripped : goal.returns-clause-stripped
returns-clause-stripped g c = λ tells lists feet free gin are.
    let past = c.loop-entry-test.false in
    walks_all g.P.Pages c.args.pages.now c.args.root lists feet free c.args.entries.now c.args.gone.now gin are c.loop-entry.pages c.loop-entry.entry-index (omega (arith, past)) (c.loop-entry.invariant.stripped tells lists feet free gin are)
