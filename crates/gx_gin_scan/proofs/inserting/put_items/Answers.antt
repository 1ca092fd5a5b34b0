use Rattle.std.proofs.Common.{◌∙◌, ◌∷◌, [], ℕ, List, map, refl, sym, subst, arith}
use Rattle.std.proofs.lemmas.Result.{err_from_is_err_and}
use Rattle.gx_pages.specs.Footprints.{KeepsPages}
use Rattle.gx_pages.specs.Rows.{AreBelow}
use Rattle.gx_pages.proofs.Footprints.{cause_weaker, quiet_join, quiet_none}
use Rattle.gx_gin_scan.specs.Gins.{HoldsGin}
use Rattle.gx_gin_scan.specs.Lists.{Grows, Lists, rows_under}
use Rattle.gx_gin_scan.specs.Searches.{item_key}
use Rattle.gx_gin_scan.proofs.Inserts.{key_below, more_so_far, none_so_far}
use Rattle.gx_gin_scan.proofs.Walked.{take_whole}
use Rattle.gx_gin_scan.proofs.inserting.put_items.Goals as goal

pub loop-at-init : goal.loop-at-init
loop-at-init g c = record {
  put = λ tells lists feet free gin behind. none_so_far g.P.Pages c.args.pages.now c.args.root lists feet free c.args.row c.args.items.now gin;
  grows = omega arith;
  by = omega arith;
  heap = refl;
  quiet = quiet_none g.P.Pages g.met.P.Pages.follows_itself c.args.pages.now;
}

pub returns-in_err-put_row-clause-cause : goal.returns-in_err-put_row-clause-cause
returns-in_err-put_row-clause-cause g c =
    let p = err_from_is_err_and c.from_residual-in_err-put_row.result c.from_residual-in_err-put_row.ensures.1 in
    let old = c.args.pages.now in
    let mid = c.loop-at.pages in
    let items = c.args.items.now in
    let i = c.loop-at.at in
    let key = c.as_slice.ensures ∙ c.in_ok-key.ensures.key in
    rw (p.1, p.2)
    (cause_weaker c.in_err-put_row.field-0.0 (g.P.Pages.faults old) (g.P.Pages.faults mid) (g.P.Pages.faults c.put_row.new.pages) (g.P.Pages.faults c.put_row.new.pages)
    _ _ _ _ _ _ (let q = c.loop-at.invariant.quiet.faults in omega (arith, q)) (omega arith)
    (λ at expected found refused tells lists feet free gin behind.
    let so_far = c.loop-at.invariant.put tells lists feet free gin behind in
    refused tells so_far.after so_far.later so_far.rest so_far.gin
    (subst (λ (k : List ℕ). AreBelow (rows_under so_far.after k) c.args.row.number) (sym key) (key_below items i c.in-Some.item.now c.args.row lists so_far.after c.len-at-end.ensures.rising c.in-Some.ensures.some behind so_far.grows)))
    (λ n space. space) (λ m. m) c.in_err-put_row.ensures.cause)

pub loop-at-preserved : goal.loop-at-preserved
loop-at-preserved g c =
    let old = c.args.pages.now in
    let mid = c.loop-at.pages in
    let new = c.put_row.new.pages in
    let before = c.loop-at.invariant in
    let items = c.args.items.now in
    let i = c.loop-at.at in
    let item = c.in-Some.item.now in
    let key = c.as_slice.ensures ∙ c.in_ok-key.ensures.key in
    record {
      put = λ tells lists feet free gin behind.
          let so_far = before.put tells lists feet free gin behind in
          let below = key_below items i item c.args.row lists so_far.after c.len-at-end.ensures.rising c.in-Some.ensures.some behind so_far.grows in
          more_so_far g.P.Pages old c.args.root lists feet free c.args.row items mid new i item c.len-at-end.ensures.rising c.in-Some.ensures.some so_far
          (subst (λ (k : List ℕ). AreBelow (rows_under so_far.after k) c.args.row.number → (after : Lists) × (later : List ℕ) × (rest : List ℕ) × HoldsGin g.P.Pages new c.args.root after later rest
          × KeepsPages g.P.Pages mid new so_far.later so_far.rest later rest × Grows (k ∷ []) c.args.row so_far.after after)
          key (c.in_ok-put_row.ensures.put tells so_far.after so_far.later so_far.rest so_far.gin) below);
      grows = (let a = before.grows in let b = c.in_ok-put_row.ensures.grows in omega (arith, a, b));
      by = (let a = before.by in let b = c.in_ok-put_row.ensures.by in omega (arith, a, b));
      heap = c.in_ok-put_row.ensures.heap tt ∙ before.heap;
      quiet = quiet_join g.P.Pages g.met.P.Pages.follows_on old mid new before.quiet c.in_ok-put_row.ensures.quiet;
    }

pub returns-clause-put : goal.returns-clause-put
returns-clause-put g c = λ tells lists feet free gin behind.
    let so_far = c.loop-at.invariant.put tells lists feet free gin behind in
    let past = c.loop-at-test.false in
    let size = c.len-at-end.ensures.value in
    let whole = take_whole c.args.items.now c.loop-at.at (omega (arith, past, size)) in
    (so_far.after, so_far.later, so_far.rest, so_far.gin, so_far.keeps, subst (λ (l : List (List ℕ)). Grows (map item_key l) c.args.row lists so_far.after) whole so_far.grows)
