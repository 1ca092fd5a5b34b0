use Rattle.std.proofs.Common.{◌≡◌, ◌≢◌, ◌≤◌, ◌<◌, ◌+◌, ◌++◌, ◌∷◌, [], ◌^◌, ℕ, zero, suc, List, Option, Some, None, length, map, refl, sym, ◌∙◌, ap, subst, length-append, arith}
use Rattle.std.proofs.lemmas.Result.{err_from_is_err_and}
use Rattle.gx_bytes.specs.Fields.{le64, length-le64}
use Rattle.gx_words.specs.PageMap.{PageMap, with_page}
use Rattle.gx_pages.specs.Frees.{KeepsHeader}
use Rattle.gx_pages.proofs.Footprints.{cause_weaker, free_list_at, quiet_join, starts_sound, takes_at}
use Rattle.gx_slot.specs.Slots.{Fits, Slots, spelling}
use Rattle.gx_tree.specs.Changing.{Pair, link_bytes}
use Rattle.gx_tree.specs.Trees.{Node, slots, slots_of}
use Rattle.gx_tree.proofs.Causes.{broken_cause, broken_or}
use Rattle.gx_tree.proofs.Raises.{Firsts, first_of, first_refused, firsts, pair_below, pair_found, pair_lacks, pair_low, raised}
use Rattle.gx_tree.proofs.raising.raise.Goals as goal

pub returns-then-up-ge-LEVELS-clause-cause : goal.returns-then-up-ge-LEVELS-clause-cause
returns-then-up-ge-LEVELS-clause-cause g c =
    broken_cause c.broken.result c.args.root _ _ _ _ _ c.broken.ensures (λ tells left other free pair.
    let few = pair_low g.P.Pages c.args.pages.now g.C.Seek.order c.args.kind c.args.level c.args.root left c.args.sibling.now.key other c.args.sibling.now.page free pair (g.met.P.Pages.bounded c.args.pages.now) in
    let many = c.if-up-ge-LEVELS.true in
    omega (arith, few, many))

pub returns-in_err-slots-clause-cause : goal.returns-in_err-slots-clause-cause
returns-in_err-slots-clause-cause g c =
    let p = err_from_is_err_and c.from_residual.result c.from_residual.ensures.1 in
    rw (p.1, p.2)
    (cause_weaker c.in_err-slots.field-0.0 (g.P.Pages.faults c.args.pages.now) (g.P.Pages.faults c.args.pages.now) (g.P.Pages.faults c.fetch_level.new.pages) (g.P.Pages.faults c.fetch_level.new.pages)
    _ _ _ _ _ _ (omega arith) (omega arith)
    (λ at expected found broken tells left other free pair.
    pair_lacks g.P.Pages c.args.pages.now g.C.Seek.order c.args.kind c.args.level c.args.root left c.args.sibling.now.key other c.args.sibling.now.page free pair (broken tells))
    (λ n no. absurd no) (λ no. absurd no) c.in_err-slots.ensures.cause)

pub returns-in_err-key-clause-cause : goal.returns-in_err-key-clause-cause
returns-in_err-key-clause-cause g c =
    let p = err_from_is_err_and c.from_residual-in_err-key.result c.from_residual-in_err-key.ensures.1 in
    rw (p.1, p.2)
    (broken_or c.in_err-key.field-0.0 c.args.root (g.P.Pages.faults c.args.pages.now) (g.P.Pages.faults c.fetch_level.new.pages) _ _ _ _ c.in_err-key.ensures.cause
    (λ refused at expected found tells left other free pair.
    first_refused g.C.Seek.order c.args.kind c.args.level left c.args.sibling.now.key c.in_ok-slots.slots
    (pair_found g.P.Pages c.args.pages.now g.C.Seek.order c.args.kind c.args.level c.args.root left c.args.sibling.now.key other c.args.sibling.now.page free pair c.in_ok-slots.slots (c.in_ok-slots.ensures.one tells))
    pair.some pair.keyed refused.0 refused.1) tt)

pub returns-in_err-left-clause-cause : goal.returns-in_err-left-clause-cause
returns-in_err-left-clause-cause g c =
    let p = err_from_is_err_and c.from_residual-in_err-left.result c.from_residual-in_err-left.ensures.1 in
    let old = c.args.pages.now in
    let mid = c.fetch_level.new.pages in
    rw (p.1, p.2)
    (cause_weaker c.in_err-left.field-0.0 (g.P.Pages.faults old) (g.P.Pages.faults mid) (g.P.Pages.faults c.take.new.self) (g.P.Pages.faults c.take.new.self)
    _ _ _ _ _ _ (let q = c.in_ok-slots.ensures.quiet.faults in omega (arith, q)) (omega arith)
    (λ at expected found broken tells left other free pair.
    starts_sound (g.P.Pages.map mid) (g.P.Pages.count mid) free (broken tells) (free_list_at (g.P.Pages.map mid) (g.P.Pages.map old) (g.P.Pages.count mid) (g.P.Pages.count old) free c.in_ok-slots.ensures.map c.in_ok-slots.ensures.count pair.frees))
    (λ n space. space) (λ no. no) c.in_err-left.ensures.cause)

pub returns-in_err-one-clause-cause : goal.returns-in_err-one-clause-cause
returns-in_err-one-clause-cause g c =
    let p = err_from_is_err_and c.from_residual-in_err-one.result c.from_residual-in_err-one.ensures.1 in
    rw (p.1, p.2, c.in_err-one.ensures.err) tt

pub returns-in_err-other-clause-cause : goal.returns-in_err-other-clause-cause
returns-in_err-other-clause-cause g c =
    let p = err_from_is_err_and c.from_residual-in_err-other.result c.from_residual-in_err-other.ensures.1 in
    rw (p.1, p.2, c.in_err-other.ensures.err) tt

link_short : (item key : List ℕ) (page : ℕ) → item ≡ link_bytes (key, page) → length key ≤ 1903 → length item ≤ 1911
link_short item key page is few = let e = ap (λ (l : List ℕ). length l) is in omega (arith, e, few, length-append key (le64 page), length-le64 page)

pub returns-in_err-top-clause-cause : goal.returns-in_err-top-clause-cause
returns-in_err-top-clause-cause g c =
    let p = err_from_is_err_and c.from_residual-in_err-top.result c.from_residual-in_err-top.ensures.1 in
    let old = c.args.pages.now in
    rw (p.1, p.2)
    (broken_or c.in_err-top.field-0.0 c.args.root (g.P.Pages.faults old) (g.P.Pages.faults c.take.new.self) _ _ _ _ c.in_err-top.ensures.cause
    (λ refused at expected found tells left other free pair.
    let is = pair_found g.P.Pages old g.C.Seek.order c.args.kind c.args.level c.args.root left c.args.sibling.now.key other c.args.sibling.now.page free pair c.in_ok-slots.slots (c.in_ok-slots.ensures.one tells) in
    let first = firsts g.C.Seek.order g.met.C.Seek.lawful c.args.level left c.in_ok-key.key c.args.sibling.now.key pair.keyed
    (first_of g.C.Seek.order c.args.kind c.args.level left c.args.sibling.now.key c.in_ok-key.key c.in_ok-slots.slots is pair.some pair.keyed c.in_ok-key.ensures.leaf c.in_ok-key.ensures.upper) in
    refused
    (link_short c.as_slice-3.result.now c.in_ok-key.key c.in_ok-left.left (c.as_slice-3.ensures ∙ c.in_ok-one.ensures.item ∙ ap (λ (k : List ℕ). link_bytes (k, c.in_ok-left.left)) c.as_slice.ensures)
    (g.met.C.Seek.lawful.short c.in_ok-key.key first.is_key))
    (link_short c.as_slice-4.result.now c.args.sibling.now.key c.args.sibling.now.page (c.as_slice-4.ensures ∙ c.in_ok-other.ensures.item ∙ ap (λ (k : List ℕ). link_bytes (k, c.args.sibling.now.page)) c.as_slice-2.ensures)
    (g.met.C.Seek.lawful.short c.args.sibling.now.key pair.others.0)))
    tt)

pub returns-in_err-put-clause-cause : goal.returns-in_err-put-clause-cause
returns-in_err-put-clause-cause g c =
    let p = err_from_is_err_and c.from_residual-in_err-put.result c.from_residual-in_err-put.ensures.1 in
    rw (p.1, p.2)
    (cause_weaker c.in_err-put.field-0.0 (g.P.Pages.faults c.args.pages.now) (g.P.Pages.faults c.take.new.self) (g.P.Pages.faults c.put.new.self) (g.P.Pages.faults c.put.new.self)
    _ _ _ _ _ _ (let q = c.in_ok-slots.ensures.quiet.faults in let r = c.in_ok-left.ensures.quiet.faults in omega (arith, q, r)) (omega arith)
    (λ at expected found broken tells left other free pair. let below = c.in_ok-left.ensures.below in let past = broken.1 in omega (arith, below, past))
    (λ n no. absurd no) (λ m. m) c.in_err-put.ensures.cause)

pub returns-in_err-put-2-clause-cause : goal.returns-in_err-put-2-clause-cause
returns-in_err-put-2-clause-cause g c =
    let p = err_from_is_err_and c.from_residual-in_err-put-2.result c.from_residual-in_err-put-2.ensures.1 in
    rw (p.1, p.2)
    (cause_weaker c.in_err-put-2.field-0.0 (g.P.Pages.faults c.args.pages.now) (g.P.Pages.faults c.put.new.self) (g.P.Pages.faults c.put-2.new.self) (g.P.Pages.faults c.put-2.new.self)
    _ _ _ _ _ _ (let q = c.in_ok-slots.ensures.quiet.faults in let r = c.in_ok-left.ensures.quiet.faults in let s = c.in_ok-put.ensures.quiet.faults in omega (arith, q, r, s)) (omega arith)
    (λ at expected found broken tells left other free pair.
    let low = c.in_ok-slots.ensures.below in
    let first = c.in_ok-slots.ensures.count in
    let grows = c.in_ok-left.ensures.grows in
    let same = c.in_ok-put.ensures.count in
    let past = broken.1 in
    omega (arith, low, first, grows, same, past))
    (λ n no. absurd no) (λ m. m) c.in_err-put-2.ensures.cause)

pub returns-clause-raised : goal.returns-clause-raised
returns-clause-raised g c = λ tells left other free pair.
    let old = c.args.pages.now in
    let mid = c.fetch_level.new.pages in
    let tk = c.take.new.self in
    let new = c.put-2.new.self in
    let skey = c.args.sibling.now.key in
    let second = c.args.sibling.now.page in
    let key = c.in_ok-key.key in
    let page = c.in_ok-left.left in
    let is = pair_found g.P.Pages old g.C.Seek.order c.args.kind c.args.level c.args.root left skey other second free pair c.in_ok-slots.slots (c.in_ok-slots.ensures.one tells) in
    let first : Firsts g.C.Seek.order c.args.level left key skey = firsts g.C.Seek.order g.met.C.Seek.lawful c.args.level left key skey pair.keyed
    (first_of g.C.Seek.order c.args.kind c.args.level left skey key c.in_ok-slots.slots is pair.some pair.keyed c.in_ok-key.ensures.leaf c.in_ok-key.ensures.upper) in
    let same : g.P.Pages.count new ≡ g.P.Pages.count tk = c.in_ok-put-2.ensures.count ∙ c.in_ok-put.ensures.count in
    let has = takes_at (g.P.Pages.map mid) (g.P.Pages.map old) (g.P.Pages.map tk) (g.P.Pages.count mid) (g.P.Pages.count old) (g.P.Pages.count tk) (g.P.Pages.count new) page
    c.in_ok-slots.ensures.map c.in_ok-slots.ensures.count (sym same) (c.in_ok-left.ensures.taken tells) free pair.frees in
    let one : c.as_slice-3.result.now ≡ link_bytes (key, page) = c.as_slice-3.ensures ∙ c.in_ok-one.ensures.item ∙ ap (λ (k : List ℕ). link_bytes (k, page)) c.as_slice.ensures in
    let two : c.as_slice-4.result.now ≡ link_bytes (skey, second) = c.as_slice-4.ensures ∙ c.in_ok-other.ensures.item ∙ ap (λ (k : List ℕ). link_bytes (k, second)) c.as_slice-2.ensures in
    let up : c.args.level + 1 ≡ suc c.args.level = omega arith in
    let top : c.in_ok-top.top ≡ slots c.args.kind (suc c.args.level) (Some (link_bytes (key, page)) ∷ Some (link_bytes (skey, second)) ∷ []) =
    c.in_ok-top.ensures.made ∙ ap (λ (n : ℕ). slots c.args.kind n (Some c.as_slice-3.result.now ∷ Some c.as_slice-4.result.now ∷ [])) up
    ∙ ap (λ (l : List ℕ). slots c.args.kind (suc c.args.level) (Some l ∷ Some c.as_slice-4.result.now ∷ [])) one
    ∙ ap (λ (l : List ℕ). slots c.args.kind (suc c.args.level) (Some (link_bytes (key, page)) ∷ Some l ∷ [])) two in
    raised g.P.Pages g.C.Seek.order g.met.C.Seek.lawful c.args.kind c.args.root c.args.level old new left other key skey second free pair first page (g.P.Pages.map tk) c.page.result.now c.page-2.result.now
    (c.page.ensures.spelled ∙ ap (λ (s : Slots). spelling s) is) (subst (λ (s : Slots). Fits s) is c.page.ensures.fits)
    (c.page-2.ensures.spelled ∙ ap (λ (s : Slots). spelling s) top) (subst (λ (s : Slots). Fits s) top c.page-2.ensures.fits)
    (subst (λ (m : PageMap). KeepsHeader m (g.P.Pages.map tk)) c.in_ok-slots.ensures.map (c.in_ok-left.ensures.header tells))
    (let grows = c.in_ok-left.ensures.grows in let start = c.in_ok-slots.ensures.count in omega (arith, grows, start, same))
    (c.in_ok-put-2.ensures.map tells ∙ ap (λ (m : PageMap). with_page m c.args.root c.page-2.result.now) (c.in_ok-put.ensures.map tells))
    has.0 has.1

pub returns-clause-grows : goal.returns-clause-grows
returns-clause-grows g c =
    let a = c.in_ok-slots.ensures.count in let b = c.in_ok-left.ensures.grows in let d = c.in_ok-put.ensures.count in let e = c.in_ok-put-2.ensures.count in
    omega (arith, a, b, d, e)

pub returns-clause-by_one : goal.returns-clause-by_one
returns-clause-by_one g c =
    let a = c.in_ok-slots.ensures.count in let b = c.in_ok-left.ensures.by_one in let d = c.in_ok-put.ensures.count in let e = c.in_ok-put-2.ensures.count in
    omega (arith, a, b, d, e)

pub returns-clause-heap : goal.returns-clause-heap
returns-clause-heap g c = λ other sound. c.in_ok-put-2.ensures.heap ∙ c.in_ok-put.ensures.heap ∙ c.in_ok-left.ensures.heap ∙ c.in_ok-slots.ensures.heap other tt

pub returns-clause-quiet : goal.returns-clause-quiet
returns-clause-quiet g c =
    let on = g.met.P.Pages.follows_on in
    quiet_join g.P.Pages on c.args.pages.now c.put.new.self c.put-2.new.self
    (quiet_join g.P.Pages on c.args.pages.now c.take.new.self c.put.new.self
    (quiet_join g.P.Pages on c.args.pages.now c.fetch_level.new.pages c.take.new.self c.in_ok-slots.ensures.quiet c.in_ok-left.ensures.quiet) c.in_ok-put.ensures.quiet) c.in_ok-put-2.ensures.quiet

pub returns-in_err-put-2-clause-quiet : goal.returns-in_err-put-2-clause-quiet
returns-in_err-put-2-clause-quiet g c =
    let on = g.met.P.Pages.follows_on in
    quiet_join g.P.Pages on c.args.pages.now c.put.new.self c.put-2.new.self
    (quiet_join g.P.Pages on c.args.pages.now c.take.new.self c.put.new.self
    (quiet_join g.P.Pages on c.args.pages.now c.fetch_level.new.pages c.take.new.self c.in_ok-slots.ensures.quiet c.in_ok-left.ensures.quiet) c.in_ok-put.ensures.quiet) c.in_err-put-2.ensures.quiet
