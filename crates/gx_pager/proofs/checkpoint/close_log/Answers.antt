use Rattle.std.proofs.Common.{◌≡◌, ℕ, List, [], Some, refl, sym, ◌∙◌, ap, subst}
use Rattle.std.specs.BTreeMap.{get}
use Rattle.std.specs.Ordering.{nat_cmp}
use Rattle.gx_words.proofs.Runs.{one_call}
use Rattle.gx_words.specs.Image.{Image}
use Rattle.gx_words.specs.Moments.{Now}
use Rattle.gx_words.specs.PageMap.{PageMap}
use Rattle.gx_log.specs.Disks.{BeforeOrAfter}
use Rattle.gx_log.specs.Records.{Stands, piece}
use Rattle.gx_pager.specs.Layers.{shown}
use Rattle.gx_pager.specs.Placed.{IsPlaced, due}
use Rattle.gx_pager.proofs.Closing.{Kept, ready, kept_placed, kept_reset, at_rest, due_small, due_is}
use Rattle.gx_pager.proofs.Moments.{leaves_then, leaves_weaker, left_now}
use Rattle.gx_pager.proofs.Results.{on_ok, on_ok_anyway}
use Rattle.gx_pager.proofs.checkpoint.close_log.Goals as goal

pub returns-in-Err-clause-time : goal.returns-in-Err-clause-time
returns-in-Err-clause-time g c = λ tells header has s.
    let D = g.D.Disk in
    let old = c.args.disk.now in
    let count = c.args.count in
    let overlay : PageMap = λ n. shown (get nat_cmp c.args.kept.now n) in
    let some = c.requires.some in
    let most = c.requires.most in
    leaves_weaker D (IsPlaced (due count c.args.kept.now) (D.told old)) (Kept D old c.args.log.now header overlay count some most has s) old c.write_pages.new.disk
    (kept_placed D old c.args.log.now header overlay count some most has s) (c.write_pages.ensures.time (ready D old c.args.log.now header overlay count some most has s))

pub returns-in-Err-clause-placed : goal.returns-in-Err-clause-placed
returns-in-Err-clause-placed g c = λ tells. let w = c.write_pages.ensures.told tells in (w.0, refl, w.2)

pub returns-in-Err-sync-clause-time : goal.returns-in-Err-sync-clause-time
returns-in-Err-sync-clause-time g c = λ tells header has s.
    let D = g.D.Disk in
    let old = c.args.disk.now in
    let one = c.write_pages.new.disk in
    let two = c.sync.new.self in
    let count = c.args.count in
    let overlay : PageMap = λ n. shown (get nat_cmp c.args.kept.now n) in
    let some = c.requires.some in
    let most = c.requires.most in
    let K = Kept D old c.args.log.now header overlay count some most has s in
    let keep = kept_placed D old c.args.log.now header overlay count some most has s in
    let fine = ready D old c.args.log.now header overlay count some most has s in
    let all = λ (image : Image) (left : D.now_may_leave two image). c.write_pages.ensures.images fine image (c.sync.ensures.fewer tells image left) in
    leaves_then D K old one two c.write_pages.ensures.said (leaves_weaker D (IsPlaced (due count c.args.kept.now) (D.told old)) K old one keep (c.write_pages.ensures.time fine))
    (one_call D.moment D.may_have_left_since one two (Now (D.now_may_leave two) (D.said one).bytes) (λ m. K m.image × (m.bytes ≡ (D.said one).bytes)) c.sync.ensures.time
    (λ m now. (keep m.image (all m.image now.0), now.1)))

pub returns-in-Err-sync-clause-placed : goal.returns-in-Err-sync-clause-placed
returns-in-Err-sync-clause-placed g c = λ tells.
    let start = g.D.Disk.told c.args.disk.now in
    let w = c.write_pages.ensures.told tells in
    subst (λ (l : List ℕ). IsPlaced (due c.args.count c.args.kept.now) start (record { pages = l; log = start.log })) (ap (λ (i : Image). i.pages) (sym c.sync.ensures.told)) (w.0, refl, w.2)

pub returns-clause-time : goal.returns-clause-time
returns-clause-time g c = λ tells header has s.
    let D = g.D.Disk in
    let old = c.args.disk.now in
    let one = c.write_pages.new.disk in
    let two = c.sync.new.self in
    let three = c.reset.new.disk in
    let count = c.args.count in
    let overlay : PageMap = λ n. shown (get nat_cmp c.args.kept.now n) in
    let some = c.requires.some in
    let most = c.requires.most in
    let K = Kept D old c.args.log.now header overlay count some most has s in
    let keep = kept_placed D old c.args.log.now header overlay count some most has s in
    let fine = ready D old c.args.log.now header overlay count some most has s in
    let all = λ (image : Image) (left : D.now_may_leave two image). c.write_pages.ensures.images fine image (c.sync.ensures.fewer tells image left) in
    let settled = λ (image : Image) (left : D.now_may_leave two image). ap (λ (i : Image). i.pages) (c.in-Ok-sync.ensures.images tells image left).2 ∙ ap (λ (i : Image). i.pages) (sym c.sync.ensures.told) in
    let written : (n : ℕ) (bytes : List ℕ) → due count c.args.kept.now n ≡ Some bytes → piece (D.told two).pages n ≡ Some bytes =
    λ n bytes there. ap (λ (i : Image). piece i.pages n) c.sync.ensures.told ∙ c.in-Ok.ensures.written tells n bytes (due_small count overlay n bytes there) (due_is count overlay n bytes there) in
    let both = leaves_then D K old one two c.write_pages.ensures.said (leaves_weaker D (IsPlaced (due count c.args.kept.now) (D.told old)) K old one keep (c.write_pages.ensures.time fine))
    (one_call D.moment D.may_have_left_since one two (Now (D.now_may_leave two) (D.said one).bytes) (λ m. K m.image × (m.bytes ≡ (D.said one).bytes)) c.sync.ensures.time
    (λ m now. (keep m.image (all m.image now.0), now.1))) in
    let rest = at_rest D old c.args.log.now header overlay count some most has s two all settled written (ap (λ (i : Image). i.log) c.sync.ensures.told ∙ (c.write_pages.ensures.told tells).1) in
    leaves_then D K old two three (c.sync.ensures.said ∙ c.write_pages.ensures.said) both
    (leaves_weaker D (BeforeOrAfter D two s.records []) K two three (kept_reset D old c.args.log.now header overlay count some most has s two all settled written)
    (c.reset.ensures.any_moment tells s.records rest))

pub returns-clause-placed : goal.returns-clause-placed
returns-clause-placed g c = λ tells.
    let start = g.D.Disk.told c.args.disk.now in
    let w = c.write_pages.ensures.told tells in
    subst (λ (l : List ℕ). IsPlaced (due c.args.count c.args.kept.now) start (record { pages = l; log = start.log })) (sym (c.reset.ensures.pages tells ∙ ap (λ (i : Image). i.pages) c.sync.ensures.told))
    (w.0, refl, w.2)

pub returns-clause-written : goal.returns-clause-written
returns-clause-written g c = on_ok_anyway c.reset.result (λ tells n bytes there.
    let overlay : PageMap = λ k. shown (get nat_cmp c.args.kept.now k) in
    ap (λ (l : List ℕ). piece l n) (c.reset.ensures.pages tells ∙ ap (λ (i : Image). i.pages) c.sync.ensures.told)
    ∙ c.in-Ok.ensures.written tells n bytes (due_small c.args.count overlay n bytes there) (due_is c.args.count overlay n bytes there))

pub returns-clause-none : goal.returns-clause-none
returns-clause-none g c = on_ok c.reset.result (λ added tells header s.
    let D = g.D.Disk in
    let two = c.sync.new.self in
    let all = λ (image : Image) (left : D.now_may_leave two image). c.write_pages.ensures.images (record { pages = s.pages; log = s.log }) image (c.sync.ensures.fewer tells image left) in
    let same = ap (λ (i : Image). i.log) c.sync.ensures.told ∙ (c.write_pages.ensures.told tells).1 in
    added tells s.records (record {
      stands = subst (λ (l : List ℕ). Stands s.records l) (sym same) s.stands;
      at_front = s.at_front;
      settled = λ image left. (all image left).1 ∙ sym same;
    })) c.reset.ensures.none

pub returns-clause-settled : goal.returns-clause-settled
returns-clause-settled g c = on_ok_anyway c.reset.result (λ tells header s image left.
    let D = g.D.Disk in
    let two = c.sync.new.self in
    let three = c.reset.new.disk in
    let all = λ (i : Image) (l : D.now_may_leave two i). c.write_pages.ensures.images (record { pages = s.pages; log = s.log }) i (c.sync.ensures.fewer tells i l) in
    let same = ap (λ (i : Image). i.log) c.sync.ensures.told ∙ (c.write_pages.ensures.told tells).1 in
    let settled = λ (i : Image) (l : D.now_may_leave two i). ap (λ (j : Image). j.pages) (c.in-Ok-sync.ensures.images tells i l).2 ∙ ap (λ (j : Image). j.pages) (sym c.sync.ensures.told) in
    let P : Image → Type 0 = λ i. i.pages ≡ (D.told two).pages in
    let run = leaves_weaker D (BeforeOrAfter D two s.records []) P two three (λ i here. here.0.2 ∙ settled here.0.0 here.0.1) (c.reset.ensures.any_moment tells s.records (record {
      stands = subst (λ (l : List ℕ). Stands s.records l) (sym same) s.stands;
      at_front = s.at_front;
      settled = λ i l. (all i l).1 ∙ sym same;
    })) in
    left_now D g.met.D.Disk.counts_now g.met.D.Disk.only_now P two three settled run image left ∙ sym (c.reset.ensures.pages tells))
