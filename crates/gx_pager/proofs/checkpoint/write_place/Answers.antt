use Rattle.std.proofs.Common.{◌≡◌, ◌∙◌, ap, arith}
use Rattle.gx_words.proofs.Runs.{one_call}
use Rattle.gx_words.specs.Moments.{Now}
use Rattle.gx_log.specs.Records.{page_in}
use Rattle.gx_pager.specs.Placed.{IsPlaced}
use Rattle.gx_pager.proofs.Maps.{cut_below}
use Rattle.gx_pager.proofs.Placing.{placed_image, other_stays}
use Rattle.gx_pager.proofs.checkpoint.write_place.Goals as goal

pub returns-clause-images : goal.returns-clause-images
returns-clause-images g c = λ overlay start there all image left.
    let d = c.write_page.ensures.images image left in
    let is = there ∙ cut_below c.args.count (λ _. page_in c.args.place.now) c.args.page (omega (arith, c.if-page-count.false)) ∙ ap page_in c.in-Some.is in
    placed_image overlay start d.0 image c.args.page _ is (all d.0 d.1) d.2 d.3

pub returns-clause-time : goal.returns-clause-time
returns-clause-time g c = λ overlay start there all.
    let D = g.D.Disk in
    let is = there ∙ cut_below c.args.count (λ _. page_in c.args.place.now) c.args.page (omega (arith, c.if-page-count.false)) ∙ ap page_in c.in-Some.is in
    one_call D.moment D.may_have_left_since c.args.disk.now c.write_page.new.disk (Now (D.now_may_leave c.write_page.new.disk) (D.said c.args.disk.now).bytes)
    (λ m. IsPlaced overlay start m.image × (m.bytes ≡ (D.said c.args.disk.now).bytes)) c.write_page.ensures.time
    (λ m now. let d = c.write_page.ensures.images m.image now.0 in (placed_image overlay start d.0 m.image c.args.page _ is (all d.0 d.1) d.2 d.3, now.1))

pub returns-clause-told : goal.returns-clause-told
returns-clause-told g c = λ tells overlay start there placed.
    let is = there ∙ cut_below c.args.count (λ _. page_in c.args.place.now) c.args.page (omega (arith, c.if-page-count.false)) ∙ ap page_in c.in-Some.is in
    placed_image overlay start (g.D.Disk.told c.args.disk.now) (g.D.Disk.told c.write_page.new.disk) c.args.page _ is placed
    (c.write_page.ensures.torn tells) (c.write_page.ensures.log tells)

pub returns-clause-others : goal.returns-clause-others
returns-clause-others g c = λ tells n bytes apart there.
    other_stays (g.D.Disk.told c.args.disk.now).pages (g.D.Disk.told c.write_page.new.disk).pages bytes c.args.page n (c.write_page.ensures.torn tells) apart there
