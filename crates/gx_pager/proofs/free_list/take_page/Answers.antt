use Rattle.std.proofs.Common.{◌≡◌, Some, sym, ◌∙◌, ap, arith}
use Rattle.gx_pages.proofs.Footprints.{cause_weaker}
use Rattle.gx_pages.proofs.Taking.{took_grown, took_unchained, one_free, some_free}
use Rattle.gx_pager.specs.Memory.{now_map}
use Rattle.gx_pager.proofs.Causes.{cause_alone}
use Rattle.gx_pager.proofs.Maps.{zero_there}
use Rattle.gx_pager.proofs.free_list.take_page.Goals as goal

pub returns-in-Ok-clause-took : goal.returns-in-Ok-clause-took
returns-in-Ok-clause-took g c = λ tells agrees.
    let l = c.args.layers.now in
    let image = g.D.Disk.told c.args.disk.now in
    let map = now_map l image in
    let h = c.copy.new.into in
    let there : map 0 ≡ Some h = zero_there l image ∙ ap Some (sym (c.copy.ensures ∙ c.header_page.ensures)) in
    let f = c.first_free-first in
    took_grown map (now_map c.grow.new.layers image) l.count c.grow.new.layers.count c.in-Ok.page h f.result there f.ensures.first f.ensures.fits c.if-first-eq0.true l.some f.ensures.len
    (c.in-Ok.ensures.map image) c.in-Ok.ensures.page c.in-Ok.ensures.count

pub returns-in-Err-clause-cause : goal.returns-in-Err-clause-cause
returns-in-Err-clause-cause g c =
    let l = c.args.layers.now in
    let image = g.D.Disk.told c.args.disk.now in
    let map = now_map l image in
    let h = c.copy.new.into in
    let there : map 0 ≡ Some h = zero_there l image ∙ ap Some (sym (c.copy.ensures ∙ c.header_page.ensures)) in
    let f = c.first_free-first in
    cause_alone c.in-Err.error _ _ _ _ _ _ _ _ (λ at expected found no. absurd no)
    (λ pages full. record { greatest = full.0; counted = full.1; none_free = λ tells page free. one_free map l.count h f.result there f.ensures.first f.ensures.fits c.if-first-eq0.true page free }) (λ m. m) c.in-Err.ensures.cause

pub returns-in-Ok-unchain-clause-took : goal.returns-in-Ok-unchain-clause-took
returns-in-Ok-unchain-clause-took g c = λ tells agrees.
    let l = c.args.layers.now in
    let image = g.D.Disk.told c.args.disk.now in
    let map = now_map l image in
    let h = c.copy.new.into in
    let there : map 0 ≡ Some h = zero_there l image ∙ ap Some (sym (c.copy.ensures ∙ c.header_page.ensures)) in
    let f = c.first_free-first in
    let next = c.in-Ok-unchain.ensures.map tells agrees in
    took_unchained map (now_map c.unchain.new.layers image) l.count c.unchain.new.layers.count c.in-Ok-unchain.page h f.result next.0 there f.ensures.first f.ensures.fits c.if-first-eq0.false f.ensures.len
    next.1 next.2 next.3 c.in-Ok-unchain.ensures.page c.in-Ok-unchain.ensures.count

pub returns-in-Ok-unchain-clause-room : goal.returns-in-Ok-unchain-clause-room
returns-in-Ok-unchain-clause-room g c = λ none.
    let l = c.args.layers.now in
    let image = g.D.Disk.told c.args.disk.now in
    let h = c.copy.new.into in
    let there : now_map l image 0 ≡ Some h = zero_there l image ∙ ap Some (sym (c.copy.ensures ∙ c.header_page.ensures)) in
    let f = c.first_free-first in
    absurd (some_free (now_map l image) l.count h f.result there f.ensures.first f.ensures.fits c.if-first-eq0.false none)

pub returns-in-Err-unchain-clause-cause : goal.returns-in-Err-unchain-clause-cause
returns-in-Err-unchain-clause-cause g c =
    let l = c.args.layers.now in
    let image = g.D.Disk.told c.args.disk.now in
    let map = now_map l image in
    let h = c.copy.new.into in
    let there : map 0 ≡ Some h = zero_there l image ∙ ap Some (sym (c.copy.ensures ∙ c.header_page.ensures)) in
    let f = c.first_free-first in
    cause_weaker c.in-Err-unchain.error (g.D.Disk.faults c.args.disk.now) (g.D.Disk.faults c.args.disk.now) (g.D.Disk.faults c.unchain.new.disk) (g.D.Disk.faults c.unchain.new.disk)
    _ _ _ _ _ _ (omega arith) (omega arith)
    (λ at expected found broken tells agrees. record {
      header = h;
      at_zero = there;
      first = f.result;
      fits = f.ensures.fits;
      at_first = f.ensures.first;
      some = c.if-first-eq0.false;
      no_page = λ within next small written. broken within tells agrees next small written;
    }) (λ pages no. absurd no) (λ m. m) c.in-Err-unchain.ensures.cause
