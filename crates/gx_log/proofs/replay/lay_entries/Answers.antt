use Rattle.std.proofs.Common.{◌+◌, ◌*◌, ◌≤◌, [], ◌∷◌, length, take, drop, refl, sym, ◌∙◌, ap, subst, arith}
use Rattle.std.specs.BTreeMap.{get}
use Rattle.std.specs.Ordering.{nat_cmp}
use Rattle.gx_words.specs.Image.{Image}
use Rattle.gx_log.specs.Places.{cut}
use Rattle.gx_log.specs.Records.{laid, page_in}
use Rattle.gx_log.proofs.Laying.{lay_step}
use Rattle.gx_log.proofs.Moves.{reads_none, reads_join}
use Rattle.gx_log.proofs.replay.lay_entries.Goals as goal

pub loop-k-init : goal.loop-k-init
unfolding cut
loop-k-init g c = record { reads = reads_none g.D.Disk c.args.disk.now; so_far = λ tells within page. refl }

pub loop-k-preserved : goal.loop-k-preserved
loop-k-preserved g c =
    let i = c.loop-k.invariant in
    record {
      reads = reads_join g.D.Disk c.args.disk.now c.loop-k.disk c.lay_entry.new.disk i.reads c.in-Ok.ensures.reads;
      so_far = λ tells within page.
          let log = (g.D.Disk.told c.args.disk.now).log in
          let at = c.args.from + 8200 * c.loop-k.k in
          let inside : at + 8200 ≤ length (g.D.Disk.told c.loop-k.disk).log =
          subst (λ (image : Image). at + 8200 ≤ length image.log) (sym i.reads.told) (omega (arith, within, c.loop-k-test.true)) in
          let step = c.in-Ok.ensures.laid tells inside page in
          let here = step ∙ ap (λ (image : Image). laid (page_in (get nat_cmp c.loop-k.into page)) page ((take 8 (drop at image.log), take 8192 (drop (at + 8) image.log)) ∷ [])) i.reads.told in
          lay_step log c.args.from c.loop-k.k at page (page_in (get nat_cmp c.args.into.now page)) (page_in (get nat_cmp c.loop-k.into page)) (page_in (get nat_cmp c.lay_entry.new.into page)) refl (i.so_far tells within page) here;
    }
