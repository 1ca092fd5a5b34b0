use Rattle.std.proofs.Common.{◌≡◌, inr, ⊎_elim, ℕ, nat_lt, List, length, Option, Box, Err, refl, sym, ◌∙◌, ap, subst, arith}
use Rattle.std.specs.declared.alloc.Global.{Global}
use Rattle.std.specs.BTreeMap.{get, is_at}
use Rattle.std.specs.Map.{lookup}
use Rattle.std.specs.Ordering.{nat_cmp}
use Rattle.gx_words.specs.Image.{Image}
use Rattle.gx_disk.specs.declared.area.Area.TheVariants.{Pages, Log}
use Rattle.gx_log.specs.Records.{Record, Stands, count_in, laid_all, page_in, piece}
use Rattle.gx_log.proofs.Bodies.{stands_same}
use Rattle.gx_log.proofs.Finding.{not_standing}
use Rattle.gx_pages.specs.declared.error.PageError.{PageError}
use Rattle.gx_pages.specs.declared.error.PageError.TheVariants as error
use Rattle.gx_pages.specs.Pages.{HasCause}
use Rattle.gx_pages.proofs.Footprints.{cause_weaker}
use Rattle.gx_pager.specs.Layers.{over, shown}
use Rattle.gx_pager.specs.Openings.{IsHeader, ZeroBroken}
use Rattle.gx_pager.proofs.Opening.{laid_all_over, opening_of, opening_reads, zero_stands, zero_fine, log_stands, err_same}
use Rattle.gx_pager.proofs.open.read_file.Goals as goal

pub returns-in-Err-clause-opening : goal.returns-in-Err-clause-opening
returns-in-Err-clause-opening g c =
    let D = g.D.Disk in
    let o = c.open.ensures in
    opening_of D g.met.D.Disk.counts_now g.met.D.Disk.only_now c.args.disk.now c.open.new.disk o.told o.said o.faults o.goes o.before

pub returns-in-Err-clause-stands : goal.returns-in-Err-clause-stands
returns-in-Err-clause-stands g c = λ tells map has is at expected found same.
    let D = g.D.Disk in
    log_stands c.in-Err.error (D.faults c.args.disk.now) (D.faults c.open.new.disk) D.tells (D.told c.args.disk.now).log ⊥ c.in-Err.ensures.cause tells has.pages.records has.pages.counted at expected found
    (sym c.from_log.ensures ∙ err_same c.from_log.result (error.Broken at expected found) (Err c.from_log.result) refl same)

pub returns-in-Err-replay-clause-opening : goal.returns-in-Err-replay-clause-opening
returns-in-Err-replay-clause-opening g c =
    let D = g.D.Disk in
    let o = c.open.ensures in
    opening_reads D g.met.D.Disk.counts_now g.met.D.Disk.only_now c.args.disk.now c.open.new.disk c.replay.new.disk
    (opening_of D g.met.D.Disk.counts_now g.met.D.Disk.only_now c.args.disk.now c.open.new.disk o.told o.said o.faults o.goes o.before) c.replay.ensures.reads

pub returns-in-Err-keep_all-clause-opening : goal.returns-in-Err-keep_all-clause-opening
returns-in-Err-keep_all-clause-opening g c =
    let D = g.D.Disk in
    let o = c.open.ensures in
    opening_reads D g.met.D.Disk.counts_now g.met.D.Disk.only_now c.args.disk.now c.open.new.disk c.replay.new.disk
    (opening_of D g.met.D.Disk.counts_now g.met.D.Disk.only_now c.args.disk.now c.open.new.disk o.told o.said o.faults o.goes o.before) c.replay.ensures.reads

pub returns-in-Err-new-clause-opening : goal.returns-in-Err-new-clause-opening
returns-in-Err-new-clause-opening g c =
    let D = g.D.Disk in
    let o = c.open.ensures in
    opening_reads D g.met.D.Disk.counts_now g.met.D.Disk.only_now c.args.disk.now c.open.new.disk c.replay.new.disk
    (opening_of D g.met.D.Disk.counts_now g.met.D.Disk.only_now c.args.disk.now c.open.new.disk o.told o.said o.faults o.goes o.before) c.replay.ensures.reads

pub returns-in-Ok-read_layers-clause-opening : goal.returns-in-Ok-read_layers-clause-opening
returns-in-Ok-read_layers-clause-opening g c =
    let D = g.D.Disk in
    let o = c.open.ensures in
    opening_reads D g.met.D.Disk.counts_now g.met.D.Disk.only_now c.args.disk.now c.replay.new.disk c.read_layers.new.disk
    (opening_reads D g.met.D.Disk.counts_now g.met.D.Disk.only_now c.args.disk.now c.open.new.disk c.replay.new.disk
    (opening_of D g.met.D.Disk.counts_now g.met.D.Disk.only_now c.args.disk.now c.open.new.disk o.told o.said o.faults o.goes o.before) c.replay.ensures.reads) c.read_layers.ensures.reads

pub returns-clause-opening : goal.returns-clause-opening
returns-clause-opening g c =
    let D = g.D.Disk in
    let o = c.open.ensures in
    opening_reads D g.met.D.Disk.counts_now g.met.D.Disk.only_now c.args.disk.now c.replay.new.disk c.read_layers.new.disk
    (opening_reads D g.met.D.Disk.counts_now g.met.D.Disk.only_now c.args.disk.now c.open.new.disk c.replay.new.disk
    (opening_of D g.met.D.Disk.counts_now g.met.D.Disk.only_now c.args.disk.now c.open.new.disk o.told o.said o.faults o.goes o.before) c.replay.ensures.reads) c.read_layers.ensures.reads

pub returns-in-Ok-read_layers-clause-read : goal.returns-in-Ok-read_layers-clause-read
returns-in-Ok-read_layers-clause-read g c =
    let D = g.D.Disk in
    let layers = c.in-Ok-read_layers.layers in
    let reads = c.replay.ensures.reads in
    let last = c.read_layers.ensures.reads in
    let same = last.told ∙ reads.told in
    record {
      sound = λ tells.
          let rest = c.in-Ok.ensures.at_rest tells in
          let records = rest.0 in
          let image = λ (n : ℕ).
          (λ i. shown (get nat_cmp (c.in-Ok-read_layers.ensures.kept i) n)) ∙ c.in-Ok-keep_all.ensures n ∙ c.in-Ok-replay.ensures.laid tells records rest.1.stands n
          ∙ ap (λ (e : List (ℕ × Box (List ℕ) Global)). laid_all (page_in (lookup (is_at (nat_cmp n)) e)) n records) c.new-images.ensures.empty in
          record {
            records = records;
            stands = subst (λ (i : Image). Stands records i.log) (sym same) rest.1.stands;
            at_front = rest.1.at_front;
            laid = λ before n. laid_all_over before n records ∙ ap (λ (o : Option (List ℕ)). over o before) (sym (image n));
            zero = (λ i. over (shown (get nat_cmp (c.in-Ok-read_layers.ensures.kept i) 0)) (piece (last.told i).pages 0)) ∙ c.in-Ok-read_layers.ensures.header tells;
            pages = λ d left. c.in-Ok.ensures.settled tells Pages d ((reads.images d).0 ((last.images d).0 left)) ∙ ap (λ (i : Image). i.pages) (sym same);
            log = λ d left. c.in-Ok.ensures.settled tells Log d ((reads.images d).0 ((last.images d).0 left)) ∙ ap (λ (i : Image). i.log) (sym same);
          };
      unit = c.in-Ok-read_layers.ensures.unit;
      count = c.in-Ok-read_layers.ensures.count;
      agrees = c.in-Ok-new.ensures;
      waits = λ tells records stands. c.in-Ok-replay.ensures.entries tells records (subst (λ (i : Image). Stands records i.log) same stands);
    }

pub returns-in-Ok-read_layers-clause-sound : goal.returns-in-Ok-read_layers-clause-sound
returns-in-Ok-read_layers-clause-sound g c = λ tells at expected found broken.
    let D = g.D.Disk in
    let old = D.told c.args.disk.now in
    let told = c.open.ensures.told in
    let two = c.replay.ensures.reads.told ∙ told in
    let rest = c.in-Ok.ensures.at_rest tells in
    let records = rest.0 in
    let stands = subst (λ (i : Image). Stands records i.log) told rest.1.stands in
    let image = c.in-Ok-keep_all.ensures 0 ∙ c.in-Ok-replay.ensures.laid tells records rest.1.stands 0
    ∙ ap (λ (e : List (ℕ × Box (List ℕ) Global)). laid_all (page_in (lookup (is_at (nat_cmp 0)) e)) 0 records) c.new-images.ensures.empty in
    let page = laid_all_over (piece old.pages 0) 0 records ∙ ap (λ (o : Option (List ℕ)). over o (piece old.pages 0)) (sym image)
    ∙ ap (λ (i : Image). over (shown (get nat_cmp c.in-Ok-keep_all.kept 0)) (piece i.pages 0)) (sym two) ∙ c.in-Ok-read_layers.ensures.header tells in
    ⊎_elim (λ log. not_standing old.log at expected found records log stands)
    (λ zero. zero_fine (laid_all (piece old.pages 0) 0 zero.1.0) c.in-Ok-read_layers.layers.header (length old.pages) expected found
    (ap (λ (r : List Record). laid_all (piece old.pages 0) 0 r) (stands_same zero.1.0 records old.log zero.1.1 stands) ∙ page) c.in-Ok-read_layers.ensures.fine zero.1.2) broken

pub returns-clause-cause : goal.returns-clause-cause
returns-clause-cause g c =
    let D = g.D.Disk in
    let old = D.told c.args.disk.now in
    let told = c.open.ensures.told in
    let two = c.replay.ensures.reads.told ∙ told in
    cause_weaker c.in-Err-read_layers.error (D.faults c.args.disk.now) (D.faults c.replay.new.disk) (D.faults c.read_layers.new.disk) (D.faults c.read_layers.new.disk) _ _ _ _ _ _
    (omega (arith, c.open.ensures.faults, c.replay.ensures.reads.faults)) (omega arith)
    (λ at expected found broken tells.
    let rest = c.in-Ok.ensures.at_rest tells in
    let records = rest.0 in
    let stands = subst (λ (i : Image). Stands records i.log) told rest.1.stands in
    let image = c.in-Ok-keep_all.ensures 0 ∙ c.in-Ok-replay.ensures.laid tells records rest.1.stands 0
    ∙ ap (λ (e : List (ℕ × Box (List ℕ) Global)). laid_all (page_in (lookup (is_at (nat_cmp 0)) e)) 0 records) c.new-images.ensures.empty in
    let page = laid_all_over (piece old.pages 0) 0 records ∙ ap (λ (o : Option (List ℕ)). over o (piece old.pages 0)) (sym image) in
    inr (
      broken.0,
      (
        records,
        stands,
        subst (λ (o : Option (List ℕ)). ZeroBroken o (length old.pages) expected found) (sym page)
            (subst (λ (i : Image). ZeroBroken (over (shown (get nat_cmp c.in-Ok-keep_all.kept 0)) (piece i.pages 0)) (length i.pages) expected found) two (broken.1 tells)),
      ),
    ))
    (λ pages no. no) (λ no. absurd no) c.in-Err-read_layers.ensures.cause

pub returns-clause-stands : goal.returns-clause-stands
returns-clause-stands g c = λ tells map has is at expected found same.
    let D = g.D.Disk in
    let old = D.told c.args.disk.now in
    let told = c.open.ensures.told in
    let two = c.replay.ensures.reads.told ∙ told in
    let records = has.pages.records in
    let e = c.in-Err-read_layers.error in
    let is_broken = err_same e (error.Broken at expected found) (Err e) refl same in
    let cause = subst (λ (x : PageError). HasCause (D.faults c.replay.new.disk) (D.faults c.read_layers.new.disk) (λ at expected found. (at ≡ 0) × (D.tells → ZeroBroken (over (shown (get nat_cmp c.in-Ok-keep_all.kept 0)) (piece (D.told c.replay.new.disk).pages 0)) (length (D.told c.replay.new.disk).pages) expected found)) (λ _. ⊥) ⊥ x) is_broken c.in-Err-read_layers.ensures.cause in
    let broken = subst (λ (i : Image). ZeroBroken (over (shown (get nat_cmp c.in-Ok-keep_all.kept 0)) (piece i.pages 0)) (length i.pages) expected found) two (cause.1.1 tells) in
    let image = c.in-Ok-keep_all.ensures 0 ∙ c.in-Ok-replay.ensures.laid tells records (subst (λ (i : Image). Stands records i.log) (sym told) has.pages.counted) 0
    ∙ ap (λ (l : List (ℕ × Box (List ℕ) Global)). laid_all (page_in (lookup (is_at (nat_cmp 0)) l)) 0 records) c.new-images.ensures.empty in
    let page = has.pages.are 0 ∙ laid_all_over (piece old.pages 0) 0 records ∙ ap (λ (o : Option (List ℕ)). over o (piece old.pages 0)) (sym image) in
    zero_stands (has.all 0) (nat_lt 0 (count_in (has.all 0))) (length old.pages) expected found (subst IsHeader (has.are 0) is)
    (subst (λ (o : Option (List ℕ)). ZeroBroken o (length old.pages) expected found) (sym page) broken)
