-- From the moments of a disk to those of its maps.
use Rattle.std.proofs.Common.{◌≡◌, inl, inr, ⊎_elim, ℕ, ◌≤◌, ◌↔◌, List, refl, sym, ◌∙◌, ap, subst, arith}
use Rattle.std.proofs.Math.Logic.{∥∥₁_map}
use Rattle.gx_words.proofs.Runs.{no_call, one_call, then_run, through_weaker}
use Rattle.gx_words.specs.Causes.{Said}
use Rattle.gx_words.specs.Image.{Image}
use Rattle.gx_words.specs.Moments.{Moment, Now, Elapses, Goes}
use Rattle.gx_words.specs.PageMap.{PageMap}
use Rattle.gx_disk.specs.declared.disk.Disk.{Ghosts}
use Rattle.gx_log.specs.Disks.{Leaves, Reads}
use Rattle.gx_log.specs.Records.{Stands, piece}
use Rattle.gx_pager.specs.Known.{IsSound}
use Rattle.gx_pager.specs.Layers.{over}
use Rattle.gx_pager.specs.Left.{MapLeft, MapSince, Follows, HasSome}

abbrev pub CountsNow : {D : Type 0} → Ghosts D → Type 0
CountsNow {D} g = (d : D) (t : ℕ) (c : Image) → t ≤ g.moment d → g.now_may_leave d c → g.may_have_left_since d t (record { image = c; bytes = (g.said d).bytes })

abbrev pub OnlyNow : {D : Type 0} → Ghosts D → Type 0
OnlyNow {D} g = (d : D) (m : Moment Image) → g.may_have_left_since d (g.moment d) m → Now (g.now_may_leave d) (g.said d).bytes m

abbrev pub ToldStays : {D : Type 0} → Ghosts D → Type 0
ToldStays {D} g = (d : D) → g.tells → g.now_may_leave d (g.told d)

module _ {D : Type 0} (g : Ghosts D) where
  pub reads_none : (disk : D) → Reads g disk disk
  reads_none disk = record {
    told = refl;
    images = λ c. ((λ left. left), (λ left. left));
    time = no_call g.moment g.may_have_left_since disk (λ m. g.now_may_leave disk m.image × (m.bytes ≡ (g.said disk).bytes));
    said = refl;
    faults = omega arith;
  }

  pub reads_one : (old new : D) → g.told new ≡ g.told old → ((c : Image) → g.now_may_leave new c ↔ g.now_may_leave old c)
      → Elapses (g.moment old) (g.moment new) (g.may_have_left_since old) (g.may_have_left_since new) (Now (g.now_may_leave old) (g.said old).bytes)
      → g.said new ≡ g.said old → g.faults old ≤ g.faults new → Reads g old new
  reads_one old new told images time said faults = record {
    told = told;
    images = images;
    time = one_call g.moment g.may_have_left_since old new (Now (g.now_may_leave old) (g.said old).bytes) (λ m. g.now_may_leave old m.image × (m.bytes ≡ (g.said old).bytes)) time (λ m here. here);
    said = said;
    faults = faults;
  }

  -- a call that leaves only images of before leaves only maps of before
  pub maps_reads : (old new : D) → Reads g old new → Elapses (g.moment old) (g.moment new) (MapSince g old) (MapSince g new) (Now (MapLeft g old) (g.said old).bytes)
  maps_reads old new reads = record {
    later = reads.time.later;
    nothing_else = λ t m le left.
        ⊎_elim (λ past. inl (left.0, (left.1.0, past, left.1.2))) (λ now. inr (((left.0, (left.1.0, now.0.0, left.1.2)), now.0.1), (λ u l. (left.0, (left.1.0, now.1 u l, left.1.2)))))
        (reads.time.each t (record { image = left.1.0; bytes = m.bytes }) le left.1.1);
    keeps = λ t m le past. (past.0, (past.1.0, reads.time.keeps t (record { image = past.1.0; bytes = m.bytes }) le past.1.1, past.1.2));
  }

  pub left_reads : (old new : D) → Reads g old new → (map : PageMap) → MapLeft g new map → MapLeft g old map
  left_reads old new reads map left = (left.0, (left.1.0, (reads.images left.1.0).0 left.1.1, left.1.2))

  pub follows_reads : (old new : D) → Reads g old new → Follows g old new
  follows_reads old new reads = record {
    goes = record { later = reads.time.later; keeps = reads.time.keeps };
    maps = λ tells all.
        through_weaker g.moment g.may_have_left_since old new (λ m. g.now_may_leave old m.image × (m.bytes ≡ (g.said old).bytes)) (λ m. HasSome m.image) (λ m here. all m.image here.0) reads.time;
  }

  -- what is read stays, and no image is new
  pub sound_same : (old new : D) (front : ℕ) (header header' : List ℕ) (overlay overlay' : PageMap) → g.told new ≡ g.told old → ((c : Image) → g.now_may_leave new c → g.now_may_leave old c)
      → header' ≡ header → overlay' ≡ overlay → ∥ IsSound g old front header overlay ∥₁ → ∥ IsSound g new front header' overlay' ∥₁
  sound_same old new front header header' overlay overlay' told images first above sound =
      ∥∥₁_map sound (λ s.
      subst (λ (h : List ℕ). IsSound g new front h overlay') (sym first)
      (subst (λ (m : PageMap). IsSound g new front header m) (sym above) (there s)))
    where
      there : IsSound g old front header overlay → IsSound g new front header overlay
      there s = record {
        records = s.records;
        stands = subst (λ (i : Image). Stands s.records i.log) (sym told) s.stands;
        at_front = s.at_front;
        laid = s.laid;
        zero = ap (λ (i : Image). over (overlay 0) (piece i.pages 0)) told ∙ s.zero;
        pages = λ c left. s.pages c (images c left) ∙ ap (λ (i : Image). i.pages) (sym told);
        log = λ c left. s.log c (images c left) ∙ ap (λ (i : Image). i.log) (sym told);
      }

  pub sound_reads : (old new : D) (front : ℕ) (header header' : List ℕ) (overlay overlay' : PageMap) → Reads g old new
      → header' ≡ header → overlay' ≡ overlay → ∥ IsSound g old front header overlay ∥₁ → ∥ IsSound g new front header' overlay' ∥₁
  sound_reads old new front header header' overlay overlay' reads first above sound =
      sound_same old new front header header' overlay overlay' reads.told (λ c left. (reads.images c).0 left) first above sound

  -- one run of calls and another, of which each moment has P
  pub leaves_then : (P : Image → Type 0) (old mid new : D) → g.said mid ≡ g.said old → Leaves g P old mid → Leaves g P mid new → Leaves g P old new
  leaves_then P old mid new said first second =
      then_run g.moment g.may_have_left_since old mid new (λ m. P m.image × (m.bytes ≡ (g.said old).bytes)) first
      (through_weaker g.moment g.may_have_left_since mid new (λ m. P m.image × (m.bytes ≡ (g.said mid).bytes)) (λ m. P m.image × (m.bytes ≡ (g.said old).bytes))
      (λ m here. (here.0, here.1 ∙ ap (λ (s : Said). s.bytes) said)) second)

  pub leaves_weaker : (P Q : Image → Type 0) (old new : D) → ((c : Image) → P c → Q c) → Leaves g P old new → Leaves g Q old new
  leaves_weaker P Q old new weaker run =
      through_weaker g.moment g.may_have_left_since old new (λ m. P m.image × (m.bytes ≡ (g.said old).bytes)) (λ m. Q m.image × (m.bytes ≡ (g.said old).bytes)) (λ m here. (weaker m.image here.0, here.1)) run

  pub goes_then : (old mid new : D) → Goes g.moment g.may_have_left_since old mid → Goes g.moment g.may_have_left_since mid new → Goes g.moment g.may_have_left_since old new
  goes_then old mid new first second = record {
    later = omega (arith, first.later, second.later);
    keeps = λ t m le past. second.keeps t m (omega (arith, le, first.later)) (first.keeps t m le past);
  }

  -- what each moment of a run has, each image now has
  pub left_now : CountsNow g → OnlyNow g → (P : Image → Type 0) (old new : D) → ((c : Image) → g.now_may_leave old c → P c) → Leaves g P old new → (c : Image) → g.now_may_leave new c → P c
  left_now counts only P old new all run c left =
      ⊎_elim (λ past. all c (only old (record { image = c; bytes = (g.said new).bytes }) past).0) (λ here. here.0.0)
      (run.each (g.moment old) (record { image = c; bytes = (g.said new).bytes }) (omega arith) (counts new (g.moment old) c run.later left))
