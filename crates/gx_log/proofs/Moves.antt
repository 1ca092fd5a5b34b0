-- How writes of the log, one behind another, are one write.
use Rattle.std.proofs.Common.{◌≡◌, ◌⊎◌, inl, inr, ℕ, ◌+◌, ◌<◌, ◌≤◌, List, [], ◌++◌, length, get_or, take, drop, refl, sym, ◌∙◌, ap, subst, arith, append_assoc}
use Rattle.std.proofs.lemmas.List.{same_lists, places}
use Rattle.gx_words.specs.Causes.{Said}
use Rattle.gx_words.specs.Image.{Image, Torn, written}
use Rattle.gx_words.specs.Moments.{Elapses, Now}
use Rattle.gx_words.proofs.Runs.{no_call, one_call, then_run, through_weaker}
use Rattle.gx_disk.specs.Areas.{TornIn}
use Rattle.gx_disk.specs.declared.area.Area.TheVariants.{Log}
use Rattle.gx_disk.specs.declared.disk.Disk.{Ghosts}
use Rattle.gx_log.specs.Disks.{Reads, FromWrite, Writes}

torn_join : (at m n : ℕ) (a b c : List ℕ) → Torn at m a b → Torn (at + m) n b c → Torn at (m + n) a c
torn_join at m n a b c first second = record {
  no_shorter = omega (arith, first.no_shorter, second.no_shorter);
  no_longer = omega (arith, first.no_longer, second.no_longer);
  outside = λ k within apart.
      let there : (k < at + m) ⊎ (at + m + n ≤ k) = elim apart [ inl below ↦ inl (omega (arith, below)) | inr past ↦ inr (omega (arith, past)) ] in
      let here : (k < at) ⊎ (at + m ≤ k) = elim apart [ inl below ↦ inl below | inr past ↦ inr (omega (arith, past)) ] in
      second.outside k (omega (arith, within, first.no_shorter)) there ∙ first.outside k within here;
}

torn_wider : (at m n : ℕ) (a b : List ℕ) → m ≤ n → Torn at m a b → Torn at n a b
torn_wider at m n a b le torn = record {
  no_shorter = torn.no_shorter;
  no_longer = omega (arith, torn.no_longer, le);
  outside = λ k within apart. torn.outside k within (elim apart [ inl below ↦ inl below | inr past ↦ inr (omega (arith, past, le)) ]);
}

torn_none : (at n : ℕ) (a : List ℕ) → Torn at n a a
torn_none at n a = record { no_shorter = omega arith; no_longer = omega arith; outside = λ k within apart. refl }

pub take_torn : (at n : ℕ) (a b : List ℕ) → at ≤ length a → Torn at n a b → take at b ≡ take at a
take_torn at n a b le torn =
    same_lists _ _ (let more = torn.no_shorter in grind (arith, places)) (λ k d h.
    let below : k < at = grind (arith, places, h) in
    let same : get_or b k 0 ≡ get_or a k 0 = torn.outside k (omega (arith, below, le)) (inl below) in
    let more = torn.no_shorter in
    grind (arith, places))

pub drop_torn : (at n : ℕ) (a b : List ℕ) → at + n ≤ length a → Torn at n a b → drop (at + n) b ≡ drop (at + n) a
drop_torn at n a b le torn =
    let size : length b ≡ length a = omega (arith, torn.no_shorter, torn.no_longer, le) in
    same_lists _ _ (grind (arith, places)) (λ k d h.
    let within : at + n + k < length a = grind (arith, places, h, size) in
    let same : get_or b (at + n + k) 0 ≡ get_or a (at + n + k) 0 = torn.outside (at + n + k) within (inr (omega arith)) in
    grind (arith, places))

pub written_join : (log a b : List ℕ) (at : ℕ) → at ≤ length log → written (written log at a) (at + length a) b ≡ written log at (a ++ b)
written_join log a b at le = same_lists _ _ (grind (arith, places)) (λ k d h. grind (arith, places))

module _ {D : Type 0} (g : Ghosts D) where
  pub reads_none : (disk : D) → Reads g disk disk
  reads_none disk = record {
    told = refl;
    images = λ c. ((λ left. left), (λ left. left));
    time = no_call g.moment g.may_have_left_since disk _;
    said = refl;
    faults = omega arith;
  }

  pub reads_join : (old mid new : D) → Reads g old mid → Reads g mid new → Reads g old new
  reads_join old mid new first second = record {
    told = second.told ∙ first.told;
    images = λ c. ((λ left. (first.images c).0 ((second.images c).0 left)), (λ left. (second.images c).1 ((first.images c).1 left)));
    time = then_run g.moment g.may_have_left_since old mid new _ first.time
        (through_weaker g.moment g.may_have_left_since mid new _ _ (λ m here. ((first.images m.image).0 here.0, here.1 ∙ ap (λ (said : Said). said.bytes) first.said)) second.time);
    said = second.said ∙ first.said;
    faults = omega (arith, first.faults, second.faults);
  }

  from_join : (old mid : D) (at m n : ℕ) → ((c : Image) → g.now_may_leave mid c → FromWrite g old at m c) → (c : Image) → FromWrite g mid (at + m) n c → FromWrite g old at (m + n) c
  from_join old mid at m n first c second =
      let before = first second.0 second.1 in
      (before.0, before.1, (torn_join at m n before.0.log second.0.log c.log before.2.0 second.2.0, second.2.1 ∙ before.2.1))

  from_wider : (old : D) (at m n : ℕ) → m ≤ n → (c : Image) → FromWrite g old at m c → FromWrite g old at n c
  from_wider old at m n le c write = (write.0, write.1, (torn_wider at m n write.0.log c.log le write.2.0, write.2.1))

  pub writes_wider : (old new : D) (at m n : ℕ) → m ≤ n → Writes g at m old new → Writes g at n old new
  writes_wider old new at m n le writes = record {
    images = λ c left. from_wider old at m n le c (writes.images c left);
    time = through_weaker g.moment g.may_have_left_since old new _ _ (λ x here. (from_wider old at m n le x.image here.0, here.1)) writes.time;
    torn = λ tells. let torn = writes.torn tells in (torn_wider at m n (g.told old).log (g.told new).log le torn.0, torn.1);
    said = writes.said;
    faults = writes.faults;
  }

  pub writes_join : (old mid new : D) (at m n : ℕ) → Writes g at m old mid → Writes g (at + m) n mid new → Writes g at (m + n) old new
  writes_join old mid new at m n first second = record {
    images = λ c left. from_join old mid at m n first.images c (second.images c left);
    time = then_run g.moment g.may_have_left_since old mid new _
        (through_weaker g.moment g.may_have_left_since old mid _ _ (λ x here. (from_wider old at m (m + n) (omega arith) x.image here.0, here.1)) first.time)
        (through_weaker g.moment g.may_have_left_since mid new _ _ (λ x here. (from_join old mid at m n first.images x.image here.0, here.1 ∙ ap (λ (said : Said). said.bytes) first.said)) second.time);
    torn = λ tells. let a = first.torn tells in let b = second.torn tells in
        (torn_join at m n (g.told old).log (g.told mid).log (g.told new).log a.0 b.0, b.1 ∙ a.1);
    said = second.said ∙ first.said;
    faults = omega (arith, first.faults, second.faults);
  }

  -- one write
  pub writes_one : (old new : D) (at n : ℕ) → ((c : Image) → g.now_may_leave new c → FromWrite g old at n c)
      → Elapses (g.moment old) (g.moment new) (g.may_have_left_since old) (g.may_have_left_since new) (Now (g.now_may_leave new) (g.said old).bytes)
      → (g.tells → TornIn Log at n (g.told old) (g.told new)) → g.said new ≡ g.said old → g.faults old ≤ g.faults new → Writes g at n old new
  writes_one old new at n images time torn said later = record {
    images = images;
    time = one_call g.moment g.may_have_left_since old new _ _ time (λ m here. (images m.image here.0, here.1));
    torn = torn;
    said = said;
    faults = later;
  }

  -- two writes, one behind the other
  pub writes_two : (old mid new : D) (at place m n total : ℕ) → place ≡ at + m → m + n ≡ total → Writes g at m old mid → Writes g place n mid new → Writes g at total old new
  writes_two old mid new at place m n total behind size first second =
      subst (λ (k : ℕ). Writes g at k old new) size (writes_join old mid new at m n first (subst (λ (k : ℕ). Writes g k n mid new) behind second))

  -- no write
  pub writes_none : (disk : D) (at : ℕ) → Writes g at 0 disk disk
  writes_none disk at = record {
    images = λ c left. (c, left, (torn_none at 0 c.log, refl));
    time = no_call g.moment g.may_have_left_since disk _;
    torn = λ tells. (torn_none at 0 (g.told disk).log, refl);
    said = refl;
    faults = omega arith;
  }

-- and what is read then
pub done_two : (log mid new a b bytes : List ℕ) (at place : ℕ) → at ≤ length log → mid ≡ written log at a → new ≡ written mid place b → place ≡ at + length a
    → a ++ b ≡ bytes → new ≡ written log at bytes
done_two log mid new a b bytes at place le first second behind is =
    second ∙ ap (λ (l : List ℕ). written l place b) first ∙ ap (λ (k : ℕ). written (written log at a) k b) behind ∙ written_join log a b at le
    ∙ ap (λ (l : List ℕ). written log at l) is

pub written_none : (log : List ℕ) (at : ℕ) → at ≤ length log → written log at [] ≡ log
written_none log at le = same_lists _ _ (grind (arith, places)) (λ k d h. grind (arith, places))

-- bytes of which a front was written, and more behind them
pub poured_more : (front more left part entry all : List ℕ) → part ≡ more ++ left → front ++ part ≡ all → front ++ more ++ (left ++ entry) ≡ all ++ entry
poured_more front more left part entry all split is =
    append_assoc front more (left ++ entry) ∙ ap (λ (l : List ℕ). front ++ l) (sym (append_assoc more left entry) ∙ ap (λ (l : List ℕ). l ++ entry) (sym split))
    ∙ sym (append_assoc front part entry) ∙ ap (λ (l : List ℕ). l ++ entry) is

pub length_written : (log a mid : List ℕ) (at : ℕ) → mid ≡ written log at a → at + length a ≤ length mid
length_written log a mid at is = let size : length mid ≡ length (written log at a) = ap length is in grind (arith, places, size)
