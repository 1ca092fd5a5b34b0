-- The moments of a call that adds a record, and of one that closes the first gate.
use Rattle.std.proofs.Common.{◌≡◌, ◌≢◌, inl, inr, ℕ, ◌+◌, ◌*◌, ◌≤◌, List, [], ◌∷◌, ◌++◌, length, take, sym, ◌∙◌, ap, subst, arith, length-append}
use Rattle.gx_words.specs.Causes.{Said}
use Rattle.gx_words.specs.Image.{Image, Torn, written}
use Rattle.gx_words.proofs.Runs.{then_run, through_weaker}
use Rattle.gx_disk.specs.Areas.{Settled}
use Rattle.gx_disk.specs.declared.area.Area.TheVariants.{Log}
use Rattle.gx_disk.specs.declared.disk.Disk.{Ghosts}
use Rattle.gx_log.specs.Disks.{Leaves, FromWrite, Writes, IsAtRest, BeforeOrAfter, InPlace, SamePages}
use Rattle.gx_log.specs.Records.{Record, IsRecord, body, opened, Stands, laid_all, piece}
use Rattle.gx_log.proofs.Bodies.{opened-push, length-body, stands_same}
use Rattle.gx_log.proofs.Moves.{take_torn}
use Rattle.gx_log.proofs.Stages.{long, behind_gate, torn_gate, torn_first}

module _ {D : Type 0} (g : Ghosts D) where
  -- the same moments with weaker words
  pub leaves_weaker : (old new : D) (P Q : Image → Type 0) → ((c : Image) → P c → Q c) → Leaves g P old new → Leaves g Q old new
  leaves_weaker old new P Q weaker run = through_weaker g.moment g.may_have_left_since old new _ _ (λ m here. (weaker m.image here.0, here.1)) run

  pub leaves_then : (old mid new : D) (P : Image → Type 0) → g.said mid ≡ g.said old → Leaves g P old mid → Leaves g P mid new → Leaves g P old new
  leaves_then old mid new P same first second =
      then_run g.moment g.may_have_left_since old mid new _ first
      (through_weaker g.moment g.may_have_left_since mid new _ _ (λ m here. (here.0, here.1 ∙ ap (λ (said : Said). said.bytes) same)) second)

  module _ (old : D) (records : List Record) (front : ℕ) (rest : IsAtRest g front old records) where
    -- behind the gate anything may stand
    pub from_body : (after : List Record) (n : ℕ) (c : Image) → FromWrite g old (front + 1) n c → BeforeOrAfter g old records after c
    from_body after n c write =
        let d = write.0 in
        let was : d.log ≡ (g.told old).log = rest.settled d write.1 in
        let inside : front + 1 ≤ length d.log = omega (arith, ap length was, long records front (g.told old).log rest.stands rest.at_front) in
        let same : take (front + 1) c.log ≡ take (front + 1) (g.told old).log = take_torn (front + 1) n d.log c.log inside write.2.0 ∙ ap (λ (l : List ℕ). take (front + 1) l) was in
        ((d, write.1, write.2.1), inl (behind_gate records front (g.told old).log rest.stands rest.at_front c.log same))

    -- and then the gate alone may be anything
    pub from_gate : (mid : D) (entries : Record) (n : ℕ) (c : Image) → IsRecord entries → Writes g (front + 1) n old mid
        → (g.told mid).log ≡ written (g.told old).log (front + 1) (body entries ++ 0 ∷ []) → Settled Log (g.told mid) (g.now_may_leave mid)
        → FromWrite g mid front 1 c → BeforeOrAfter g old records (records ++ entries ∷ []) c
    from_gate mid entries n c is writes done settled write =
        let e = write.0 in
        let before = writes.images e write.1 in
        let staged : e.log ≡ written (g.told old).log (front + 1) (body entries ++ 0 ∷ []) = settled e write.1 ∙ done in
        ((before.0, before.1, write.2.1 ∙ before.2.1), torn_gate records front (g.told old).log rest.stands rest.at_front entries is e.log c.log staged write.2.0)

    pub end_of : (entries : Record) → IsRecord entries → length (opened (records ++ entries ∷ [])) ≡ front + (9 + 8200 * length entries)
    end_of entries is =
        omega (arith, ap length (opened-push records entries), length-append (opened records) (1 ∷ body entries), length-body entries is.whole, rest.at_front)

    -- the first gate alone may be anything
    pub from_first : (c : Image) → records ≢ [] → FromWrite g old 0 1 c → BeforeOrAfter g old records [] c
    from_first c some write =
        let d = write.0 in
        let was : d.log ≡ (g.told old).log = rest.settled d write.1 in
        ((d, write.1, write.2.1), torn_first records (g.told old).log c.log rest.stands some (subst (λ (l : List ℕ). Torn 0 1 l c.log) was write.2.0))

    pub some_records : front ≢ 0 → records ≢ []
    some_records away none = away (rest.at_front ∙ ap (λ (l : List Record). length (opened l)) none)

    -- where the pages stand in place, each of these images has the pages of before
    pub same_pages : (c : Image) → InPlace g old records → BeforeOrAfter g old records [] c → SamePages g old c
    same_pages c in_place ((d, may, pages), standing) = (
      d,
      may,
      λ map has.
          let counted : Stands records d.log = subst (λ (l : List ℕ). Stands records l) (sym (rest.settled d may)) rest.stands in
          let same : has.records ≡ records = stands_same has.records records d.log has.counted counted in
          let are : (page : ℕ) → map page ≡ laid_all (piece d.pages page) page records =
          λ page. has.are page ∙ ap (λ (l : List Record). laid_all (piece d.pages page) page l) same in
          elim standing [
            | inl all ↦ record { records = records; counted = all; are = λ page. are page ∙ ap (λ (l : List ℕ). laid_all (piece l page) page records) (sym pages) }
            | inr none ↦ record { records = []; counted = none; are = λ page. are page ∙ in_place d page may ∙ ap (λ (l : List ℕ). piece l page) (sym pages) }
          ],
    )
