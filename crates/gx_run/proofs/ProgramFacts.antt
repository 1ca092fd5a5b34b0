-- From a run's end to its status.
use Rattle.std.proofs.Common.{◌≡◌, ◌≢◌, ◌⊎◌, inl, inr, ℕ, ◌+◌, ◌<◌, ◌≤◌, Bool, true, false, List, ◌++◌, length, Result, Ok, Err, refl, sym, ◌∙◌, ap, subst, arith}
use Rattle.gx_words.specs.Causes.{Said, Rose}
use Rattle.gx_disk.specs.declared.disk.Disk.{Ghosts}
use Rattle.gx_model.specs.Runs.{State}
use Rattle.gx_run.specs.Lines.{broken_line}
use Rattle.gx_run.specs.Outcomes.{Completes, IsOfRun}
use Rattle.gx_run.specs.Scripts.{Takes, TakesBy}
use Rattle.gx_run.specs.Statuses.{AnswersBroken, FileRun, TryRun, RefusedAsBroken, status_of, IsWithout}
use Rattle.gx_run.specs.Top.{ScriptHeadline, OpensBroken}
use Rattle.gx_run.specs.Try.{TryHeadline}
use Rattle.gx_run.specs.declared.halt.Halt.{Halt}
use Rattle.gx_run.specs.declared.halt.Halt.TheVariants.{Stopped, Source, Full}
use Rattle.gx_run.specs.declared.stop.Stop.TheVariants.{Answer, Disk, Memory, Broken}

-- what the status of an end says
abbrev pub Finishes : {H : Type 0} → H → H → Result Bool Halt → ℕ → Type 0
Finishes mid new end status = IsWithout end → (status ≡ status_of end) × (new ≡ mid)

-- where no page is broken the status isn't 6
pub never_six : (end : Result Bool Halt) (status : ℕ) → status ≡ status_of end → IsWithout end → status ≢ 6
never_six (Ok false) status is w e = omega (arith, is, e)
never_six (Ok true) status is w e = omega (arith, is, e)
never_six (Err (Stopped Disk)) status is w e = omega (arith, is, e)
never_six (Err (Stopped Answer)) status is w e = omega (arith, is, e)
never_six (Err (Stopped Memory)) status is w e = omega (arith, is, e)
never_six (Err (Stopped (Broken page expected found))) status is w e = w
never_six (Err Source) status is w e = omega (arith, is, e)
never_six (Err Full) status is w e = omega (arith, is, e)

small : (status : ℕ) (n : ℕ) → status ≡ n → n < 2 → status < 2
small status n e l = omega (arith, e, l)

pub completes : (end : Result Bool Halt) (status : ℕ) → status ≡ status_of end → IsWithout end → (end ≢ Err (Stopped Disk)) → (end ≢ Err (Stopped Answer)) → (end ≢ Err Source) → Completes status
completes (Ok false) status e w d a s = inl (small status 0 e (omega arith))
completes (Ok true) status e w d a s = inl (small status 1 e (omega arith))
completes (Err (Stopped Disk)) status e w d a s = absurd (d refl)
completes (Err (Stopped Answer)) status e w d a s = absurd (a refl)
completes (Err (Stopped Memory)) status e w d a s = inr (inl e)
completes (Err (Stopped (Broken page expected found))) status e w d a s = absurd w
completes (Err Source) status e w d a s = absurd (s refl)
completes (Err Full) status e w d a s = inr (inr e)

module _ {H : Type 0} (g : Ghosts H) (ticks ticked : ℕ) (old mid new : H) (from : State) (limit : ℕ) (script left : List ℕ) where
  pub file_run : (end : Result Bool Halt) (status : ℕ) → Finishes mid new end status → IsWithout end → ScriptHeadline g ticks ticked old mid from limit script left end
      → FileRun g ticks ticked old new from limit script left status
  file_run end status finish without h =
      let f = finish without in
      let P : H → Type 0 = λ x. ScriptHeadline g ticks ticked old x from limit script left end in
      record { end = end; numbered = f.0; headline = subst P (sym f.1) h }

pub try_run : {H : Type 0} (g : Ghosts H) (mid new : H) (from : State) (ticks ticked : ℕ) (before : List ℕ) (limit : ℕ) (script left : List ℕ) (end : Result Bool Halt) (status : ℕ) → Finishes mid new end status → IsWithout end
    → TryHeadline from ticks ticked before (g.said mid).bytes limit script left end → TryRun from ticks ticked before (g.said new).bytes limit script left status
try_run g mid new from ticks ticked before limit script left end status finish without h =
    let f = finish without in
    let P : Said → Type 0 = λ s. TryHeadline from ticks ticked before s.bytes limit script left end in
    record { end = end; numbered = f.0; headline = subst P (ap (λ x. g.said x) (sym f.1)) h }

-- the line of a broken page was answered, or an answer failed
abbrev pub Breaks : {H : Type 0} → Ghosts H → H → H → Result Bool Halt → ℕ → Type 0
Breaks g mid new end status = (page expected found : ℕ) → end ≡ Err (Stopped (Broken page expected found))
    → ((status ≡ 6) × (g.tells → (g.said new).bytes ≡ (g.said mid).bytes ++ broken_line page expected found)) ⊎ ((status ≡ 4) × Rose (g.said mid).faults (g.said new).faults)

pub refused_as : {H : Type 0} (g : Ghosts H) (tells : g.tells) (old mid new : H) (end : Result Bool Halt) (status : ℕ) → Finishes mid new end status → Breaks g mid new end status → g.told new ≡ g.told mid
    → OpensBroken g old mid end → (end ≢ Err (Stopped Disk)) → (Rose (g.said old).faults (g.said new).faults → ⊥) → RefusedAsBroken g old new status
refused_as g tells old mid new (Ok refused) status finish breaks kept o d a = absurd o.by
refused_as g tells old mid new (Err (Stopped Disk)) status finish breaks kept o d a = absurd (d refl)
refused_as g tells old mid new (Err (Stopped Answer)) status finish breaks kept o d a = absurd o.by
refused_as g tells old mid new (Err (Stopped Memory)) status finish breaks kept o d a = record {
  told = kept ∙ o.told;
  by = inr ((finish tt).0, ap (λ x. g.said x) (finish tt).1 ∙ o.said);
}
refused_as g tells old mid new (Err (Stopped (Broken page expected found))) status finish breaks kept o d a = record {
  told = kept ∙ o.told;
  by = elim (breaks page expected found refl) [
    | inl b ↦ inl (b.0, (page, expected, found, o.by, b.1 tells ∙ ap (λ (s : Said). s.bytes ++ broken_line page expected found) o.said))
    | inr b ↦ absurd (let P : Said → Type 0 = λ s. Rose s.faults (g.said new).faults in a (subst P o.said b.1))
  ];
}
refused_as g tells old mid new (Err Source) status finish breaks kept o d a = absurd o.by
refused_as g tells old mid new (Err Full) status finish breaks kept o d a = absurd o.by

module _ {H : Type 0} (g : Ghosts H) (mid new : H) where
  pub disk_cause : (end : Result Bool Halt) (status : ℕ) → Finishes mid new end status → Breaks g mid new end status → status ≡ 3 → end ≡ Err (Stopped Disk)
  disk_cause (Ok false) status finish breaks e = absurd (let f = (finish tt).0 in omega (arith, e, f))
  disk_cause (Ok true) status finish breaks e = absurd (let f = (finish tt).0 in omega (arith, e, f))
  disk_cause (Err (Stopped Disk)) status finish breaks e = refl
  disk_cause (Err (Stopped Answer)) status finish breaks e = absurd (let f = (finish tt).0 in omega (arith, e, f))
  disk_cause (Err (Stopped Memory)) status finish breaks e = absurd (let f = (finish tt).0 in omega (arith, e, f))
  disk_cause (Err (Stopped (Broken page expected found))) status finish breaks e = absurd (elim (breaks page expected found refl) [ inl b ↦ (let f = b.0 in omega (arith, e, f)) | inr b ↦ (let f = b.0 in omega (arith, e, f)) ])
  disk_cause (Err Source) status finish breaks e = absurd (let f = (finish tt).0 in omega (arith, e, f))
  disk_cause (Err Full) status finish breaks e = absurd (let f = (finish tt).0 in omega (arith, e, f))

  pub number_cause : (end : Result Bool Halt) (status : ℕ) → Finishes mid new end status → Breaks g mid new end status
      → ((page expected found : ℕ) → end ≡ Err (Stopped (Broken page expected found)) → expected ≢ found) → status ≡ 6 → AnswersBroken g new
  number_cause (Ok false) status finish breaks differ e = absurd (let f = (finish tt).0 in omega (arith, e, f))
  number_cause (Ok true) status finish breaks differ e = absurd (let f = (finish tt).0 in omega (arith, e, f))
  number_cause (Err (Stopped Disk)) status finish breaks differ e = absurd (let f = (finish tt).0 in omega (arith, e, f))
  number_cause (Err (Stopped Answer)) status finish breaks differ e = absurd (let f = (finish tt).0 in omega (arith, e, f))
  number_cause (Err (Stopped Memory)) status finish breaks differ e = absurd (let f = (finish tt).0 in omega (arith, e, f))
  number_cause (Err (Stopped (Broken page expected found))) status finish breaks differ e =
      elim (breaks page expected found refl) [
        | inl b ↦ record { page = page; expected = expected; found = found; differ = differ page expected found refl; before = (g.said mid).bytes; said = b.1 }
        | inr b ↦ absurd (let f = b.0 in omega (arith, e, f))
      ]
  number_cause (Err Source) status finish breaks differ e = absurd (let f = (finish tt).0 in omega (arith, e, f))
  number_cause (Err Full) status finish breaks differ e = absurd (let f = (finish tt).0 in omega (arith, e, f))

  of_run : (status n : ℕ) → status ≡ n → n ≤ 7 → n ≢ 2 → IsOfRun status
  of_run status n e small other = (omega (arith, e, small), λ two. other (sym e ∙ two))

  pub known : (end : Result Bool Halt) (status : ℕ) → Finishes mid new end status → Breaks g mid new end status → IsOfRun status
  known (Ok false) status finish breaks = of_run status 0 (finish tt).0 (omega arith) (λ e. omega (arith, e))
  known (Ok true) status finish breaks = of_run status 1 (finish tt).0 (omega arith) (λ e. omega (arith, e))
  known (Err (Stopped Disk)) status finish breaks = of_run status 3 (finish tt).0 (omega arith) (λ e. omega (arith, e))
  known (Err (Stopped Answer)) status finish breaks = of_run status 4 (finish tt).0 (omega arith) (λ e. omega (arith, e))
  known (Err (Stopped Memory)) status finish breaks = of_run status 5 (finish tt).0 (omega arith) (λ e. omega (arith, e))
  known (Err (Stopped (Broken page expected found))) status finish breaks =
      elim (breaks page expected found refl) [
        | inl b ↦ of_run status 6 b.0 (omega arith) (λ e. omega (arith, e))
        | inr b ↦ of_run status 4 b.0 (omega arith) (λ e. omega (arith, e))
      ]
  known (Err Source) status finish breaks = of_run status 4 (finish tt).0 (omega arith) (λ e. omega (arith, e))
  known (Err Full) status finish breaks = of_run status 7 (finish tt).0 (omega arith) (λ e. omega (arith, e))

  pub takes_by : (end : Result Bool Halt) (status : ℕ) → Finishes mid new end status → Breaks g mid new end status → (limit : ℕ) (script left : List ℕ)
      → Takes limit script left end → TakesBy limit script left status
  takes_by (Ok false) status finish breaks limit script left t = (λ e. absurd (let f = (finish tt).0 in omega (arith, e, f)), λ n. t)
  takes_by (Ok true) status finish breaks limit script left t = (λ e. absurd (let f = (finish tt).0 in omega (arith, e, f)), λ n. t)
  takes_by (Err (Stopped Disk)) status finish breaks limit script left t = (λ e. absurd (let f = (finish tt).0 in omega (arith, e, f)), λ n. t)
  takes_by (Err (Stopped Answer)) status finish breaks limit script left t = (λ e. absurd (let f = (finish tt).0 in omega (arith, e, f)), λ n. t)
  takes_by (Err (Stopped Memory)) status finish breaks limit script left t = (λ e. absurd (let f = (finish tt).0 in omega (arith, e, f)), λ n. t)
  takes_by (Err (Stopped (Broken page expected found))) status finish breaks limit script left t =
      elim (breaks page expected found refl) [
        | inl b ↦ (λ e. absurd (let s = b.0 in omega (arith, e, s)), λ n. t)
        | inr b ↦ (λ e. absurd (let s = b.0 in omega (arith, e, s)), λ n. t)
      ]
  takes_by (Err Source) status finish breaks limit script left t = (λ e. absurd (let f = (finish tt).0 in omega (arith, e, f)), λ n. t)
  takes_by (Err Full) status finish breaks limit script left t = (λ e. t, λ n. absurd (n (finish tt).0))

  module _ (old : H) (source_rose : Type 0) (later : (g.said old).faults ≤ (g.said mid).faults) where
    abbrev pub Caused : Type 0
    Caused = source_rose ⊎ Rose (g.said old).faults (g.said new).faults

    on : Rose (g.said old).faults (g.said mid).faults → new ≡ mid → Caused
    on r e = inr (let P : H → Type 0 = λ h. Rose (g.said old).faults (g.said h).faults in subst P (sym e) r)

    pub answer_cause : (end : Result Bool Halt) (status : ℕ) → Finishes mid new end status → Breaks g mid new end status
        → (end ≡ Err (Stopped Answer) → Rose (g.said old).faults (g.said mid).faults) → (end ≡ Err Source → source_rose) → status ≡ 4 → Caused
    answer_cause (Ok false) status finish breaks a s e = absurd (let f = (finish tt).0 in omega (arith, e, f))
    answer_cause (Ok true) status finish breaks a s e = absurd (let f = (finish tt).0 in omega (arith, e, f))
    answer_cause (Err (Stopped Disk)) status finish breaks a s e = absurd (let f = (finish tt).0 in omega (arith, e, f))
    answer_cause (Err (Stopped Answer)) status finish breaks a s e = on (a refl) (finish tt).1
    answer_cause (Err (Stopped Memory)) status finish breaks a s e = absurd (let f = (finish tt).0 in omega (arith, e, f))
    answer_cause (Err (Stopped (Broken page expected found))) status finish breaks a s e =
        elim (breaks page expected found refl) [
          | inl b ↦ absurd (let f = b.0 in omega (arith, e, f))
          | inr b ↦ inr (let r = b.1 in grind (arith, r, later))
        ]
    answer_cause (Err Source) status finish breaks a s e = inl (s refl)
    answer_cause (Err Full) status finish breaks a s e = absurd (let f = (finish tt).0 in omega (arith, e, f))
