-- What opening a disk leaves.
use Rattle.std.proofs.Common.{◌≡◌, ℕ, ◌≤◌, ◌^◌, ◌==◌, ◌&&◌, nat_lt, Bool, true, false, cond, List, [], ◌∷◌, Option, Some, None, Result, Err, refl, sym, ◌∙◌, ap, arith}
use Rattle.gx_bytes.specs.Fields.{of64}
use Rattle.gx_words.specs.Moments.{Goes}
use Rattle.gx_disk.specs.declared.disk.Disk.{Ghosts}
use Rattle.gx_log.specs.Disks.{Leaves, Reads}
use Rattle.gx_log.specs.Broken.{HasCause}
use Rattle.gx_log.specs.Records.{Record, Stands, laid, laid_all}
use Rattle.gx_log.specs.declared.error.LogError.{LogError}
use Rattle.gx_log.specs.declared.error.LogError.TheVariants as log
use Rattle.gx_pages.specs.declared.error.PageError.{PageError}
use Rattle.gx_pages.specs.declared.error.PageError.TheVariants as pages
use Rattle.gx_pager.specs.Headers.{wrong_field}
use Rattle.gx_pager.specs.Layers.{over}
use Rattle.gx_pager.specs.Openings.{Opening, IsHeader, ZeroBroken, page_error}
use Rattle.gx_pager.proofs.Maps.{over_over, some_same}
use Rattle.gx_pager.proofs.Moments.{CountsNow, OnlyNow, leaves_then, leaves_weaker, left_now, goes_then}

-- laid over nothing, and then over what stood there
laid_over : (before : Option (List ℕ)) (page : ℕ) (entries : Record) → laid before page entries ≡ over (laid None page entries) before
laid_over before page [] = refl
laid_over before page (e ∷ entries) =
    let test = nat_lt (of64 e.0) (2 ^ 50) && (of64 e.0 == page) in
    laid_over (cond test (Some e.1) before) page entries
    ∙ one test (laid None page entries) e.1 before
    ∙ ap (λ (o : Option (List ℕ)). over o before) (sym (laid_over (cond test (Some e.1) None) page entries))
  where
    one : (b : Bool) (l : Option (List ℕ)) (bytes : List ℕ) (before : Option (List ℕ)) → over l (cond b (Some bytes) before) ≡ over (over l (cond b (Some bytes) None)) before
    one true l bytes before = sym (over_over l (Some bytes) before)
    one false l bytes before = sym (over_over l None before)

pub laid_all_over : (before : Option (List ℕ)) (page : ℕ) (records : List Record) → laid_all before page records ≡ over (laid_all None page records) before
laid_all_over before page [] = refl
laid_all_over before page (r ∷ records) =
    laid_all_over (laid before page r) page records
    ∙ ap (λ (o : Option (List ℕ)). over (laid_all None page records) o) (laid_over before page r)
    ∙ sym (over_over (laid_all None page records) (laid None page r) before)
    ∙ ap (λ (o : Option (List ℕ)). over o before) (sym (laid_all_over (laid None page r) page records))

module _ {D : Type 0} (g : Ghosts D) (counts : CountsNow g) (only : OnlyNow g) where
  pub opening_of : (old new : D) → g.told new ≡ g.told old → g.said new ≡ g.said old → g.faults old ≤ g.faults new → Goes g.moment g.may_have_left_since old new
      → (g.tells → Leaves g (g.now_may_leave old) old new) → Opening g old new
  opening_of old new told said faults goes time = record {
    told = told;
    said = said;
    faults = faults;
    goes = goes;
    images = λ tells. left_now g counts only (g.now_may_leave old) old new (λ c left. left) (time tells);
    time = time;
  }

  pub opening_reads : (old mid new : D) → Opening g old mid → Reads g mid new → Opening g old new
  opening_reads old mid new first reads =
      opening_of old new (reads.told ∙ first.told) (reads.said ∙ first.said) (omega (arith, first.faults, reads.faults))
      (goes_then g old mid new first.goes (record { later = reads.time.later; keeps = reads.time.keeps }))
      (λ tells. leaves_then g (g.now_may_leave old) old mid new first.said (first.time tells) (leaves_weaker g (g.now_may_leave mid) (g.now_may_leave old) mid new (first.images tells) reads.time))

-- page 0 of an image that stands for pages isn't broken
pub zero_stands : (o : Option (List ℕ)) (t : Bool) (size expected found : ℕ) → IsHeader (cond t o None) → ZeroBroken o size expected found → ⊥
zero_stands o false size expected found is broken = is
zero_stands None true size expected found is broken = is
zero_stands (Some h) true size expected found is broken = apart (expected, found) (sym is ∙ broken)
  where
    apart : (p : ℕ × ℕ) → None ≡ Some p → ⊥
    apart p same = cc

-- a log that has counted records isn't broken
pub log_stands : (e : LogError) (before now : ℕ) (tells : Type 0) (log : List ℕ) (memory : Type 0) → HasCause before now tells log memory e → tells → (records : List Record) → Stands records log
    → (at expected found : ℕ) → page_error e ≡ pages.Broken at expected found → ⊥
log_stands log.DiskFault before now tells log memory cause told records stands at expected found same = apart at expected found same
  where
    apart : (at expected found : ℕ) → pages.DiskFault ≡ pages.Broken at expected found → ⊥
    apart at expected found same = cc
log_stands (log.Broken p x y) before now tells log memory cause told records stands at expected found same = (cause.1 told).1 records stands
log_stands log.Memory before now tells log memory cause told records stands at expected found same = apart at expected found same
  where
    apart : (at expected found : ℕ) → pages.Memory ≡ pages.Broken at expected found → ⊥
    apart at expected found same = cc

-- and a header that is read without a fault isn't
pub zero_fine : (o : Option (List ℕ)) (header : List ℕ) (size expected found : ℕ) → o ≡ Some header → wrong_field header ≡ None → ZeroBroken o size expected found → ⊥
zero_fine None header size expected found is fine broken = apart header is
  where
    apart : (h : List ℕ) → None ≡ Some h → ⊥
    apart h same = cc
zero_fine (Some h) header size expected found is fine broken = apart (expected, found) (sym fine ∙ ap wrong_field (sym (some_same h header is)) ∙ broken)
  where
    apart : (p : ℕ × ℕ) → None ≡ Some p → ⊥
    apart p same = cc

pub err_same : {T : Type 0} (a b : PageError) (result : Result T PageError) → result ≡ Err a → result ≡ Err b → a ≡ b
err_same a b result first second = cc
