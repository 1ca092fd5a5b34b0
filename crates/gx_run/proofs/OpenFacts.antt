-- What opening a file gives a run.
use Rattle.std.proofs.Common.{◌≡◌, ◌⊎◌, inl, inr, ℕ, ◌+◌, ◌^◌, ◌<◌, ◌≤◌, Bool, true, false, List, ◌++◌, length, take, drop, Option, Some, None, IfSome, IsSome, is_some, cond, Err, refl, sym, ◌∙◌, ap, subst, nat_lt, arith, take-take}
use Rattle.std.proofs.lemmas.Bool.Decides.{nat_tests}
use Rattle.std.proofs.lemmas.List.{drop-take}
use Rattle.gx_bytes.specs.Fields.{le32, le64}
use Rattle.gx_words.specs.Image.{Image}
use Rattle.gx_words.specs.Moments.{Moment, Now}
use Rattle.gx_words.specs.PageMap.{PageMap}
use Rattle.gx_disk.specs.declared.disk.Disk.{Ghosts}
use Rattle.gx_log.specs.Records.{count_in}
use Rattle.gx_pages.proofs.Emptiness.{empty_header}
use Rattle.gx_pages.specs.Databases.{empty_pages, header_of}
use Rattle.gx_pages.specs.Frees.{HasCount}
use Rattle.gx_pages.specs.Pages.{HasCause, HasNoGap}
use Rattle.gx_pages.specs.declared.error.PageError.{PageError}
use Rattle.gx_pages.specs.declared.error.PageError.TheVariants as pages
use Rattle.gx_pager.specs.Headers.{wrong_number}
use Rattle.gx_pager.specs.Left.{count_named}
use Rattle.gx_pager.specs.Openings.{IsHeader, Opening, OpenBroken}
use Rattle.gx_run.proofs.PageFacts.{wrong_is}
use Rattle.gx_lexer.specs.Cut.{statements}
use Rattle.gx_model.specs.Database.{Database, empty}
use Rattle.gx_database.specs.Standing.{StandsFor}
use Rattle.gx_database.proofs.Empty.{empty_stands}
use Rattle.gx_model.specs.Runs.{State}
use Rattle.gx_run.specs.Statuses.{IsWithout}
use Rattle.gx_run.specs.Top.{Headline, OpensBroken, stopped_by}
use Rattle.gx_run.specs.declared.halt.Halt.TheVariants.{Stopped}
use Rattle.gx_run.specs.declared.stop.Stop.TheVariants.{Disk, Memory}
use Rattle.gx_run.proofs.TopFacts as facts

fine : (count : ℕ) → 2 ≤ count → count ≤ 2 ^ 50 → wrong_number 1481197392 2 count ≡ None
fine count least most =
    let a : nat_lt count 2 ≡ false = grind (arith, nat_tests) in
    let b : nat_lt (2 ^ 50) count ≡ false = grind (arith, nat_tests) in
    rw (a, b) refl

-- the first eight bytes of a header are its mark and its format
mark_of : (header : List ℕ) → take 8 header ≡ le32 1481197392 ++ le32 2 → take 4 (drop 0 header) ≡ le32 1481197392
unfolding le32
mark_of header first = sym (take-take 4 8 header (omega arith)) ∙ ap (λ (bytes : List ℕ). take 4 bytes) first

format_of : (header : List ℕ) → take 8 header ≡ le32 1481197392 ++ le32 2 → take 4 (drop 4 header) ≡ le32 2
unfolding le32
format_of header first = sym (drop-take 4 4 header) ∙ ap (λ (bytes : List ℕ). drop 4 bytes) first

-- a database's page 0 is a header
pub is_header : (map : PageMap) (db : Database) → StandsFor map db → IsHeader (map 0)
is_header map db stands =
    let s = stands.header in
    let below : stands.count < 2 ^ 64 = let m = s.most in omega (arith, m) in
    subst IsHeader (sym s.at_zero)
    (wrong_is s.header 1481197392 2 stands.count (omega arith) (omega arith) below (mark_of s.header s.mark) (format_of s.header s.mark) s.counted ∙ fine stands.count s.least s.most)

-- how many pages a database has, as its page 0 says
pub count_of : (map : PageMap) (db : Database) → StandsFor map db → (count : ℕ) → count ≤ 2 ^ 50 → IfSome (map 0) (λ header. HasCount header count) → count_in (map 0) ≡ count
count_of map db stands count most has =
    let s = stands.header in
    let P : Option (List ℕ) → Type 0 = λ o. IfSome o (λ header. HasCount header count) in
    let h : HasCount s.header count = subst P s.at_zero has in
    ap count_in s.at_zero ∙ count_named s.header count h most

empty_named : HasCount (header_of 2) 2
unfolding header_of le32 le64
empty_named = refl

-- an empty database has two pages
pub empty_count : count_in (empty_pages 0) ≡ 2
empty_count =
    let few : 2 ≤ 2 ^ 50 = omega arith in
    count_of empty_pages empty empty_stands 2 few (subst (λ (o : Option (List ℕ)). IfSome o (λ header. HasCount header 2)) (sym empty_header) empty_named)

module _ {H : Type 0} (g : Ghosts H) (tells : g.tells) (only_now : (d : H) (m : Moment Image) → g.may_have_left_since d (g.moment d) m → Now (g.now_may_leave d) (g.said d).bytes m)
    (counts_now : (d : H) (t : ℕ) (c : Image) → t ≤ g.moment d → g.now_may_leave d c → g.may_have_left_since d t (record { image = c; bytes = (g.said d).bytes })) where
  -- the file couldn't be opened
  pub not_opened : (s : ℕ) (start new : H) (from : State) (script : List ℕ) (error : PageError) (cause : ℕ → ℕ → ℕ → Type 0) (memory : Type 0) → Opening g start new
      → HasCause (g.faults start) (g.faults new) cause (λ n. ⊥) memory error
      → ((page expected found : ℕ) → error ≡ pages.Broken page expected found → ⊥)
      → Headline g s s start new from (statements script) (Err (stopped_by error))
  not_opened s start new from script pages.DiskFault cause memory opening has sound =
      facts.not_begun g tells (λ (h : H). h) (λ h f. Unit {0}) counts_now only_now start new from (statements script) opening Disk (λ n. inr n) (λ n c. omega arith)
  not_opened s start new from script (pages.Broken page expected found) cause memory opening has sound = absurd (sound page expected found refl)
  not_opened s start new from script (pages.PageSpace count) cause memory opening has sound = absurd has
  not_opened s start new from script pages.Memory cause memory opening has sound =
      facts.not_begun g tells (λ (h : H). h) (λ h f. Unit {0}) counts_now only_now start new from (statements script) opening Memory (λ n. inr n) (λ n c. omega arith)

-- a disk that can't be opened
pub opens_broken : {H : Type 0} (g : Ghosts H) (tells : g.tells) (start new : H) (error : PageError) (memory : Type 0) → Opening g start new
    → HasCause (g.faults start) (g.faults new) (λ page expected found. g.tells → OpenBroken (g.told start) page expected found) (λ n. ⊥) memory error
    → OpensBroken g start new (Err (Stopped (stopped_by error)))
opens_broken g tells start new pages.DiskFault memory opening has = record { by = tt; told = opening.told; said = opening.said }
opens_broken g tells start new (pages.Broken page expected found) memory opening has = record { by = has.1 tells; told = opening.told; said = opening.said }
opens_broken g tells start new (pages.PageSpace count) memory opening has = absurd has
opens_broken g tells start new pages.Memory memory opening has = record { by = tt; told = opening.told; said = opening.said }

-- nothing was taken
pub untaken : (script told : List ℕ) (limit : ℕ) → told ≡ script → length script ≤ limit + length told
untaken script told limit e = let same = ap (λ (l : List ℕ). length l) e in omega (arith, same)

-- no page is broken where the opening found none
pub without : (error : PageError) → ((page expected found : ℕ) → error ≡ pages.Broken page expected found → ⊥) → IsWithout (Err (Stopped (stopped_by error)))
without pages.DiskFault sound = tt
without (pages.Broken page expected found) sound = sound page expected found refl
without (pages.PageSpace count) sound = tt
without pages.Memory sound = tt
