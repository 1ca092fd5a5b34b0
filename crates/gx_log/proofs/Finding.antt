-- How the counted records of a log are found, one after another.
use Rattle.std.proofs.Common.{◌≡◌, ◌≢◌, ◌⊎◌, inl, inr, ℕ, ◌+◌, ◌*◌, ◌<◌, ◌≤◌, ◌^◌, List, [], ◌∷◌, ◌++◌, length, take, drop, get_or, refl, sym, ◌∙◌, ap, subst, arith, append_assoc, length-append, length-drop, length-take-le, take-append-drop}
use Rattle.std.specs.List.{AllByRecursion}
use Rattle.std.proofs.lemmas.List.{take_all, drop-drop, drop_more, append-nil, take_at}
use Rattle.gx_bytes.specs.Fields.{le64, length-le64, le64-same}
use Rattle.gx_log.specs.Broken.{IsBroken, HasCause, capped}
use Rattle.gx_log.specs.Places.{IsShut, IsOpen, PlaceBroken, PlaceCause, cut}
use Rattle.gx_log.specs.Records.{Record, IsRecord, body, opened, Stands}
use Rattle.gx_log.specs.declared.error.LogError.{LogError}
use Rattle.gx_log.specs.declared.error.LogError.TheVariants.{DiskFault, Broken, Memory}
use Rattle.gx_log.proofs.Bodies.{entries_bytes, opened-push, sound_push, behind, length-body}
use Rattle.gx_log.proofs.Cutting.{take_join, length-cut, cut_entries, cut_bytes}

-- the log up to this place is these open records
pub record SoFar (log : List ℕ) (place : ℕ) (records : List Record) : Type 0 where
  pub bytes : take place log ≡ opened records
  pub sound : AllByRecursion IsRecord records

-- the log is what was found, one byte, and the rest
split_at : (log : List ℕ) (place : ℕ) (records : List Record) → SoFar log place records → place < length log → log ≡ opened records ++ get_or log place 0 ∷ drop (place + 1) log
split_at log place records so_far within =
    sym (take-append-drop place log) ∙ ap (λ (l : List ℕ). take place log ++ l) (drop_more log place 0 within)
    ∙ ap (λ (l : List ℕ). l ++ get_or log place 0 ∷ drop (place + 1) log) so_far.bytes

place_is : (log : List ℕ) (place : ℕ) (records : List Record) → SoFar log place records → place ≤ length log → place ≡ length (opened records)
place_is log place records so_far within = sym (length-take-le place log within) ∙ ap length so_far.bytes

-- the record whose gate this is
unfoldable pub record_at : List ℕ → ℕ → ℕ → Record
record_at log place count = cut 8 8192 count (drop (place + 9) log)

pub record_is : (log : List ℕ) (place end : ℕ) (found : IsOpen log place end) → IsRecord (record_at log place found.count)
unfolding record_at
record_is log place end found = record {
  count = subst (λ (n : ℕ). n < 2 ^ 64) (sym (length-cut 8 8192 found.count (drop (place + 9) log))) found.fits;
  whole = cut_entries 8 8192 found.count (drop (place + 9) log) (omega (arith, found.ends, found.within, length-drop (place + 9) log));
}

pub one_more : (log : List ℕ) (place end : ℕ) (records : List Record) → SoFar log place records → (found : IsOpen log place end) → place < length log
    → SoFar log end (records ++ record_at log place found.count ∷ [])
unfolding record_at body
one_more log place end records so_far found within =
    let entries = cut 8 8192 found.count (drop (place + 9) log) in
    let rest = drop (place + 1) log in
    let ends : end ≡ place + (1 + (8 + 8200 * found.count)) = omega (arith, found.ends) in
    let whole : drop place log ≡ 1 ∷ rest = drop_more log place 0 within ∙ ap (λ (g : ℕ). g ∷ rest) found.gate in
    let field : take (8 + 8200 * found.count) rest ≡ le64 found.count ++ take (8200 * found.count) (drop 8 rest) =
    take_join 8 (8200 * found.count) rest ∙ ap (λ (l : List ℕ). l ++ take (8200 * found.count) (drop 8 rest)) found.field in
    let behind_it : drop 8 rest ≡ drop (place + 9) log = drop-drop 8 (place + 1) log ∙ ap (λ (k : ℕ). drop k log) (let e : place + 1 + 8 ≡ place + 9 = omega arith in e) in
    let parts : take (8200 * found.count) (drop 8 rest) ≡ entries_bytes entries =
    ap (λ (l : List ℕ). take (8200 * found.count) l) behind_it ∙ sym (cut_bytes 8 8192 found.count (drop (place + 9) log)) in
    let body_is : le64 found.count ++ entries_bytes entries ≡ le64 (length entries) ++ entries_bytes entries =
    ap (λ (n : ℕ). le64 n ++ entries_bytes entries) (sym (length-cut 8 8192 found.count (drop (place + 9) log))) in
    record {
      bytes =
          ap (λ (k : ℕ). take k log) ends ∙ take_join place (1 + (8 + 8200 * found.count)) log
          ∙ ap (λ (l : List ℕ). take place log ++ take (1 + (8 + 8200 * found.count)) l) whole
          ∙ ap (λ (l : List ℕ). l ++ take (1 + (8 + 8200 * found.count)) (1 ∷ rest)) so_far.bytes
          ∙ ap (λ (l : List ℕ). opened records ++ l) (take_join 1 (8 + 8200 * found.count) (1 ∷ rest))
          ∙ ap (λ (l : List ℕ). opened records ++ 1 ∷ l) (field ∙ ap (λ (l : List ℕ). le64 found.count ++ l) parts ∙ body_is)
          ∙ sym (opened-push records entries);
      sound = sound_push records entries so_far.sound (record_is log place end found);
    }

-- a gate that isn't open ends them
pub front_of : (log : List ℕ) (place : ℕ) (records : List Record) → SoFar log place records → IsShut log place → Stands records log × (place ≡ length (opened records))
front_of log place records so_far shut = (
  record { gate = get_or log place 0; rest = drop (place + 1) log; bytes = split_at log place records so_far shut.within; shut = shut.gate; sound = so_far.sound },
  place_is log place records so_far (omega (arith, shut.within)),
)

-- where there is no gate, or the record ends past the log, the log is broken
pub broken_of : (log : List ℕ) (place expected : ℕ) (records : List Record) → SoFar log place records → PlaceBroken log place expected → IsBroken log place expected (length log)
broken_of log place expected records so_far (inl (at_end, is)) =
    inr (record { records = records; sound = so_far.sound; bytes = sym (take_all place log (omega (arith, at_end))) ∙ so_far.bytes; at = at_end; one_more = is; size = refl })
broken_of log place expected records so_far (inr (within, gate, cut_off)) =
    inl (record {
      records = records;
      sound = so_far.sound;
      rest = drop (place + 1) log;
      bytes = split_at log place records so_far within ∙ ap (λ (g : ℕ). opened records ++ g ∷ drop (place + 1) log) gate;
      at = place_is log place records so_far (omega (arith, within));
      size = refl;
      cut = elim cut_off [
        | inl short ↦ inl short
        | inr long ↦ inr (long.0, long.1, long.3, long.4, long.5)
      ];
    })

-- and then it doesn't stand for records
no_gate : (gate : ℕ) (tail : List ℕ) (more : List Record) → [] ≡ opened more ++ gate ∷ tail → ⊥
no_gate gate tail [] same = cc
no_gate gate tail (m ∷ more) same = cc

head_of : (rest : List ℕ) (m : Record) (a b : List ℕ) → rest ≡ body m ++ a ++ b → take 8 rest ≡ le64 (length m)
unfolding body
head_of rest m a b is =
    ap (λ (l : List ℕ). take 8 l) (is ∙ ap (λ (l : List ℕ). l ++ b) (append_assoc (le64 (length m)) (entries_bytes m) a) ∙ append_assoc (le64 (length m)) (entries_bytes m ++ a) b)
    ∙ take_at (le64 (length m)) (entries_bytes m ++ a ++ b) 8 (length-le64 (length m))

past_end : (log : List ℕ) (place expected found : ℕ) (rest : List ℕ) (gate : ℕ) (tail : List ℕ) (more : List Record) → length log ≡ place + 1 + length rest → gate ≢ 1
    → AllByRecursion IsRecord more → 1 ∷ rest ≡ opened more ++ gate ∷ tail
    → (length log < place + 9) × (expected ≡ capped (place + 9)) ⊎ ((count : ℕ) × (count < 2 ^ 64) × (take 8 rest ≡ le64 count) × (length log < place + 9 + 8200 * count) × (expected ≡ capped (place + 9 + 8200 * count)))
    → ⊥
past_end log place expected found rest gate tail [] size shut sound same off = let heads : 1 ≡ gate = cc in shut (sym heads)
past_end log place expected found rest gate tail (m ∷ more) size shut sound same off =
    let inner : rest ≡ body m ++ opened more ++ gate ∷ tail = ap (λ (l : List ℕ). drop 1 l) same in
    let long : length rest ≡ 8 + 8200 * length m + length (opened more) + (1 + length tail) =
    omega (arith, ap length inner, length-append (body m ++ opened more) (gate ∷ tail), length-append (body m) (opened more), length-body m sound.0.whole) in
    elim off [
      | inl short ↦ omega (arith, short.0, size, long)
      | inr counted ↦
          let same_count : counted.0 ≡ length m = le64-same counted.0 (length m) counted.1 sound.0.count (sym counted.2 ∙ head_of rest m (opened more) (gate ∷ tail) inner) in
          omega (arith, counted.3, size, long, same_count)
    ]

pub not_standing : (log : List ℕ) (place expected found : ℕ) (records : List Record) → IsBroken log place expected found → Stands records log → ⊥
not_standing log place expected found records (inl past) stands =
    let parts = behind past.records records (1 ∷ past.rest) stands.gate stands.rest past.sound stands.sound stands.shut (sym past.bytes ∙ stands.bytes) in
    past_end log place expected found past.rest stands.gate stands.rest parts.more (omega (arith, ap length past.bytes, length-append (opened past.records) (1 ∷ past.rest), past.at)) stands.shut parts.sound parts.bytes past.cut
not_standing log place expected found records (inr short) stands =
    let parts = behind short.records records [] stands.gate stands.rest short.sound stands.sound stands.shut (append-nil (opened short.records) ∙ sym short.bytes ∙ stands.bytes) in
    no_gate stands.gate stands.rest parts.more parts.bytes

-- the causes of the errors on the way
pub place_cause : (e : LogError) (before mid now : ℕ) (tells : Type 0) (log there : List ℕ) (place size : ℕ) (memory : Type 0) → before ≤ mid → there ≡ log → (tells → size ≡ length log)
    → (tells → (records : List Record) × SoFar log place records) → PlaceCause mid now tells there place size e → HasCause before now tells log memory e
place_cause DiskFault before mid now tells log there place size memory le same known so_far rose = omega (arith, le, rose)
place_cause (Broken page expected found) before mid now tells log there place size memory le same known so_far (apart, at, broken) = (
  apart,
  λ told.
      let records = so_far told in
      let here = broken told (known told ∙ ap length (sym same)) in
      let off : PlaceBroken log place expected = subst (λ (l : List ℕ). PlaceBroken l place expected) same here.1 in
      let is : IsBroken log page expected found =
      subst (λ (n : ℕ). IsBroken log page expected n) (sym (here.0 ∙ known told)) (subst (λ (n : ℕ). IsBroken log n expected (length log)) (sym at) (broken_of log place expected records.0 records.1 off)) in
      (is, λ others stands. not_standing log page expected found others is stands),
)
place_cause Memory before mid now tells log there place size memory le same known so_far none = absurd none

-- a cause as it was at an earlier state of the disk
pub earlier_cause : (e : LogError) (before mid now : ℕ) (tells : Type 0) (log there : List ℕ) (memory : Type 0) → before ≤ mid → there ≡ log → HasCause mid now tells there memory e → HasCause before now tells log memory e
earlier_cause DiskFault before mid now tells log there memory le same rose = omega (arith, le, rose)
earlier_cause (Broken page expected found) before mid now tells log there memory le same (apart, broken) =
    (apart, λ told. (subst (λ (l : List ℕ). IsBroken l page expected found) same (broken told).0, λ records stands. (broken told).1 records (subst (λ (l : List ℕ). Stands records l) (sym same) stands)))
earlier_cause Memory before mid now tells log there memory le same free = free
