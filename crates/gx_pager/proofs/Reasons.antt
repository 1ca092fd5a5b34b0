-- Why a disk is refused: there is one reason at most.
use Rattle.std.proofs.Common.{◌≡◌, ◌⊎◌, inl, inr, ℕ, ◌+◌, ◌*◌, ◌<◌, ◌^◌, List, [], ◌∷◌, ◌++◌, length, take, drop, Option, Some, None, refl, sym, ◌∙◌, ap, subst, arith, append_assoc, length-append}
use Rattle.std.specs.List.{AllByRecursion}
use Rattle.std.proofs.lemmas.List.{take_at, take_all}
use Rattle.gx_bytes.specs.Fields.{le64, length-le64, le64-same}
use Rattle.gx_words.specs.Image.{Image}
use Rattle.gx_log.specs.Broken.{EndsPast, HasNoFront, IsBroken, capped}
use Rattle.gx_log.specs.Records.{Record, IsRecord, body, opened, laid_all, piece}
use Rattle.gx_log.proofs.Bodies.{entries_bytes, length-body, body_same, stands_same}
use Rattle.gx_log.proofs.Finding.{not_standing}
use Rattle.gx_pager.specs.Openings.{OpenBroken, ZeroBroken}

-- no whole record stands behind an open gate at the front of these bytes
abbrev NoMore : List ℕ → Type 0
NoMore bytes = (m : Record) (rest : List ℕ) → IsRecord m → bytes ≡ 1 ∷ body m ++ rest → ⊥

-- there is one list of open records behind which there is no more
one_front : (a b : List Record) (x y : List ℕ) → AllByRecursion IsRecord a → AllByRecursion IsRecord b → NoMore x → NoMore y → opened a ++ x ≡ opened b ++ y → (a ≡ b) × (x ≡ y)
one_front [] [] x y left right last end same = (refl, same)
one_front [] (m ∷ b) x y left right last end same = absurd (last m (opened b ++ y) right.0 (same ∙ ap (λ (l : List ℕ). 1 ∷ l) (append_assoc (body m) (opened b) y)))
one_front (m ∷ a) [] x y left right last end same = absurd (end m (opened a ++ x) left.0 (sym same ∙ ap (λ (l : List ℕ). 1 ∷ l) (append_assoc (body m) (opened a) x)))
one_front (m ∷ a) (n ∷ b) x y left right last end same =
    let inner : body m ++ opened a ++ x ≡ body n ++ opened b ++ y = ap (λ (l : List ℕ). drop 1 l) same in
    let bodies = body_same m n (opened a ++ x) (opened b ++ y) left.0 right.0 (sym (append_assoc (body m) (opened a) x) ∙ inner ∙ append_assoc (body n) (opened b) y) in
    let rest = one_front a b x y left.1 right.1 last end bodies.1 in
    ((λ i. bodies.0 i ∷ rest.0 i), rest.1)

-- a body begins with its count
head_of : (m : Record) (rest : List ℕ) → take 8 (body m ++ rest) ≡ le64 (length m)
unfolding body
head_of m rest =
    ap (λ (l : List ℕ). take 8 l) (append_assoc (le64 (length m)) (entries_bytes m) rest) ∙ take_at (le64 (length m)) (entries_bytes m ++ rest) 8 (length-le64 (length m))

past_size : (log : List ℕ) (place expected found : ℕ) (past : EndsPast log place expected found) → length log ≡ place + 1 + length past.rest
past_size log place expected found past = omega (arith, ap length past.bytes, length-append (opened past.records) (1 ∷ past.rest), past.at)

-- behind the place where a record is cut off there is no more
past_last : (log : List ℕ) (place expected found : ℕ) (past : EndsPast log place expected found) → NoMore (1 ∷ past.rest)
past_last log place expected found past m rest sound is =
    let inner : past.rest ≡ body m ++ rest = ap (λ (l : List ℕ). drop 1 l) is in
    let long : length past.rest ≡ 8 + 8200 * length m + length rest = omega (arith, ap length inner, length-append (body m) rest, length-body m sound.whole) in
    let size = past_size log place expected found past in
    elim past.cut [
      | inl short ↦ omega (arith, short.0, size, long)
      | inr counted ↦
          let same_count : counted.0 ≡ length m = le64-same counted.0 (length m) counted.1 sound.count (sym counted.2 ∙ ap (λ (l : List ℕ). take 8 l) inner ∙ head_of m rest) in
          omega (arith, counted.3, size, long, same_count)
    ]

-- how a record is cut off, and where it would end
abbrev Cut : List ℕ → List ℕ → ℕ → ℕ → Type 0
Cut log rest place expected =
    ((length log < place + 9) × (expected ≡ capped (place + 9)))
    ⊎ ((count : ℕ) × (count < 2 ^ 64) × (take 8 rest ≡ le64 count) × (length log < place + 9 + 8200 * count) × (expected ≡ capped (place + 9 + 8200 * count)))

-- fewer than eight bytes are no count
no_count : (rest : List ℕ) (count : ℕ) → length rest < 8 → take 8 rest ≡ le64 count → ⊥
no_count rest count few is = omega (arith, few, ap length (sym (take_all 8 rest (omega (arith, few))) ∙ is), length-le64 count)

one_cut : (log rest : List ℕ) (place expected wanted : ℕ) → length log ≡ place + 1 + length rest → Cut log rest place expected → Cut log rest place wanted → expected ≡ wanted
one_cut log rest place expected wanted size (inl short) (inl other) = short.1 ∙ sym other.1
one_cut log rest place expected wanted size (inl short) (inr other) = absurd (no_count rest other.0 (omega (arith, size, short.0)) other.2)
one_cut log rest place expected wanted size (inr long) (inl other) = absurd (no_count rest long.0 (omega (arith, size, other.0)) long.2)
one_cut log rest place expected wanted size (inr long) (inr other) =
    long.4 ∙ ap (λ (n : ℕ). capped (place + 9 + 8200 * n)) (le64-same long.0 other.0 long.1 other.1 (sym long.2 ∙ other.2)) ∙ sym other.4

one_end : (log : List ℕ) (at expected found place wanted there : ℕ) → EndsPast log at expected found → EndsPast log place wanted there → (at ≡ place) × (expected ≡ wanted) × (found ≡ there)
one_end log at expected found place wanted there past other =
    let same = one_front past.records other.records (1 ∷ past.rest) (1 ∷ other.rest) past.sound other.sound
    (past_last log at expected found past) (past_last log place wanted there other) (sym past.bytes ∙ other.bytes) in
    let here : place ≡ at = other.at ∙ ap (λ (r : List Record). length (opened r)) (sym same.0) ∙ sym past.at in
    let rest : other.rest ≡ past.rest = sym (ap (λ (l : List ℕ). drop 1 l) same.1) in
    let cut : Cut log past.rest at wanted = subst (λ (l : List ℕ). Cut log l at wanted) rest (subst (λ (n : ℕ). Cut log other.rest n wanted) here other.cut) in
    (sym here, one_cut log past.rest at expected wanted (past_size log at expected found past) past.cut cut, past.size ∙ sym other.size)

-- where a record is cut off the log doesn't end with whole ones
not_both : (log : List ℕ) (at expected found place wanted there : ℕ) → EndsPast log at expected found → HasNoFront log place wanted there → ⊥
not_both log at expected found place wanted there past short =
    let none : NoMore [] = λ m rest sound is. no_front (body m ++ rest) is in
    let same = one_front past.records short.records (1 ∷ past.rest) [] past.sound short.sound (past_last log at expected found past) none (sym past.bytes ∙ short.bytes ∙ sym (append_none (opened short.records))) in
    no_front past.rest (sym same.1)
  where
    no_front : (l : List ℕ) → [] ≡ 1 ∷ l → ⊥
    no_front l is = cc

    append_none : (l : List ℕ) → l ++ [] ≡ l
    append_none [] = refl
    append_none (x ∷ l) = ap (λ (k : List ℕ). x ∷ k) (append_none l)

one_break : (log : List ℕ) (at expected found place wanted there : ℕ) → IsBroken log at expected found → IsBroken log place wanted there → (at ≡ place) × (expected ≡ wanted) × (found ≡ there)
one_break log at expected found place wanted there (inl past) (inl other) = one_end log at expected found place wanted there past other
one_break log at expected found place wanted there (inl past) (inr other) = absurd (not_both log at expected found place wanted there past other)
one_break log at expected found place wanted there (inr short) (inl other) = absurd (not_both log place wanted there at expected found other short)
one_break log at expected found place wanted there (inr short) (inr other) =
    (short.at ∙ sym other.at, omega (arith, short.one_more, short.at, other.one_more, other.at), short.size ∙ sym other.size)

one_zero : (page : Option (List ℕ)) (size expected found wanted there : ℕ) → ZeroBroken page size expected found → ZeroBroken page size wanted there → (expected ≡ wanted) × (found ≡ there)
one_zero None size expected found wanted there left right = (left.0 ∙ sym right.0, left.1 ∙ sym right.1)
one_zero (Some header) size expected found wanted there left right =
    let same = one_pair (expected, found) (wanted, there) (sym left ∙ right) in
    (ap (λ (p : ℕ × ℕ). p.0) same, ap (λ (p : ℕ × ℕ). p.1) same)
  where
    one_pair : (a b : ℕ × ℕ) → Some a ≡ Some b → a ≡ b
    one_pair a b same = cc

pub one_reason : (image : Image) (at expected found place wanted there : ℕ) → OpenBroken image at expected found → OpenBroken image place wanted there
    → (at ≡ place) × (expected ≡ wanted) × (found ≡ there)
one_reason image at expected found place wanted there (inl log) (inl other) = one_break image.log at expected found place wanted there log other
one_reason image at expected found place wanted there (inl log) (inr zero) = absurd (not_standing image.log at expected found zero.1.0 log zero.1.1)
one_reason image at expected found place wanted there (inr zero) (inl log) = absurd (not_standing image.log place wanted there zero.1.0 log zero.1.1)
one_reason image at expected found place wanted there (inr zero) (inr other) =
    let records = stands_same other.1.0 zero.1.0 image.log other.1.1 zero.1.1 in
    let same = one_zero (laid_all (piece image.pages 0) 0 zero.1.0) (length image.pages) expected found wanted there zero.1.2
    (subst (λ (r : List Record). ZeroBroken (laid_all (piece image.pages 0) 0 r) (length image.pages) wanted there) records other.1.2) in
    (zero.0 ∙ sym other.0, same.0, same.1)
