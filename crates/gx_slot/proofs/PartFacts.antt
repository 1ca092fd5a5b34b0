-- A list of bytes as parts, one behind the other: each is read and written at its place.
use Rattle.std.proofs.Common.{◌≡◌, ℕ, ◌+◌, List, [], ◌∷◌, ◌++◌, length, take, drop, refl, sym, ◌∙◌, ap, append_assoc, length-append}
use Rattle.std.proofs.Math.Seq.{take-append_seam, drop-append_seam, drop-append-add}
use Rattle.gx_bytes.specs.Fields.{paste}
use Rattle.gx_slot.specs.Slots.{joined}

pub read_mid : (xs ys zs : List ℕ) (n m : ℕ) → length xs ≡ n → length ys ≡ m → take m (drop n (xs ++ (ys ++ zs))) ≡ ys
read_mid xs ys zs n m e f = rw (← e, ← f, drop-append_seam xs (ys ++ zs), take-append_seam ys zs) refl

pub paste_mid : (xs old ys new : List ℕ) (at : ℕ) → length xs ≡ at → length old ≡ length new → paste (xs ++ (old ++ ys)) at new ≡ xs ++ (new ++ ys)
paste_mid xs old ys new at e f =
    rw (← e, ← f, take-append_seam xs (old ++ ys), drop-append-add xs (old ++ ys) (length old), drop-append_seam old ys) (append_assoc xs new ys)

abbrev pub sizes : List (List ℕ) → ℕ
sizes [] = 0
sizes (part ∷ parts) = length part + sizes parts

pub joined-append : (xs ys : List (List ℕ)) → joined (xs ++ ys) ≡ joined xs ++ joined ys
joined-append [] ys = refl
joined-append (x ∷ xs) ys = ap (λ (bs : List ℕ). x ++ bs) (joined-append xs ys) ∙ sym (append_assoc x (joined xs) (joined ys))

pub length-joined : (xs : List (List ℕ)) → length (joined xs) ≡ sizes xs
length-joined [] = refl
length-joined (x ∷ xs) = length-append x (joined xs) ∙ ap (λ (n : ℕ). length x + n) (length-joined xs)

pub read_part : (before : List (List ℕ)) (part : List ℕ) (after : List (List ℕ)) (at n : ℕ) → sizes before ≡ at → length part ≡ n
    → take n (drop at (joined (before ++ part ∷ after))) ≡ part
read_part before part after at n e f =
    rw (joined-append before (part ∷ after)) (read_mid (joined before) part (joined after) at n (length-joined before ∙ e) f)

pub paste_part : (before : List (List ℕ)) (old : List ℕ) (after : List (List ℕ)) (new : List ℕ) (at : ℕ) → sizes before ≡ at → length old ≡ length new
    → paste (joined (before ++ old ∷ after)) at new ≡ joined (before ++ new ∷ after)
paste_part before old after new at e f =
    ap (λ (bs : List ℕ). paste bs at new) (joined-append before (old ∷ after))
    ∙ paste_mid (joined before) old (joined after) new at (length-joined before ∙ e) f
    ∙ sym (joined-append before (new ∷ after))
