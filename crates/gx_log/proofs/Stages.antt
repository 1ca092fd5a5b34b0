-- What the log stands for while a record is added, and while the first gate is closed.
use Rattle.std.proofs.Common.{◌≡◌, ◌≢◌, ◌⊎◌, inl, inr, ℕ, ◌+◌, ◌-◌, ◌≤◌, List, [], ◌∷◌, ◌++◌, length, take, drop, replicate, get_or, refl, sym, ◌∙◌, ap, arith, length-append, append_assoc, take-append-drop}
use Rattle.std.proofs.lemmas.List.{take_at, drop_at, drop-drop, drop_more, take-append-le}
use Rattle.std.proofs.lemmas.Bool.{cases_eq}
use Rattle.gx_words.specs.Image.{Torn, written}
use Rattle.gx_log.specs.Records.{Record, IsRecord, body, opened, Stands}
use Rattle.gx_log.proofs.Bodies.{opened-push, sound_push}
use Rattle.gx_log.proofs.Moves.{take_torn, drop_torn}

-- a list that has another's front, and one element more
front_more : (first : List ℕ) (gate : ℕ) (rest : List ℕ) → take (length first + 1) (first ++ gate ∷ rest) ≡ first ++ gate ∷ []
front_more first gate rest =
    ap (λ (l : List ℕ). take (length first + 1) l) (sym (append_assoc first (gate ∷ []) rest)) ∙ take_at (first ++ gate ∷ []) rest (length first + 1) (length-append first (gate ∷ []))

behind_more : (first : List ℕ) (gate : ℕ) (rest : List ℕ) → drop (length first + 1) (first ++ gate ∷ rest) ≡ rest
behind_more first gate rest =
    ap (λ (l : List ℕ). drop (length first + 1) l) (sym (append_assoc first (gate ∷ []) rest)) ∙ drop_at (first ++ gate ∷ []) rest (length first + 1) (length-append first (gate ∷ []))

-- a list is its front, one element, and the rest
three : (n : ℕ) (l : List ℕ) → n + 1 ≤ length l → l ≡ take n l ++ get_or l n 0 ∷ drop (n + 1) l
three n l le = sym (take-append-drop n l) ∙ ap (λ (k : List ℕ). take n l ++ k) (drop_more l n 0 (omega (arith, le)))

module _ (records : List Record) (front : ℕ) (log : List ℕ) (stands : Stands records log) (at : front ≡ length (opened records)) where
  abbrev first : List ℕ
  first = opened records

  pub long : front + 1 ≤ length log
  long = omega (arith, ap length stands.bytes, length-append first (stands.gate ∷ stands.rest), at)

  -- whatever stands behind the gate doesn't count
  pub behind_gate : (c : List ℕ) → take (front + 1) c ≡ take (front + 1) log → Stands records c
  behind_gate c same =
      let there : take (front + 1) log ≡ first ++ stands.gate ∷ [] =
      ap (λ (l : List ℕ). take (front + 1) l) stands.bytes ∙ ap (λ (n : ℕ). take (n + 1) (first ++ stands.gate ∷ stands.rest)) at ∙ front_more first stands.gate stands.rest in
      record {
        gate = stands.gate;
        rest = drop (front + 1) c;
        bytes = sym (take-append-drop (front + 1) c) ∙ ap (λ (l : List ℕ). l ++ drop (front + 1) c) (same ∙ there) ∙ append_assoc first (stands.gate ∷ []) (drop (front + 1) c);
        shut = stands.shut;
        sound = stands.sound;
      }

  module _ (entries : Record) (is : IsRecord entries) where
    abbrev parts : List ℕ
    parts = body entries ++ 0 ∷ []

    -- what is read once the body is written
    pub staged_is : written log (front + 1) parts ≡ first ++ stands.gate ∷ (parts ++ drop (length parts) stands.rest)
    staged_is =
        let head : take (front + 1) (log ++ replicate (front + 1 - length log) 0) ≡ first ++ stands.gate ∷ [] =
        take-append-le (front + 1) log (replicate (front + 1 - length log) 0) long
        ∙ ap (λ (l : List ℕ). take (front + 1) l) stands.bytes ∙ ap (λ (n : ℕ). take (n + 1) (first ++ stands.gate ∷ stands.rest)) at ∙ front_more first stands.gate stands.rest in
        let tail : drop (front + 1 + length parts) log ≡ drop (length parts) stands.rest =
        sym (drop-drop (length parts) (front + 1) log)
        ∙ ap (λ (l : List ℕ). drop (length parts) (drop (front + 1) l)) stands.bytes
        ∙ ap (λ (n : ℕ). drop (length parts) (drop (n + 1) (first ++ stands.gate ∷ stands.rest))) at
        ∙ ap (λ (l : List ℕ). drop (length parts) l) (behind_more first stands.gate stands.rest) in
        ap (λ (l : List ℕ). l ++ parts ++ drop (front + 1 + length parts) log) head ∙ ap (λ (l : List ℕ). first ++ stands.gate ∷ [] ++ parts ++ l) tail
        ∙ regrouped first stands.gate parts (drop (length parts) stands.rest)
      where
        regrouped : (a : List ℕ) (x : ℕ) (b c : List ℕ) → a ++ x ∷ [] ++ b ++ c ≡ a ++ x ∷ (b ++ c)
        regrouped a x b c = append_assoc (a ++ x ∷ []) b c ∙ append_assoc a (x ∷ []) (b ++ c)

    -- behind a gate that is open, the record counts
    pub with_gate : (c : List ℕ) (gate : ℕ) (tail : List ℕ) → c ≡ first ++ gate ∷ (parts ++ tail) → gate ≡ 1 → Stands (records ++ entries ∷ []) c
    with_gate c gate tail same is_open = record {
      gate = 0;
      rest = tail;
      bytes = same ∙ ap (λ (g : ℕ). first ++ g ∷ (parts ++ tail)) is_open ∙ ap (λ (l : List ℕ). first ++ 1 ∷ l) (append_assoc (body entries) (0 ∷ []) tail)
          ∙ sym (append_assoc first (1 ∷ body entries) (0 ∷ tail)) ∙ ap (λ (l : List ℕ). l ++ 0 ∷ tail) (sym (opened-push records entries));
      shut = omega arith;
      sound = sound_push records entries stands.sound is;
    }

    -- the gate alone may be anything
    pub torn_gate : (staged c : List ℕ) → staged ≡ written log (front + 1) parts → Torn front 1 staged c → Stands records c ⊎ Stands (records ++ entries ∷ []) c
    torn_gate staged c written_so torn =
        let tail = parts ++ drop (length parts) stands.rest in
        let whole : staged ≡ first ++ stands.gate ∷ tail = written_so ∙ staged_is in
        let size : front + 1 ≤ length staged = omega (arith, ap length whole, length-append first (stands.gate ∷ tail), at) in
        let head : take front c ≡ first =
        take_torn front 1 staged c (omega (arith, size)) torn ∙ ap (λ (l : List ℕ). take front l) whole ∙ take_at first (stands.gate ∷ tail) front (sym at) in
        let rest : drop (front + 1) c ≡ tail =
        drop_torn front 1 staged c size torn ∙ ap (λ (l : List ℕ). drop (front + 1) l) whole ∙ ap (λ (n : ℕ). drop (n + 1) (first ++ stands.gate ∷ tail)) at ∙ behind_more first stands.gate tail in
        let gate = get_or c front 0 in
        let same : c ≡ first ++ gate ∷ tail =
        three front c (omega (arith, size, torn.no_shorter)) ∙ ap (λ (l : List ℕ). l ++ gate ∷ drop (front + 1) c) head ∙ ap (λ (l : List ℕ). first ++ gate ∷ l) rest in
        elim (cases_eq gate 1) [
          | inl is_open ↦ inr (with_gate c gate (drop (length parts) stands.rest) same is_open)
          | inr shut ↦ inl (record { gate = gate; rest = tail; bytes = same; shut = shut; sound = stands.sound })
        ]

    -- the gate is open
    pub opened_gate : (staged c : List ℕ) → staged ≡ written log (front + 1) parts → c ≡ written staged front (1 ∷ []) → Stands (records ++ entries ∷ []) c
    opened_gate staged c written_so is_written =
        let tail = parts ++ drop (length parts) stands.rest in
        let whole : staged ≡ first ++ stands.gate ∷ tail = written_so ∙ staged_is in
        let size : front + 1 ≤ length staged = omega (arith, ap length whole, length-append first (stands.gate ∷ tail), at) in
        let head : take front (staged ++ replicate (front - length staged) 0) ≡ first =
        take-append-le front staged (replicate (front - length staged) 0) (omega (arith, size)) ∙ ap (λ (l : List ℕ). take front l) whole ∙ take_at first (stands.gate ∷ tail) front (sym at) in
        let rest : drop (front + 1) staged ≡ tail =
        ap (λ (l : List ℕ). drop (front + 1) l) whole ∙ ap (λ (n : ℕ). drop (n + 1) (first ++ stands.gate ∷ tail)) at ∙ behind_more first stands.gate tail in
        with_gate c 1 (drop (length parts) stands.rest)
        (is_written ∙ ap (λ (l : List ℕ). l ++ 1 ∷ [] ++ drop (front + 1) staged) head ∙ ap (λ (l : List ℕ). first ++ 1 ∷ [] ++ l) rest ∙ append_assoc first (1 ∷ []) tail) refl

-- the first gate alone may be anything: all records count, or none does
pub torn_first : (records : List Record) (log c : List ℕ) → Stands records log → records ≢ [] → Torn 0 1 log c → Stands records c ⊎ Stands [] c
torn_first [] log c stands some torn = absurd (some refl)
torn_first (entries ∷ records) log c stands some torn =
    let long : 1 ≤ length log = omega (arith, ap length stands.bytes, length-append (opened (entries ∷ records)) (stands.gate ∷ stands.rest)) in
    let rest : drop 1 c ≡ drop 1 log = drop_torn 0 1 log c long torn in
    let same : c ≡ get_or c 0 0 ∷ drop 1 c = three 0 c (omega (arith, long, torn.no_shorter)) in
    let was : log ≡ 1 ∷ drop 1 log = stands.bytes ∙ ap (λ (l : List ℕ). 1 ∷ drop 1 l) (sym stands.bytes) in
    elim (cases_eq (get_or c 0 0) 1) [
      | inl is_open ↦
          let all : c ≡ log = same ∙ ap (λ (g : ℕ). g ∷ drop 1 c) is_open ∙ ap (λ (l : List ℕ). 1 ∷ l) rest ∙ sym was in
          inl (record { gate = stands.gate; rest = stands.rest; bytes = all ∙ stands.bytes; shut = stands.shut; sound = stands.sound })
      | inr shut ↦ inr (record { gate = get_or c 0 0; rest = drop 1 c; bytes = same; shut = shut; sound = tt })
    ]
