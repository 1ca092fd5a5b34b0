-- What `core_of` gives, and that a text is cut at a byte in one way.
use Rattle.std.proofs.Common.{◌≡◌, ℕ, ◌+◌, ◌-◌, ◌<◌, ◌≤◌, suc, Bool, true, false, List, [], ◌∷◌, ◌++◌, ◌≢◌, All, length, get_or, take, drop, refl, sym, ◌∙◌, ap, subst, arith, append-nil, take-append-drop, length-take, length-drop, get_or-take, get_or-drop}
use Rattle.std.specs.Char.{is_ascii_whitespace}
use Rattle.std.specs.Str.{IsTrimAscii}
use Rattle.std.proofs.lemmas.List.Elements.{All-nil, All-cons, All-head, All-tail, All-from_get_or}
use Rattle.gx_bytes.specs.Blanks.{without_leading_blank, kept_before, without_trailing_blank, core_of, IsBare, IsBlank, Trims}

-- the first byte of the text is no white space
abbrev BeginsBare : List ℕ → Type 0
BeginsBare text = is_ascii_whitespace (get_or text 0 0) ≡ false

-- white space in front is dropped
pub skips_blank : (before rest : List ℕ) → IsBlank before → without_leading_blank (before ++ rest) ≡ without_leading_blank rest
skips_blank [] rest blank = refl
skips_blank (c ∷ cs) rest blank =
    let head : is_ascii_whitespace c ≡ true = All-head (λ c. is_ascii_whitespace c ≡ true) c cs blank in
    rw head (skips_blank cs rest (All-tail (λ c. is_ascii_whitespace c ≡ true) c cs blank))

keeps_bare : (text : List ℕ) → BeginsBare text → without_leading_blank text ≡ text
keeps_bare [] bare = refl
keeps_bare (c ∷ cs) bare = let head : is_ascii_whitespace c ≡ false = bare in rw head refl

-- white space alone leaves nothing
trailing_blank : (after : List ℕ) → IsBlank after → without_trailing_blank after ≡ []
trailing_blank [] blank = refl
trailing_blank (c ∷ cs) blank =
    let head : is_ascii_whitespace c ≡ true = All-head (λ c. is_ascii_whitespace c ≡ true) c cs blank in
    ap (kept_before c) (trailing_blank cs (All-tail (λ c. is_ascii_whitespace c ≡ true) c cs blank)) ∙ rw head refl

drops_blank : (core after : List ℕ) → IsBlank after → without_trailing_blank (core ++ after) ≡ without_trailing_blank core
drops_blank [] after blank = trailing_blank after blank
drops_blank (c ∷ cs) after blank = ap (kept_before c) (drops_blank cs after blank)

keeps_end : (core : List ℕ) → is_ascii_whitespace (get_or core (length core - 1) 0) ≡ false → without_trailing_blank core ≡ core
keeps_end [] bare = refl
keeps_end (c ∷ []) bare = let head : is_ascii_whitespace c ≡ false = bare in rw head refl
keeps_end (c ∷ d ∷ ds) bare =
    let place : length (c ∷ d ∷ ds) - 1 ≡ suc (length (d ∷ ds) - 1) = omega arith in
    let P : ℕ → Type 0 = λ k. is_ascii_whitespace (get_or (c ∷ d ∷ ds) k 0) ≡ false in
    ap (kept_before c) (keeps_end (d ∷ ds) (subst P place bare))

-- a bare core with white space behind it loses that white space
core_joined : (core after : List ℕ) → IsBare core → IsBlank after → without_trailing_blank (without_leading_blank (core ++ after)) ≡ core
core_joined [] after bare blank =
    let none : without_leading_blank after ≡ [] = ap without_leading_blank (sym (append-nil after)) ∙ skips_blank after [] blank in
    rw none refl
core_joined (c ∷ cs) after bare blank =
    ap without_trailing_blank (keeps_bare ((c ∷ cs) ++ after) bare.first) ∙ drops_blank (c ∷ cs) after blank ∙ keeps_end (c ∷ cs) bare.last

-- a text has no other core
pub core_is : (text core : List ℕ) → Trims text core → core_of text ≡ core
unfolding core_of
core_is text core t =
    let skipped : without_leading_blank text ≡ without_leading_blank (core ++ t.after) =
    ap without_leading_blank t.parts ∙ skips_blank t.before (core ++ t.after) t.blank_before in
    ap without_trailing_blank skipped ∙ core_joined core t.after t.bare t.blank_after

-- a text that neither begins nor ends with white space is its own core
pub core_bare : (text : List ℕ) → IsBare text → core_of text ≡ text
core_bare text bare =
    core_is text text record {
      before = [];
      after = [];
      parts = sym (append-nil text);
      blank_before = All-nil _;
      blank_after = All-nil _;
      bare = bare;
    }

-- the white space before a text, and the rest
record Front (text : List ℕ) : Type 0 where
  before : List ℕ
  parts : text ≡ before ++ without_leading_blank text
  blank : IsBlank before
  bare : BeginsBare (without_leading_blank text)

front_more : (c : ℕ) (cs : List ℕ) (b : Bool) → is_ascii_whitespace c ≡ b → Front cs → Front (c ∷ cs)
front_more c cs true e front = record {
  before = c ∷ front.before;
  parts = rw e (ap (λ t. c ∷ t) front.parts);
  blank = All-cons (λ c. is_ascii_whitespace c ≡ true) c front.before e front.blank;
  bare = rw e front.bare;
}
front_more c cs false e front = record {
  before = [];
  parts = rw e refl;
  blank = All-nil _;
  bare = rw e (rw e refl);
}

front_of : (text : List ℕ) → Front text
front_of [] = record { before = []; parts = refl; blank = All-nil _; bare = refl }
front_of (c ∷ cs) = front_more c cs (is_ascii_whitespace c) refl (front_of cs)

-- what is kept of a text, and the white space behind it
record Back (text : List ℕ) : Type 0 where
  after : List ℕ
  parts : text ≡ without_trailing_blank text ++ after
  blank : IsBlank after
  last : is_ascii_whitespace (get_or (without_trailing_blank text) (length (without_trailing_blank text) - 1) 0) ≡ false

back_first : (c : ℕ) (cs : List ℕ) (b : Bool) → is_ascii_whitespace c ≡ b → without_trailing_blank cs ≡ [] → Back cs → Back (c ∷ cs)
back_first c cs true e none back = record {
  after = c ∷ back.after;
  parts = rw none (rw e (ap (λ t. c ∷ t) (back.parts ∙ ap (λ t. t ++ back.after) none)));
  blank = All-cons (λ c. is_ascii_whitespace c ≡ true) c back.after e back.blank;
  last = rw none (rw e refl);
}
back_first c cs false e none back = record {
  after = back.after;
  parts = rw none (rw e (ap (λ t. c ∷ t) (back.parts ∙ ap (λ t. t ++ back.after) none)));
  blank = back.blank;
  last = rw none (rw e e);
}

back_more : (c : ℕ) (cs core : List ℕ) → without_trailing_blank cs ≡ core → Back cs → Back (c ∷ cs)
back_more c cs [] e back = back_first c cs (is_ascii_whitespace c) refl e back
back_more c cs (d ∷ ds) e back =
    let kept : without_trailing_blank (c ∷ cs) ≡ c ∷ d ∷ ds = ap (kept_before c) e in
    let place : suc (length (d ∷ ds) - 1) ≡ length (c ∷ d ∷ ds) - 1 = omega arith in
    let P : ℕ → Type 0 = λ k. is_ascii_whitespace (get_or (c ∷ d ∷ ds) k 0) ≡ false in
    let Q : List ℕ → Type 0 = λ t. is_ascii_whitespace (get_or t (length t - 1) 0) ≡ false in
    record {
      after = back.after;
      parts = ap (λ t. c ∷ t) (back.parts ∙ ap (λ t. t ++ back.after) e) ∙ ap (λ t. t ++ back.after) (sym kept);
      blank = back.blank;
      last = subst Q (sym kept) (subst P place (subst Q e back.last));
    }

back_of : (text : List ℕ) → Back text
back_of [] = record { after = []; parts = refl; blank = All-nil _; last = refl }
back_of (c ∷ cs) = back_more c cs (without_trailing_blank cs) refl (back_of cs)

begins_bare : (core after : List ℕ) → BeginsBare (core ++ after) → BeginsBare core
begins_bare [] after bare = refl
begins_bare (c ∷ cs) after bare = bare

-- a text is white space, its core and white space
pub core_trims : (text : List ℕ) → Trims text (core_of text)
unfolding core_of
core_trims text =
    let front = front_of text in
    let back = back_of (without_leading_blank text) in
    record {
      before = front.before;
      after = back.after;
      parts = front.parts ∙ ap (λ (t : List ℕ). front.before ++ t) back.parts;
      blank_before = front.blank;
      blank_after = back.blank;
      bare = record {
        first = begins_bare (core_of text) back.after (subst BeginsBare back.parts front.bare);
        last = back.last;
      };
    }

-- a core is the front of the rest
last_read : (core rest : List ℕ) → core ≡ take (length core) rest → (0 < length core → is_ascii_whitespace (get_or rest (length core - 1) 0) ≡ false) → is_ascii_whitespace (get_or core (length core - 1) 0) ≡ false
last_read [] rest e h = refl
last_read (c ∷ cs) rest e h =
    let lt : length (c ∷ cs) - 1 < length (c ∷ cs) = omega arith in
    let read : get_or (c ∷ cs) (length (c ∷ cs) - 1) 0 ≡ get_or rest (length (c ∷ cs) - 1) 0 =
    ap (λ t. get_or t (length (c ∷ cs) - 1) 0) e ∙ get_or-take (length (c ∷ cs)) rest (length (c ∷ cs) - 1) 0 lt in
    ap is_ascii_whitespace read ∙ h (omega arith)

first_read : (core text : List ℕ) (m : ℕ) → core ≡ take (length core) (drop m text) → (m < length text → is_ascii_whitespace (get_or text m 0) ≡ false) → BeginsBare core
first_read [] text m e h = refl
first_read (c ∷ cs) text m e h =
    let lt : 0 < length (c ∷ cs) = omega arith in
    let read : get_or (c ∷ cs) 0 0 ≡ get_or text (m + 0) 0 =
    ap (λ t. get_or t 0 0) e ∙ get_or-take (length (c ∷ cs)) (drop m text) 0 0 lt ∙ get_or-drop m text 0 0 in
    let inside : m < length text = omega (arith, ap length e, length-take (length (c ∷ cs)) (drop m text), length-drop m text) in
    ap is_ascii_whitespace (read ∙ ap (λ k. get_or text k 0) (omega arith)) ∙ h inside

blank_front : (text : List ℕ) (m : ℕ) → ((i : ℕ) → i < m → is_ascii_whitespace (get_or text i 0) ≡ true) → IsBlank (take m text)
blank_front text m h =
    All-from_get_or (λ c. is_ascii_whitespace c ≡ true) (take m text) 0 (λ i inside.
    let lt : i < m = omega (arith, length-take m text) in
    rw get_or-take (h i lt))

blank_rest : (text : List ℕ) (m : ℕ) → ((i : ℕ) → m ≤ i → i < length text → is_ascii_whitespace (get_or text i 0) ≡ true) → IsBlank (drop m text)
blank_rest text m h =
    All-from_get_or (λ c. is_ascii_whitespace c ≡ true) (drop m text) 0 (λ i inside.
    rw get_or-drop (h (m + i) (omega arith) (omega (arith, length-drop m text))))

-- what std's trim gives has the white space round it
pub trims : (text core : List ℕ) → IsTrimAscii text core → Trims text core
trims text core t = record {
  before = take t.0 text;
  after = drop (length core) (drop t.0 text);
  parts = sym (take-append-drop t.0 text)
      ∙ ap (λ (rest : List ℕ). take t.0 text ++ rest) (sym (take-append-drop (length core) (drop t.0 text))
      ∙ ap (λ (front : List ℕ). front ++ drop (length core) (drop t.0 text)) (sym t.1));
  blank_before = blank_front text t.0 t.2;
  blank_after = blank_rest (drop t.0 text) (length core) t.4;
  bare = record { first = first_read core text t.0 t.1 t.3; last = last_read core (drop t.0 text) t.1 t.5 };
}

-- a text is cut at its first such byte
pub one_cut : (byte : ℕ) (a b x y : List ℕ) → All (λ c. c ≢ byte) a → All (λ c. c ≢ byte) b → a ++ byte ∷ x ≡ b ++ byte ∷ y → (a ≡ b) × (x ≡ y)
one_cut byte [] [] x y p q e = (refl, cc)
one_cut byte [] (b ∷ bs) x y p q e = let head : b ≡ byte = cc in absurd (All-head (λ c. c ≢ byte) b bs q head)
one_cut byte (a ∷ front) [] x y p q e = let head : a ≡ byte = cc in absurd (All-head (λ c. c ≢ byte) a front p head)
one_cut byte (a ∷ front) (b ∷ bs) x y p q e =
    let head : a ≡ b = cc in
    let tail : front ++ byte ∷ x ≡ bs ++ byte ∷ y = cc in
    let rest = one_cut byte front bs x y (All-tail (λ c. c ≢ byte) a front p) (All-tail (λ c. c ≢ byte) b bs q) tail in
    let lists : front ≡ bs = rest.0 in
    (cc, rest.1)

-- a text that is cut at a byte has that byte
pub byte_inside : (byte : ℕ) (front rest : List ℕ) → All (λ c. c ≢ byte) (front ++ byte ∷ rest) → ⊥
byte_inside byte [] rest h = All-head (λ c. c ≢ byte) byte rest h refl
byte_inside byte (c ∷ cs) rest h = byte_inside byte cs rest (All-tail (λ c. c ≢ byte) c (cs ++ byte ∷ rest) h)
