-- A text is made of parts in one way, and they tell what is outside of strings.
use Rattle.std.proofs.Common.{◌≡◌, ◌≢◌, ℕ, ◌==◌, Bool, true, false, if◌then◌else◌, List, [], ◌∷◌, ◌++◌, refl, sym, ap, ◌∙◌, arith, append_assoc, append-nil, subst}
use Rattle.std.specs.List.{flat_map, AllByRecursion}
use Rattle.std.proofs.lemmas.Bool.Decides.{nat_tests}
use Rattle.gx_json.specs.Scan.{outside, inside}
use Rattle.gx_json.specs.Parts.{Character, IsCharacter, spelled_characters, Part, spelled, IsPart, End, spelled_end, IsEnd, IsMadeOf, outside_of, outside_of_end, all_outside}
use Rattle.gx_json.specs.Parts.Character.{plain, escape}
use Rattle.gx_json.specs.Parts.Part.{byte, string}
use Rattle.gx_json.specs.Parts.End.{nothing, unclosed, unclosed_escape}

pub other : (a b : ℕ) → a ≢ b → (a == b) ≡ false
other a b n = grind (arith, nat_tests)

same : (a b : ℕ) → (a == b) ≡ true → a ≡ b
same a b e = grind (arith, nat_tests)

differs : (a b : ℕ) → (a == b) ≡ false → a ≢ b
differs a b e = grind (arith, nat_tests)

-- ---- what is outside of strings

-- over the characters of a string
inside_characters : (s : List Character) (more : List ℕ) → AllByRecursion IsCharacter s → inside (spelled_characters s ++ more) ≡ inside more
inside_characters [] more h = refl
inside_characters (plain b ∷ s) more h = rw (other b 34 h.0.0, other b 92 h.0.1) (inside_characters s more h.1)
inside_characters (escape b ∷ s) more h = inside_characters s more h.1

outside_end : (end : End) → IsEnd end → outside (spelled_end end) ≡ outside_of_end end
outside_end nothing h = refl
outside_end (unclosed s) h =
    ap (λ (t : List ℕ). 34 ∷ inside t) (sym (append-nil (spelled_characters s))) ∙ ap (λ (t : List ℕ). 34 ∷ t) (inside_characters s [] h)
outside_end (unclosed_escape s) h = ap (λ (t : List ℕ). 34 ∷ t) (inside_characters s (92 ∷ []) h)

outside_part : (p : Part) (more : List ℕ) → IsPart p → outside (spelled p ++ more) ≡ outside_of p ∷ outside more
outside_part (byte b) more h = rw (other b 34 h) refl
outside_part (string s) more h =
    ap (λ (t : List ℕ). 34 ∷ inside t) (append_assoc (spelled_characters s) (34 ∷ []) more)
    ∙ ap (λ (t : List ℕ). 34 ∷ t) (inside_characters s (34 ∷ more) h)

outside_parts : (ps : List Part) (end : End) → AllByRecursion IsPart ps → IsEnd end → outside (flat_map spelled ps ++ spelled_end end) ≡ all_outside ps end
outside_parts [] end h e = outside_end end e
outside_parts (p ∷ ps) end h e =
    ap outside (append_assoc (spelled p) (flat_map spelled ps) (spelled_end end))
    ∙ outside_part p (flat_map spelled ps ++ spelled_end end) h.0
    ∙ ap (λ (t : List ℕ). outside_of p ∷ t) (outside_parts ps end h.1 e)

pub outside_left : (text : List ℕ) (parts : List Part) (end : End) → IsMadeOf text parts end → outside text ≡ all_outside parts end
outside_left text parts end h = ap outside h.spells ∙ outside_parts parts end h.are_parts h.is_end

-- ---- the parts of a text

pub record Reading : Type 0 where
  pub parts : List Part
  pub end : End

-- what stands behind the characters of a string: nothing, a backslash, or its quote and more
pub data Behind : Type 0 where
  no_more : Behind
  backslash : Behind
  quote : Reading → Behind

pub record Inner : Type 0 where
  pub characters : List Character
  pub behind : Behind

abbrev pub and_byte : ℕ → Reading → Reading
and_byte b r = record { parts = byte b ∷ r.parts; end = r.end }

abbrev pub and_character : Character → Inner → Inner
and_character c i = record { characters = c ∷ i.characters; behind = i.behind }

abbrev pub string_of : List Character → Behind → Reading
string_of s no_more = record { parts = []; end = unclosed s }
string_of s backslash = record { parts = []; end = unclosed_escape s }
string_of s (quote r) = record { parts = string s ∷ r.parts; end = r.end }

abbrev mutual
  pub cut : List ℕ → Reading
  cut [] = record { parts = []; end = nothing }
  cut (c ∷ cs) = if c == 34 then string_of (cut_inner cs).characters (cut_inner cs).behind else and_byte c (cut cs)

  pub cut_inner : List ℕ → Inner
  cut_inner [] = record { characters = []; behind = no_more }
  cut_inner (c ∷ cs) =
      if c == 34 then record { characters = []; behind = quote (cut cs) }
      else (if c == 92 then cut_escape cs else and_character (plain c) (cut_inner cs))

  pub cut_escape : List ℕ → Inner
  cut_escape [] = record { characters = []; behind = backslash }
  cut_escape (c ∷ cs) = and_character (escape c) (cut_inner cs)

-- what is made of parts is cut into them
abbrev prefixed : List Character → Inner → Inner
prefixed s i = record { characters = s ++ i.characters; behind = i.behind }

cut_characters : (s : List Character) (more : List ℕ) → AllByRecursion IsCharacter s → cut_inner (spelled_characters s ++ more) ≡ prefixed s (cut_inner more)
cut_characters [] more h = refl
cut_characters (plain b ∷ s) more h = rw (other b 34 h.0.0, other b 92 h.0.1) (ap (and_character (plain b)) (cut_characters s more h.1))
cut_characters (escape b ∷ s) more h = ap (and_character (escape b)) (cut_characters s more h.1)

string_cut : (s : List Character) (more : List ℕ) → AllByRecursion IsCharacter s → cut (34 ∷ (spelled_characters s ++ more)) ≡ string_of (s ++ (cut_inner more).characters) (cut_inner more).behind
string_cut s more h = ap (λ (i : Inner). string_of i.characters i.behind) (cut_characters s more h)

end_cut : (end : End) → IsEnd end → cut (spelled_end end) ≡ record { parts = []; end = end }
end_cut nothing h = refl
end_cut (unclosed s) h =
    ap (λ (t : List ℕ). cut (34 ∷ t)) (sym (append-nil (spelled_characters s)))
    ∙ string_cut s [] h
    ∙ ap (λ (t : List Character). string_of t no_more) (append-nil s)
end_cut (unclosed_escape s) h = string_cut s (92 ∷ []) h ∙ ap (λ (t : List Character). string_of t backslash) (append-nil s)

abbrev and_part : Part → Reading → Reading
and_part p r = record { parts = p ∷ r.parts; end = r.end }

part_cut : (p : Part) (more : List ℕ) → IsPart p → cut (spelled p ++ more) ≡ and_part p (cut more)
part_cut (byte b) more h = rw (other b 34 h) refl
part_cut (string s) more h =
    ap (λ (t : List ℕ). cut (34 ∷ t)) (append_assoc (spelled_characters s) (34 ∷ []) more)
    ∙ string_cut s (34 ∷ more) h
    ∙ ap (λ (t : List Character). string_of t (quote (cut more))) (append-nil s)

parts_cut : (ps : List Part) (end : End) → AllByRecursion IsPart ps → IsEnd end → cut (flat_map spelled ps ++ spelled_end end) ≡ record { parts = ps; end = end }
parts_cut [] end h e = end_cut end e
parts_cut (p ∷ ps) end h e =
    ap cut (append_assoc (spelled p) (flat_map spelled ps) (spelled_end end))
    ∙ part_cut p (flat_map spelled ps ++ spelled_end end) h.0
    ∙ ap (and_part p) (parts_cut ps end h.1 e)

cut_made : (text : List ℕ) (parts : List Part) (end : End) → IsMadeOf text parts end → cut text ≡ record { parts = parts; end = end }
cut_made text parts end h = ap cut h.spells ∙ parts_cut parts end h.are_parts h.is_end

pub one_made : (text : List ℕ) (parts others : List Part) (end other : End) → IsMadeOf text parts end → IsMadeOf text others other → (parts ≡ others) × (end ≡ other)
one_made text parts others end other h g =
    let both = sym (cut_made text parts end h) ∙ cut_made text others other g in
    (ap (λ (r : Reading). r.parts) both, ap (λ (r : Reading). r.end) both)

-- each text is made of what it is cut into
abbrev spelled_behind : Behind → List ℕ
spelled_behind no_more = []
spelled_behind backslash = 92 ∷ []
spelled_behind (quote r) = 34 ∷ (flat_map spelled r.parts ++ spelled_end r.end)

abbrev IsBehind : Behind → Type 0
IsBehind no_more = Unit {0}
IsBehind backslash = Unit {0}
IsBehind (quote r) = AllByRecursion IsPart r.parts × IsEnd r.end

record IsInner (text : List ℕ) (s : List Character) (b : Behind) : Type 0 where
  are : AllByRecursion IsCharacter s
  is : IsBehind b
  spells : text ≡ spelled_characters s ++ spelled_behind b

abbrev Made : List ℕ → Reading → Type 0
Made text r = IsMadeOf text r.parts r.end

string_made : (text : List ℕ) (s : List Character) (b : Behind) → IsInner text s b → Made (34 ∷ text) (string_of s b)
string_made text s no_more h = record { are_parts = tt; is_end = h.are; spells = ap (λ (t : List ℕ). 34 ∷ t) (h.spells ∙ append-nil (spelled_characters s)) }
string_made text s backslash h = record { are_parts = tt; is_end = h.are; spells = ap (λ (t : List ℕ). 34 ∷ t) h.spells }
string_made text s (quote r) h =
    let rest = flat_map spelled r.parts ++ spelled_end r.end in
    record {
      are_parts = (h.are, h.is.0);
      is_end = h.is.1;
      spells = ap (λ (t : List ℕ). 34 ∷ t) (h.spells ∙ sym (append_assoc (spelled_characters s) (34 ∷ []) rest))
          ∙ sym (append_assoc (34 ∷ (spelled_characters s ++ 34 ∷ [])) (flat_map spelled r.parts) (spelled_end r.end));
    }

byte_made : (b : ℕ) (text : List ℕ) (r : Reading) → b ≢ 34 → Made text r → Made (b ∷ text) (and_byte b r)
byte_made b text r n h = record { are_parts = (n, h.are_parts); is_end = h.is_end; spells = ap (λ (t : List ℕ). b ∷ t) h.spells }

plain_inner : (b : ℕ) (text : List ℕ) (i : Inner) → b ≢ 34 → b ≢ 92 → IsInner text i.characters i.behind → IsInner (b ∷ text) (plain b ∷ i.characters) i.behind
plain_inner b text i n m h = record { are = ((n, m), h.are); is = h.is; spells = ap (λ (t : List ℕ). b ∷ t) h.spells }

escape_inner : (b : ℕ) (text : List ℕ) (i : Inner) → IsInner text i.characters i.behind → IsInner (92 ∷ b ∷ text) (escape b ∷ i.characters) i.behind
escape_inner b text i h = record { are = (tt, h.are); is = h.is; spells = ap (λ (t : List ℕ). 92 ∷ b ∷ t) h.spells }

quote_inner : (text : List ℕ) (r : Reading) → Made text r → IsInner (34 ∷ text) [] (quote r)
quote_inner text r h = record { are = tt; is = (h.are_parts, h.is_end); spells = ap (λ (t : List ℕ). 34 ∷ t) h.spells }

abbrev InnerMade : List ℕ → Inner → Type 0
InnerMade text i = IsInner text i.characters i.behind

either_made : (c : ℕ) (cs : List ℕ) (i : Inner) (r : Reading) (b : Bool) → (c == 34) ≡ b → InnerMade cs i → Made cs r → Made (c ∷ cs) (if b then string_of i.characters i.behind else and_byte c r)
either_made c cs i r true e h g = subst (λ (x : ℕ). Made (x ∷ cs) (string_of i.characters i.behind)) (sym (same c 34 e)) (string_made cs i.characters i.behind h)
either_made c cs i r false e h g = byte_made c cs r (differs c 34 e) g

either_escape : (c : ℕ) (cs : List ℕ) (i j : Inner) (b : Bool) → (c == 92) ≡ b → c ≢ 34 → InnerMade (92 ∷ cs) i → InnerMade cs j → InnerMade (c ∷ cs) (if b then i else and_character (plain c) j)
either_escape c cs i j true e n h g = subst (λ (x : ℕ). InnerMade (x ∷ cs) i) (sym (same c 92 e)) h
either_escape c cs i j false e n h g = plain_inner c cs j n (differs c 92 e) g

either_inner : (c : ℕ) (cs : List ℕ) (r : Reading) (i j : Inner) (b : Bool) → (c == 34) ≡ b → Made cs r → InnerMade (92 ∷ cs) i → InnerMade cs j
    → InnerMade (c ∷ cs) (if b then record { characters = []; behind = quote r } else (if c == 92 then i else and_character (plain c) j))
either_inner c cs r i j true e p h g = subst (λ (x : ℕ). IsInner (x ∷ cs) [] (quote r)) (sym (same c 34 e)) (quote_inner cs r p)
either_inner c cs r i j false e p h g = either_escape c cs i j (c == 92) refl (differs c 34 e) h g

mutual
  pub made : (text : List ℕ) → IsMadeOf text (cut text).parts (cut text).end
  made [] = record { are_parts = tt; is_end = tt; spells = refl }
  made (c ∷ cs) = either_made c cs (cut_inner cs) (cut cs) (c == 34) refl (inner_made cs) (made cs)

  inner_made : (text : List ℕ) → InnerMade text (cut_inner text)
  inner_made [] = record { are = tt; is = tt; spells = refl }
  inner_made (c ∷ cs) = either_inner c cs (cut cs) (cut_escape cs) (cut_inner cs) (c == 34) refl (made cs) (escape_made cs) (inner_made cs)

  escape_made : (text : List ℕ) → InnerMade (92 ∷ text) (cut_escape text)
  escape_made [] = record { are = tt; is = tt; spells = refl }
  escape_made (c ∷ cs) = escape_inner c cs (cut_inner cs) (inner_made cs)
