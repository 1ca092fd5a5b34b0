-- The cut is what a script is made of, and nothing else is.
use Rattle.std.proofs.Common.{◌≡◌, ◌≢◌, ℕ, ◌+◌, ◌<◌, ◌≤◌, zero, suc, Bool, true, false, ◌&&◌, List, [], ◌∷◌, ◌++◌, length, slice_index, ◌==◌, refl, sym, ◌∙◌, ap, subst, append_assoc, length-append, arith}
use Rattle.std.specs.List.{flat_map}
use Rattle.std.proofs.lemmas.Bool.Decides.{nat_tests}
use Rattle.std.proofs.lemmas.List.{append-nil}
use Rattle.gx_lexer.specs.declared.cutter.Mode.TheVariants.{Plain, Dash, Text, Comment}
use Rattle.gx_lexer.specs.Cut.{Cuts, onto, and_piece, cut_in, cut}
use Rattle.gx_lexer.specs.Parts.{Part, spelled, Lacks, BeginsNot, EndsAt, Fits, AreParts, IsOpenText, AreCut}
use Rattle.gx_lexer.specs.Parts.Part.{plain, text, comment}
use Rattle.gx_lexer.proofs.CutFacts.{prefixed, prefixed-append, prefixed_piece, prefixed_rest, cut_end}

other_test : (a b : ℕ) → a ≢ b → (a == b) ≡ false
other_test a b n = grind (arith, nat_tests)

same_from : (a b : ℕ) → (a == b) ≡ true → a ≡ b
same_from a b e = grind (arith, nat_tests)

-- behind a dash that begins no comment
behind_dash : (after : List ℕ) → BeginsNot 45 after → cut_in Dash after ≡ cut_in Plain after
unfolding cut_in
behind_dash [] h = refl
behind_dash (b ∷ bs) h = rw (other_test b 45 h) refl

plain_at : (b : ℕ) (after : List ℕ) (dash : Bool) → (b == 45) ≡ dash → Fits (plain b) after → cut (b ∷ after) ≡ onto b (cut after)
unfolding cut_in
plain_at b after true e f = rw (other_test b 59 f.0, other_test b 39 f.1, e, behind_dash after (f.2 (same_from b 45 e))) refl
plain_at b after false e f = rw (other_test b 59 f.0, other_test b 39 f.1, e) refl

in_text : (t u : List ℕ) → Lacks 39 t → cut_in Text ((t ++ 39 ∷ []) ++ u) ≡ prefixed (t ++ 39 ∷ []) (cut u)
unfolding cut_in
in_text [] u l = refl
in_text (b ∷ t) u l = rw (other_test b 39 l.0, in_text t u l.1) refl

text_cut : (t u : List ℕ) → Lacks 39 t → cut (39 ∷ (t ++ 39 ∷ []) ++ u) ≡ prefixed (39 ∷ t ++ 39 ∷ []) (cut u)
unfolding cut_in
text_cut t u l = rw (in_text t u l) refl

in_comment : (t u : List ℕ) → Lacks 10 t → EndsAt 10 u → cut_in Comment (t ++ u) ≡ prefixed t (cut u)
unfolding cut_in
in_comment [] [] l e = refl
in_comment [] (b ∷ u) l e = rw e refl
in_comment (b ∷ t) u l e = rw (other_test b 10 l.0, in_comment t u l.1 e) refl

comment_cut : (t u : List ℕ) → Lacks 10 t → EndsAt 10 u → cut (45 ∷ 45 ∷ t ++ u) ≡ prefixed (45 ∷ 45 ∷ t) (cut u)
unfolding cut_in
comment_cut t u l e = rw (in_comment t u l e) refl

part_cut : (p : Part) (after : List ℕ) → Fits p after → cut (spelled p ++ after) ≡ prefixed (spelled p) (cut after)
part_cut (plain b) after f = plain_at b after (b == 45) refl f
part_cut (text t) after f = text_cut t after f
part_cut (comment t) after f = comment_cut t after f.0 f.1

parts_cut : (ps : List Part) (after : List ℕ) → AreParts ps after → cut (flat_map spelled ps ++ after) ≡ prefixed (flat_map spelled ps) (cut after)
parts_cut [] after h = refl
parts_cut (p ∷ ps) after h =
    let rest : List ℕ = flat_map spelled ps in
    ap (λ (bs : List ℕ). cut bs) (append_assoc (spelled p) rest after)
    ∙ part_cut p (rest ++ after) h.0
    ∙ ap (λ (c : Cuts). prefixed (spelled p) c) (parts_cut ps after h.1)
    ∙ sym (prefixed-append (spelled p) rest (cut after))

open_text : (bs : List ℕ) → Lacks 39 bs → cut_in Text bs ≡ record { pieces = []; rest = bs }
unfolding cut_in
open_text [] l = refl
open_text (b ∷ bs) l = rw (other_test b 39 l.0, open_text bs l.1) refl

open_cut : (tail : List ℕ) → IsOpenText tail → cut tail ≡ record { pieces = []; rest = tail }
unfolding cut_in
open_cut [] h = refl
open_cut (b ∷ bs) h = rw (h.0, open_text bs h.1) refl

pub only : (script : List ℕ) (pieces : List (List ℕ)) (rest : List ℕ) → AreCut script pieces rest → cut script ≡ record { pieces = pieces; rest = rest }
only script [] rest h =
    let flat : List ℕ = flat_map spelled h.1 in
    ap (λ (bs : List ℕ). cut bs) (h.0 ∙ h.3) ∙ parts_cut h.1 h.2 h.4
    ∙ ap (λ (c : Cuts). prefixed flat c) (open_cut h.2 h.5) ∙ prefixed_rest flat h.2
    ∙ ap (λ (xs : List ℕ). record { pieces = []; rest = xs }) (sym h.3)
only script (p ∷ ps) rest h =
    let flat : List ℕ = flat_map spelled h.2 in
    ap (λ (bs : List ℕ). cut bs) (h.1 ∙ ap (λ (xs : List ℕ). xs ++ 59 ∷ h.0) h.3) ∙ parts_cut h.2 (59 ∷ h.0) h.4
    ∙ ap (λ (c : Cuts). prefixed flat c) (cut_end 59 h.0 refl) ∙ prefixed_piece flat [] (cut h.0)
    ∙ ap (λ (xs : List ℕ). and_piece xs (cut h.0)) (append-nil flat ∙ sym h.3)
    ∙ ap (λ (c : Cuts). and_piece p c) (only h.0 ps rest h.5)

-- the bytes before the first x, and those from it on
record Split (x : ℕ) (bs : List ℕ) : Type 0 where
  front : List ℕ
  after : List ℕ
  whole : bs ≡ front ++ after
  lacks : Lacks x front
  ends : EndsAt x after

apart : (a b : ℕ) → (a == b) ≡ false → a ≢ b
apart a b e = λ h. let t : (a == b) ≡ true = grind (arith, nat_tests) in let f : true ≡ false = sym t ∙ e in cc

split_at : (t : Bool) (x b : ℕ) (bs : List ℕ) → (b == x) ≡ t → Split x bs → Split x (b ∷ bs)
split_at true x b bs e s = record { front = []; after = b ∷ bs; whole = refl; lacks = tt; ends = same_from b x e }
split_at false x b bs e s = record { front = b ∷ s.front; after = s.after; whole = ap (λ (xs : List ℕ). b ∷ xs) s.whole; lacks = (apart b x e, s.lacks); ends = s.ends }

split : (x : ℕ) (bs : List ℕ) → Split x bs
split x [] = record { front = []; after = []; whole = refl; lacks = tt; ends = tt }
split x (b ∷ bs) = split_at (b == x) x b bs refl (split x bs)

abbrev HasCut : List ℕ → Type 0
HasCut script = (pieces : List (List ℕ)) × (rest : List ℕ) × AreCut script pieces rest

prepend_at : (p : Part) (us : List ℕ) → Fits p us → (pieces : List (List ℕ)) (rest : List ℕ) → AreCut us pieces rest → HasCut (spelled p ++ us)
prepend_at p us f [] rest h =
    let P : List ℕ → Type 0 = λ xs. Fits p xs in
    let on = λ (xs : List ℕ). spelled p ++ xs in (
      [],
      spelled p ++ rest,
      (ap on h.0, p ∷ h.1, h.2, ap on h.3 ∙ sym (append_assoc (spelled p) (flat_map spelled h.1) h.2), (subst P (h.0 ∙ h.3) f, h.4), h.5),
    )
prepend_at p us f (q ∷ qs) rest h =
    let P : List ℕ → Type 0 = λ xs. Fits p xs in
    let on = λ (xs : List ℕ). spelled p ++ xs in (
      (spelled p ++ q) ∷ qs,
      rest,
      (
        h.0,
        ap on h.1 ∙ sym (append_assoc (spelled p) q (59 ∷ h.0)),
        p ∷ h.2,
        ap on h.3,
        (subst P (h.1 ∙ ap (λ (xs : List ℕ). xs ++ 59 ∷ h.0) h.3) f, h.4),
        h.5,
      ),
    )

prepend : (p : Part) (us : List ℕ) → Fits p us → HasCut us → HasCut (spelled p ++ us)
prepend p us f k = prepend_at p us f k.0 k.1 k.2

quoted : (b : ℕ) (bs front after : List ℕ) → b ≡ 39 → bs ≡ front ++ after → Lacks 39 front → EndsAt 39 after
    → ((us : List ℕ) → length us ≤ length bs → HasCut us) → HasCut (b ∷ bs)
quoted b bs front [] e w l n each =
    let P : List ℕ → Type 0 = λ xs. Lacks 39 xs in
    ([], b ∷ bs, (refl, [], b ∷ bs, refl, tt, (e, subst P (sym (w ∙ append-nil front)) l)))
quoted b bs front (c ∷ us) e w l n each =
    let P : List ℕ → Type 0 = λ xs. HasCut xs in
    let k : length us ≤ length bs = rw w (omega (arith, length-append front (c ∷ us))) in
    let s : (39 ∷ front ++ 39 ∷ []) ++ us ≡ b ∷ bs = rw (e, w, n) (ap (λ (xs : List ℕ). 39 ∷ xs) (append_assoc front (39 ∷ []) us)) in
    subst P s (prepend (text front) us l (each us k))

commented : (b : ℕ) (bs : List ℕ) → b ≡ 45 → (slice_index bs 0 == 45) ≡ true
    → ((us : List ℕ) → length us ≤ length bs → HasCut us) → HasCut (b ∷ bs)
commented b [] e d each = cc
commented b (x ∷ cs) e d each =
    let P : List ℕ → Type 0 = λ xs. HasCut xs in
    let s = split 10 cs in
    let w = s.whole in
    let k : length s.after ≤ length (x ∷ cs) = let v = ap (λ (xs : List ℕ). length xs) w in omega (arith, v, length-append s.front s.after) in
    let f : x ≡ 45 = same_from x 45 d in
    let g : (45 ∷ 45 ∷ s.front) ++ s.after ≡ b ∷ x ∷ cs = rw (e, f) (ap (λ (xs : List ℕ). 45 ∷ 45 ∷ xs) (sym w)) in
    subst P g (prepend (comment s.front) s.after (s.lacks, s.ends) (each s.after k))

begins_from : (bs : List ℕ) → (slice_index bs 0 == 45) ≡ false → BeginsNot 45 bs
begins_from [] e = tt
begins_from (b ∷ bs) e = apart b 45 e

dash_apart : (d s : Bool) → (d && s) ≡ false → d ≡ true → s ≡ false
dash_apart true s e f = e
dash_apart false s e f = cc

dash_both : (d s : Bool) → (d && s) ≡ true → (d ≡ true) × (s ≡ true)
dash_both true s e = (refl, e)
dash_both false s e = cc

at_byte : (semicolon quote dashes : Bool) (b : ℕ) (bs : List ℕ) → (b == 59) ≡ semicolon → (b == 39) ≡ quote → (b == 45 && slice_index bs 0 == 45) ≡ dashes
    → ((us : List ℕ) → length us ≤ length bs → HasCut us) → HasCut (b ∷ bs)
at_byte true q d b bs e f g each =
    let k = each bs (omega arith) in
    ([] ∷ k.0, k.1, (bs, ap (λ (x : ℕ). x ∷ bs) (same_from b 59 e), [], refl, tt, k.2))
at_byte false true d b bs e f g each =
    let s = split 39 bs in
    quoted b bs s.front s.after (same_from b 39 f) s.whole s.lacks s.ends each
at_byte false false true b bs e f g each =
    let h = dash_both (b == 45) (slice_index bs 0 == 45) g in
    commented b bs (same_from b 45 h.0) h.1 each
at_byte false false false b bs e f g each =
    let dash : b ≡ 45 → BeginsNot 45 bs = λ h. begins_from bs (dash_apart (b == 45) (slice_index bs 0 == 45) g (rw h refl)) in
    prepend (plain b) bs (apart b 59 e, apart b 39 f, dash) (each bs (omega arith))

has : (n : ℕ) (script : List ℕ) → length script < n → HasCut script
has zero script l = absurd (omega arith)
has (suc n) [] l = ([], [], (refl, [], [], refl, tt, tt))
has (suc n) (b ∷ bs) l =
    at_byte (b == 59) (b == 39) (b == 45 && slice_index bs 0 == 45) b bs refl refl refl (λ us k. has n us (omega arith))

pub is : (script : List ℕ) → AreCut script (cut script).pieces (cut script).rest
is script =
    let k = has (length script + 1) script (omega arith) in
    let P : Cuts → Type 0 = λ c. AreCut script c.pieces c.rest in
    subst P (sym (only script k.0 k.1 k.2)) k.2
