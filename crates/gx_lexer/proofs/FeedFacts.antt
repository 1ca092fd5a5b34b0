-- What a cutter was fed, byte by byte.
use Rattle.std.proofs.Common.{◌≡◌, ℕ, ◌+◌, ◌<◌, ◌≤◌, suc, Bool, true, false, cond, if◌then◌else◌, ◌==◌, List, [], ◌∷◌, ◌++◌, length, map, fold, take, drop, get_or, take-append-drop, nat_lt, nat_le, ◌-◌, Option, Some, None, Result, Ok, Err, refl, sym, ◌∙◌, ap, subst, append_assoc, length-append, arith}
use Rattle.std.proofs.Math.Seq.{drop-cons}
use Rattle.std.specs.Result.{OnOk}
use Rattle.std.specs.declared.alloc.AllocError.{AllocError}
use Rattle.std.proofs.lemmas.Grind.{common_steps}
use Rattle.std.proofs.lemmas.Bool.Decides.{nat_tests}
use Rattle.std.proofs.lemmas.List.{append-nil, take_more, take_all, drop_all}
use Rattle.gx_lexer.specs.declared.cutter.Mode.{Mode}
use Rattle.gx_lexer.specs.declared.cutter.Mode.TheVariants.{Plain, Dash, Text, Comment}
use Rattle.gx_lexer.specs.declared.piece.Piece.{Piece}
use Rattle.gx_lexer.specs.declared.piece.Piece.TheVariants as piece
use Rattle.gx_lexer.specs.Cut.{Cuts, begun, mode_after, ends, front_len, cut_in, cut}
use Rattle.gx_lexer.specs.Feeding.{longest, piece_of, pieces_of, Standing, mark, kept_of, Fed, CutsOn, Feeds, longer_by}
use Rattle.gx_lexer.proofs.CutFacts.{and_byte, one_more}

-- A byte more.

abbrev longer_of : Option (List ℕ) → ℕ → Option (List ℕ)
longer_of None b = None
longer_of (Some bytes) b = if nat_lt (length bytes) longest then Some (bytes ++ b ∷ []) else None

abbrev kept_after : Standing → ℕ → Option (List ℕ)
kept_after s b = if ends s.mode b then Some [] else longer_of s.kept b

abbrev standing_after : Standing → ℕ → Standing
standing_after s b = record { mode = mode_after s.mode b; kept = kept_after s b; spoiled = s.spoiled }

abbrev ended_at : Standing → ℕ → List Piece
ended_at s b = if ends s.mode b then mark s.kept ∷ [] else []

fold_more : (m : Mode) (bs : List ℕ) (b : ℕ) → fold mode_after m (bs ++ b ∷ []) ≡ mode_after (fold mode_after m bs) b
fold_more m [] b = refl
fold_more m (x ∷ bs) b = fold_more (mode_after m x) bs b

map_more : (ps : List (List ℕ)) (p : List ℕ) → map piece_of (ps ++ p ∷ []) ≡ map piece_of ps ++ piece_of p ∷ []
map_more [] p = refl
map_more (q ∷ ps) p = ap (λ (xs : List Piece). piece_of q ∷ xs) (map_more ps p)

mark_at : (t : Bool) (bytes : List ℕ) → mark (cond t (Some bytes) None) ≡ cond t (piece.Text bytes) piece.TooLong
mark_at true bytes = refl
mark_at false bytes = refl

mark_kept : (bytes : List ℕ) → mark (kept_of bytes) ≡ piece_of bytes
mark_kept bytes = mark_at (nat_le (length bytes) longest) bytes

longer_at : (bytes : List ℕ) (b : ℕ) (t : Bool) → nat_le (length bytes) longest ≡ t → longer_of (cond t (Some bytes) None) b ≡ kept_of (bytes ++ b ∷ [])
longer_at bytes b true e =
    let n : ℕ = length bytes in
    let l : length (bytes ++ b ∷ []) ≡ n + 1 = length-append bytes (b ∷ []) in
    let s : nat_lt n longest ≡ nat_le (n + 1) longest = grind (arith, nat_tests) in
    rw (l, ← s) refl
longer_at bytes b false e =
    let n : ℕ = length bytes in
    let l : length (bytes ++ b ∷ []) ≡ n + 1 = length-append bytes (b ∷ []) in
    let s : nat_le (n + 1) longest ≡ false = grind (arith, nat_tests) in
    rw (l, s) refl

longer_kept : (bytes : List ℕ) (b : ℕ) → longer_of (kept_of bytes) b ≡ kept_of (bytes ++ b ∷ [])
longer_kept bytes b = longer_at bytes b (nat_le (length bytes) longest) refl

kept_on : (t : Bool) (c : Cuts) (b : ℕ) → cond t (Some []) (longer_of (kept_of c.rest) b) ≡ kept_of (and_byte t c b).rest
kept_on true c b = refl
kept_on false c b = longer_kept c.rest b

pieces_on : (t : Bool) (c : Cuts) (b : ℕ) → map piece_of (and_byte t c b).pieces ≡ map piece_of c.pieces ++ cond t (mark (kept_of c.rest) ∷ []) []
pieces_on true c b = map_more c.pieces c.rest ∙ ap (λ (p : Piece). map piece_of c.pieces ++ p ∷ []) (sym (mark_kept c.rest))
pieces_on false c b = sym (append-nil (map piece_of c.pieces))

-- one byte more
pub one_byte : (s : Standing) (script : List ℕ) (b : ℕ) (before : List Piece) → Fed s script
    → CutsOn (standing_after s b) script (b ∷ []) before (before ++ ended_at s b)
one_byte s script b before f =
    let c : Cuts = cut script in
    let m : Mode = fold mode_after Plain script in
    let e : ends s.mode b ≡ ends m b = ap (λ (x : Mode). ends x b) f.mode in
    let w : cut (script ++ b ∷ []) ≡ and_byte (ends m b) c b = one_more Plain script b in
    let k : kept_after s b ≡ cond (ends m b) (Some []) (longer_of (kept_of c.rest) b) =
    rw (e, f.kept) refl in
    let x : ended_at s b ≡ cond (ends m b) (mark (kept_of c.rest) ∷ []) [] = rw (e, f.kept) refl in
    record {
      added = ended_at s b;
      fed = record {
        mode = ap (λ (y : Mode). mode_after y b) f.mode ∙ sym (fold_more Plain script b);
        kept = k ∙ kept_on (ends m b) c b ∙ ap (λ (y : Cuts). kept_of y.rest) (sym w);
      };
      pieces = ap (λ (y : Cuts). map piece_of y.pieces) w ∙ pieces_on (ends m b) c b ∙ ap (λ (xs : List Piece). map piece_of c.pieces ++ xs) (sym x);
      appended = refl;
    }

-- one chunk behind another
pub and_on : (s t : Standing) (script c d : List ℕ) (before between after : List Piece)
    → CutsOn s script c before between → CutsOn t (script ++ c) d between after → CutsOn t script (c ++ d) before after
and_on s t script c d before between after g h =
    let e : (script ++ c) ++ d ≡ script ++ (c ++ d) = append_assoc script c d in
    record {
      added = g.added ++ h.added;
      fed = rw (← e) h.fed;
      pieces = ap (λ (xs : List ℕ). pieces_of xs) (sym e) ∙ h.pieces ∙ ap (λ (ps : List Piece). ps ++ h.added) g.pieces ∙ append_assoc (pieces_of script) g.added h.added;
      appended = h.appended ∙ ap (λ (ps : List Piece). ps ++ h.added) g.appended ∙ append_assoc before g.added h.added;
    }

-- nothing fed
pub none_on : (s : Standing) (script : List ℕ) (before : List Piece) → Fed s script → CutsOn s script [] before before
none_on s script before f =
    let e : script ++ [] ≡ script = append-nil script in
    record {
      added = [];
      fed = rw e f;
      pieces = ap (λ (xs : List ℕ). pieces_of xs) e ∙ sym (append-nil (pieces_of script));
      appended = sym (append-nil before);
    }

pub fed_none : (s : Standing) → s.mode ≡ Plain → s.kept ≡ Some [] → Fed s []
unfolding cut_in
fed_none s m k = record { mode = m; kept = k }

pub begins : (s : Standing) (before : List Piece) → s.spoiled ≡ false → Feeds s s [] before before
begins s before e = record { sound = e; cuts = λ script f. none_on s script before f }

-- Bytes of which none ends a piece.

longer_if : (rest more : List ℕ) (t : Bool) → nat_le (length rest) longest ≡ t → longer_by (cond t (Some rest) None) more ≡ kept_of (rest ++ more)
longer_if rest more true e = let l = length-append rest more in rw l refl
longer_if rest more false e =
    let l = length-append rest more in
    let s : nat_le (length rest + length more) longest ≡ false = grind (arith, nat_tests) in
    rw (l, s) refl

longer_all : (rest more : List ℕ) → longer_by (kept_of rest) more ≡ kept_of (rest ++ more)
longer_all rest more = longer_if rest more (nat_le (length rest) longest) refl

-- the first doesn't end, and neither do the others
quiet_parts : (m : Mode) (b : ℕ) (bs : List ℕ) (t : Bool) → ends m b ≡ t → cond t 0 (suc (front_len (mode_after m b) bs)) ≡ suc (length bs) → (ends m b ≡ false) × (front_len (mode_after m b) bs ≡ length bs)
quiet_parts m b bs true f e = absurd (omega arith)
quiet_parts m b bs false f e = (f, omega arith)

cut_quiet : (m : Mode) (xs bs : List ℕ) → front_len (fold mode_after m xs) bs ≡ length bs
    → cut_in m (xs ++ bs) ≡ record { pieces = (cut_in m xs).pieces; rest = (cut_in m xs).rest ++ bs }
cut_quiet m xs [] e = ap (λ (ys : List ℕ). cut_in m ys) (append-nil xs) ∙ ap (λ (r : List ℕ). record { pieces = (cut_in m xs).pieces; rest = r }) (sym (append-nil (cut_in m xs).rest))
cut_quiet m xs (b ∷ bs) e =
    let n : Mode = fold mode_after m xs in
    let q = quiet_parts n b bs (ends n b) refl e in
    let P : Mode → Type 0 = λ x. front_len x bs ≡ length bs in
    let w : cut_in m (xs ++ b ∷ []) ≡ and_byte false (cut_in m xs) b = one_more m xs b ∙ ap (λ (t : Bool). and_byte t (cut_in m xs) b) q.0 in
    ap (λ (ys : List ℕ). cut_in m ys) (sym (append_assoc xs (b ∷ []) bs))
    ∙ cut_quiet m (xs ++ b ∷ []) bs (subst P (sym (fold_more m xs b)) q.1)
    ∙ ap (λ (c : Cuts). record { pieces = c.pieces; rest = c.rest ++ bs }) w
    ∙ ap (λ (r : List ℕ). record { pieces = (cut_in m xs).pieces; rest = r }) (append_assoc (cut_in m xs).rest (b ∷ []) bs)

fold_append : (m : Mode) (xs ys : List ℕ) → fold mode_after m (xs ++ ys) ≡ fold mode_after (fold mode_after m xs) ys
fold_append m [] ys = refl
fold_append m (x ∷ xs) ys = fold_append (mode_after m x) xs ys

abbrev quiet : Standing → List ℕ → Standing
quiet s bs = record { mode = fold mode_after s.mode bs; kept = longer_by s.kept bs; spoiled = s.spoiled }

quiet_on : (s : Standing) (script bs : List ℕ) (before : List Piece) → Fed s script → front_len s.mode bs ≡ length bs → CutsOn (quiet s bs) script bs before before
quiet_on s script bs before f e =
    let P : Mode → Type 0 = λ x. front_len x bs ≡ length bs in
    let w : cut (script ++ bs) ≡ record { pieces = (cut script).pieces; rest = (cut script).rest ++ bs } = cut_quiet Plain script bs (subst P f.mode e) in
    record {
      added = [];
      fed = record {
        mode = ap (λ (x : Mode). fold mode_after x bs) f.mode ∙ sym (fold_append Plain script bs);
        kept = ap (λ (k : Option (List ℕ)). longer_by k bs) f.kept ∙ longer_all (cut script).rest bs ∙ ap (λ (c : Cuts). kept_of c.rest) (sym w);
      };
      pieces = ap (λ (c : Cuts). map piece_of c.pieces) w ∙ sym (append-nil (pieces_of script));
      appended = sym (append-nil before);
    }

-- The front of bytes, up to the first that ends a piece.

front_if : (m : Mode) (b : ℕ) (bs : List ℕ) (t : Bool) → ends m b ≡ t
    → front_len (mode_after m b) (take (front_len (mode_after m b) bs) bs) ≡ length (take (front_len (mode_after m b) bs) bs)
    → front_len m (take (cond t 0 (suc (front_len (mode_after m b) bs))) (b ∷ bs)) ≡ length (take (cond t 0 (suc (front_len (mode_after m b) bs))) (b ∷ bs))
front_if m b bs true f h = refl
front_if m b bs false f h = ap (λ (t : Bool). cond t 0 (suc (front_len (mode_after m b) (take (front_len (mode_after m b) bs) bs)))) f ∙ ap suc h

front_quiet : (m : Mode) (bs : List ℕ) → front_len m (take (front_len m bs) bs) ≡ length (take (front_len m bs) bs)
front_quiet m [] = refl
front_quiet m (b ∷ bs) = front_if m b bs (ends m b) refl (front_quiet (mode_after m b) bs)

ends_if : (m : Mode) (b : ℕ) (bs : List ℕ) (t : Bool) → ends m b ≡ t
    → (front_len (mode_after m b) bs < length bs → ends (fold mode_after (mode_after m b) (take (front_len (mode_after m b) bs) bs)) (get_or bs (front_len (mode_after m b) bs) 0) ≡ true)
    → cond t 0 (suc (front_len (mode_after m b) bs)) < suc (length bs)
    → ends (fold mode_after m (take (cond t 0 (suc (front_len (mode_after m b) bs))) (b ∷ bs))) (get_or (b ∷ bs) (cond t 0 (suc (front_len (mode_after m b) bs))) 0) ≡ true
ends_if m b bs true f h l = f
ends_if m b bs false f h l = h (omega arith)

front_ends : (m : Mode) (bs : List ℕ) → front_len m bs < length bs → ends (fold mode_after m (take (front_len m bs) bs)) (get_or bs (front_len m bs) 0) ≡ true
front_ends m [] l = absurd (omega arith)
front_ends m (b ∷ bs) l = ends_if m b bs (ends m b) refl (λ k. front_ends (mode_after m b) bs k) l

plain_at : (m d : Mode) (b : ℕ) → (b == 59) ≡ true → begun b d ≡ Plain
plain_at m d b e =
    let a : (b == 39) ≡ false = grind (arith, nat_tests) in
    let c : (b == 45) ≡ false = grind (arith, nat_tests) in
    rw (a, c) refl

ends_plain : (m : Mode) (b : ℕ) → ends m b ≡ true → mode_after m b ≡ Plain
ends_plain Plain b e = plain_at Plain Dash b e
ends_plain Dash b e = plain_at Plain Comment b e
ends_plain Text b e = cc
ends_plain Comment b e = cc

-- A chunk of which the rest isn't fed yet.
pub record Progress (first now : Standing) (chunk rest : List ℕ) (before after : List Piece) : Type 0 where
  pub done : List ℕ
  pub parts : chunk ≡ done ++ rest
  pub feeds : Feeds first now done before after

pub starts : (s : Standing) (chunk : List ℕ) (before : List Piece) → s.spoiled ≡ false → Progress s s chunk chunk before before
starts s chunk before e = record { done = []; parts = refl; feeds = begins s before e }

standing_same : (s t : Standing) (m : Mode) (k : Option (List ℕ)) → t.mode ≡ m → t.kept ≡ k → t.spoiled ≡ s.spoiled → record { mode = m; kept = k; spoiled = s.spoiled } ≡ t
standing_same s t m k e f g = λ i. record { mode = (sym e) i; kept = (sym f) i; spoiled = (sym g) i }

-- the bytes up to one that ends a piece
pub cuts_one : (first s t : Standing) (chunk rest : List ℕ) (n : ℕ) (kept : Option (List ℕ)) (before between after : List Piece)
    → n ≡ front_len s.mode rest → n < length rest → kept ≡ longer_by s.kept (take n rest)
    → t.mode ≡ Plain → t.kept ≡ Some [] → t.spoiled ≡ s.spoiled → after ≡ between ++ mark kept ∷ []
    → Progress first s chunk rest before between → Progress first t chunk (drop (suc n) rest) before after
cuts_one first s t chunk rest n kept before between after is below k tm tk ts a p =
    let b : ℕ = get_or rest n 0 in
    let bs : List ℕ = take n rest in
    let q : front_len s.mode bs ≡ length bs = rw is (front_quiet s.mode rest) in
    let last : ends (fold mode_after s.mode bs) b ≡ true = rw is (front_ends s.mode rest (rw (← is) below)) in
    let u : Standing = quiet s bs in
    let v : standing_after u b ≡ t =
    ap (λ (x : Bool). record { mode = mode_after u.mode b; kept = cond x (Some []) (longer_of u.kept b); spoiled = s.spoiled }) last
    ∙ standing_same s t (mode_after u.mode b) (Some []) (tm ∙ sym (ends_plain u.mode b last)) tk ts in
    let w : between ++ ended_at u b ≡ after = ap (λ (x : Bool). between ++ cond x (mark u.kept ∷ []) []) last ∙ ap (λ (y : Option (List ℕ)). between ++ mark y ∷ []) (sym k) ∙ sym a in
    let behind : rest ≡ bs ++ b ∷ drop (suc n) rest = sym (take-append-drop n rest) ∙ ap (λ (l : List ℕ). bs ++ l) (drop-cons rest n 0 below) in
    record {
      done = p.done ++ (bs ++ b ∷ []);
      parts = p.parts ∙ ap (λ (l : List ℕ). p.done ++ l) (behind ∙ sym (append_assoc bs (b ∷ []) (drop (suc n) rest))) ∙ sym (append_assoc p.done (bs ++ b ∷ []) (drop (suc n) rest));
      feeds = record {
        sound = ts ∙ p.feeds.sound;
        cuts = λ script f.
            let g = p.feeds.cuts script f in
            let h = quiet_on s (script ++ p.done) bs between g.fed q in
            let o = one_byte u ((script ++ p.done) ++ bs) b between h.fed in
            let P : Standing → Type 0 = λ x. CutsOn x script (p.done ++ (bs ++ b ∷ [])) before after in
            let Q : List Piece → Type 0 = λ x. CutsOn (standing_after u b) script (p.done ++ (bs ++ b ∷ [])) before x in
            subst P v (subst Q w (and_on s (standing_after u b) script p.done (bs ++ b ∷ []) before between (between ++ ended_at u b) g (and_on u (standing_after u b) (script ++ p.done) bs (b ∷ []) between between (between ++ ended_at u b) h o)));
      };
    }

-- the rest, of which no byte ends a piece
pub cuts_none : (first s t : Standing) (chunk rest : List ℕ) (n : ℕ) (before after : List Piece)
    → n ≡ front_len s.mode rest → n ≡ length rest → t.mode ≡ fold mode_after s.mode (take n rest) → t.kept ≡ longer_by s.kept rest → t.spoiled ≡ s.spoiled
    → Progress first s chunk rest before after → Feeds first t chunk before after
cuts_none first s t chunk rest n before after is all tm tk ts p =
    let whole : take n rest ≡ rest = take_all n rest (omega arith) in
    let q : front_len s.mode rest ≡ length rest = sym is ∙ all in
    let v : quiet s rest ≡ t = standing_same s t (fold mode_after s.mode rest) (longer_by s.kept rest) (tm ∙ ap (λ (l : List ℕ). fold mode_after s.mode l) whole) tk ts in
    record {
      sound = ts ∙ p.feeds.sound;
      cuts = λ script f.
          let g = p.feeds.cuts script f in
          let h = quiet_on s (script ++ p.done) rest after g.fed q in
          let P : Standing → Type 0 = λ x. CutsOn x script chunk before after in
          let Q : List ℕ → Type 0 = λ x. CutsOn (quiet s rest) script x before after in
          subst P v (subst Q (sym p.parts) (and_on s (quiet s rest) script p.done rest before after after g h));
    }

-- A loop over bytes, to the first that ends a piece.
pub record FrontAt (m : Mode) (bs : List ℕ) (i : ℕ) (open_now : Mode) : Type 0 where
  pub len : front_len m bs ≡ i + front_len open_now (drop i bs)
  pub open_is : open_now ≡ fold mode_after m (take i bs)

pub front_begins : (m : Mode) (bs : List ℕ) → FrontAt m bs 0 m
front_begins m bs = record { len = omega arith; open_is = refl }

front_on : (m : Mode) (bs : List ℕ) (i : ℕ) (o : Mode) (b : ℕ) → i < length bs → b ≡ get_or bs i 0 → ends o b ≡ false → FrontAt m bs i o → FrontAt m bs (i + 1) (mode_after o b)
front_on m bs i o b l is e f =
    let more : drop i bs ≡ b ∷ drop (suc i) bs = drop-cons bs i 0 l ∙ ap (λ (x : ℕ). x ∷ drop (suc i) bs) (sym is) in
    let n : front_len o (drop i bs) ≡ suc (front_len (mode_after o b) (drop (suc i) bs)) =
    ap (λ (xs : List ℕ). front_len o xs) more ∙ ap (λ (t : Bool). cond t 0 (suc (front_len (mode_after o b) (drop (suc i) bs)))) e in
    let k : i + 1 ≡ suc i = omega arith in
    record {
      len = rw k (let a = f.len in omega (arith, a, n));
      open_is = ap (λ (x : Mode). mode_after x b) f.open_is ∙ sym (fold_more m (take i bs) b) ∙ ap (λ (xs : List ℕ). fold mode_after m xs) (ap (λ (x : ℕ). take i bs ++ x ∷ []) is ∙ sym (take_more bs i 0 l));
    }

pub front_here : (m : Mode) (bs : List ℕ) (i : ℕ) (o : Mode) (b : ℕ) → i < length bs → b ≡ get_or bs i 0 → ends o b ≡ true → FrontAt m bs i o → i ≡ front_len m bs
front_here m bs i o b l is e f =
    let more : drop i bs ≡ b ∷ drop (suc i) bs = drop-cons bs i 0 l ∙ ap (λ (x : ℕ). x ∷ drop (suc i) bs) (sym is) in
    let n : front_len o (drop i bs) ≡ 0 =
    ap (λ (xs : List ℕ). front_len o xs) more ∙ ap (λ (t : Bool). cond t 0 (suc (front_len (mode_after o b) (drop (suc i) bs)))) e in
    let a = f.len in omega (arith, a, n)

pub front_past : (m : Mode) (bs : List ℕ) (i : ℕ) (o : Mode) → length bs ≤ i → i ≤ length bs → FrontAt m bs i o → length bs ≡ front_len m bs
front_past m bs i o l k f =
    let n : front_len o (drop i bs) ≡ 0 = ap (λ (xs : List ℕ). front_len o xs) (drop_all i bs l) in
    let a = f.len in omega (arith, a, n)

pub front_again : (m : Mode) (bs : List ℕ) (i : ℕ) (o p : Mode) → i < length bs → ends o (get_or bs i 0) ≡ false → p ≡ mode_after o (get_or bs i 0) → FrontAt m bs i o → FrontAt m bs (i + 1) p
front_again m bs i o p l e is f = let P : Mode → Type 0 = λ x. FrontAt m bs (i + 1) x in subst P (sym is) (front_on m bs i o (get_or bs i 0) l refl e f)

pub front_whole : (m : Mode) (bs : List ℕ) (i : ℕ) (o : Mode) → length bs ≤ i → FrontAt m bs i o → o ≡ fold mode_after m (take (length bs) bs)
front_whole m bs i o l f = f.open_is ∙ ap (λ (xs : List ℕ). fold mode_after m xs) (take_all i bs l ∙ sym (take_all (length bs) bs (omega arith)))

slice_from : (bs : List ℕ) (n : ℕ) → take (length bs - n) (drop n bs) ≡ drop n bs
slice_from bs n = grind (arith, common_steps)

-- as the loop over a chunk has it
pub rest_from : (first s t : Standing) (chunk rest : List ℕ) (n : ℕ) (before between after : List Piece)
    → n ≡ front_len s.mode rest → n ≤ length rest → (n ≡ length rest → ⊥)
    → t ≡ record { mode = Plain; kept = Some []; spoiled = s.spoiled } → after ≡ between ++ mark (longer_by s.kept (take n rest)) ∷ []
    → Progress first s chunk rest before between → Progress first t chunk (take (length rest - (n + 1)) (drop (n + 1) rest)) before after
rest_from first s t chunk rest n before between after is within less stands added p =
    let k : n + 1 ≡ suc n = omega arith in
    let below : n < length rest = (let e : n ≡ length rest → ⊥ = less in grind arith) in
    rw (slice_from rest (n + 1), k)
    (cuts_one first s t chunk rest n (longer_by s.kept (take n rest)) before between after is below refl (ap (λ (x : Standing). x.mode) stands) (ap (λ (x : Standing). x.kept) stands) (ap (λ (x : Standing). x.spoiled) stands) added p)

pub kept_all : (first s t : Standing) (chunk rest : List ℕ) (n : ℕ) (m : Mode) (before after : List Piece) (r : Result (Unit {0}) AllocError)
    → n ≡ front_len s.mode rest → n ≡ length rest → m ≡ fold mode_after s.mode (take n rest)
    → OnOk r (t ≡ record { mode = m; kept = longer_by s.kept rest; spoiled = s.spoiled })
    → Progress first s chunk rest before after → OnOk r (Feeds first t chunk before after)
kept_all first s t chunk rest n m before after (Ok u) is all mode stands p =
    cuts_none first s t chunk rest n before after is all (ap (λ (x : Standing). x.mode) stands ∙ mode) (ap (λ (x : Standing). x.kept) stands) (ap (λ (x : Standing). x.spoiled) stands) p
kept_all first s t chunk rest n m before after (Err e) is all mode stands p = tt
