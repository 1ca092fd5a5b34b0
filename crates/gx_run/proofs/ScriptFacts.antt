-- The run of a script that comes in parts.
use Rattle.std.proofs.Common.{◌≡◌, ℕ, ◌+◌, ◌-◌, ◌<◌, ◌≤◌, Bool, ◌||◌, List, [], ◌∷◌, ◌++◌, length, map, take, drop, Result, Ok, Err, refl, sym, ◌∙◌, ap, subst, append_assoc, length-append, take-append-drop, arith}
use Rattle.std.proofs.Math.Seq.{take-append_seam}
use Rattle.std.proofs.lemmas.List.{append-nil, length-drop, take-append-le, append_cancel_left, map-append}
use Rattle.std.proofs.lemmas.Grind.{common_steps}
use Rattle.gx_words.specs.Causes.{Said}
use Rattle.gx_words.specs.Moments.{Moment}
use Rattle.gx_words.specs.PageMap.{PageMap}
use Rattle.gx_io.specs.Source.{IsFront}
use Rattle.gx_model.specs.Runs.{State}
use Rattle.gx_run.specs.Moves.{Ran}
use Rattle.gx_lexer.specs.declared.piece.Piece.{Piece}
use Rattle.gx_lexer.specs.Cut.{cut, statements}
use Rattle.gx_lexer.specs.Feeding.{piece_of, pieces_of, Standing, Fed, CutsOn}
use Rattle.gx_run.specs.Scripts.{RanMore, RanFront}
use Rattle.gx_run.specs.Statuses.{IsWithout}
use Rattle.gx_run.specs.declared.halt.Halt.TheVariants.{Stopped}
use Rattle.gx_run.specs.declared.stop.Stop.{Stop}
use Rattle.gx_run.specs.declared.stop.Stop.TheVariants.{Answer, Disk, Memory, Broken}
use Rattle.gx_run.proofs.RunFacts as facts
use Rattle.gx_run.proofs.FrontFacts.{cut_front, first_statements}

-- a part of the script was read
pub record Reads (script fed told bytes left : List ℕ) (taken n : ℕ) : Type 0 where
  pub whole : script ≡ fed ++ bytes ++ left
  pub count : length (fed ++ bytes) ≡ taken + n

pub reads : (script fed told read more left : List ℕ) (taken n room : ℕ) → script ≡ fed ++ told → length fed ≡ taken → left ≡ drop n told → IsFront told read n room
    → Reads script fed told (take n (read ++ more)) left taken n
reads script fed told read more left taken n room e l d f =
    let len : length (take n told) ≡ n = let w = f.within in grind (arith, common_steps) in
    let len' : length (take n read) ≡ n = ap (λ (t : List ℕ). length t) f.same ∙ len in
    let low : n ≤ length read = grind (arith, common_steps) in
    let front : take n (read ++ more) ≡ take n told = take-append-le n read more low ∙ f.same in
    let same : told ≡ take n (read ++ more) ++ left = sym (take-append-drop n told) ∙ (rw (front, d) refl) in
    record {
      whole = e ∙ ap (λ (t : List ℕ). fed ++ t) same ∙ sym (append_assoc fed (take n (read ++ more)) left);
      count = length-append fed (take n (read ++ more)) ∙ (rw (front, len, l) refl);
    }

-- nothing is left
pub ends : (told read left : List ℕ) (n room : ℕ) → IsFront told read n room → 0 < room → n ≡ 0 → left ≡ drop n told → (told ≡ []) × (left ≡ [])
ends told read left n room f some zero d =
    let none : told ≡ [] = f.end some zero in
    (none, d ∙ (rw (none, zero) refl))

-- a script that was read to its end isn't too long
pub fits : (script fed left : List ℕ) (taken limit : ℕ) → script ≡ fed ++ left → left ≡ [] → length fed ≡ taken → taken ≤ limit → length script ≤ limit
fits script fed left taken limit e end l low =
    let is : script ≡ fed = e ∙ ap (λ (t : List ℕ). fed ++ t) end ∙ append-nil fed in
    rw is (omega (arith, l, low))

pub full : (script fed told read left : List ℕ) (taken n room limit : ℕ) → script ≡ fed ++ told → length fed ≡ taken → limit ≤ taken → taken ≤ limit → IsFront told read n room → left ≡ drop n told → (n ≡ 0 → ⊥)
    → (limit + length left < length script) × (take limit script ≡ fed)
full script fed told read left taken n room limit e l low high f d some =
    let is : limit ≡ length fed = omega (arith, l, low, high) in
    let within : n ≤ length told = f.within in
    let pos : 0 < n = grind arith in
    let rest : length left ≡ length told - n = ap (λ (t : List ℕ). length t) d ∙ length-drop n told in (
      (rw e (omega (arith, length-append fed told, is, within, pos, rest))),
      (rw (e, is) (take-append_seam fed told)),
    )

-- what was taken isn't too much
pub took : (script front left : List ℕ) (limit : ℕ) → script ≡ front ++ left → length front ≤ limit → length script ≤ limit + length left
took script front left limit e most = rw e (omega (arith, length-append front left, most))

-- n more bytes were taken, at most as many as a script may have
pub took_more : (script fed told left : List ℕ) (taken n limit : ℕ) → script ≡ fed ++ told → length fed ≡ taken → left ≡ drop n told → taken + n ≤ limit → length script ≤ limit + length left
took_more script fed told left taken n limit e l d most =
    let dropped : length left ≡ length told - n = ap (λ (t : List ℕ). length t) d ∙ length-drop n told in
    rw e (omega (arith, length-append fed told, l, dropped, most))

-- one more part was read
pub longer : (fed read more : List ℕ) (taken n : ℕ) → length fed ≡ taken → n ≤ length read → length (fed ++ take n (read ++ more)) ≡ taken + n
longer fed read more taken n l within =
    let some : length (take n (read ++ more)) ≡ n = grind (arith, common_steps) in
    length-append fed (take n (read ++ more)) ∙ (rw (some, l) refl)

pub front_ran : {D : Type 0} {s t : ℕ} (moment : D → ℕ) (since : D → ℕ → Moment PageMap → Type 0) (leaves : D → PageMap → Type 0) (said : D → Said) (is_at : D → State → Type 0) (emptied : D → Type 0)
    (old new : D) (from : State) (fed front : List ℕ) (refused : Bool) → front ≡ fed → Ran moment since leaves said is_at emptied s t old new from (cut fed).pieces (Ok refused)
    → RanFront moment since leaves said is_at emptied s t old new from front
front_ran {s = s} {t = t} moment since leaves said is_at emptied old new from fed front refused e ran =
    let P : List ℕ → Type 0 = λ f. RanFront moment since leaves said is_at emptied s t old new from f in
    subst P (sym e) (refused, ran)

module _ {D : Type 0} {s m : ℕ} (moment : D → ℕ) (since : D → ℕ → Moment PageMap → Type 0) (leaves : D → PageMap → Type 0) (said : D → Said) (is_at : D → State → Type 0) (emptied : D → Type 0)
    (old mid new : D) (from : State) (fed : List ℕ) (refused : Bool)
    (first : Ran moment since leaves said is_at emptied s m old mid from (cut fed).pieces (Ok refused)) where
  abbrev pub next : State
  next = facts.behind moment since leaves said is_at emptied old mid from (cut fed).pieces refused first

  abbrev Whole : ℕ → List ℕ → Result Bool Stop → Type 0
  Whole t script result = facts.RanAs moment since leaves said is_at emptied s t old new from (statements script) result

  whole : {t : ℕ} (script left : List ℕ) (result : Result Bool Stop) → script ≡ fed ++ left → left ≡ []
      → Ran moment since leaves said is_at emptied m t mid new next ((cut fed).rest ∷ []) result → Whole t script (facts.then_ends refused result)
  whole {t} script left result e end second =
      let is : fed ≡ script = sym (e ∙ ap (λ (t : List ℕ). fed ++ t) end ∙ append-nil fed) in
      let P : List ℕ → Type 0 = λ s. Whole t s (facts.then_ends refused result) in
      subst P is (facts.ran_then moment since leaves said is_at emptied old mid new from (cut fed).pieces ((cut fed).rest ∷ []) refused result first second)

  pub rest_ran : {t : ℕ} (script left : List ℕ) (one both : Bool) → script ≡ fed ++ left → left ≡ [] → both ≡ (refused || one)
      → Ran moment since leaves said is_at emptied m t mid new next ((cut fed).rest ∷ []) (Ok one) → Whole t script (Ok both)
  rest_ran {t} script left one both e end is second =
      let P : Bool → Type 0 = λ b. Whole t script (Ok b) in
      subst P (sym is) (whole script left (Ok one) e end second)

  pub rest_stopped : {t : ℕ} (script left : List ℕ) (stop : Stop) → script ≡ fed ++ left → left ≡ []
      → Ran moment since leaves said is_at emptied m t mid new next ((cut fed).rest ∷ []) (Err stop) → Whole t script (Err stop)
  rest_stopped script left stop e end second = whole script left (Err stop) e end second

  part : {t : ℕ} (bytes : List ℕ) (result : Result Bool Stop) → RanMore moment since leaves said is_at emptied m t mid new next fed bytes result
      → facts.RanAs moment since leaves said is_at emptied s t old new from (cut (fed ++ bytes)).pieces (facts.then_ends refused result)
  part {t} bytes result second =
      let P : List (List ℕ) → Type 0 = λ ps. facts.RanAs moment since leaves said is_at emptied s t old new from ps (facts.then_ends refused result) in
      subst P (sym second.1) (facts.ran_then moment since leaves said is_at emptied old mid new from (cut fed).pieces second.0 refused result first second.2)

  pub part_ran : {t : ℕ} (bytes : List ℕ) (one both : Bool) → both ≡ (refused || one) → RanMore moment since leaves said is_at emptied m t mid new next fed bytes (Ok one)
      → facts.RanOk moment since leaves said is_at emptied s t old new from (cut (fed ++ bytes)).pieces both
  part_ran {t} bytes one both is second =
      let Q : Bool → Type 0 = λ b. facts.RanOk moment since leaves said is_at emptied s t old new from (cut (fed ++ bytes)).pieces b in
      subst Q (sym is) (part bytes (Ok one) second)

  pub part_stopped : {t : ℕ} (script bytes left : List ℕ) (stop : Stop) → script ≡ fed ++ bytes ++ left → RanMore moment since leaves said is_at emptied m t mid new next fed bytes (Err stop)
      → Whole t script (Err stop)
  part_stopped {t} script bytes left stop e second =
      let k = first_statements script (fed ++ bytes) left e in
      let P : List (List ℕ) → Type 0 = λ ps. facts.RanErr moment since leaves said is_at emptied s t old new from ps stop in
      subst P (sym k.1) (facts.ran_more moment since leaves said is_at emptied old new from (cut (fed ++ bytes)).pieces k.0 stop (part bytes (Err stop) second))

-- No page is broken where pieces were run from a state on.
pub without : {D : Type 0} {s t : ℕ} (moment : D → ℕ) (since : D → ℕ → Moment PageMap → Type 0) (leaves : D → PageMap → Type 0) (said : D → Said) (is_at : D → State → Type 0) (emptied : D → Type 0)
    (old new : D) (from : State) (pieces : List (List ℕ)) (stop : Stop) → Ran moment since leaves said is_at emptied s t old new from pieces (Err stop) → IsWithout (Err (Stopped stop))
without moment since leaves said is_at emptied old new from pieces Answer ran = tt
without moment since leaves said is_at emptied old new from pieces Disk ran = tt
without moment since leaves said is_at emptied old new from pieces Memory ran = tt
without moment since leaves said is_at emptied old new from pieces (Broken page expected found) ran = ran.ends

-- the pieces that were added are those behind the ones that end in what was fed before
pub added_pieces : (fed bytes : List ℕ) (added : List Piece) → pieces_of (fed ++ bytes) ≡ pieces_of fed ++ added → map piece_of (cut_front fed bytes).0 ≡ added
added_pieces fed bytes added e =
    let k = cut_front fed bytes in
    append_cancel_left (pieces_of fed) (map piece_of k.0) added
    (sym (map-append piece_of (cut fed).pieces k.0) ∙ ap (λ (ps : List (List ℕ)). map piece_of ps) (sym k.1) ∙ e)

-- a part of what was read, behind what was fed
pub fed_on : (cutter : Standing) (fed bytes : List ℕ) (before after : List Piece) → CutsOn cutter fed bytes before after → Fed cutter (fed ++ bytes)
fed_on cutter fed bytes before after c = c.fed
