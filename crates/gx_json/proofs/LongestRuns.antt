-- The runs of a text are the longest ones, and there is one way to cut it into them.
use Rattle.std.proofs.Common.{◌≡◌, ℕ, Bool, true, false, if◌then◌else◌, List, [], ◌∷◌, ◌++◌, refl, sym, ap, ◌∙◌, append_assoc, append-nil, subst}
use Rattle.std.specs.List.{AllByRecursion}
use Rattle.gx_json.specs.Scan.{begins_run, is_run_byte, runs, runs_from}
use Rattle.gx_json.specs.Parts.{NoneBegins, IsRun, EndsRun, HasRuns}
use Rattle.gx_json.proofs.RunLemmas.{stops_no_start}

-- ---- a text with these runs has no others

pub runs_behind : (before more : List ℕ) → NoneBegins before → runs (before ++ more) ≡ runs more
runs_behind [] more h = refl
runs_behind (c ∷ cs) more h = rw h.0 (runs_behind cs more h.1)

run_ends : (run rest : List ℕ) → EndsRun rest → runs_from run rest ≡ run ∷ runs rest
run_ends run [] h = refl
run_ends run (c ∷ cs) h = rw (h, stops_no_start c h) refl

run_goes_on : (run more rest : List ℕ) → AllByRecursion (λ d. is_run_byte d ≡ true) more → EndsRun rest → runs_from run (more ++ rest) ≡ (run ++ more) ∷ runs rest
run_goes_on run [] rest h e = run_ends run rest e ∙ ap (λ (r : List ℕ). r ∷ runs rest) (sym (append-nil run))
run_goes_on run (c ∷ cs) rest h e =
    rw h.0 (run_goes_on (run ++ c ∷ []) cs rest h.1 e ∙ ap (λ (r : List ℕ). r ∷ runs rest) (append_assoc run (c ∷ []) cs))

pub first_of : (run rest : List ℕ) → IsRun run → EndsRun rest → runs (run ++ rest) ≡ run ∷ runs rest
first_of [] rest h e = absurd h
first_of (c ∷ cs) rest h e = rw h.0 (run_goes_on (c ∷ []) cs rest h.1 e)

none_begins : (text : List ℕ) → NoneBegins text → runs text ≡ []
none_begins [] h = refl
none_begins (c ∷ cs) h = rw h.0 (none_begins cs h.1)

pub only_runs : (text : List ℕ) (rs : List (List ℕ)) → HasRuns text rs → rs ≡ runs text
only_runs text [] h = sym (none_begins text h)
only_runs text (run ∷ more) h =
    let before = h.0 in
    let rest = h.1 in
    sym (ap runs h.2 ∙ runs_behind before (run ++ rest) h.3 ∙ first_of run rest h.4 h.5 ∙ ap (λ (rs : List (List ℕ)). run ∷ rs) (sym (only_runs rest more h.6)))

-- ---- each text has its runs

-- of a run that has begun: what goes on with it, and what stands behind it
record Rest (run text : List ℕ) : Type 0 where
  more : List ℕ
  rest : List ℕ
  spells : text ≡ more ++ rest
  goes_on : AllByRecursion (λ d. is_run_byte d ≡ true) more
  ends : EndsRun rest
  after : List (List ℕ)
  has : HasRuns rest after
  gives : runs_from run text ≡ (run ++ more) ∷ after

one_before : (c : ℕ) (text : List ℕ) (rs : List (List ℕ)) → begins_run c ≡ false → HasRuns text rs → HasRuns (c ∷ text) rs
one_before c text [] n h = (n, h)
one_before c text (run ∷ more) n h = (c ∷ h.0, h.1, ap (λ (t : List ℕ). c ∷ t) h.2, (n, h.3), h.4, h.5, h.6)

goes_on_with : (c : ℕ) (run cs : List ℕ) → is_run_byte c ≡ true → Rest (run ++ c ∷ []) cs → Rest run (c ∷ cs)
goes_on_with c run cs t r = record {
  more = c ∷ r.more;
  rest = r.rest;
  spells = ap (λ (t : List ℕ). c ∷ t) r.spells;
  goes_on = (t, r.goes_on);
  ends = r.ends;
  after = r.after;
  has = r.has;
  gives = rw t (r.gives ∙ ap (λ (x : List ℕ). x ∷ r.after) (append_assoc run (c ∷ []) r.more));
}

stops_at : (c : ℕ) (run cs : List ℕ) → is_run_byte c ≡ false → HasRuns cs (runs cs) → Rest run (c ∷ cs)
stops_at c run cs t h = record {
  more = [];
  rest = c ∷ cs;
  spells = refl;
  goes_on = tt;
  ends = t;
  after = runs cs;
  has = one_before c cs (runs cs) (stops_no_start c t) h;
  gives = rw t (ap (λ (x : List ℕ). x ∷ runs cs) (sym (append-nil run)));
}

either_rest : (c : ℕ) (run cs : List ℕ) (b : Bool) → is_run_byte c ≡ b → Rest (run ++ c ∷ []) cs → HasRuns cs (runs cs) → Rest run (c ∷ cs)
either_rest c run cs true t r h = goes_on_with c run cs t r
either_rest c run cs false t r h = stops_at c run cs t h

begins_with : (c : ℕ) (cs : List ℕ) → begins_run c ≡ true → Rest (c ∷ []) cs → HasRuns (c ∷ cs) (runs_from (c ∷ []) cs)
begins_with c cs t r =
    subst (HasRuns (c ∷ cs)) (sym r.gives) ([], r.rest, ap (λ (t : List ℕ). c ∷ t) r.spells, tt, (t, r.goes_on), r.ends, r.has)

either_has : (c : ℕ) (cs : List ℕ) (b : Bool) → begins_run c ≡ b → Rest (c ∷ []) cs → HasRuns cs (runs cs) → HasRuns (c ∷ cs) (if b then runs_from (c ∷ []) cs else runs cs)
either_has c cs true t r h = begins_with c cs t r
either_has c cs false t r h = one_before c cs (runs cs) t h

mutual
  pub has_runs : (text : List ℕ) → HasRuns text (runs text)
  has_runs [] = tt
  has_runs (c ∷ cs) = either_has c cs (begins_run c) refl (rest_of (c ∷ []) cs) (has_runs cs)

  rest_of : (run text : List ℕ) → Rest run text
  rest_of run [] = record { more = []; rest = []; spells = refl; goes_on = tt; ends = tt; after = []; has = tt; gives = ap (λ (x : List ℕ). x ∷ []) (sym (append-nil run)) }
  rest_of run (c ∷ cs) = either_rest c run cs (is_run_byte c) refl (rest_of (run ++ c ∷ []) cs) (has_runs cs)
