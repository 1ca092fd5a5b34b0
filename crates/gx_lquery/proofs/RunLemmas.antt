-- Runs of matching labels, the last open place, and the groups that they let end.
use Rattle.std.proofs.Common.{◌≡◌, ℕ, zero, suc, ◌+◌, ◌-◌, ◌<◌, ◌≤◌, ◌↔◌, Bool, List, [], ◌∷◌, length, get_or, take, drop, Option, None, Some, refl, sym, ap, ◌∙◌, subst, arith, inl, inr, length-take-le, length-drop, zero-add, slice_get, option_map, Bor}
use Rattle.std.proofs.lemmas.Bool.{cases_lt}
use Rattle.gx_lquery.specs.declared.query.LqueryItem.{LqueryItem}
use Rattle.gx_lquery.specs.Matching.{IsAtMost, MatchesItem}
use Rattle.gx_lquery.specs.Places.{GroupEnds, IsRun, IsLast, EndsGroup}

-- a run goes on over a label that matches, and begins anew behind one that doesn't
pub run_on : (item : LqueryItem) (path : List (List ℕ)) (start at : ℕ) → IsRun item path start at → MatchesItem item (get_or path at []) → IsRun item path start (at + 1)
run_on item path start at r m = record {
  before = omega (arith, r.before);
  matched = λ k low high. elim (cases_lt k at) [
    | inl inside ↦ r.matched k low inside
    | inr last ↦ let same : at ≡ k = omega arith in subst (λ (j : ℕ). MatchesItem item (get_or path j [])) same m
  ];
  stopped = r.stopped;
}

pub run_anew : (item : LqueryItem) (path : List (List ℕ)) (at : ℕ) → (MatchesItem item (get_or path at []) → ⊥) → IsRun item path (at + 1) (at + 1)
run_anew item path at m = record {
  before = omega arith;
  matched = λ k low high. absurd (omega arith);
  stopped = λ some. let same : at ≡ at + 1 - 1 = omega arith in subst (λ (j : ℕ). MatchesItem item (get_or path j []) → ⊥) same m;
}

label_taken : (path : List (List ℕ)) (at k : ℕ) (d : List ℕ) → at ≤ length path → k < at → get_or (take at path) k d ≡ get_or path k []
label_taken [] zero k d within inside = absurd (omega arith)
label_taken [] (suc at) k d within inside = absurd (omega arith)
label_taken (x ∷ path) zero k d within inside = absurd (omega arith)
label_taken (x ∷ path) (suc at) zero d within inside = refl
label_taken (x ∷ path) (suc at) (suc k) d within inside = label_taken path at k d (omega arith) (omega arith)

label_dropped : (from : ℕ) (xs : List (List ℕ)) (k : ℕ) (d : List ℕ) → get_or (drop from xs) k d ≡ get_or xs (from + k) d
label_dropped zero xs k d = ap (λ (n : ℕ). get_or xs n d) (sym (zero-add k))
label_dropped (suc from) [] k d = refl
label_dropped (suc from) (x ∷ xs) k d = label_dropped from xs k d ∙ ap (λ (n : ℕ). get_or (x ∷ xs) n d) (let e : suc (from + k) ≡ suc from + k = omega arith in e)

-- the labels of a group are those of the path
group_label : (path : List (List ℕ)) (from at k : ℕ) (d : List ℕ) → at ≤ length path → k < at - from → get_or (drop from (take at path)) k d ≡ get_or path (from + k) []
group_label path from at k d within inside = label_dropped from (take at path) k d ∙ label_taken path at (from + k) d within (omega arith)

group_length : (path : List (List ℕ)) (from at : ℕ) → at ≤ length path → length (drop from (take at path)) ≡ at - from
group_length path from at within = omega (arith, length-drop from (take at path), length-take-le at path within)

most_less : (m n : ℕ) (most : Option ℕ) → m ≤ n → IsAtMost n most → IsAtMost m most
most_less m n None le h = tt
most_less m n (Some most) le h = omega arith

pub group_tells : (item : LqueryItem) (path : List (List ℕ)) (row : List Bool) (start at : ℕ) (last : Option ℕ) → at ≤ length path → IsRun item path start at → IsLast row item.least last (at + 1)
    → EndsGroup start last at item.most ↔ GroupEnds item path row at
group_tells item path row start at None within run none = (
  λ e. absurd e,
  λ g.
      let long = group_length path g.from at within in
      let least = g.fits.least in
      let before = g.before in
      absurd (none g.from (omega arith) g.open_from),
)
group_tells item path row start at (Some last) within run found = (
  λ e. record {
    from = last;
    open_from = found.1;
    before = e.1;
    fits = record {
      least = omega (arith, found.0, group_length path last at within);
      most = let P : ℕ → Type 0 = λ n. IsAtMost n item.most in subst P (sym (group_length path last at within)) e.2;
      each = λ k d inside.
          let short : k < at - last = omega (arith, group_length path last at within, inside) in
          subst (MatchesItem item) (sym (group_label path last at k d within short)) (run.matched (last + k) (omega (arith, e.0)) (omega arith));
    };
  },
  λ g.
      let long = group_length path g.from at within in
      let least = g.fits.least in
      let before = g.before in
      let after : g.from ≤ last = found.2 g.from (omega arith) g.open_from in
      let end : last ≤ at = omega (arith, found.0) in
      let start_before : start ≤ last = elim (cases_lt last start) [
        | inr later ↦ later
        | inl early ↦
            let some : 0 < start = omega arith in
            let end_of_run = run.before in
            let place : g.from + (start - 1 - g.from) ≡ start - 1 = omega arith in
            let inside : start - 1 - g.from < at - g.from = omega arith in
            let label = group_label path g.from at (start - 1 - g.from) [] within inside in
            let same : get_or (drop g.from (take at path)) (start - 1 - g.from) [] ≡ get_or path (start - 1) [] = label ∙ ap (λ (n : ℕ). get_or path n []) place in
            absurd (run.stopped some (subst (MatchesItem item) same (g.fits.each (start - 1 - g.from) [] (omega (arith, inside, long)))))
      ] in
      (start_before, end, most_less (at - last) (at - g.from) item.most (omega arith) (let P : ℕ → Type 0 = λ n. IsAtMost n item.most in subst P long g.fits.most)),
)

-- the label at a place, as the path's call gives it
some_at : (path : List (List ℕ)) (at : ℕ) (x : List ℕ) → Some x ≡ slice_get path at → get_or path at [] ≡ x
some_at [] zero x e = cc
some_at [] (suc at) x e = cc
some_at (y ∷ path) zero x e = cc
some_at (y ∷ path) (suc at) x e = some_at path at x e

none_at : (path : List (List ℕ)) (at : ℕ) → None ≡ slice_get path at → at < length path → ⊥
none_at [] at e l = omega arith
none_at (y ∷ path) zero e l = cc
none_at (y ∷ path) (suc at) e l = none_at path at e (omega arith)

pub label_at : (path : List (List ℕ)) (at : ℕ) (r : Option (Bor (List ℕ))) (label : Bor (List ℕ)) → r ≡ Some label → option_map (λ (l : Bor (List ℕ)). l.now) r ≡ slice_get path at → get_or path at [] ≡ label.now
label_at path at r label is e = some_at path at label.now (sym (ap (option_map (λ (l : Bor (List ℕ)). l.now)) is) ∙ e)

pub no_label : (path : List (List ℕ)) (at : ℕ) (r : Option (Bor (List ℕ))) → r ≡ None → option_map (λ (l : Bor (List ℕ)). l.now) r ≡ slice_get path at → at < length path → ⊥
no_label path at r is e = none_at path at (sym (ap (option_map (λ (l : Bor (List ℕ)). l.now)) is) ∙ e)
