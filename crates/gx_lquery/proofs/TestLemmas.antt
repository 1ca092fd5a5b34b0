-- The tests tell which labels and paths match.
use Rattle.std.proofs.Common.{◌≡◌, ◌==◌, ℕ, leb, ◌<◌, ◌≤◌, ◌⊎◌, inl, inr, Bool, true, false, not, ◌&&◌, ◌||◌, List, [], ◌∷◌, ◌++◌, length, take, Option, None, Some, All, Any, bytes_eq, if◌then◌else◌, refl, sym, ap, ◌∙◌, subst, arith, true≢false, append_assoc, append-nil}
use Rattle.std.specs.Bool.{Decides}
use Rattle.std.specs.List.{AllZip, list_any, flat_map}
use Rattle.std.proofs.lemmas.Bool.Decides.{Decides-eqb, Decides-like, Decides-not, Decides-and, Decides-or, Decides-by_and, nat_tests}
use Rattle.std.proofs.lemmas.List.Folds.{Any-from_list_any, list_any-from_Any}
use Rattle.std.proofs.lemmas.Slice.Eq.{bytes_eq-Decides}
use Rattle.gx_lquery.specs.declared.variant.Variant.{Variant}
use Rattle.gx_lquery.specs.declared.query.LqueryItem.{LqueryItem}
use Rattle.gx_lquery.specs.declared.query.Lquery.{Lquery}
use Rattle.gx_lquery.specs.Matching.{folded, MatchesVariant, MatchesSome, MatchesWord, MatchesItem, IsAtMost, FitsItem, MatchesPath, MatchesAny}
use Rattle.gx_lquery.specs.Tests.{matches_variant, matches_item, all_match, is_at_most, fits_item, some_cut, matches_path, matches_any}
use Rattle.gx_lquery.proofs.VariantLemmas.{by_front, wrong_length}

pub any_decided : {X : Type 0} (p : X → Bool) (P : X → Type 0) → ((x : X) → Decides (p x) (P x)) → (xs : List X) → Decides (list_any p xs) (Any P xs)
any_decided p P each xs = (
  λ e. let a = Any-from_list_any p xs e in (a.0, a.1, a.2, a.3, (each a.1).0 a.4),
  λ a. list_any-from_Any p xs (a.0, a.1, a.2, a.3, (each a.1).1 a.4),
)

leb_decided : (m n : ℕ) → Decides (leb m n) (m ≤ n)
leb_decided m n = (λ e. grind (arith, nat_tests), λ l. grind (arith, nat_tests))

both : (a b : Bool) → a && b ≡ true → (a ≡ true) × (b ≡ true)
both true b e = (refl, e)
both false b e = absurd (true≢false (sym e))

abbrev IsLong : Variant → List ℕ → Type 0
IsLong variant label = (length variant.label ≤ length label) × ((variant.prefix ≡ true) ⊎ (length label ≡ length variant.label))

long_decided : (variant : Variant) (label : List ℕ) → Decides (leb (length variant.label) (length label) && (variant.prefix || length label == length variant.label)) (IsLong variant label)
long_decided variant label =
    Decides-and _ _ (leb_decided (length variant.label) (length label)) (Decides-or _ _ (λ e. e, λ e. e) (Decides-eqb (length label) (length variant.label)))

whole_of : (variant : Variant) (label : List ℕ) → (variant.prefix ≡ true) ⊎ (length label ≡ length variant.label) → variant.prefix ≡ false → length label ≡ length variant.label
whole_of variant label (inl p) e = absurd (true≢false (sym p ∙ e))
whole_of variant label (inr p) e = p

-- the label of a word that matches is long enough
is_long : (variant : Variant) (label : List ℕ) (b : Bool) → b ≡ leb (length variant.label) (length label) && (variant.prefix || length label == length variant.label) → MatchesVariant variant label → b ≡ true
is_long variant label true e m = refl
is_long variant label false e m = absurd (wrong_length variant label (too_short variant.prefix (length label) (length variant.label) (sym e)) m)
  where
    too_short : (prefix : Bool) (m n : ℕ) → leb n m && (prefix || m == n) ≡ false → (m < n) ⊎ ((prefix ≡ false) × (m ≡ n → ⊥))
    too_short true m n e = inl (grind (arith, nat_tests))
    too_short false m n e = go (leb n m) refl
      where
        go : (b : Bool) → leb n m ≡ b → (m < n) ⊎ ((false ≡ false) × (m ≡ n → ⊥))
        go true l = inr (refl, λ s. true≢false (sym ((Decides-eqb m n).1 s) ∙ (let P : Bool → Type 0 = λ x. x && (m == n) ≡ false in subst P l e)))
        go false l = inl (grind (arith, nat_tests))

pub variant_decided : (variant : Variant) (label : List ℕ) → Decides (matches_variant variant label) (MatchesVariant variant label)
variant_decided variant label =
    let n = length variant.label in
    let letters = bytes_eq-Decides (folded variant.caseless (take n label)) (folded variant.caseless variant.label) in
    let long = long_decided variant label in (
      λ e.
          let two = both _ _ e in
          let l = long.0 two.0 in
          (by_front variant label true l.0 (whole_of variant label l.1) (λ t. letters.0 two.1, λ s. refl)).0 refl,
      λ m.
          let first = is_long variant label _ refl m in
          let l = long.0 first in
          let same = (by_front variant label (bytes_eq (folded variant.caseless (take n label)) (folded variant.caseless variant.label)) l.0 (whole_of variant label l.1) letters).1 m in
          (Decides-and _ _ (λ e. e, λ e. e) (λ e. e, λ e. e)).1 (first, same),
    )

word_decided : (star negated some : Bool) (variants : List Variant) (label : List ℕ) → Decides some (Any (λ v. MatchesVariant v label) variants) → Decides (star || (if negated then not some else some)) (MatchesWord star negated variants label)
word_decided true negated some variants label d = (λ e. tt, λ e. refl)
word_decided false true some variants label d = Decides-not some d
word_decided false false some variants label d = d

item_decided : (item : LqueryItem) (label : List ℕ) → Decides (matches_item item label) (MatchesItem item label)
item_decided item label =
    word_decided item.star item.negated _ item.variants label (any_decided (λ v. matches_variant v label) (λ v. MatchesVariant v label) (λ v. variant_decided v label) item.variants)

most_decided : (count : ℕ) (most : Option ℕ) → Decides (is_at_most count most) (IsAtMost count most)
most_decided count None = (λ e. tt, λ e. refl)
most_decided count (Some most) = leb_decided count most

fits_decided : (item : LqueryItem) (group : List (List ℕ)) → Decides (fits_item item group) (FitsItem item group)
fits_decided item group =
    let each = Decides-by_and (matches_item item) (MatchesItem item) (all_match item) (item_decided item) refl (λ _ _. refl) group in
    let all = Decides-and _ _ (leb_decided item.least (length group)) (Decides-and _ _ (most_decided (length group) item.most) each) in
    (λ e. let p = all.0 e in record { least = p.0; most = p.1.0; each = p.1.1 }, λ f. all.1 (f.least, (f.most, f.each)))

-- a cut of the path
pub record Cut (P Q : List (List ℕ) → Type 0) (front path : List (List ℕ)) : Type 0 where
  pub first : List (List ℕ)
  pub rest : List (List ℕ)
  pub parts : path ≡ first ++ rest
  pub before : P (front ++ first)
  pub behind : Q rest

cut_found : (p q : List (List ℕ) → Bool) (P Q : List (List ℕ) → Type 0) → ((x : List (List ℕ)) → Decides (p x) (P x)) → ((x : List (List ℕ)) → Decides (q x) (Q x))
    → (path front : List (List ℕ)) → some_cut p q front path ≡ true → Cut P Q front path
cut_found p q P Q d f [] front e =
    let two = both _ _ e in
    record { first = []; rest = []; parts = refl; before = subst P (sym (append-nil front)) ((d front).0 two.0); behind = (f []).0 two.1 }
cut_found p q P Q d f (label ∷ path) front e = go (p front && q (label ∷ path)) refl e (cut_found p q P Q d f path (front ++ label ∷ []))
  where
    go : (b : Bool) → p front && q (label ∷ path) ≡ b → b || some_cut p q (front ++ label ∷ []) path ≡ true → (some_cut p q (front ++ label ∷ []) path ≡ true → Cut P Q (front ++ label ∷ []) path) → Cut P Q front (label ∷ path)
    go true now e more =
        let two = both _ _ now in
        record { first = []; rest = label ∷ path; parts = refl; before = subst P (sym (append-nil front)) ((d front).0 two.0); behind = (f (label ∷ path)).0 two.1 }
    go false now e more =
        let later = more e in
        record {
          first = label ∷ later.first;
          rest = later.rest;
          parts = ap (λ (t : List (List ℕ)). label ∷ t) later.parts;
          before = subst P (append_assoc front (label ∷ []) later.first) later.before;
          behind = later.behind;
        }

or_true : (a b : Bool) → (a ≡ true) ⊎ (b ≡ true) → a || b ≡ true
or_true true b h = refl
or_true false b (inl h) = absurd (true≢false (sym h))
or_true false b (inr h) = h

and_true : (a b : Bool) → a ≡ true → b ≡ true → a && b ≡ true
and_true true b h g = g
and_true false b h g = absurd (true≢false (sym h))

cut_tested : (p q : List (List ℕ) → Bool) (P Q : List (List ℕ) → Type 0) → ((x : List (List ℕ)) → Decides (p x) (P x)) → ((x : List (List ℕ)) → Decides (q x) (Q x))
    → (path front first rest : List (List ℕ)) → path ≡ first ++ rest → P (front ++ first) → Q rest → some_cut p q front path ≡ true
cut_tested p q P Q d f [] front [] rest e before behind = and_true _ _ ((d front).1 (subst P (append-nil front) before)) ((f []).1 (subst Q (sym e) behind))
cut_tested p q P Q d f [] front (x ∷ first) rest e before behind = cc
cut_tested p q P Q d f (label ∷ path) front [] rest e before behind =
    or_true _ _ (inl (and_true _ _ ((d front).1 (subst P (append-nil front) before)) ((f (label ∷ path)).1 (subst Q (sym e) behind))))
cut_tested p q P Q d f (label ∷ path) front (x ∷ first) rest e before behind =
    let head : x ≡ label = cc in
    let tail : path ≡ first ++ rest = cc in
    let joined : front ++ (x ∷ first) ≡ (front ++ label ∷ []) ++ first = ap (λ (c : List ℕ). front ++ (c ∷ first)) head ∙ sym (append_assoc front (label ∷ []) first) in
    or_true _ _ (inr (cut_tested p q P Q d f path (front ++ label ∷ []) first rest tail (subst P joined before) behind))

-- groups one behind another
cons_matches : (item : LqueryItem) (items : List LqueryItem) (path group rest : List (List ℕ)) → path ≡ group ++ rest → FitsItem item group → MatchesPath items rest → MatchesPath (item ∷ items) path
cons_matches item items path group rest e fits m = record {
  groups = group ∷ m.groups;
  joined = e ∙ ap (λ (t : List (List ℕ)). group ++ t) m.joined;
  fits = (fits, m.fits);
}

uncons_matches : (item : LqueryItem) (items : List LqueryItem) (path : List (List ℕ)) (groups : List (List (List ℕ))) → path ≡ flat_map (λ group. group) groups → AllZip FitsItem (item ∷ items) groups
    → (group : List (List ℕ)) × (rest : List (List ℕ)) × (path ≡ group ++ rest) × FitsItem item group × MatchesPath items rest
uncons_matches item items path [] e a = absurd a
uncons_matches item items path (g ∷ groups) e a = (g, flat_map (λ group. group) groups, e, a.0, record { groups = groups; joined = refl; fits = a.1 })

none_left : (label : List ℕ) (path : List (List ℕ)) (groups : List (List (List ℕ))) → label ∷ path ≡ flat_map (λ group. group) groups → AllZip FitsItem [] groups → ⊥
none_left label path [] e a = cc
none_left label path (g ∷ groups) e a = a

pub path_decided : (items : List LqueryItem) (path : List (List ℕ)) → Decides (matches_path items path) (MatchesPath items path)
path_decided [] [] = (λ e. record { groups = []; joined = refl; fits = tt }, λ m. refl)
path_decided [] (label ∷ path) = (λ e. absurd (true≢false (sym e)), λ m. absurd (none_left label path m.groups m.joined m.fits))
path_decided (item ∷ items) path = (
  λ e.
      let cut = cut_found (fits_item item) (matches_path items) (FitsItem item) (MatchesPath items) (fits_decided item) (path_decided items) path [] e in
      cons_matches item items path cut.first cut.rest cut.parts cut.before cut.behind,
  λ m.
      let u = uncons_matches item items path m.groups m.joined m.fits in
      cut_tested (fits_item item) (matches_path items) (FitsItem item) (MatchesPath items) (fits_decided item) (path_decided items) path [] u.0 u.1 u.2 u.3 u.4,
)

pub queries_decided : (queries : List Lquery) (path : List (List ℕ)) → Decides (matches_any queries path) (MatchesAny queries path)
queries_decided queries path = any_decided (λ q. matches_path q.items path) (λ q. MatchesPath q.items path) (λ q. path_decided q.items path) queries
