-- The queries of the elements of an array, one by one.
use Rattle.std.proofs.Common.{◌≡◌, ℕ, suc, ◌+◌, ◌<◌, ◌≤◌, List, [], ◌∷◌, ◌++◌, length, get_or, take, drop, take-append-drop, inl, sym, ap, ◌∙◌, subst}
use Rattle.std.proofs.Math.Seq.{drop-cons}
use Rattle.std.proofs.lemmas.List.{take_more, take_all}
use Rattle.gx_bytes.specs.declared.error.ValueError.{ValueError}
use Rattle.std.specs.List.{AllByRecursion}
use Rattle.gx_lquery.specs.declared.query.Lquery.{Lquery}
use Rattle.gx_lquery.specs.Query.{IsLquery}
use Rattle.gx_opr.specs.Literals.{SpellsElement, RefusesElement, AreQueries, RefusesQueries}

push_query : (texts : List (List ℕ)) (queries : List Lquery) (text : List ℕ) (query : Lquery) → AreQueries texts queries → SpellsElement text query → AreQueries (texts ++ text ∷ []) (queries ++ query ∷ [])
push_query [] [] text query h s = (s, tt)
push_query [] (q ∷ queries) text query h s = absurd h
push_query (t ∷ texts) [] text query h s = absurd h
push_query (t ∷ texts) (q ∷ queries) text query h s = (h.0, push_query texts queries text query h.1 s)

-- one query more
pub query_read : (texts : List (List ℕ)) (i : ℕ) (x bytes : List ℕ) (queries longer : List Lquery) (query : Lquery) → i < length texts → x ≡ get_or texts i x → bytes ≡ x
    → AreQueries (take i texts) queries → SpellsElement bytes query → longer ≡ queries ++ query ∷ [] → AreQueries (take (i + 1) texts) longer
query_read texts i x bytes queries longer query below is same h s pushed =
    let P : List ℕ → Type 0 = λ t. SpellsElement t query in
    let Q : List Lquery → Type 0 = λ l. AreQueries (take (i + 1) texts) l in
    let R : List (List ℕ) → Type 0 = λ l. AreQueries l (queries ++ query ∷ []) in
    let more : take (i + 1) texts ≡ take i texts ++ x ∷ [] = take_more texts i x below ∙ ap (λ (t : List ℕ). take i texts ++ t ∷ []) (sym is) in
    subst Q (sym pushed) (subst R (sym more) (push_query (take i texts) queries x query h (subst P same s)))

-- the first that is none
pub query_refused : (texts : List (List ℕ)) (i : ℕ) (x bytes : List ℕ) (queries : List Lquery) (e : ValueError) → i < length texts → x ≡ get_or texts i x → bytes ≡ x
    → AreQueries (take i texts) queries → RefusesElement bytes e → RefusesQueries texts e
query_refused texts i x bytes queries e below is same h r =
    let P : List ℕ → Type 0 = λ t. RefusesElement t e in
    let behind : drop i texts ≡ x ∷ drop (suc i) texts = drop-cons texts i x below ∙ ap (λ (t : List ℕ). t ∷ drop (suc i) texts) (sym is) in
    inl (record {
      front = take i texts;
      queries = queries;
      text = x;
      rest = drop (suc i) texts;
      parts = sym (take-append-drop i texts) ∙ ap (λ (d : List (List ℕ)). take i texts ++ d) behind;
      before = h;
      refused = subst P same r;
    })

pub queries_read : (texts : List (List ℕ)) (i : ℕ) (queries : List Lquery) → length texts ≤ i → AreQueries (take i texts) queries → AreQueries texts queries
queries_read texts i queries above h =
    let P : List (List ℕ) → Type 0 = λ l. AreQueries l queries in subst P (take_all i texts above) h

-- one valid query more
valid_and : (queries : List Lquery) (query : Lquery) → AllByRecursion IsLquery queries → IsLquery query → AllByRecursion IsLquery (queries ++ query ∷ [])
valid_and [] query h v = (v, tt)
valid_and (q ∷ queries) query h v = (h.0, valid_and queries query h.1 v)

pub valid_more : (queries longer : List Lquery) (query : Lquery) → longer ≡ queries ++ query ∷ [] → AllByRecursion IsLquery queries → IsLquery query → AllByRecursion IsLquery longer
valid_more queries longer query pushed h v = let P : List Lquery → Type 0 = λ l. AllByRecursion IsLquery l in subst P (sym pushed) (valid_and queries query h v)
