-- Items one by one.
use Rattle.std.proofs.Common.{◌≡◌, ℕ, List, [], ◌∷◌, ◌++◌, refl, sym, ap, ◌∙◌, append_assoc, append-nil}
use Rattle.std.specs.List.{AllZip, flat_map}
use Rattle.gx_lquery.specs.declared.query.LqueryItem.{LqueryItem}
use Rattle.gx_lquery.specs.Matching.{FitsItem, MatchesPath}

abbrev pub joined : List (List (List ℕ)) → List (List ℕ)
joined groups = flat_map (λ group. group) groups

joined-append : (xs ys : List (List (List ℕ))) → joined (xs ++ ys) ≡ joined xs ++ joined ys
joined-append [] ys = refl
joined-append (x ∷ xs) ys = ap (λ (t : List (List ℕ)). x ++ t) (joined-append xs ys) ∙ sym (append_assoc x (joined xs) (joined ys))

push_fits : (items : List LqueryItem) (groups : List (List (List ℕ))) (item : LqueryItem) (group : List (List ℕ)) → AllZip FitsItem items groups → FitsItem item group → AllZip FitsItem (items ++ item ∷ []) (groups ++ group ∷ [])
push_fits [] [] item group a f = (f, tt)
push_fits [] (g ∷ groups) item group a f = absurd a
push_fits (i ∷ items) [] item group a f = absurd a
push_fits (i ∷ items) (g ∷ groups) item group a f = (a.0, push_fits items groups item group a.1 f)

-- one more item takes a group at the end
pub snoc_matches : (items : List LqueryItem) (item : LqueryItem) (front group : List (List ℕ)) → MatchesPath items front → FitsItem item group → MatchesPath (items ++ item ∷ []) (front ++ group)
snoc_matches items item front group m f = record {
  groups = m.groups ++ group ∷ [];
  joined = ap (λ (t : List (List ℕ)). t ++ group) m.joined ∙ ap (λ (t : List (List ℕ)). joined m.groups ++ t) (sym (append-nil group)) ∙ sym (joined-append m.groups (group ∷ []));
  fits = push_fits items m.groups item group m.fits f;
}

-- and else there is no way to match one more
pub record Unsnoc (items : List LqueryItem) (item : LqueryItem) (path : List (List ℕ)) : Type 0 where
  pub front : List (List ℕ)
  pub group : List (List ℕ)
  pub parts : path ≡ front ++ group
  pub matches : MatchesPath items front
  pub fits : FitsItem item group

pub unsnoc_matches : (items : List LqueryItem) (item : LqueryItem) (groups : List (List (List ℕ))) → AllZip FitsItem (items ++ item ∷ []) groups → Unsnoc items item (joined groups)
unsnoc_matches [] item [] a = absurd a
unsnoc_matches [] item (g ∷ []) a = record { front = []; group = g; parts = append-nil g; matches = record { groups = []; joined = refl; fits = tt }; fits = a.0 }
unsnoc_matches [] item (g ∷ h ∷ groups) a = absurd a.1
unsnoc_matches (i ∷ items) item [] a = absurd a
unsnoc_matches (i ∷ items) item (g ∷ groups) a =
    let rest = unsnoc_matches items item groups a.1 in
    record {
      front = g ++ rest.front;
      group = rest.group;
      parts = ap (λ (t : List (List ℕ)). g ++ t) rest.parts ∙ sym (append_assoc g rest.front rest.group);
      matches = record { groups = g ∷ rest.matches.groups; joined = ap (λ (t : List (List ℕ)). g ++ t) rest.matches.joined; fits = (a.0, rest.matches.fits) };
      fits = rest.fits;
    }
