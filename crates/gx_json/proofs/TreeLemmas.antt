-- Trees of documents, level by level.
use Rattle.std.proofs.Common.{◌≡◌, ℕ, zero, suc, ◌<◌, ◌≤◌, List, [], ◌∷◌, length, get_or, All, Vec, Global, Bor, IsPermutation, map, sym, ap, ◌∙◌, subst, arith}
use Rattle.std.proofs.lemmas.List.{length-map, get_or-map}
use Rattle.std.proofs.lemmas.List.Sorted.{All-permutation}
use Rattle.serde_json.specs.Data.{Data, array, object, Items, Members, depth, items_depth, members_depth}
use Rattle.gx_json.specs.declared.document.Json.{Json}
use Rattle.gx_json.specs.declared.document.JsonList.{JsonList}
use Rattle.gx_json.specs.declared.document.JsonPairs.{JsonPairs}
use Rattle.gx_json.specs.declared.document.Json.TheFolds.{fold-roll-Json, fold-roll-JsonList, fold-roll-JsonPairs, fold_out-JsonList, fold_out-JsonPairs}
use Rattle.gx_json.specs.declared.document.Json.TheOpen.{Json-F}
use Rattle.gx_json.specs.declared.document.Json.TheViews as views
use Rattle.gx_json.specs.Tree.{data_of, items_data, members_data, data_step, list_step, pairs_step}

pub data_of-List : (v : Vec Json Global) → data_of (views.List (views.roll-JsonList (record { items = v }))) ≡ array (items_data v.items)
data_of-List v =
    let l = views.roll-JsonList (record { items = v }) in
    ap data_of (sym (views.rolls-List l))
    ∙ fold-roll-Json Data Items Members data_step list_step pairs_step (Json-F.List l)
    ∙ ap array (fold-roll-JsonList Data Items Members data_step list_step pairs_step (record { items = v }))

pub data_of-Object : (v : Vec (List ℕ × Json) Global) → data_of (views.Object (views.roll-JsonPairs (record { items = v }))) ≡ object (members_data v.items)
data_of-Object v =
    let l = views.roll-JsonPairs (record { items = v }) in
    ap data_of (sym (views.rolls-Object l))
    ∙ fold-roll-Json Data Items Members data_step list_step pairs_step (Json-F.Object l)
    ∙ ap object (fold-roll-JsonPairs Data Items Members data_step list_step pairs_step (record { items = v }))

pub data_at_List : (v : Json) (l : JsonList) → v ≡ views.List l → data_of v ≡ array (items_data l.items.items)
data_at_List v l is =
    ap data_of (is ∙ sym (views.rolls-List l))
    ∙ fold-roll-Json Data Items Members data_step list_step pairs_step (Json-F.List l)
    ∙ ap array (fold_out-JsonList Data Items Members data_step list_step pairs_step l)

pub data_at_Object : (v : Json) (l : JsonPairs) → v ≡ views.Object l → data_of v ≡ object (members_data l.items.items)
data_at_Object v l is =
    ap data_of (is ∙ sym (views.rolls-Object l))
    ∙ fold-roll-Json Data Items Members data_step list_step pairs_step (Json-F.Object l)
    ∙ ap object (fold_out-JsonPairs Data Items Members data_step list_step pairs_step l)

-- ---- depths

pub item_depth : (js : List Json) (i : ℕ) (j : Json) → i < length js → depth (data_of (get_or js i j)) ≤ items_depth (items_data js)
item_depth [] i j below = absurd (omega arith)
item_depth (x ∷ js) zero j below = omega arith
item_depth (x ∷ js) (suc i) j below = omega (arith, item_depth js i j (omega arith))

pair_depths : (ps : List (List ℕ × Json)) → All (λ (p : List ℕ × Json). depth (data_of p.1) ≤ members_depth (members_data ps)) ps
pair_depths [] i p below = absurd (omega arith)
pair_depths (x ∷ ps) zero p below = omega arith
pair_depths (x ∷ ps) (suc i) p below = omega (arith, pair_depths ps i p (omega arith))

-- of a pair in another order
pub ordered_depth : (ps : List (List ℕ × Json)) (rs : List (Bor (List ℕ × Json))) (i : ℕ) (r : Bor (List ℕ × Json)) → IsPermutation ps (map (λ x. x.now) rs) → i < length rs → r ≡ get_or rs i r
    → depth (data_of r.now.1) ≤ members_depth (members_data ps)
ordered_depth ps rs i r same below is =
    let at : Bor (List ℕ × Json) → List ℕ × Json = λ x. x.now in
    let P : List ℕ × Json → Type 0 = λ p. depth (data_of p.1) ≤ members_depth (members_data ps) in
    let there : P (get_or (map at rs) i r.now) = All-permutation P ps (map at rs) same (pair_depths ps) i r.now (omega (arith, below, length-map rs at)) in
    subst P (get_or-map at rs i r r.now below ∙ ap at (sym is)) there
