-- Copies of the values of `serde_json`.
use Rattle.std.proofs.Common.{◌≡◌, ℕ, suc, ◌+◌, ◌<◌, ◌&&◌, Bool, true, false, List, [], ◌∷◌, ◌++◌, length, get_or, take, drop, map, string_bytes, string_cmp, Less, IsUtf8, refl, sym, ap, ◌∙◌, true≢false, add-one, drop-cons}
use Rattle.std.proofs.lemmas.List.{map_push, take_more}
use Rattle.std.specs.List.{AllByRecursion}
use Rattle.std.specs.List.Sorted.{IsStrictlySortedBy}
use Rattle.std.specs.Map.{keys_of}
use Rattle.serde_json.specs.Data.{Data, Members, no_members, member}
use Rattle.serde_json.specs.View.{view, items_view, members_view}
use Rattle.serde_json.specs.declared.value.Value.{Value}
use Rattle.serde_json.proofs.Views.{Entry}
use Rattle.gx_json.specs.declared.document.Json.{Json}
use Rattle.gx_json.specs.Tree.{data_of, items_data, members_data}
use Rattle.gx_json.specs.Valid.{all_whole, items_whole, members_whole, IsStored, AreStored, MembersStored, IsBelowAll, IsRising}

and_right : (a b : Bool) → (a && b) ≡ true → b ≡ true
and_right true b e = e
and_right false b e = absurd (true≢false (sym e))

pub left_whole : (vs : List Value) (i : ℕ) (v : Value) → i < length vs → v ≡ get_or vs i v → items_whole (items_view (drop i vs)) ≡ true → items_whole (items_view (drop (i + 1) vs)) ≡ true
left_whole vs i v within is h =
    let split : drop i vs ≡ v ∷ drop (i + 1) vs = rw add-one (drop-cons vs i v within ∙ ap (λ (x : Value). x ∷ drop (suc i) vs) (sym is)) in
    and_right (all_whole (view v)) (items_whole (items_view (drop (i + 1) vs))) (sym (ap (λ (xs : List Value). items_whole (items_view xs)) split) ∙ h)

pub stored_push : (js : List Json) (j : Json) → AreStored (items_data js) → IsStored (data_of j) → AreStored (items_data (js ++ j ∷ []))
stored_push [] j h s = (s, tt)
stored_push (x ∷ js) j h s = (h.0, stored_push js j h.1 s)

-- one copy more
pub mapped_more : {X Y D : Type 0} (f : X → D) (g : Y → D) (copies new : List X) (vs : List Y) (i : ℕ) (j : X) (v : Y) → i < length vs → v ≡ get_or vs i v → map f copies ≡ map g (take i vs) → f j ≡ g v → new ≡ copies ++ j ∷ []
    → map f new ≡ map g (take (i + 1) vs)
mapped_more {X} {Y} {D} f g copies new vs i j v within is same one more =
    ap (map f) more ∙ map_push f copies j ∙ ap (λ (d : D). map f copies ++ d ∷ []) one ∙ ap (λ (ds : List D). ds ++ g v ∷ []) same
    ∙ sym (ap (map g) (take_more vs i v within ∙ ap (λ (x : Y). take i vs ++ x ∷ []) (sym is)) ∙ map_push g (take i vs) v)

-- ---- members

-- the members, and one behind them
abbrev last : Members → List ℕ → Data → Members
last no_members k d = member k d no_members
last (member l x ms) k d = member l x (last ms k d)

last_data : (ps : List (List ℕ × Json)) (p : List ℕ × Json) → members_data (ps ++ p ∷ []) ≡ last (members_data ps) p.0 (data_of p.1)
last_data [] p = refl
last_data (q ∷ ps) p = ap (member q.0 (data_of q.1)) (last_data ps p)

last_view : (es : List Entry) (e : Entry) → members_view (es ++ e ∷ []) ≡ last (members_view es) (string_bytes e.0) (view e.1)
last_view [] e = refl
last_view (x ∷ es) e = ap (member (string_bytes x.0) (view x.1)) (last_view es e)

pub members_more : (ps : List (List ℕ × Json)) (es : List Entry) (p : List ℕ × Json) (e : Entry) → members_data ps ≡ members_view es → p.0 ≡ string_bytes e.0 → data_of p.1 ≡ view e.1
    → members_data (ps ++ p ∷ []) ≡ members_view (es ++ e ∷ [])
members_more ps es p e same key value =
    last_data ps p
    ∙ ap (λ (ms : Members). last ms p.0 (data_of p.1)) same
    ∙ ap (λ (k : List ℕ). last (members_view es) k (data_of p.1)) key
    ∙ ap (last (members_view es) (string_bytes e.0)) value
    ∙ sym (last_view es e)

pub pairs_stored_push : (ps : List (List ℕ × Json)) (p : List ℕ × Json) → MembersStored (members_data ps) → IsUtf8 p.0 → IsStored (data_of p.1) → MembersStored (members_data (ps ++ p ∷ []))
pairs_stored_push [] p h text s = ((text, s), tt)
pairs_stored_push (q ∷ ps) p h text s = (h.0, pairs_stored_push ps p h.1 text s)

pub members_left_whole : (e : Entry) (es left : List Entry) → es ≡ e ∷ left → members_whole (members_view es) ≡ true → members_whole (members_view left) ≡ true
members_left_whole e es left split h = and_right (all_whole (view e.1)) (members_whole (members_view left)) (sym (ap (λ (xs : List Entry). members_whole (members_view xs)) split) ∙ h)

-- the keys of a map rise
below_all : (e : Entry) (es : List Entry) → AllByRecursion (λ y. string_cmp e.0 y ≡ Less) (keys_of es) → IsBelowAll (string_bytes e.0) (members_view es)
below_all e [] h = tt
below_all e (x ∷ es) h = (h.0, below_all e es h.1)

pub rising : (es : List Entry) → IsStrictlySortedBy string_cmp (keys_of es) → IsRising (members_view es)
unfolding IsStrictlySortedBy
rising [] h = tt
rising (e ∷ es) h = (below_all e es h.0, rising es h.1)
