-- Of equal keys the last is kept.
use Rattle.std.proofs.Common.{◌≡◌, ℕ, List, codes, Option, None, Some, option_and_then, inl, inr, refl, sym, ap, ◌∙◌}
use Rattle.json.specs.Json as json
use Rattle.serde_json.specs.Data.{Data, Members, put}
use Rattle.serde_json.specs.Find.{get_member}
use Rattle.serde_json.specs.Read.{read, of_json, of_members}
use Rattle.serde_json.proofs.OnLiterals.{serde_json_on_literals}
use Rattle.serde_json.proofs.Views.{get_member-put, get_member-put_other}
use Rattle.gx_json.specs.Keys.{Lacks, IsLast}

-- the members found so far, with one more
abbrev with_one : List ℕ → json.Members → Members → Data → Option Members
with_one k ms found d = of_members ms (put k d found)

pub lacked : (key : List ℕ) (ms : json.Members) (found kept : Members) → of_members ms found ≡ Some kept → Lacks key ms → get_member key kept ≡ get_member key found
lacked key json.no_members found kept e h = let same : found ≡ kept = cc in ap (get_member key) (sym same)
lacked key (json.member k j ms) found kept e h = elim (of_json j) as (λ o. option_and_then (with_one k ms found) o ≡ Some kept → get_member key kept ≡ get_member key found) [
  | None ↦ λ none. cc
  | Some d ↦ λ some. lacked key ms (put k d found) kept some h.1 ∙ get_member-put_other key k d found (λ same. h.0 (sym same))
] e

last_at : (key : List ℕ) (ms : json.Members) (found kept : Members) (o : Option Data) → option_and_then (with_one key ms found) o ≡ Some kept → Lacks key ms → get_member key kept ≡ o
last_at key ms found kept None e h = cc
last_at key ms found kept (Some d) e h = lacked key ms (put key d found) kept e h ∙ get_member-put key d found

pub last_kept : (key : List ℕ) (j : json.Json) (ms : json.Members) (found kept : Members) → of_members ms found ≡ Some kept → IsLast key j ms → get_member key kept ≡ of_json j
last_kept key j json.no_members found kept e h = absurd h
last_kept key j (json.member k i ms) found kept e h = elim h [
  | inl here ↦
      let at : option_and_then (with_one key ms found) (of_json i) ≡ Some kept = ap (λ (x : List ℕ). option_and_then (with_one x ms found) (of_json i)) (sym here.0) ∙ e in
      last_at key ms found kept (of_json i) at here.2 ∙ ap of_json here.1
  | inr later ↦ elim (of_json i) as (λ o. option_and_then (with_one k ms found) o ≡ Some kept → get_member key kept ≡ of_json j) [
    | None ↦ λ none. cc
    | Some d ↦ λ some. last_kept key j ms (put k d found) kept some later
  ] e
]

pub last_here : read (codes "{\"a\":1,\"a\":2}") ≡ read (codes "{\"a\":2}")
unfolding serde_json_on_literals
last_here = refl
