-- Where there is room, the pieces of a script are done in one way.
use Rattle.std.proofs.Common.{◌≡◌, inl, inr, ℕ, ◌+◌, ◌^◌, ◌<◌, ◌≤◌, List, [], ◌∷◌, length, refl, sym, ◌∙◌, ap, subst, arith}
use Rattle.gx_model.specs.Replies.{Reply}
use Rattle.gx_model.specs.Runs.{State, Done, Does, AreDone, Answers, HasRoom}
use Rattle.gx_model.specs.Turns.{Session, Turned}
use Rattle.gx_model.proofs.OneTurn.{Facts, one_turn}

-- an answer where there is room
record AsTurned (done : Done) (turned : Turned) : Type 0 where
  reply : done.reply ≡ turned.reply
  session : done.after.session ≡ turned.session

no_lack : (pages growth later : ℕ) → later ≡ pages + growth → later < 2 ^ 50 → 2 ^ 50 ≤ pages + growth → ⊥
no_lack pages growth later e low high = omega arith

as_turned : (from : State) (piece : List ℕ) (done : Done) (d : Does from piece done) → done.after.pages < 2 ^ 50 → AsTurned done d.turned
as_turned from piece done d low = by_cases d.answers
  where
    by_cases : Answers from.pages from.session d.turned done.reply done.after.session → AsTurned done d.turned
    by_cases (inl h) = record { reply = h.0; session = h.1 }
    by_cases (inr h) = absurd (no_lack from.pages d.turned.growth done.after.pages d.pages low h.0.full)

abbrev done_by : Reply → Session → ℕ → Done
done_by reply session pages = record { reply = reply; after = record { session = session; pages = pages } }

same_done : (a b : Done) → a.reply ≡ b.reply → a.after.session ≡ b.after.session → a.after.pages ≡ b.after.pages
    → done_by a.reply a.after.session a.after.pages ≡ done_by b.reply b.after.session b.after.pages
same_done a b e f g = rw (e, f, g) refl

one_done : Facts → (from : State) (piece : List ℕ) (a b : Done) → Does from piece a → Does from piece b → a.after.pages < 2 ^ 50 → b.after.pages < 2 ^ 50 → a ≡ b
one_done facts from piece a b d e low less =
    let t : d.turned ≡ e.turned = one_turn facts from.session piece d.turned e.turned d.turns e.turns in
    let x = as_turned from piece a d low in
    let y = as_turned from piece b e less in
    same_done a b (x.reply ∙ ap (λ (s : Turned). s.reply) t ∙ sym y.reply) (x.session ∙ ap (λ (s : Turned). s.session) t ∙ sym y.session)
    (d.pages ∙ ap (λ (s : Turned). from.pages + s.growth) t ∙ sym e.pages)

room_now : (from : State) (piece : List ℕ) (pieces : List (List ℕ)) (done : Done) → HasRoom from (piece ∷ pieces) → Does from piece done → done.after.pages < 2 ^ 50
room_now from piece pieces done room d = room (done ∷ []) (d, tt)

room_behind : (from : State) (piece : List ℕ) (pieces : List (List ℕ)) (done : Done) → HasRoom from (piece ∷ pieces) → Does from piece done → HasRoom done.after pieces
room_behind from piece pieces done room d = λ dones h. room (done ∷ dones) (d, h)

same_two : (a b : Done) (xs ys : List Done) → a ≡ b → xs ≡ ys → a ∷ xs ≡ b ∷ ys
same_two a b xs ys e f = rw (e, f) refl

pub one_run : Facts → (from : State) (pieces : List (List ℕ)) (a b : List Done) → HasRoom from pieces → AreDone from pieces a → AreDone from pieces b → length a ≡ length b → a ≡ b
one_run facts from pieces [] [] room p q e = refl
one_run facts from pieces [] (y ∷ b) room p q e = absurd (omega arith)
one_run facts from pieces (x ∷ a) [] room p q e = absurd (omega arith)
one_run facts from [] (x ∷ a) (y ∷ b) room p q e = absurd p
one_run facts from (piece ∷ pieces) (x ∷ a) (y ∷ b) room p q e =
    let f : x ≡ y = one_done facts from piece x y p.0 q.0 (room_now from piece pieces x room p.0) (room_now from piece pieces y room q.0) in
    let rest : AreDone x.after pieces b = subst (λ (d : Done). AreDone d.after pieces b) (sym f) q.1 in
    same_two x y a b f (one_run facts x.after pieces a b (room_behind from piece pieces x room p.0) p.1 rest (omega arith))
