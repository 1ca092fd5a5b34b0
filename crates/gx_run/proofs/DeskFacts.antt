-- What an engine's contract gives its caller.
use Rattle.std.proofs.Common.{◌≡◌, ◌⊎◌, inl, inr, ℕ, ◌+◌, ◌≤◌, List, [], ◌∷◌, Result, Ok, Err, OnOk, refl, sym, subst, arith}
use Rattle.gx_words.specs.Moments.{Now}
use Rattle.gx_engine.specs.Times.{Between}
use Rattle.gx_words.specs.PageMap.{PageMap}
use Rattle.gx_pages.specs.declared.store.Pages.{Ghosts}
use Rattle.gx_database.specs.Standing.{StandsFor}
use Rattle.gx_model.specs.Turns.{Session, Turned, seen}
use Rattle.gx_model.specs.Replies.{Reply}
use Rattle.gx_model.specs.Runs.{State, Done, Does, AreDone, Answers, committed_after}
use Rattle.gx_engine.specs.Engines.{IsIn, HasAtMost, Executed, Stopped, Unmade}
use Rattle.gx_run.specs.Moves.{OneOf}
use Rattle.gx_engine.specs.declared.engine.Kind.{Kind}
use Rattle.gx_run.proofs.RunFacts.{becomes}

-- fewer pages at the call than the run allows
more_room : (count pages : ℕ) (session : Session) (turned : Turned) (reply : Reply) (after : Session) → count ≤ pages → Answers count session turned reply after → Answers pages session turned reply after
more_room count pages session turned reply after le (inl a) = inl a
more_room count pages session turned reply after le (inr a) =
    let full = a.0.full in
    inr (record { accepted = a.0.accepted; grows = a.0.grows; full = omega (arith, full, le) }, a.1, a.2)

module _ {P : Type 0} (g : Ghosts P) (old new : P) (kind : Kind) (from : State) (is_in : IsIn g old kind from.session) (most : HasAtMost g old from.pages) where
  abbrev Moments : List ℕ → Type 0
  Moments piece = (ones : List Done) × AreDone from (piece ∷ []) ones
      × ((map : PageMap) → g.may_leave new map → StandsFor map from.session.committed ⊎ StandsFor map (committed_after from ones))
      × Between g.moment g.may_have_left_since old new (OneOf from.session.committed (committed_after from ones) (g.said old).bytes)

  abbrev DoneAs : List ℕ → Kind → Reply → Type 0
  DoneAs piece next reply = (one : Done) × Does from piece one × (reply ≡ one.reply) × (IsIn g new next one.after.session × HasAtMost g new one.after.pages)
      × Between g.moment g.may_have_left_since old new (OneOf from.session.committed one.after.session.committed (g.said old).bytes)

  pub done : (piece : List ℕ) (next : Kind) (reply : Reply) → Executed g old new next from.session piece reply → DoneAs piece next reply
  done piece next reply e = (
    record { reply = reply; after = record { session = e.after; pages = from.pages + e.turned.growth } },
    record { turned = e.turned; turns = e.turns; answers = more_room (g.count old) from.pages from.session e.turned reply e.after most.now e.answers; pages = refl },
    refl,
    (e.is_in, e.grows from.pages most),
    becomes g.moment g.may_have_left_since old new (λ m. (g.may_leave old m.image ⊎ StandsFor m.image e.after.committed) × (m.bytes ≡ (g.said old).bytes))
        (OneOf from.session.committed e.after.committed (g.said old).bytes)
        (λ m h. (elim h.0 [ inl was ↦ inl (is_in.left m.image was) | inr is ↦ inr is ], h.1)) e.time,
  )

  pub stopped : (piece : List ℕ) → Unmade g old new ⊎ Stopped g old new from.session piece → Moments piece
  stopped piece (inl u) = (
    [],
    tt,
    λ map l. inl (is_in.left map (u.left map l)),
    becomes g.moment g.may_have_left_since old new (λ m. g.may_leave old m.image × (m.bytes ≡ (g.said old).bytes))
        (OneOf from.session.committed from.session.committed (g.said old).bytes)
        (λ m h. (inl (is_in.left m.image h.0), h.1)) u.time,
  )
  stopped piece (inr s) =
      let one : Done = record { reply = s.turned.reply; after = record { session = s.turned.session; pages = from.pages + s.turned.growth } } in (
        one ∷ [],
        (record { turned = s.turned; turns = s.turns; answers = inl (refl, refl); pages = refl }, tt),
        λ map l. elim (s.left map l) [ inl was ↦ inl (is_in.left map was) | inr is ↦ inr is ],
        becomes g.moment g.may_have_left_since old new (λ m. (g.may_leave old m.image ⊎ StandsFor m.image s.turned.session.committed) × (m.bytes ≡ (g.said old).bytes))
            (OneOf from.session.committed s.turned.session.committed (g.said old).bytes)
            (λ m h. (elim h.0 [ inl was ↦ inl (is_in.left m.image was) | inr is ↦ inr is ], h.1)) s.time,
      )

-- where a store's maps and counts stay, and a crash leaves nothing new, the session stays
pub stays_in : {P : Type 0} (g : Ghosts P) (old new : P) (kind : Kind) (from : State) → IsIn g old kind from.session × HasAtMost g old from.pages → g.map new ≡ g.map old → g.count new ≡ g.count old
    → g.committed new ≡ g.committed old → g.committed_count new ≡ g.committed_count old → ((map : PageMap) → g.may_leave new map → g.may_leave old map)
    → IsIn g new kind from.session × HasAtMost g new from.pages
stays_in g old new kind from at map count committed committed_count images =
    let Seen : PageMap → Type 0 = λ m. StandsFor m (seen from.session) in
    let Made : PageMap → Type 0 = λ m. StandsFor m from.session.committed in
    let a = at.1.now in
    let b = at.1.committed in (
      record { block = at.0.block; committed = subst Made (sym committed) at.0.committed; map = subst Seen (sym map) at.0.map; left = λ m l. at.0.left m (images m l) },
      record { now = omega (arith, a, count); committed = omega (arith, b, committed_count) },
    )

-- at each moment a crash left what it could leave before
pub stays_made : {P : Type 0} (g : Ghosts P) (old new : P) (kind : Kind) (session : Session) → IsIn g old kind session
    → Between g.moment g.may_have_left_since old new (Now (g.may_leave old) (g.said old).bytes)
    → Between g.moment g.may_have_left_since old new (OneOf session.committed session.committed (g.said old).bytes)
stays_made g old new kind session is_in time =
    becomes g.moment g.may_have_left_since old new (Now (g.may_leave old) (g.said old).bytes) (OneOf session.committed session.committed (g.said old).bytes)
    (λ m h. (inl (is_in.left m.image h.0), h.1)) time

pub on_ok : {T E : Type 0} (result : Result T E) (P : Type 0) → P → OnOk result P
on_ok (Ok value) P p = p
on_ok (Err error) P p = tt

pub on_ok_then : {T E : Type 0} (result : Result T E) (P Q : Type 0) → (P → Q) → OnOk result P → OnOk result Q
on_ok_then (Ok value) P Q f p = f p
on_ok_then (Err error) P Q f p = tt
