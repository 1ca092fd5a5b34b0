-- What a statement leaves that works on the database that the session sees.
use Rattle.std.proofs.Common.{◌≡◌, inl, inr, ℕ, ◌+◌, ◌≤◌, List, Option, Some, None, IfSome, refl, sym, ◌∙◌, ap, subst, arith}
use Rattle.gx_words.specs.PageMap.{PageMap}
use Rattle.gx_pages.specs.declared.store.Pages.{Ghosts}
use Rattle.gx_pages.specs.Footprints.{StaysQuiet}
use Rattle.gx_database.specs.Standing.{StandsFor}
use Rattle.gx_model.specs.Database.{Database}
use Rattle.gx_model.specs.Replies.{Reply, refusal}
use Rattle.gx_model.specs.Steps.{Stepped, Steps}
use Rattle.gx_model.specs.Turns.{Session, Turned, Turns, refused_in, seen}
use Rattle.gx_parse.specs.Said.{Said, Vacuum}
use Rattle.gx_engine.specs.Engines.{GrowsBy, IsIn, HasAtMost, Executed, Stopped, Unmade, kind_of}
use Rattle.gx_engine.specs.Vacuumed.{IsVacuumed}
use Rattle.gx_engine.specs.declared.engine.Kind.{Kind}
use Rattle.gx_engine.specs.declared.engine.Kind.TheVariants.{Idle}
use Rattle.gx_step.specs.Doing.{AtMostGrows, Done, IsOrdinary, LacksRoom, Vacuums}
use Rattle.gx_session.specs.Moves.{Keeps, Moved, MayHaveMoved, NeverGrows, behind}
use Rattle.gx_session.specs.Readings.{ReadAs}
use Rattle.gx_session.specs.Tasks.{task_in}
use Rattle.gx_session.specs.declared.task.Task.TheVariants as task
use Rattle.gx_session.proofs.Moving as moving
use Rattle.gx_session.proofs.Results.{finished}
use Rattle.gx_session.proofs.Turning as turning

pub of_some : {T : Type 0} (o : Option T) (x : T) (P : T → Type 0) → o ≡ Some x → IfSome o P → P x
of_some o x P e h = let At : Option _ → Type 0 = λ p. IfSome p P in subst At e h

pub ok_none : (T : Type 0) (o : Option T) → o ≡ None → finished (Option T) o ≡ finished (Option T) None
ok_none T o e = ap (λ (x : Option T). finished (Option T) x) e

pub ordinary_as : (a b : Reply) → a ≡ b → IsOrdinary a → IsOrdinary b
ordinary_as a b e h = let At : Reply → Type 0 = λ r. IsOrdinary r in subst At e h

module _ {P : Type 0} (g : Ghosts P) (a b c d : P) (kind : Kind) (session : Session) (text : List ℕ) (s : Said) (is : IsIn g a kind session) (here : IsIn g b kind session)
    (said : g.said b ≡ g.said a) (unmade : Unmade g a b) (quiet : StaysQuiet g b c) (read : ReadAs text s) (work : task_in kind s ≡ task.Work) where
  keeps : Keeps g c kind session
  keeps = moving.keeps_on g b c kind session (moving.keeps_of g b kind session here) quiet.committed quiet.images

  first : Unmade g a c
  first = moving.unmade_then g a b c said unmade (moving.unmade_quiet g b c quiet)

  said_so : g.said c ≡ g.said a
  said_so = quiet.said ∙ said

  turn_by : (reply : Reply) (done : Done g b c s (seen session) reply) → turning.Turn session s done.stepped
  turn_by reply done = turning.work_turn session s kind done.stepped is.block work done.steps

  after_is : (reply : Reply) (done : Done g b c s (seen session) reply) → (turn_by reply done).turned.session ≡ behind reply.fault session done.stepped.database
  after_is reply done = (turn_by reply done).after ∙ ap (λ (r : Reply). behind r.fault session done.stepped.database) done.answered

  pub executed_so : (next : Kind) (reply other : Reply) → g.count b ≡ g.count a → g.committed_count b ≡ g.committed_count a → Done g b c s (seen session) reply → other ≡ reply
      → ((session : Session) (db : Database) → Keeps g c kind session → StandsFor (g.map c) db → Moved g c d next (behind reply.fault session db)) → Executed g a d next session text other
  executed_so next reply other count committed_count done same moved =
      let t = turn_by reply done in
      let m = moved session done.stepped.database keeps done.stands in
      let more = t.growth in
      let grown = done.grows in
      let kept = quiet.committed_count in
      moving.executed g a c d next session (behind reply.fault session done.stepped.database) text other t.turned (turning.turn_of session text s t.turned read t.turns)
      (inl (same ∙ sym done.answered ∙ sym t.reply, sym (after_is reply done)))
      (λ pages h. let now = h.now in let made = h.committed in
      m.grows (pages + t.turned.growth) (record { now = omega (arith, now, more, grown, count); committed = omega (arith, made, kept, committed_count) })) said_so first m

  pub stopped_so : (reply : Reply) → Done g b c s (seen session) reply
      → ((session : Session) (db : Database) → Keeps g c kind session → StandsFor (g.map c) db → MayHaveMoved g c d (behind reply.fault session db).committed) → Stopped g a d session text
  stopped_so reply done moved =
      let t = turn_by reply done in
      let At : Session → Type 0 = λ x. MayHaveMoved g c d x.committed in
      moving.stopped g a c d session text t.turned (turning.turn_of session text s t.turned read t.turns) said_so first
      (subst At (sym (after_is reply done)) (moved session done.stepped.database keeps done.stands))

  pub no_room_so : (next : Kind) (reply : Reply) → g.count b ≡ g.count a → g.committed_count b ≡ g.committed_count a → LacksRoom (g.count b) s (seen session) → reply ≡ refusal 20
      → ((session : Session) → Keeps g c kind session → Moved g c d next (refused_in session)) → ((pages : ℕ) → g.committed_count c ≤ pages → HasAtMost g d pages) → Executed g a d next session text reply
  no_room_so next reply count committed_count lacks is_20 moved shrinks =
      let t = turning.work_turn session s kind lacks.stepped is.block work lacks.steps in
      let l = turning.no_room_turn session s (g.count b) lacks t in
      let full = l.full in
      let kept = quiet.committed_count in
      moving.executed g a c d next session (refused_in session) text reply t.turned (turning.turn_of session text s t.turned read t.turns)
      (inr (record { accepted = l.accepted; grows = l.grows; full = omega (arith, full, count) }, is_20, refl))
      (λ pages h. let made = h.committed in shrinks (pages + t.turned.growth) (omega (arith, made, kept, committed_count))) said_so first (moved session keeps)

  -- a statement adds no more pages than its turn may
  pub grown_so : (turned : Turned) → Turns session text turned → g.count b ≡ g.count a → g.committed_count b ≡ g.committed_count a → AtMostGrows g b c s → g.tells → NeverGrows g c d → GrowsBy g a d turned.growth
  grown_so turned turns count committed_count grows tells never =
      let t = turning.step_of session text s kind turned read is.block work turns in
      let grown = grows tells (seen session) here.map t.stepped t.steps in
      let more = t.grows in
      let kept = quiet.committed_count in
      λ pages h. let now = h.now in let made = h.committed in
      never (pages + turned.growth) (record { now = omega (arith, now, more, grown, count); committed = omega (arith, made, kept, committed_count) })

-- An accepted VACUUM.
module _ {P : Type 0} (g : Ghosts P) (b c d : P) (kind : Kind) (session : Session) (s : Said) (block : kind ≡ kind_of session.block) (work : task_in kind s ≡ task.Work) where
  vacuumed_at : (next : Said) (stepped : Stepped) → Steps (seen session) s stepped → Vacuums s stepped (g.map c) → s ≡ next → Steps (seen session) next stepped × Vacuums next stepped (g.map c)
  vacuumed_at next stepped steps vacuums same = (subst (λ (x : Said). Steps (seen session) x stepped) same steps, subst (λ (x : Said). Vacuums x stepped (g.map c)) same vacuums)

  pub vacuumed_so : (reply other : Reply) (table : List ℕ) → Done g b c s (seen session) reply → other ≡ reply → other.fault ≡ None → s ≡ Vacuum table → g.map d ≡ g.map c → IsVacuumed (g.map d) session.committed table
  vacuumed_so reply other table done same none is_vacuum map =
      let at = vacuumed_at (Vacuum table) done.stepped done.steps done.vacuumed is_vacuum in
      let left = at.1 (ap (λ (r : Reply). r.fault) (done.answered ∙ sym same) ∙ none) in
      let outside : Idle ≡ kind_of session.block = sym (turning.vacuum_outside kind s table is_vacuum work) ∙ block in
      let db : done.stepped.database ≡ session.committed = turning.vacuum_keeps (seen session) table done.stepped at.0 ∙ moving.seen_outside session.block session.committed outside in
      subst (λ (m : PageMap). IsVacuumed m session.committed table) (sym map) (subst (λ (x : Database). IsVacuumed (g.map c) x table) db left)
