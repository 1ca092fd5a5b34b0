-- The turns of a session, by tasks.
use Rattle.std.proofs.Common.{◌≡◌, inl, inr, ℕ, ◌≤◌, List, [], ◌∷◌, Option, Some, None, refl, sym, ◌∙◌, ap, subst, codes, arith}
use Rattle.gx_engine.specs.Engines.{kind_of, checkpoint_reply}
use Rattle.gx_engine.specs.declared.engine.Kind.{Kind}
use Rattle.gx_engine.specs.declared.engine.Kind.TheVariants.{Idle, Begun, Failed}
use Rattle.gx_model.specs.Database.{Database}
use Rattle.gx_model.specs.Replies.{Reply, accepted, line, refusal, syntax_error}
use Rattle.gx_model.specs.Runs as runs
use Rattle.gx_model.specs.Steps.{Stepped, Steps, Costs, unchanged}
use Rattle.gx_model.specs.Turns.{Session, Block, idle, begun, failed, refused_in, seen, with_seen, Turned, Turns, TurnsBy, TurnsSeen, TurnsSaid, TurnCosts, CostsBy, CostsIn, CostsBegun, seen_in, reading_of, refused}
use Rattle.gx_parse.specs.Answers as answers
use Rattle.gx_parse.specs.Answers.{says, wrong_at, too_deep}
use Rattle.gx_parse.specs.Said as said
use Rattle.gx_parse.specs.Said.{Said}
use Rattle.gx_model.proofs.Stepping.{no_fault}
use Rattle.gx_step.specs.Doing.{LacksRoom}
use Rattle.gx_statement.specs.Work.{IsWork}
use Rattle.gx_session.specs.Moves.{behind}
use Rattle.gx_session.specs.Readings.{fault_of, ReadAs}
use Rattle.gx_session.specs.Tasks.{idle_task, begun_task, failed_task, task_in, reply_to, after_of, IsStill, IsFor}
use Rattle.gx_session.specs.declared.task.Task.{Task}
use Rattle.gx_session.specs.declared.task.Task.TheVariants as task
use Rattle.gx_session.specs.declared.task.Word.TheVariants as word

-- the turn of a statement with this task
abbrev TurnsAs : Task → Session → Said → Type 0
TurnsAs task.Work session said = (turned : Turned) → TurnsSeen session said turned → TurnsSaid session said turned
TurnsAs t session said = TurnsSaid session said (record { session = after_of t session; reply = reply_to t; growth = 0 })

as_outside : (db : Database) (s : Said) → TurnsAs (idle_task s) (record { committed = db; block = idle }) s
as_outside db said.Nothing = refl
as_outside db said.Begin = refl
as_outside db said.Commit = refl
as_outside db said.Rollback = refl
as_outside db said.Checkpoint = inr (refl, unchanged db (accepted (line (codes "CHECKPOINT"))), refl, refl)
as_outside db s = λ turned h. h

as_inside : (db own : Database) (s : Said) → TurnsAs (begun_task s) (record { committed = db; block = begun own }) s
as_inside db own said.Nothing = refl
as_inside db own said.Begin = refl
as_inside db own said.Commit = refl
as_inside db own said.Rollback = refl
as_inside db own said.Checkpoint = refl
as_inside db own (said.Vacuum table) = refl
as_inside db own s = λ turned h. h

as_failed : (db : Database) (s : Said) → TurnsAs (failed_task s) (record { committed = db; block = failed }) s
as_failed db said.Nothing = refl
as_failed db said.Commit = refl
as_failed db said.Rollback = refl
as_failed db s = refl

turns_as : (db : Database) (b : Block) (s : Said) → TurnsAs (task_in (kind_of b) s) (record { committed = db; block = b }) s
turns_as db idle s = as_outside db s
turns_as db (begun own) s = as_inside db own s
turns_as db failed s = as_failed db s

-- the turn of a statement is that of the piece
pub turn_of : (session : Session) (text : List ℕ) (s : Said) (turned : Turned) → ReadAs text s → TurnsSaid session s turned → Turns session text turned
turn_of session text s turned read h =
    let By : Option answers.Answer → Type 0 = λ r. TurnsBy r session turned in
    subst By (sym read) h

by_task : (t : Task) (session : Session) (s : Said) → (t ≡ task.Work → ⊥) → TurnsAs t session s → TurnsSaid session s (record { session = after_of t session; reply = reply_to t; growth = 0 })
by_task task.Silence session s not h = h
by_task (task.Answer word) session s not h = h
by_task task.Open session s not h = h
by_task task.Commit session s not h = h
by_task task.RollBack session s not h = h
by_task (task.Refuse n) session s not h = h
by_task task.Work session s not h = absurd (not refl)

-- what belongs to the session
pub turn_by : (session : Session) (text : List ℕ) (s : Said) (kind : Kind) (t : Task) → ReadAs text s → kind ≡ kind_of session.block → t ≡ task_in kind s → (t ≡ task.Work → ⊥)
    → Turns session text (record { session = after_of t session; reply = reply_to t; growth = 0 })
turn_by session text s kind t read block is not =
    let As : Task → Type 0 = λ x. TurnsAs x session s in
    let same : t ≡ task_in (kind_of session.block) s = is ∙ ap (λ (k : Kind). task_in k s) block in
    turn_of session text s _ read (by_task t session s not (subst As (sym same) (turns_as session.committed session.block s)))

-- The turn of a statement that works on the database that the session sees.
pub record Turn (session : Session) (s : Said) (d : Stepped) : Type 0 where
  pub turned : Turned
  pub turns : TurnsSaid session s turned
  pub reply : turned.reply ≡ d.reply
  pub after : turned.session ≡ behind d.reply.fault session d.database
  pub growth : turned.growth ≡ d.growth

behind_fault : (fault : Option ℕ) (n : ℕ) (session : Session) (db : Database) → fault ≡ Some n → refused_in session ≡ behind fault session db
behind_fault None n session db e = cc
behind_fault (Some k) n session db e = refl

behind_none : (fault : Option ℕ) (session : Session) (db : Database) → fault ≡ None → with_seen session db ≡ behind fault session db
behind_none None session db e = refl
behind_none (Some k) session db e = cc

handed : (session : Session) (s : Said) (kind : Kind) → kind ≡ kind_of session.block → task_in kind s ≡ task.Work → (turned : Turned) → TurnsSeen session s turned → TurnsSaid session s turned
handed session s kind block work =
    let As : Task → Type 0 = λ x. TurnsAs x session s in
    subst As (ap (λ (k : Kind). task_in k s) (sym block) ∙ work) (turns_as session.committed session.block s)

pub work_turn : (session : Session) (s : Said) (kind : Kind) (d : Stepped) → kind ≡ kind_of session.block → task_in kind s ≡ task.Work → Steps (seen session) s d → Turn session s d
work_turn session s kind d block work steps = by_cases steps
  where
    hands : (turned : Turned) → TurnsSeen session s turned → TurnsSaid session s turned
    hands = handed session s kind block work

    by_cases : Steps (seen session) s d → Turn session s d
    by_cases (inl h) =
        let reply : d.reply ≡ refusal h.0 = ap (λ (x : Stepped). x.reply) h.2 in
        let fault : d.reply.fault ≡ Some h.0 = ap (λ (r : Reply). r.fault) reply in
        record {
          turned = refused session (refusal h.0);
          turns = hands (refused session (refusal h.0)) (inl (h.0, h.1, refl));
          reply = sym reply;
          after = behind_fault d.reply.fault h.0 session d.database fault;
          growth = sym (ap (λ (x : Stepped). x.growth) h.2);
        }
    by_cases (inr h) =
        let next : Turned = record { session = with_seen session d.database; reply = d.reply; growth = d.growth } in
        record {
          turned = next;
          turns = hands next (inr (h.0, d, h.1, refl));
          reply = refl;
          after = behind_none d.reply.fault session d.database (no_fault (seen session) s d h.1);
          growth = refl;
        }

-- where there is no room for what a statement may add, there is none in its turn
pub no_room_turn : (session : Session) (s : Said) (pages : ℕ) (l : LacksRoom pages s (seen session)) (t : Turn session s l.stepped) → runs.LacksRoom pages t.turned
no_room_turn session s pages l t =
    let growth = t.growth in
    let full = l.full in
    record { accepted = ap (λ (r : Reply). r.fault) t.reply ∙ l.accepted; grows = λ none. l.grows (sym growth ∙ none); full = omega (arith, full, growth) }

-- a piece that says no statement
pub turn_refused : (session : Session) (text : List ℕ) (reply : Reply) → fault_of (reading_of text) ≡ Some reply → Turns session text (refused session reply)
turn_refused session text reply e = by_reading (reading_of text) e
  where
    none_some : (x : Reply) → None ≡ Some x → ⊥
    none_some x h = cc

    same : (x : Reply) → Some x ≡ Some reply → refused session reply ≡ refused session x
    same x h = let back : reply ≡ x = cc in ap (λ (r : Reply). refused session r) back

    by_reading : (r : Option answers.Answer) → fault_of r ≡ Some reply → TurnsBy r session (refused session reply)
    by_reading None h = same (refusal 17) h
    by_reading (Some (wrong_at at)) h = same (syntax_error at) h
    by_reading (Some too_deep) h = same (refusal 18) h
    by_reading (Some (says s)) h = absurd (none_some reply h)

-- What a statement costs that works on the database that the session sees.

no_work : task.Refuse 23 ≡ task.Work → ⊥
no_work e = cc

costs_inside : (own : Database) (s : Said) (n : ℕ) → begun_task s ≡ task.Work → CostsBegun own s n → Costs own s n
costs_inside own (said.Vacuum table) n work h = absurd (no_work work)
costs_inside own s n work h = h

not_failed : (s : Said) → failed_task s ≡ task.Work → ⊥
not_failed said.Nothing work = cc
not_failed said.Commit work = cc
not_failed said.Rollback work = cc
not_failed s work = cc

costs_in : (b : Block) (db : Database) (s : Said) (n : ℕ) → task_in (kind_of b) s ≡ task.Work → CostsIn b db s n → Costs (seen_in b db) s n
costs_in idle db s n work h = h
costs_in (begun own) db s n work h = costs_inside own s n work h
costs_in failed db s n work h = absurd (not_failed s work)

pub work_costs : (session : Session) (text : List ℕ) (s : Said) (kind : Kind) (n : ℕ) → ReadAs text s → kind ≡ kind_of session.block → task_in kind s ≡ task.Work → TurnCosts session text n → Costs (seen session) s n
work_costs session text s kind n read block work h =
    let By : Option answers.Answer → Type 0 = λ r. CostsBy r session n in
    costs_in session.block session.committed s n (ap (λ (k : Kind). task_in k s) (sym block) ∙ work) (subst By read h)

-- a statement works on pages that a session hands on
pub is_work : (kind : Kind) (s : Said) → task_in kind s ≡ task.Work → IsWork s
is_work Idle s work = outside s work
  where
    outside : (s : Said) → idle_task s ≡ task.Work → IsWork s
    outside said.Nothing work = cc
    outside said.Begin work = cc
    outside said.Commit work = cc
    outside said.Rollback work = cc
    outside said.Checkpoint work = cc
    outside s work = tt
is_work Begun s work = inside s work
  where
    inside : (s : Said) → begun_task s ≡ task.Work → IsWork s
    inside said.Nothing work = cc
    inside said.Begin work = cc
    inside said.Commit work = cc
    inside said.Rollback work = cc
    inside said.Checkpoint work = cc
    inside s work = tt
is_work Failed s work = absurd (not_failed s work)

-- a failed block hands no statement on
pub not_in_failed : (kind : Kind) (s : Said) → task_in kind s ≡ task.Work → kind ≡ Failed → ⊥
not_in_failed kind s work e = not_failed s (ap (λ (k : Kind). task_in k s) (sym e) ∙ work)

-- a block is opened only outside one

for_outside : (t : Task) → IsFor Idle t
for_outside task.Silence = tt
for_outside (task.Answer word) = tt
for_outside task.Open = refl
for_outside task.Commit = tt
for_outside task.RollBack = tt
for_outside (task.Refuse n) = tt
for_outside task.Work = tt

for_inside : (s : Said) → IsFor Begun (begun_task s)
for_inside said.Nothing = tt
for_inside said.Begin = tt
for_inside said.Commit = tt
for_inside said.Rollback = tt
for_inside said.Checkpoint = tt
for_inside (said.Vacuum table) = tt
for_inside s = tt

for_failed : (s : Said) → IsFor Failed (failed_task s)
for_failed said.Nothing = tt
for_failed said.Commit = tt
for_failed said.Rollback = tt
for_failed s = tt

pub is_for : (kind : Kind) (s : Said) → IsFor kind (task_in kind s)
is_for Idle s = for_outside (idle_task s)
is_for Begun s = for_inside s
is_for Failed s = for_failed s

pub is_for_task : (kind : Kind) (s : Said) (t : Task) → t ≡ task_in kind s → IsFor kind t
is_for_task kind s t e = let At : Task → Type 0 = λ x. IsFor kind x in subst At (sym e) (is_for kind s)

-- what is answered without a call of the store

pub silent_still : (t : Task) → (t ≡ task.Work → ⊥) → (reply_to t).bytes ≡ [] → IsStill t
silent_still task.Silence not e = tt
silent_still (task.Answer word) not e = tt
silent_still task.Open not e = cc
silent_still task.Commit not e = cc
silent_still task.RollBack not e = cc
silent_still (task.Refuse n) not e = cc
silent_still task.Work not e = absurd (not refl)

not_inside : (s : Said) → begun_task s ≡ task.Answer word.Checkpoint → ⊥
not_inside said.Nothing e = cc
not_inside said.Begin e = cc
not_inside said.Commit e = cc
not_inside said.Rollback e = cc
not_inside said.Checkpoint e = cc
not_inside (said.Vacuum table) e = cc
not_inside s e = cc

not_when_failed : (s : Said) → failed_task s ≡ task.Answer word.Checkpoint → ⊥
not_when_failed said.Nothing e = cc
not_when_failed said.Commit e = cc
not_when_failed said.Rollback e = cc
not_when_failed s e = cc

outside_alone : (kind : Kind) (s : Said) → task_in kind s ≡ task.Answer word.Checkpoint → kind ≡ Idle
outside_alone Idle s e = refl
outside_alone Begun s e = absurd (not_inside s e)
outside_alone Failed s e = absurd (not_when_failed s e)

abbrev first_of : List ℕ → ℕ
first_of [] = 0
first_of (x ∷ xs) = x

is_checkpoint : (t : Task) → (t ≡ task.Work → ⊥) → (reply_to t).bytes ≡ checkpoint_reply → t ≡ task.Answer word.Checkpoint
is_checkpoint task.Silence not e = cc
is_checkpoint (task.Answer word.Begin) not e = cc
is_checkpoint (task.Answer word.Commit) not e = cc
is_checkpoint (task.Answer word.Checkpoint) not e = refl
is_checkpoint task.Open not e = cc
is_checkpoint task.Commit not e = cc
is_checkpoint task.RollBack not e = cc
is_checkpoint (task.Refuse n) not e = let first : 69 ≡ 67 = ap (λ (xs : List ℕ). first_of xs) e in absurd (omega (arith, first))
is_checkpoint task.Work not e = absurd (not refl)

pub checkpoint_still : (kind : Kind) (s : Said) (t : Task) → t ≡ task_in kind s → (t ≡ task.Work → ⊥) → (reply_to t).bytes ≡ checkpoint_reply → IsStill t × (kind ≡ Idle)
checkpoint_still kind s t is not e =
    let which = is_checkpoint t not e in
    let Still : Task → Type 0 = λ x. IsStill x in
    (subst Still (sym which) tt, outside_alone kind s (sym is ∙ which))

-- VACUUM works outside a block alone, and changes no database.

pub vacuum_outside : (kind : Kind) (s : Said) (table : List ℕ) → s ≡ said.Vacuum table → task_in kind s ≡ task.Work → kind ≡ Idle
vacuum_outside kind s table is work = by kind (sym (ap (λ (x : Said). task_in kind x) is) ∙ work)
  where
    by : (k : Kind) → task_in k (said.Vacuum table) ≡ task.Work → k ≡ Idle
    by Idle e = refl
    by Begun e = cc
    by Failed e = cc

pub vacuum_keeps : (db : Database) (table : List ℕ) (d : Stepped) → Steps db (said.Vacuum table) d → d.database ≡ db
vacuum_keeps db table d (inl refuses) = ap (λ (x : Stepped). x.database) refuses.2
vacuum_keeps db table d (inr does) = ap (λ (x : Stepped). x.database) does.1

refused_none : (n : ℕ) → Some n ≡ None → ⊥
refused_none n e = cc

-- VACUUM is refused where it doesn't work.
pub vacuum_refused : (kind : Kind) (s : Said) (table : List ℕ) (t : Task) → s ≡ said.Vacuum table → t ≡ task_in kind s → (t ≡ task.Work → ⊥) → (reply_to t).fault ≡ None → ⊥
vacuum_refused kind s table t is same not none = by kind t (same ∙ ap (λ (x : Said). task_in kind x) is) not none
  where
    by : (k : Kind) (x : Task) → x ≡ task_in k (said.Vacuum table) → (x ≡ task.Work → ⊥) → (reply_to x).fault ≡ None → ⊥
    by Idle x e never no_fault = never e
    by Begun x e never no_fault = let Fault : Task → Type 0 = λ y. (reply_to y).fault ≡ None in refused_none 23 (subst Fault e no_fault)
    by Failed x e never no_fault = let Fault : Task → Type 0 = λ y. (reply_to y).fault ≡ None in refused_none 22 (subst Fault e no_fault)

-- What a statement adds that works on the database that the session sees.

-- the step of a statement with this turn, which adds no more pages
pub record StepOf (session : Session) (s : Said) (turned : Turned) : Type 0 where
  pub stepped : Stepped
  pub steps : Steps (seen session) s stepped
  pub grows : stepped.growth ≤ turned.growth

abbrev SeenAs : Task → Session → Said → Type 0
SeenAs task.Work session said = (turned : Turned) → TurnsSaid session said turned → TurnsSeen session said turned
SeenAs t session said = Unit {0}

handed_outside : (db : Database) (s : Said) → SeenAs (idle_task s) (record { committed = db; block = idle }) s
handed_outside db said.Nothing = tt
handed_outside db said.Begin = tt
handed_outside db said.Commit = tt
handed_outside db said.Rollback = tt
handed_outside db said.Checkpoint = tt
handed_outside db s = λ turned h. h

handed_inside : (db own : Database) (s : Said) → SeenAs (begun_task s) (record { committed = db; block = begun own }) s
handed_inside db own said.Nothing = tt
handed_inside db own said.Begin = tt
handed_inside db own said.Commit = tt
handed_inside db own said.Rollback = tt
handed_inside db own said.Checkpoint = tt
handed_inside db own (said.Vacuum table) = tt
handed_inside db own s = λ turned h. h

handed_failed : (db : Database) (s : Said) → SeenAs (failed_task s) (record { committed = db; block = failed }) s
handed_failed db said.Nothing = tt
handed_failed db said.Commit = tt
handed_failed db said.Rollback = tt
handed_failed db s = tt

handed_as : (db : Database) (b : Block) (s : Said) → SeenAs (task_in (kind_of b) s) (record { committed = db; block = b }) s
handed_as db idle s = handed_outside db s
handed_as db (begun own) s = handed_inside db own s
handed_as db failed s = handed_failed db s

step_seen : (session : Session) (s : Said) (turned : Turned) → TurnsSeen session s turned → StepOf session s turned
step_seen session s turned (inl h) = record { stepped = unchanged (seen session) (refusal h.0); steps = inl (h.0, h.1, refl); grows = omega arith }
step_seen session s turned (inr h) =
    let growth : turned.growth ≡ h.1.growth = ap (λ (t : Turned). t.growth) h.3 in
    record { stepped = h.1; steps = inr (h.0, h.2); grows = omega (arith, growth) }

pub step_of : (session : Session) (text : List ℕ) (s : Said) (kind : Kind) (turned : Turned) → ReadAs text s → kind ≡ kind_of session.block → task_in kind s ≡ task.Work → Turns session text turned
    → StepOf session s turned
step_of session text s kind turned read block work turns =
    let By : Option answers.Answer → Type 0 = λ r. TurnsBy r session turned in
    let As : Task → Type 0 = λ x. SeenAs x session s in
    let seen_by = subst As (ap (λ (k : Kind). task_in k s) (sym block) ∙ work) (handed_as session.committed session.block s) in
    step_seen session s turned (seen_by turned (subst By read turns))
