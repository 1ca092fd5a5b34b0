-- Every turn of a valid session leaves a valid one.
use Rattle.std.proofs.Common.{◌≡◌, inl, inr, ℕ, Bool, true, false, cond, nat_lt, List, [], ◌∷◌, length, map, Option, Some, None, refl, sym, ap, subst}
use Rattle.std.specs.List.{AllByRecursion}
use Rattle.gx_lexer.specs.Feeding.{longest}
use Rattle.gx_parse.specs.Answers.{Answer, says, wrong_at, too_deep, answer_of}
use Rattle.gx_parse.specs.declared.statement.ColumnWord.{ColumnWord}
use Rattle.gx_parse.specs.Said.{Said, Nothing, CreateTable, DropTable, CreateIndex, DropIndex, Insert, Delete, Select, Explain, Vacuum, Checkpoint, Begin, Commit, Rollback}
use Rattle.gx_parse.specs.Sound.{IsName, HasNames}
use Rattle.gx_model.specs.Database.{Database, IsValid, IsShort}
use Rattle.gx_model.specs.Steps.{HasShortNames}
use Rattle.gx_model.specs.Turns.{Session, Block, idle, begun, failed, AreValid, session_over, refused_in, seen_as, seen, seen_in, Turned, Turns, TurnsSeen, TurnsIdle, TurnsBegun, TurnsFailed, TurnsIn, TurnsSaid, TurnsBy, reading_of}
use Rattle.gx_model.proofs.OneTurn.{Facts}
use Rattle.gx_model.proofs.StaysValid.{effect_valid}

as_turned : (turned x : Turned) → turned ≡ x → AreValid x.session → AreValid turned.session
as_turned turned x e v = subst (λ (s : Session). AreValid s) (sym (ap (λ (t : Turned). t.session) e)) v

over_valid : (db : Database) → IsValid db → AreValid (session_over db)
over_valid db v = record { committed = v; own = v }

broken : (block : Block) (db : Database) → IsValid db → AreValid (refused_in (record { committed = db; block = block }))
broken idle db v = record { committed = v; own = v }
broken (begun own) db v = record { committed = v; own = v }
broken failed db v = record { committed = v; own = v }

refused_valid : (session : Session) → AreValid session → AreValid (refused_in session)
refused_valid session v = broken session.block session.committed v.committed

seen_valid : (block : Block) (committed db : Database) → IsValid committed → IsValid db → AreValid (seen_as block committed db)
seen_valid idle committed db v w = record { committed = w; own = w }
seen_valid (begun own) committed db v w = record { committed = v; own = w }
seen_valid failed committed db v w = record { committed = v; own = v }

of_seen : Facts → (session : Session) (said : Said) (turned : Turned) → AreValid session → HasShortNames said → TurnsSeen session said turned → AreValid turned.session
of_seen facts session said turned v n (inl h) = as_turned turned _ h.2 (refused_valid session v)
of_seen facts session said turned v n (inr h) =
    as_turned turned _ h.3 (seen_valid session.block session.committed h.1.database v.committed (effect_valid facts (seen session) said h.1 v.own n h.0 h.2))

of_idle : Facts → (session : Session) (said : Said) (turned : Turned) → AreValid session → HasShortNames said → TurnsIdle session said turned → AreValid turned.session
of_idle facts session Begin turned v n h = as_turned turned _ h (record { committed = v.committed; own = v.committed })
of_idle facts session Commit turned v n h = as_turned turned _ h v
of_idle facts session Rollback turned v n h = as_turned turned _ h v
of_idle facts session said turned v n h = of_seen facts session said turned v n h

own_valid : (session : Session) (own : Database) → session.block ≡ begun own → AreValid session → IsValid own
own_valid session own e v = subst (λ (b : Block). IsValid (seen_in b session.committed)) e v.own

of_begun : Facts → (session : Session) (own : Database) (said : Said) (turned : Turned) → session.block ≡ begun own → AreValid session → HasShortNames said → TurnsBegun session own said turned
    → AreValid turned.session
of_begun facts session own Begin turned e v n h = as_turned turned _ h v
of_begun facts session own Commit turned e v n h = as_turned turned _ h (over_valid own (own_valid session own e v))
of_begun facts session own Rollback turned e v n h = as_turned turned _ h (over_valid session.committed v.committed)
of_begun facts session own (Vacuum table) turned e v n h = as_turned turned _ h (refused_valid session v)
of_begun facts session own Checkpoint turned e v n h = as_turned turned _ h (refused_valid session v)
of_begun facts session own said turned e v n h = of_seen facts session said turned v n h

of_failed : (session : Session) (said : Said) (turned : Turned) → AreValid session → TurnsFailed session said turned → AreValid turned.session
of_failed session Commit turned v h = as_turned turned _ h (over_valid session.committed v.committed)
of_failed session Rollback turned v h = as_turned turned _ h (over_valid session.committed v.committed)
of_failed session said turned v h = as_turned turned _ h (refused_valid session v)

of_block : Facts → (block : Block) (session : Session) (said : Said) (turned : Turned) → session.block ≡ block → AreValid session → HasShortNames said → TurnsIn block session said turned → AreValid turned.session
of_block facts idle session said turned e v n h = of_idle facts session said turned v n h
of_block facts (begun own) session said turned e v n h = of_begun facts session own said turned e v n h
of_block facts failed session said turned e v n h = of_failed session said turned v h

of_said : Facts → (session : Session) (said : Said) (turned : Turned) → AreValid session → HasShortNames said → TurnsSaid session said turned → AreValid turned.session
of_said facts session Nothing turned v n h = as_turned turned _ h v
of_said facts session said turned v n h = of_block facts session.block session said turned refl v n h

of_reading : Facts → (reading : Option Answer) (session : Session) (turned : Turned) → ((said : Said) → reading ≡ Some (says said) → HasShortNames said) → AreValid session → TurnsBy reading session turned
    → AreValid turned.session
of_reading facts None session turned n v h = as_turned turned _ h (refused_valid session v)
of_reading facts (Some (says said)) session turned n v h = of_said facts session said turned v (n said refl) h
of_reading facts (Some (wrong_at at)) session turned n v h = as_turned turned _ h (refused_valid session v)
of_reading facts (Some too_deep) session turned n v h = as_turned turned _ h (refused_valid session v)

pub turn_valid : Facts → (session : Session) (piece : List ℕ) (turned : Turned) → ((said : Said) → reading_of piece ≡ Some (says said) → HasShortNames said) → AreValid session → Turns session piece turned
    → AreValid turned.session
turn_valid facts session piece turned n v h = of_reading facts (reading_of piece) session turned n v h

-- The names of a statement that is read.

read_if : (b : Bool) (a : Answer) (said : Said) → cond b None (Some a) ≡ Some (says said) → a ≡ says said
read_if true a said e = cc
read_if false a said e = cc

pub is_read : (piece : List ℕ) (said : Said) → reading_of piece ≡ Some (says said) → answer_of piece ≡ says said
is_read piece said e = read_if (nat_lt longest (length piece)) (answer_of piece) said e

short_columns : (cs : List ColumnWord) → AllByRecursion (λ (c : ColumnWord). IsName c.name) cs → AllByRecursion IsShort (map (λ c. c.name) cs)
short_columns [] h = tt
short_columns (c ∷ cs) h = (h.0.most, short_columns cs h.1)

pub short_names : (said : Said) → HasNames said → HasShortNames said
short_names (CreateTable name columns) h = (h.0.most, short_columns columns h.1)
short_names (DropTable name) h = tt
short_names (CreateIndex name table method column class parameter) h = tt
short_names (DropIndex name) h = tt
short_names (Insert table listed rows) h = tt
short_names (Delete table condition) h = tt
short_names (Select q) h = tt
short_names (Explain q) h = tt
short_names (Vacuum table) h = tt
short_names Nothing h = tt
short_names Checkpoint h = tt
short_names Begin h = tt
short_names Commit h = tt
short_names Rollback h = tt
