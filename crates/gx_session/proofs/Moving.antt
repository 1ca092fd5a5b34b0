-- How the store of a session moves, call by call.
use Rattle.std.proofs.Common.{◌≡◌, ◌⊎◌, inl, inr, ℕ, ◌+◌, ◌≤◌, List, refl, sym, ◌∙◌, ap, subst, arith}
use Rattle.gx_words.specs.Causes.{Said}
use Rattle.gx_words.specs.Moments.{Moment, Now}
use Rattle.gx_words.specs.PageMap.{PageMap}
use Rattle.gx_pages.specs.declared.store.Pages.{Ghosts}
use Rattle.gx_pages.specs.Footprints.{StaysQuiet}
use Rattle.gx_pages.specs.Pages.{Beside}
use Rattle.gx_database.specs.Standing.{StandsFor}
use Rattle.gx_model.specs.Database.{Database}
use Rattle.gx_model.specs.Replies.{Reply}
use Rattle.gx_model.specs.Runs.{Answers}
use Rattle.gx_model.specs.Turns.{Session, Block, idle, begun, failed, broken_off, refused_in, seen, seen_in, seen_as, with_seen, session_over, Turned, Turns}
use Rattle.gx_engine.specs.Times.{Between}
use Rattle.gx_engine.specs.Engines.{GrowsBy, IsIn, IsSettled, HasAtMost, Executed, Stopped, Unmade, kind_of}
use Rattle.gx_engine.specs.declared.engine.Kind.{Kind}
use Rattle.gx_engine.specs.declared.engine.Kind.TheVariants.{Idle, Begun, Failed}
use Rattle.gx_session.specs.Moves.{Keeps, MayCommit, Moved, MayHaveMoved, NeverGrows, GoesOn, broken}
use Rattle.gx_session.proofs.Times.{still, becomes, joins}

-- Blocks.

pub broken_block : (b : Block) → broken (kind_of b) ≡ kind_of (broken_off b)
broken_block idle = refl
broken_block (begun own) = refl
broken_block failed = refl

pub seen_broken : (b : Block) (db : Database) → seen_in (broken_off b) db ≡ db
seen_broken idle db = refl
seen_broken (begun own) db = refl
seen_broken failed db = refl

pub seen_outside : (b : Block) (db : Database) → Idle ≡ kind_of b → seen_in b db ≡ db
seen_outside idle db e = refl
seen_outside (begun own) db e = cc
seen_outside failed db e = refl

pub outside : (b : Block) (committed db : Database) → Idle ≡ kind_of b → seen_as b committed db ≡ session_over db
outside idle committed db e = refl
outside (begun own) committed db e = cc
outside failed committed db e = cc

module _ {P : Type 0} (g : Ghosts P) where
  -- Nothing committed.

  abbrev Left : P → Moment PageMap → Type 0
  Left s m = g.may_leave s m.image × (m.bytes ≡ (g.said s).bytes)

  abbrev LeftOr : P → Database → Moment PageMap → Type 0
  LeftOr s db m = (g.may_leave s m.image ⊎ StandsFor m.image db) × (m.bytes ≡ (g.said s).bytes)

  pub unmade_still : (s : P) → Unmade g s s
  unmade_still s = record { committed = λ tells. refl; left = λ map l. l; time = still g.moment g.may_have_left_since s (Left s) }

  pub unmade_quiet : (a b : P) → StaysQuiet g a b → Unmade g a b
  unmade_quiet a b q = record { committed = λ tells. q.committed; left = q.images; time = q.time }

  pub unmade_then : (a b c : P) → g.said b ≡ g.said a → Unmade g a b → Unmade g b c → Unmade g a c
  unmade_then a b c said u v =
      let same : (g.said b).bytes ≡ (g.said a).bytes = ap (λ (s : Said). s.bytes) said in
      record {
        committed = λ tells. v.committed tells ∙ u.committed tells;
        left = λ map l. u.left map (v.left map l);
        time = joins g.moment g.may_have_left_since a b c (Left a) (Left b) (Left a) (λ m p. p) (λ m q. (u.left m.image q.0, q.1 ∙ same)) u.time v.time;
      }

  pub may_commit : (a b : P) (db : Database) → Unmade g a b → MayCommit g a b db
  may_commit a b db u = becomes g.moment g.may_have_left_since a b (Left a) (LeftOr a db) (λ m p. (inl p.0, p.1)) u.time

  pub commit_behind : (a b c : P) (db : Database) → g.said b ≡ g.said a → Unmade g a b → MayCommit g b c db → MayCommit g a c db
  commit_behind a b c db said u time =
      let same : (g.said b).bytes ≡ (g.said a).bytes = ap (λ (s : Said). s.bytes) said in
      joins g.moment g.may_have_left_since a b c (Left a) (LeftOr b db) (LeftOr a db) (λ m p. (inl p.0, p.1))
      (λ m q. (elim q.0 [ inl l ↦ inl (u.left m.image l) | inr s ↦ inr s ], q.1 ∙ same)) u.time time

  -- Where the session is.

  pub keeps_of : (s : P) (kind : Kind) (session : Session) → IsIn g s kind session → Keeps g s kind session
  keeps_of s kind session is = record { block = is.block; committed = is.committed; left = is.left }

  pub keeps_on : (a b : P) (kind : Kind) (session : Session) → Keeps g a kind session → g.committed b ≡ g.committed a → ((map : PageMap) → g.may_leave b map → g.may_leave a map) → Keeps g b kind session
  keeps_on a b kind session k committed left =
      let Made : PageMap → Type 0 = λ m. StandsFor m session.committed in
      record { block = k.block; committed = subst Made (sym committed) k.committed; left = λ map l. k.left map (left map l) }

  pub is_in_on : (a b : P) (kind : Kind) (session : Session) → IsIn g a kind session → g.map b ≡ g.map a → g.committed b ≡ g.committed a → ((map : PageMap) → g.may_leave b map → g.may_leave a map) → IsIn g b kind session
  is_in_on a b kind session is map committed left =
      let Made : PageMap → Type 0 = λ m. StandsFor m session.committed in
      let Seen : PageMap → Type 0 = λ m. StandsFor m (seen session) in
      record { block = is.block; committed = subst Made (sym committed) is.committed; map = subst Seen (sym map) is.map; left = λ map l. is.left map (left map l) }

  pub moved_still : (s : P) (kind : Kind) (session : Session) → IsIn g s kind session → Moved g s s kind session
  moved_still s kind session is = record { is_in = is; grows = λ pages h. h; time = may_commit s s session.committed (unmade_still s) }

  -- What isn't committed is given up.
  pub given_up : (a b : P) (kind next : Kind) (session after : Session) → Keeps g a kind session → next ≡ kind_of after.block → after.committed ≡ session.committed → seen after ≡ session.committed
      → g.map b ≡ g.committed a → g.count b ≡ g.committed_count a → g.committed b ≡ g.committed a → g.committed_count b ≡ g.committed_count a → Unmade g a b → Moved g a b next after
  given_up a b kind next session after k block same sees map count committed committed_count u =
      let Made : PageMap → Type 0 = λ m. StandsFor m session.committed in
      let For : PageMap → Database → Type 0 = λ m db. StandsFor m db in
      record {
        is_in = record {
          block = block;
          committed = subst (For (g.committed b)) (sym same) (subst Made (sym committed) k.committed);
          map = subst (For (g.map b)) (sym sees) (subst Made (sym map) k.committed);
          left = λ map l. subst (For map) (sym same) (k.left map (u.left map l));
        };
        grows = λ pages h. let now = h.committed in record { now = omega (arith, now, count); committed = omega (arith, now, committed_count) };
        time = may_commit a b after.committed u;
      }

  pub broken_off_by : (a b : P) (kind next : Kind) (session : Session) → Keeps g a kind session → next ≡ broken kind
      → g.map b ≡ g.committed a → g.count b ≡ g.committed_count a → g.committed b ≡ g.committed a → g.committed_count b ≡ g.committed_count a → Unmade g a b → Moved g a b next (refused_in session)
  broken_off_by a b kind next session k block map count committed committed_count u =
      given_up a b kind next session (refused_in session) k (block ∙ ap (λ (x : Kind). broken x) k.block ∙ broken_block session.block) refl (seen_broken session.block session.committed)
      map count committed committed_count u

  -- a block is opened
  pub opened : (a b : P) (session : Session) → IsIn g b Idle session → g.count b ≡ g.count a → g.committed_count b ≡ g.committed_count a → Unmade g a b
      → Moved g a b Begun (record { committed = session.committed; block = begun session.committed })
  opened a b session is count committed_count u =
      let For : Database → Type 0 = λ db. StandsFor (g.map b) db in
      record {
        is_in = record { block = refl; committed = is.committed; map = subst For (seen_outside session.block session.committed is.block) is.map; left = is.left };
        grows = λ pages h. let now = h.now in let made = h.committed in record { now = omega (arith, now, count); committed = omega (arith, made, committed_count) };
        time = may_commit a b session.committed u;
      }

  -- The map is committed.
  pub commit_time : (a b c : P) (db : Database) → g.said b ≡ g.said a → Unmade g a b → g.map b ≡ g.map a → StandsFor (g.map a) db
      → Between g.moment g.may_have_left_since b c (λ m. (g.may_leave b m.image ⊎ (m.image ≡ g.map b)) × (m.bytes ≡ (g.said b).bytes)) → MayCommit g a c db
  commit_time a b c db said u map stands time =
      let Stands : PageMap → Type 0 = λ m. StandsFor m db in
      commit_behind a b c db said u
      (becomes g.moment g.may_have_left_since b c (λ m. (g.may_leave b m.image ⊎ (m.image ≡ g.map b)) × (m.bytes ≡ (g.said b).bytes)) (LeftOr b db)
      (λ m p. (elim p.0 [ inl l ↦ inl l | inr e ↦ inr (subst Stands (sym (e ∙ map)) stands) ], p.1)) time)

  pub committed_by : (a b c : P) (db : Database) → g.map b ≡ g.map a → g.count b ≡ g.count a → StandsFor (g.map a) db
      → g.committed c ≡ g.map b → g.committed_count c ≡ g.count b → g.map c ≡ g.map b → g.count c ≡ g.count b → ((m : PageMap) → g.may_leave c m → m ≡ g.map b)
      → MayCommit g a c db → Moved g a c Idle (session_over db)
  committed_by a b c db map count stands committed committed_count same same_count only time =
      let Stands : PageMap → Type 0 = λ m. StandsFor m db in
      record {
        is_in = record {
          block = refl;
          committed = subst Stands (sym (committed ∙ map)) stands;
          map = subst Stands (sym (same ∙ map)) stands;
          left = λ m l. subst Stands (sym (only m l ∙ map)) stands;
        };
        grows = λ pages h. let now = h.now in record { now = omega (arith, now, count, same_count); committed = omega (arith, now, count, committed_count) };
        time = time;
      }

  -- what a crash leaves now was left at a moment since
  pub left_by_time : ((s : P) (t : ℕ) (m : PageMap) → t ≤ g.moment s → g.may_leave s m → g.may_have_left_since s t (record { image = m; bytes = (g.said s).bytes }))
      → ((s : P) (m : Moment PageMap) → g.may_have_left_since s (g.moment s) m → Now (g.may_leave s) (g.said s).bytes m)
      → (a c : P) (db : Database) → MayCommit g a c db → (map : PageMap) → g.may_leave c map → g.may_leave a map ⊎ StandsFor map db
  left_by_time counts only a c db time map l =
      let le : g.moment a ≤ g.moment a = omega arith in
      elim (time.nothing_else (g.moment a) (record { image = map; bytes = (g.said c).bytes }) le (counts c (g.moment a) map time.later l)) [
        | inl past ↦ inl (only a (record { image = map; bytes = (g.said c).bytes }) past).0
        | inr h ↦ h.0.0
      ]

  pub may_have_moved : (a c : P) (db : Database) → ((map : PageMap) → g.may_leave c map → g.may_leave a map ⊎ StandsFor map db) → MayCommit g a c db → MayHaveMoved g a c db
  may_have_moved a c db left time = record { left = left; time = time }

  pub unmoved : (a c : P) (db : Database) → Unmade g a c → MayHaveMoved g a c db
  unmoved a c db u = record { left = λ map l. inl (u.left map l); time = may_commit a c db u }

  -- an open block sees another database
  pub seen_inside : (s : P) (kind : Kind) (session : Session) (db : Database) → (kind ≡ Idle → ⊥) → (kind ≡ Failed → ⊥) → Keeps g s kind session → StandsFor (g.map s) db → Moved g s s kind (with_seen session db)
  seen_inside s kind session db not_idle not_failed k stands = by_block session.block k.block
    where
      by_block : (b : Block) → kind ≡ kind_of b → Moved g s s kind (seen_as b session.committed db)
      by_block idle e = absurd (not_idle e)
      by_block (begun own) e = moved_still s kind (record { committed = session.committed; block = begun db }) (record { block = e; committed = k.committed; map = stands; left = k.left })
      by_block failed e = absurd (not_failed e)

  -- what was given up
  pub settled_by : (a b : P) → g.map b ≡ g.committed a → g.count b ≡ g.committed_count a → g.committed b ≡ g.committed a → g.committed_count b ≡ g.committed_count a → IsSettled g b
  settled_by a b map count committed committed_count = record { map = map ∙ sym committed; count = count ∙ sym committed_count }

  -- what was committed
  pub settled_commit : (b c : P) → g.committed c ≡ g.map b → g.committed_count c ≡ g.count b → g.map c ≡ g.map b → g.count c ≡ g.count b → IsSettled g c
  settled_commit b c committed committed_count map count = record { map = map ∙ sym committed; count = count ∙ sym committed_count }

  -- What executing leaves.

  pub executed : (a c d : P) (next : Kind) (session after : Session) (text : List ℕ) (reply : Reply) (turned : Turned) → Turns session text turned → Answers (g.count a) session turned reply after
      → ((pages : ℕ) → HasAtMost g a pages → HasAtMost g d (pages + turned.growth)) → g.said c ≡ g.said a → Unmade g a c → Moved g c d next after → Executed g a d next session text reply
  executed a c d next session after text reply turned turns answers grows said u m = record {
    turned = turned;
    turns = turns;
    after = after;
    answers = answers;
    is_in = m.is_in;
    grows = grows;
    time = commit_behind a c d after.committed said u m.time;
  }

  pub stopped : (a c d : P) (session : Session) (text : List ℕ) (turned : Turned) → Turns session text turned → g.said c ≡ g.said a → Unmade g a c → MayHaveMoved g c d turned.session.committed → Stopped g a d session text
  stopped a c d session text turned turns said u m = record {
    turned = turned;
    turns = turns;
    left = λ map l. elim (m.left map l) [ inl was ↦ inl (u.left map was) | inr is ↦ inr is ];
    time = commit_behind a c d turned.session.committed said u m.time;
  }

  -- How many pages there are.

  pub never_same : (a b : P) → g.count b ≡ g.count a → g.committed_count b ≡ g.committed_count a → NeverGrows g a b
  never_same a b count committed_count = λ pages h. let now = h.now in let made = h.committed in record { now = omega (arith, now, count); committed = omega (arith, made, committed_count) }

  -- either count is the one of before
  pub never_more : (a b : P) (n : ℕ) → g.count b ≡ n → g.committed_count b ≡ n → (n ≡ g.count a) ⊎ (n ≡ g.committed_count a) → NeverGrows g a b
  never_more a b n count committed_count (inl same) = λ pages h. let now = h.now in record { now = omega (arith, now, count, same); committed = omega (arith, now, committed_count, same) }
  never_more a b n count committed_count (inr same) = λ pages h. let made = h.committed in record { now = omega (arith, made, count, same); committed = omega (arith, made, committed_count, same) }

  -- no page more is no more than any number
  pub grows_by : (a b : P) (more : ℕ) → NeverGrows g a b → GrowsBy g a b more
  grows_by a b more never = λ pages h. let most = never pages h in let now = most.now in let made = most.committed in record { now = omega (arith, now); committed = omega (arith, made) }

  -- What lies below.

  pub goes_still : (s : P) → g.follows s s → GoesOn g s s
  goes_still s follows = record { said = refl; follows = follows; faults = omega arith }

  pub goes_quiet : (a b : P) → StaysQuiet g a b → GoesOn g a b
  goes_quiet a b q = record { said = q.said; follows = q.follows; faults = q.faults }

  pub goes_beside : (a b : P) → Beside g.said g.fetches g.heap_fetches g.faults g.follows a b → GoesOn g a b
  goes_beside a b q = record { said = q.said; follows = q.follows; faults = q.faults }

  pub goes_then : ((a b c : P) → g.follows a b → g.follows b c → g.follows a c) → (a b c : P) → GoesOn g a b → GoesOn g b c → GoesOn g a c
  goes_then on a b c x y = record {
    said = y.said ∙ x.said;
    follows = on a b c x.follows y.follows;
    faults = omega (arith, x.faults, y.faults);
  }

  pub beside_still : (s : P) → g.follows s s → Beside g.said g.fetches g.heap_fetches g.faults g.follows s s
  beside_still s follows = record { said = refl; fetches = refl; heap = refl; faults = omega arith; follows = follows }

  pub beside_then : ((a b c : P) → g.follows a b → g.follows b c → g.follows a c) → (a b c : P) → Beside g.said g.fetches g.heap_fetches g.faults g.follows a b
      → Beside g.said g.fetches g.heap_fetches g.faults g.follows b c → Beside g.said g.fetches g.heap_fetches g.faults g.follows a c
  beside_then on a b c x y = record {
    said = y.said ∙ x.said;
    fetches = y.fetches ∙ x.fetches;
    heap = y.heap ∙ x.heap;
    faults = omega (arith, x.faults, y.faults);
    follows = on a b c x.follows y.follows;
  }
