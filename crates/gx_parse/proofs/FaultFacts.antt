-- The first fault of tokens.
use Rattle.std.proofs.Common.{◌≡◌, ◌⊎◌, inl, inr, ℕ, ◌+◌, ◌<◌, ◌≤◌, suc, Bool, true, false, cond, nat_lt, List, [], ◌∷◌, ◌++◌, length, codes, Option, Some, None, is_some, Result, Ok, Err, MatchResult, refl, sym, ◌∙◌, ap, subst, arith}
use Rattle.std.proofs.lemmas.Bool.Decides.{nat_tests}
use Rattle.std.proofs.lemmas.List.{append-nil}
use Rattle.gx_lexer.specs.declared.token.Token.{Token}
use Rattle.std.proofs.lemmas.Str.{utf8_valid_len_le}
use Rattle.gx_lexer.specs.Tokens.{tokens_of}
use Rattle.gx_parse.specs.declared.error.ParseError.{ParseError}
use Rattle.gx_parse.specs.declared.error.ParseError.TheVariants as error
use Rattle.gx_parse.specs.declared.statement.Statement.{Statement}
use Rattle.gx_parse.specs.declared.outcome.Outcome.{Outcome}
use Rattle.gx_parse.specs.declared.outcome.Outcome.TheVariants.{Goes, Wrong, Deep}
use Rattle.gx_parse.specs.declared.query.Task as tasks
use Rattle.gx_parse.specs.declared.reader.Head.{Head}
use Rattle.gx_parse.specs.declared.query.QueryReader.TheVariants as query
use Rattle.gx_parse.specs.declared.reader.Head.TheVariants as head
use Rattle.gx_parse.specs.declared.reader.Head.TheVariants.{Start}
use Rattle.gx_parse.specs.Answers.{Answer, says, wrong_at, too_deep, gone, ended, answer_from, answer_of, text_len, Tells}
use Rattle.gx_parse.specs.Conditions.{Standing, condition_after}
use Rattle.gx_parse.specs.Conditions.{begun as no_condition}
use Rattle.gx_parse.specs.Faults.{plain, IsText, IsSaid, FirstFault, IsWrongAt, IsTooDeep, IsFault}
use Rattle.gx_parse.specs.Grammar.{Says, Continues}
use Rattle.gx_parse.specs.Outcomes.{Limits, limits, outcome_map, went}
use Rattle.gx_parse.specs.Runs.{then, accept}
use Rattle.gx_parse.specs.Said.{Said, said_of}
use Rattle.gx_parse.specs.States.{State, before, within, head_after, state_after, said_at}
use Rattle.gx_parse.specs.Words.{is_word}
use Rattle.gx_parse.proofs.GoingFacts.{state_goes}
use Rattle.gx_parse.proofs.RunFacts.{after, and_accept, accept_more, goes_from}
use Rattle.gx_parse.proofs.SaidFacts.{complete}
use Rattle.gx_parse.proofs.SoundFacts.{Reads, state_steps, sound}
use Rattle.gx_parse.proofs.WiderFacts.{Narrower, Widens, state_widens, part_goes, says_widens}

some_same : {A : Type 0} (x y : A) → Some x ≡ Some y → x ≡ y
some_same x y e = cc

pub one : (lim : Limits) (ts : List Token) (x y : Said) → Says lim ts x → Says lim ts y → x ≡ y
one lim ts x y s t = some_same x y (sym (complete lim ts x s) ∙ complete lim ts y t)

abbrev begun : State
begun = before Start

-- the state behind a front of the tokens, and what the next token does there
record Stuck (lim : Limits) (s : State) (xs : List (ℕ × Token)) (at : ℕ) (o : Outcome State) : Type 0 where
  front : List (ℕ × Token)
  token : Token
  behind : List (ℕ × Token)
  state : State
  parts : xs ≡ front ++ (at, token) ∷ behind
  reached : after lim s (plain front) ≡ Some state
  is : state_after lim state token ≡ o

record Ended (lim : Limits) (s : State) (xs : List (ℕ × Token)) : Type 0 where
  state : State
  reached : after lim s (plain xs) ≡ Some state
  none : said_at state ≡ None

and_token : (lim : Limits) (s next : State) (x : ℕ × Token) (xs : List (ℕ × Token)) (at : ℕ) (o : Outcome State) → state_after lim s x.1 ≡ Goes next → Stuck lim next xs at o → Stuck lim s (x ∷ xs) at o
and_token lim s next x xs at o e k = record {
  front = x ∷ k.front;
  token = k.token;
  behind = k.behind;
  state = k.state;
  parts = ap (λ (ys : List (ℕ × Token)). x ∷ ys) k.parts;
  reached = ap (λ (y : Outcome State). then (λ n. after lim n (plain k.front)) y) e ∙ k.reached;
  is = k.is;
}

and_end : (lim : Limits) (s next : State) (x : ℕ × Token) (xs : List (ℕ × Token)) → state_after lim s x.1 ≡ Goes next → Ended lim next xs → Ended lim s (x ∷ xs)
and_end lim s next x xs e k = record { state = k.state; reached = ap (λ (y : Outcome State). then (λ n. after lim n (plain xs)) y) e ∙ k.reached; none = k.none }

wrong_same : (a b : ℕ) → wrong_at a ≡ wrong_at b → a ≡ b
wrong_same a b e = cc

ended_wrong : (lim : Limits) (s : State) (end at : ℕ) (o : Option Said) → said_at s ≡ o → ended end o ≡ wrong_at at → (at ≡ end) × Ended lim s []
ended_wrong lim s end at None e f = (sym (wrong_same end at f), record { state = s; reached = refl; none = e })
ended_wrong lim s end at (Some x) e f = cc

wrong_is : (lim : Limits) (end : ℕ) (s : State) (xs : List (ℕ × Token)) (at : ℕ) → answer_from lim end s xs ≡ wrong_at at → Stuck lim s xs at Wrong ⊎ ((at ≡ end) × Ended lim s xs)
unfolding answer_from
wrong_is lim end s [] at e = inr (ended_wrong lim s end at (said_at s) refl e)
wrong_is lim end s (x ∷ xs) at e = each (state_after lim s x.1) refl (λ n. wrong_is lim end n xs at) e
  where
    each : (o : Outcome State) → state_after lim s x.1 ≡ o → ((n : State) → answer_from lim end n xs ≡ wrong_at at → Stuck lim n xs at Wrong ⊎ ((at ≡ end) × Ended lim n xs))
        → gone x.0 (λ n. answer_from lim end n xs) o ≡ wrong_at at → Stuck lim s (x ∷ xs) at Wrong ⊎ ((at ≡ end) × Ended lim s (x ∷ xs))
    each (Goes n) f k g = either (k n g)
      where
        either : Stuck lim n xs at Wrong ⊎ ((at ≡ end) × Ended lim n xs) → Stuck lim s (x ∷ xs) at Wrong ⊎ ((at ≡ end) × Ended lim s (x ∷ xs))
        either (inl h) = inl (and_token lim s n x xs at Wrong f h)
        either (inr h) = inr (h.0, and_end lim s n x xs f h.1)
    each Wrong f k g =
        let q : x.0 ≡ at = wrong_same x.0 at g in
        inl (record { front = []; token = x.1; behind = xs; state = s; parts = ap (λ (y : ℕ). (y, x.1) ∷ xs) q; reached = refl; is = f })
    each Deep f k g = cc

ended_deep : (end : ℕ) (o : Option Said) → ended end o ≡ too_deep → ⊥
ended_deep end None f = cc
ended_deep end (Some x) f = cc

deep_is : (lim : Limits) (end : ℕ) (s : State) (xs : List (ℕ × Token)) → answer_from lim end s xs ≡ too_deep → (at : ℕ) × Stuck lim s xs at Deep
unfolding answer_from
deep_is lim end s [] e = absurd (ended_deep end (said_at s) e)
deep_is lim end s (x ∷ xs) e = each (state_after lim s x.1) refl (λ n. deep_is lim end n xs) e
  where
    each : (o : Outcome State) → state_after lim s x.1 ≡ o → ((n : State) → answer_from lim end n xs ≡ too_deep → (at : ℕ) × Stuck lim n xs at Deep)
        → gone x.0 (λ n. answer_from lim end n xs) o ≡ too_deep → (at : ℕ) × Stuck lim s (x ∷ xs) at Deep
    each (Goes n) f k g = let h = k n g in (h.0, and_token lim s n x xs h.0 Deep f h.1)
    each Wrong f k g = cc
    each Deep f k g = (x.0, record { front = []; token = x.1; behind = xs; state = s; parts = refl; reached = refl; is = f })

ended_says : (end : ℕ) (o : Option Said) (x : Said) → ended end o ≡ says x → o ≡ Some x
ended_says end None x e = cc
ended_says end (Some y) x e = let s : y ≡ x = cc in ap (λ (z : Said). Some z) s

-- the answer that says something is what is read
pub says_is : (lim : Limits) (end : ℕ) (s : State) (xs : List (ℕ × Token)) (y : Said) → answer_from lim end s xs ≡ says y → accept lim s (plain xs) ≡ Some y
unfolding answer_from
says_is lim end s [] y e = ended_says end (said_at s) y e
says_is lim end s (x ∷ xs) y e = each (state_after lim s x.1) (λ n. says_is lim end n xs y) e
  where
    each : (o : Outcome State) → ((n : State) → answer_from lim end n xs ≡ says y → accept lim n (plain xs) ≡ Some y) → gone x.0 (λ n. answer_from lim end n xs) o ≡ says y
        → then (λ n. accept lim n (plain xs)) o ≡ Some y
    each (Goes n) k g = k n g
    each Wrong k g = cc
    each Deep k g = cc

pub says_again : (lim : Limits) (end : ℕ) (s : State) (xs : List (ℕ × Token)) (y : Said) → accept lim s (plain xs) ≡ Some y → answer_from lim end s xs ≡ says y
unfolding answer_from
says_again lim end s [] y e = ap (λ (o : Option Said). ended end o) e
says_again lim end s (x ∷ xs) y e = each (state_after lim s x.1) (λ n. says_again lim end n xs y) e
  where
    each : (o : Outcome State) → ((n : State) → accept lim n (plain xs) ≡ Some y → answer_from lim end n xs ≡ says y) → then (λ n. accept lim n (plain xs)) o ≡ Some y
        → gone x.0 (λ n. answer_from lim end n xs) o ≡ says y
    each (Goes n) k g = k n g
    each Wrong k g = cc
    each Deep k g = cc

-- Whatever was read, a statement goes on.

reads_to : (lim : Limits) (whole : List Token) (s n : State) (ts rest : List Token) → Reads lim whole s (ts ++ rest) → after lim s ts ≡ Some n → Reads lim whole n rest
reads_to lim whole s n [] rest r e = let P : State → Type 0 = λ x. Reads lim whole x rest in subst P (some_same s n e) r
reads_to lim whole s n (t ∷ ts) rest r e =
    let m = goes_from (λ next. after lim next ts) (state_after lim s t) n e in
    reads_to lim whole m.0 n ts rest (state_steps lim whole s m.0 t (ts ++ rest) r m.1) m.2

some_of : {A : Type 0} (o : Option A) → is_some o ≡ true → (x : A) × (o ≡ Some x)
some_of None e = cc
some_of (Some x) e = (x, refl)

pub continues : (lim : Limits) (ts : List Token) (n : State) → after lim begun ts ≡ Some n → Continues lim ts
continues lim ts n e =
    let r : Reads lim (ts ++ []) n [] = reads_to lim (ts ++ []) begun n ts [] refl e in
    let g = state_goes lim (ts ++ []) n [] r in
    let x = some_of (accept lim n g.0) g.1 in
    let a : accept lim begun (ts ++ g.0) ≡ Some x.0 = accept_more lim begun ts g.0 ∙ ap (λ (o : Option State). and_accept lim o g.0) e ∙ x.1 in
    (g.0, x.0, sound lim (ts ++ g.0) x.0 a)

after_more : (lim : Limits) (s n : State) (ts : List Token) (t : Token) → after lim s ts ≡ Some n → after lim s (ts ++ t ∷ []) ≡ then (λ x. Some x) (state_after lim n t)
after_more lim s n [] t e = let q : s ≡ n = some_same s n e in ap (λ (x : State). then (λ y. Some y) (state_after lim x t)) q
after_more lim s n (u ∷ ts) t e =
    let m = goes_from (λ next. after lim next ts) (state_after lim s u) n e in
    ap (λ (o : Outcome State). then (λ x. after lim x (ts ++ t ∷ [])) o) m.1 ∙ after_more lim m.0 n ts t m.2

-- what goes on was read
reached : (lim : Limits) (o : Option State) (more : List Token) (x : Said) → and_accept lim o more ≡ Some x → is_some o ≡ true
reached lim None more x e = cc
reached lim (Some s) more x e = refl

pub stops : (lim : Limits) (ts : List Token) (n : State) (t : Token) → after lim begun ts ≡ Some n → (state_after lim n t ≡ Wrong) ⊎ (state_after lim n t ≡ Deep) → Continues lim (ts ++ t ∷ []) → ⊥
stops lim ts n t e o c =
    let a = complete lim ((ts ++ t ∷ []) ++ c.0) c.1 c.2 in
    let b = reached lim (after lim begun (ts ++ t ∷ [])) c.0 c.1 (sym (accept_more lim begun (ts ++ t ∷ []) c.0) ∙ a) in
    let d = ap (λ (x : Option State). is_some x) (after_more lim begun n ts t e) in
    none o (sym d ∙ b)
  where
    none : (state_after lim n t ≡ Wrong) ⊎ (state_after lim n t ≡ Deep) → is_some (then (λ x. Some x) (state_after lim n t)) ≡ true → ⊥
    none (inl f) g = let h : false ≡ true = ap (λ (y : Outcome State). is_some (then (λ x. Some x) y)) (sym f) ∙ g in cc
    none (inr f) g = let h : false ≡ true = ap (λ (y : Outcome State). is_some (then (λ x. Some x) y)) (sym f) ∙ g in cc

-- Wider limits.

goes_wider : (lim m : Limits) (s n : State) (t : Token) → Narrower lim m → state_after lim s t ≡ Goes n → state_after m s t ≡ Goes n
goes_wider lim m s n t w e = let P : Outcome State → Type 0 = λ o. Widens o (state_after m s t) in subst P e (state_widens lim m w s t)

wrong_wider : (lim m : Limits) (s : State) (t : Token) → Narrower lim m → state_after lim s t ≡ Wrong → state_after m s t ≡ Wrong
wrong_wider lim m s t w e = let P : Outcome State → Type 0 = λ o. Widens o (state_after m s t) in subst P e (state_widens lim m w s t)

deep_wider : (lim m : Limits) (s : State) (t : Token) → Narrower lim m → state_after lim s t ≡ Deep → state_after m s t ≡ Wrong → ⊥
deep_wider lim m s t w e = let P : Outcome State → Type 0 = λ o. Widens o (state_after m s t) in subst P e (state_widens lim m w s t)

after_wider : (lim m : Limits) (s n : State) (ts : List Token) → Narrower lim m → after lim s ts ≡ Some n → after m s ts ≡ Some n
after_wider lim m s n [] w e = e
after_wider lim m s n (t ∷ ts) w e =
    let k = goes_from (λ next. after lim next ts) (state_after lim s t) n e in
    ap (λ (o : Outcome State). then (λ x. after m x ts) o) (goes_wider lim m s k.0 t w k.1) ∙ after_wider lim m k.0 n ts w k.2

abbrev both : Limits → Limits → Limits
both a b = record { open_most = a.open_most + b.open_most; joins_most = a.joins_most + b.joins_most }

pub never : (lim wider : Limits) (ts : List Token) (n : State) (t : Token) → after lim begun ts ≡ Some n → state_after lim n t ≡ Wrong → Continues wider (ts ++ t ∷ []) → ⊥
never lim wider ts n t e f c =
    let m : Limits = both lim wider in
    let a : Narrower lim m = record { open_least = omega arith; joins_least = omega arith } in
    let b : Narrower wider m = record { open_least = omega arith; joins_least = omega arith } in
    stops m ts n t (after_wider lim m begun n ts a e) (inl (wrong_wider lim m n t a f)) (c.0, c.1, says_widens wider m b ((ts ++ t ∷ []) ++ c.0) c.1 c.2)

before_deep : (o : Option Head) → outcome_map before (went o) ≡ Deep → ⊥
before_deep None e = cc
before_deep (Some h) e = cc

within_deep : (d : tasks.Task) (n : List ℕ) (o : Outcome Standing) → outcome_map (λ x. within d n x) o ≡ Deep → o ≡ Deep
within_deep d n (Goes x) e = cc
within_deep d n Wrong e = cc
within_deep d n Deep e = refl

goes_of : (o : Outcome State) → (o ≡ Wrong → ⊥) → (o ≡ Deep → ⊥) → (n : State) × (o ≡ Goes n)
goes_of (Goes n) w d = (n, refl)
goes_of Wrong w d = absurd (w refl)
goes_of Deep w d = absurd (d refl)

-- before a condition nothing is too deep
before_never : (lim : Limits) (h : Head) (t : Token) → state_after lim (before h) t ≡ Deep → ⊥
before_never lim (head.Query (query.Named d n)) t e = where_never d n (is_word (codes "where") t) e
  where
    where_never : (d : tasks.Task) (n : List ℕ) (b : Bool) → cond b (Goes (within d n no_condition)) Wrong ≡ Deep → ⊥
    where_never d n true e = cc
    where_never d n false e = cc
before_never lim (head.Query query.Explain) t e = before_deep (head_after (head.Query query.Explain) t) e
before_never lim (head.Query query.Analyze) t e = before_deep (head_after (head.Query query.Analyze) t) e
before_never lim (head.Query (query.Select x)) t e = before_deep (head_after (head.Query (query.Select x)) t) e
before_never lim (head.Query (query.Next x ns)) t e = before_deep (head_after (head.Query (query.Next x ns)) t) e
before_never lim (head.Query (query.Listed x ns)) t e = before_deep (head_after (head.Query (query.Listed x ns)) t) e
before_never lim (head.Query (query.Task d)) t e = before_deep (head_after (head.Query (query.Task d)) t) e
before_never lim (head.Query (query.From d)) t e = before_deep (head_after (head.Query (query.From d)) t) e
before_never lim head.Start t e = before_deep (head_after head.Start t) e
before_never lim head.Create t e = before_deep (head_after head.Create t) e
before_never lim head.Drop t e = before_deep (head_after head.Drop t) e
before_never lim (head.Word x) t e = before_deep (head_after (head.Word x) t) e
before_never lim (head.Verb x) t e = before_deep (head_after (head.Verb x) t) e
before_never lim (head.Named x n) t e = before_deep (head_after (head.Named x n) t) e
before_never lim (head.Table x) t e = before_deep (head_after (head.Table x) t) e
before_never lim (head.Index x) t e = before_deep (head_after (head.Index x) t) e
before_never lim (head.Insert x) t e = before_deep (head_after (head.Insert x) t) e

-- limits under which the token goes on
room : Limits → State → Limits
room lim (before h) = lim
room lim (within d n s) = record { open_most = lim.open_most + suc (length s.nest.frames); joins_most = lim.joins_most + suc s.nest.joins }

room_narrower : (lim : Limits) (s : State) → Narrower lim (room lim s)
unfolding room
room_narrower lim (before h) = record { open_least = omega arith; joins_least = omega arith }
room_narrower lim (within d n s) = record { open_least = omega arith; joins_least = omega arith }

in_room : (lim : Limits) (s : State) (t : Token) → state_after lim s t ≡ Deep → state_after (room lim s) s t ≡ Deep → ⊥
unfolding room
in_room lim (before h) t e f = before_never lim h t e
in_room lim (within d n s) t e f =
    part_goes (room lim (within d n s)) s.nest t s.part (record { open_wide = omega arith; joins_wide = omega arith })
    (within_deep d n (condition_after (room lim (within d n s)) s t) f)

pub wider_goes : (lim : Limits) (ts : List Token) (n : State) (t : Token) → after lim begun ts ≡ Some n → state_after lim n t ≡ Deep → (wider : Limits) × Continues wider (ts ++ t ∷ [])
wider_goes lim ts n t e f =
    let m : Limits = room lim n in
    let w = room_narrower lim n in
    let g = goes_of (state_after m n t) (deep_wider lim m n t w f) (in_room lim n t f) in
    let r : after m begun (ts ++ t ∷ []) ≡ Some g.0 = after_more m begun n ts t (after_wider lim m begun n ts w e) ∙ ap (λ (o : Outcome State). then (λ x. Some x) o) g.1 in
    (m, continues m (ts ++ t ∷ []) g.0 r)

-- The answer to a piece.

abbrev fault_at : (xs : List (ℕ × Token)) (at : ℕ) (o : Outcome State) (s : Stuck limits begun xs at o) → (state_after limits s.state s.token ≡ Wrong) ⊎ (state_after limits s.state s.token ≡ Deep) → FirstFault xs at
fault_at xs at o s k = record {
  front = s.front;
  token = s.token;
  behind = s.behind;
  parts = s.parts;
  goes = continues limits (plain s.front) s.state s.reached;
  ends = stops limits (plain s.front) s.state s.token s.reached k;
}

abbrev chosen : Bool → List ℕ → Answer
chosen b piece = cond b (wrong_at (text_len piece)) (answer_from limits (length piece) begun (tokens_of piece))

text_from : (piece : List ℕ) → text_len piece ≤ length piece → nat_lt (text_len piece) (length piece) ≡ false → IsText piece
text_from piece l e = let n : length piece ≤ text_len piece = grind (arith, nat_tests) in omega arith

is_said : (piece : List ℕ) (y : Said) (b : Bool) → text_len piece ≤ length piece → nat_lt (text_len piece) (length piece) ≡ b → chosen b piece ≡ says y → IsSaid piece y
is_said piece y true l e f = cc
is_said piece y false l e f = (text_from piece l e, sound limits (plain (tokens_of piece)) y (says_is limits (length piece) begun (tokens_of piece) y f))

pub said : (piece : List ℕ) (y : Said) → text_len piece ≤ length piece → answer_of piece ≡ says y → IsSaid piece y
said piece y l e = is_said piece y (nat_lt (text_len piece) (length piece)) l refl e

pub said_again : (piece : List ℕ) (y : Said) → IsSaid piece y → answer_of piece ≡ says y
said_again piece y s =
    let b : nat_lt (text_len piece) (length piece) ≡ false = (let e = s.0 in grind (arith, nat_tests)) in
    ap (λ (x : Bool). chosen x piece) b ∙ says_again limits (length piece) begun (tokens_of piece) y (complete limits (plain (tokens_of piece)) y s.1)

at_stuck : (piece : List ℕ) (at : ℕ) → IsText piece → Stuck limits begun (tokens_of piece) at Wrong ⊎ ((at ≡ length piece) × Ended limits begun (tokens_of piece)) → IsWrongAt piece at
at_stuck piece at t (inl s) = inr (inl (t, (fault_at (tokens_of piece) at Wrong s (inl s.is), λ wider c. never limits wider (plain s.front) s.state s.token s.reached s.is c)))
at_stuck piece at t (inr e) =
    let ts : List Token = plain (tokens_of piece) in
    let k = e.1 in
    inr (inr (t, e.0, continues limits ts k.state k.reached, λ y s. ended_none ts k.state y k.reached k.none (complete limits ts y s)))
  where
    ended_none : (ts : List Token) (n : State) (y : Said) → after limits begun ts ≡ Some n → said_at n ≡ None → accept limits begun ts ≡ Some y → ⊥
    ended_none ts n y r o a =
        let b : accept limits begun (ts ++ []) ≡ None = accept_more limits begun ts [] ∙ ap (λ (x : Option State). and_accept limits x []) r ∙ o in
        let c : accept limits begun (ts ++ []) ≡ Some y = ap (λ (us : List Token). accept limits begun us) (append-nil ts) ∙ a in
        let d : None ≡ Some y = sym b ∙ c in
        cc

is_wrong : (piece : List ℕ) (at : ℕ) (b : Bool) → text_len piece ≤ length piece → nat_lt (text_len piece) (length piece) ≡ b → chosen b piece ≡ wrong_at at → IsWrongAt piece at
is_wrong piece at true l e f = let n : text_len piece < length piece = grind (arith, nat_tests) in inl (n, sym (wrong_same (text_len piece) at f))
is_wrong piece at false l e f = at_stuck piece at (text_from piece l e) (wrong_is limits (length piece) begun (tokens_of piece) at f)

pub wrong : (piece : List ℕ) (at : ℕ) → text_len piece ≤ length piece → answer_of piece ≡ wrong_at at → IsWrongAt piece at
wrong piece at l e = is_wrong piece at (nat_lt (text_len piece) (length piece)) l refl e

is_deep : (piece : List ℕ) (b : Bool) → text_len piece ≤ length piece → nat_lt (text_len piece) (length piece) ≡ b → chosen b piece ≡ too_deep → IsTooDeep piece
is_deep piece true l e f = cc
is_deep piece false l e f =
    let d = deep_is limits (length piece) begun (tokens_of piece) f in
    let s = d.1 in
    let w = wider_goes limits (plain s.front) s.state s.token s.reached s.is in
    (text_from piece l e, (d.0, fault_at (tokens_of piece) d.0 Deep s (inr s.is), w.0, w.1))

pub deep : (piece : List ℕ) → text_len piece ≤ length piece → answer_of piece ≡ too_deep → IsTooDeep piece
deep piece l e = is_deep piece (nat_lt (text_len piece) (length piece)) l refl e

pub text_within : (piece : List ℕ) → text_len piece ≤ length piece
text_within piece = let l = utf8_valid_len_le piece in omega arith

-- the fault that an error tells
pub fault : (piece : List ℕ) (e : ParseError) → Tells (answer_of piece) e → IsFault piece e
fault piece (error.Syntax at) t = wrong piece at (text_within piece) t
fault piece error.TooDeep t = deep piece (text_within piece) t
fault piece error.Memory t = tt

pub told : (piece : List ℕ) (r : Result Statement ParseError) → MatchResult r (λ s. answer_of piece ≡ says (said_of s)) (λ e. Tells (answer_of piece) e)
    → MatchResult r (λ s. IsSaid piece (said_of s)) (λ e. IsFault piece e)
told piece (Ok s) t = said piece (said_of s) (text_within piece) t
told piece (Err e) t = fault piece e t
