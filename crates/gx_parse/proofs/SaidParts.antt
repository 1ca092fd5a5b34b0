-- The words and the literals of a statement that tokens say.
use Rattle.std.proofs.Common.{◌≡◌, ℕ, Bool, true, false, cond, List, [], ◌∷◌, map, Option, Some, None, Result, Ok, Err, IfOk, MatchResult, refl, sym, subst, arith}
use Rattle.std.specs.List.{AllByRecursion}
use Rattle.gx_lexer.specs.declared.token.Token.{Token}
use Rattle.gx_lexer.specs.declared.token.Token.TheVariants as token
use Rattle.gx_lexer.specs.Names.{IsWord, HasWord}
use Rattle.gx_value.specs.Literals.{IsLiteral}
use Rattle.gx_parse.specs.declared.error.ParseError.{ParseError}
use Rattle.gx_parse.specs.declared.statement.Statement.{Statement}
use Rattle.gx_parse.specs.Answers.{says, answer_of, Tells}
use Rattle.gx_parse.specs.declared.statement.ColumnWord.{ColumnWord}
use Rattle.gx_parse.specs.declared.statement.TypeWord.{TypeWord}
use Rattle.gx_parse.specs.Faults.{plain}
use Rattle.gx_parse.specs.Grammar.{type_then, Bare, Phrase, literal_of, given_by, Cond, SaysTree, IsWhere, more_columns, columns_then, Says}
use Rattle.gx_parse.specs.Grammar.Item.{text, number}
use Rattle.gx_parse.specs.Grammar.Bare.{null, one, list}
use Rattle.gx_parse.specs.Grammar.Cond.{atom, is_null, group, negation, conj, disj}
use Rattle.gx_parse.specs.Outcomes.{Limits}
use Rattle.gx_parse.specs.Said.{Said, said_of, Nothing, CreateTable, DropTable, CreateIndex, DropIndex, Insert, Delete, Select, Explain, Vacuum, Checkpoint, Begin, Commit, Rollback}
use Rattle.gx_parse.specs.Sound.{IsGiven, TreeHasLiterals, WhereHasLiterals, RowsHaveLiterals, HasLiterals, IsName, HasNames, IsSound}
use Rattle.gx_parse.specs.Trees as trees

abbrev Words : List Token → Type 0
Words ts = AllByRecursion HasWord ts

pub of_places : (xs : List (ℕ × Token)) → AllByRecursion (λ x. HasWord x.1) xs → Words (plain xs)
of_places [] h = tt
of_places (x ∷ xs) h = (h.0, of_places xs h.1)

-- Literals.

literal_is : (b : Bare) → IsLiteral (literal_of b)
literal_is null = refl
literal_is (one (text t)) = (t, refl)
literal_is (one (number n)) = (n, refl)
literal_is (list is) = tt

row_has : (ps : List Phrase) → AllByRecursion IsGiven (map given_by ps)
row_has [] = tt
row_has (p ∷ ps) = (literal_is p.bare, row_has ps)

rows_have : (rs : List (List Phrase)) → RowsHaveLiterals (map (λ r. map given_by r) rs)
rows_have [] = tt
rows_have (r ∷ rs) = (row_has r, rows_have rs)

tree_has : (c : Cond) (t : trees.Tree) → SaysTree c t → TreeHasLiterals t
tree_has (atom column sign p) t s = subst TreeHasLiterals (sym s.3) (literal_is p.bare)
tree_has (is_null column negated) t s = subst TreeHasLiterals (sym s.1) tt
tree_has (group c) t s = tree_has c t s
tree_has (negation c) t s = subst TreeHasLiterals (sym s.3) (tree_has c s.0 s.1)
tree_has (conj c d) t s = subst TreeHasLiterals (sym s.6) (tree_has c s.0 s.2, tree_has d s.1 s.3)
tree_has (disj c d) t s = subst TreeHasLiterals (sym s.5) (tree_has c s.0 s.2, tree_has d s.1 s.3)

where_has : (lim : Limits) (t : Option trees.Tree) (ts : List Token) → IsWhere lim t ts → WhereHasLiterals t
where_has lim None ts w = tt
where_has lim (Some t) ts w = tree_has w.0 t w.2

said_has : (lim : Limits) (ts : List Token) (said : Said) → Says lim ts said → HasLiterals said
said_has lim ts (Insert table columns rows) s = subst RowsHaveLiterals (sym s.5) (rows_have s.0)
said_has lim ts (Delete table condition) s = where_has lim condition s.0 s.2
said_has lim ts (Select q) s = where_has lim q.condition s.0 s.3
said_has lim ts (Explain q) s = where_has lim q.condition s.1.0 s.1.3
said_has lim ts Nothing s = tt
said_has lim ts (CreateTable name columns) s = tt
said_has lim ts (DropTable name) s = tt
said_has lim ts (CreateIndex name table method column class parameter) s = tt
said_has lim ts (DropIndex name) s = tt
said_has lim ts (Vacuum table) s = tt
said_has lim ts Checkpoint s = tt
said_has lim ts Begin s = tt
said_has lim ts Commit s = tt
said_has lim ts Rollback s = tt

-- Names.

a_name : (w : List ℕ) → IsWord w → IsName w
a_name w h = record { some = h.some; most = omega arith }

behind_type_if : (l : Bool) (rest : List Token) → Words (cond l (token.OpenBracket ∷ token.CloseBracket ∷ rest) rest) → Words rest
behind_type_if true rest h = h.1.1
behind_type_if false rest h = h

behind_type : (w : TypeWord) (rest : List Token) → Words (type_then w rest) → Words rest
behind_type w rest h = behind_type_if w.list rest h.1

more_columns_named : (cs : List ColumnWord) (rest : List Token) → Words (more_columns cs rest) → AllByRecursion (λ (c : ColumnWord). IsName c.name) cs
more_columns_named [] rest h = tt
more_columns_named (c ∷ cs) rest h = (a_name c.name h.1.0, more_columns_named cs rest (behind_type c.kind (more_columns cs rest) h.1.1))

columns_named : (cs : List ColumnWord) (rest : List Token) → Words (columns_then cs rest) → AllByRecursion (λ (c : ColumnWord). IsName c.name) cs
columns_named [] rest h = tt
columns_named (c ∷ cs) rest h = (a_name c.name h.0, more_columns_named cs rest (behind_type c.kind (more_columns cs rest) h.1))

said_named : (lim : Limits) (ts : List Token) (said : Said) → Says lim ts said → Words ts → HasNames said
said_named lim ts (CreateTable name columns) s h = let k = subst Words s.3 h in (a_name name k.1.1.0, columns_named columns (token.Close ∷ []) k.1.1.1.1)
said_named lim ts (CreateIndex name table method column class parameter) s h = a_name name (subst Words s.4 h).1.1.0
said_named lim ts Nothing s h = tt
said_named lim ts (DropTable name) s h = tt
said_named lim ts (DropIndex name) s h = tt
said_named lim ts (Insert table columns rows) s h = tt
said_named lim ts (Delete table condition) s h = tt
said_named lim ts (Select q) s h = tt
said_named lim ts (Explain q) s h = tt
said_named lim ts (Vacuum table) s h = tt
said_named lim ts Checkpoint s h = tt
said_named lim ts Begin s h = tt
said_named lim ts Commit s h = tt
said_named lim ts Rollback s h = tt

pub said_sound : (lim : Limits) (ts : List Token) (said : Said) → Says lim ts said → Words ts → IsSound said
said_sound lim ts said s h = record { literals = said_has lim ts said s; names = said_named lim ts said s h }

pub told : ((piece : List ℕ) (said : Said) → answer_of piece ≡ says said → IsSound said)
    → (piece : List ℕ) (r : Result Statement ParseError) → MatchResult r (λ s. answer_of piece ≡ says (said_of s)) (λ e. Tells (answer_of piece) e) → IfOk r (λ s. IsSound (said_of s))
told law piece (Ok s) t = law piece (said_of s) t
told law piece (Err e) t = tt
