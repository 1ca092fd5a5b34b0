-- Without indexes the plan of each condition is the whole table; and where it is, each row is found.
use Rattle.std.proofs.Common.{◌≡◌, ℕ, ◌&&◌, ◌||◌, Bool, true, false, cond, List, [], ◌∷◌, filter, Option, Some, None, refl, sym, ◌∙◌, ap}
use Rattle.gx_value.specs.declared.operators.Operator.{Operator}
use Rattle.gx_value.specs.Values.{Datum}
use Rattle.gx_value.specs.Classes.{supports}
use Rattle.gx_model.specs.Database.{Database, Table, Row, Index}
use Rattle.gx_model.specs.Plans.{Plan, Whole, One, Both, Either, plan, plan_where, both, either, by_index, atom_plan, null_plan, index_where, found_by, found, is_found, is_found_where, is_found_of_atom, is_found_of_null}
use Rattle.gx_model.specs.Truth.{Bound, And, Or, Not, Atom, IsNull, Operand, field_at}

atom_whole : (name : List ℕ) (place : ℕ) (op : Operator) (operand : Option Operand) → plan [] name (Atom place op operand) ≡ Whole
atom_whole name place op None = refl
atom_whole name place op (Some operand) = refl

null_whole : (name : List ℕ) (place : ℕ) (negated : Bool) → plan [] name (IsNull place negated) ≡ Whole
null_whole name place false = refl
null_whole name place true = refl

pub whole_plan : (name : List ℕ) (b : Bound) → plan [] name b ≡ Whole
whole_plan name (And a b) = (λ i. both (whole_plan name a i) (plan [] name b)) ∙ whole_plan name b
whole_plan name (Or a b) = (λ i. either (whole_plan name a i) (plan [] name b))
whole_plan name (Not a) = refl
whole_plan name (Atom place op operand) = atom_whole name place op operand
whole_plan name (IsNull place negated) = null_whole name place negated

pub whole_where : (db : Database) (t : Table) (condition : Option Bound) → db.indexes ≡ [] → plan_where db t condition ≡ Whole
whole_where db t None none = refl
whole_where db t (Some b) none = ap (λ (l : List Index). plan l t.name b) none ∙ whole_plan t.name b

-- The sides of AND, and a side of OR, are whole where they are.

or_true : (x y : Bool) → y ≡ true → (x || y) ≡ true
or_true true y so = refl
or_true false y so = so

one_whole : (o : Option Index) (so : Index → Bool) → by_index o ≡ Whole → found_by o so ≡ true
one_whole None so whole = refl
one_whole (Some index) so whole = cc

both_left : (a b : Plan) → both a b ≡ Whole → a ≡ Whole
both_left Whole b whole = refl
both_left (One i) Whole whole = whole
both_left (One i) (One j) whole = cc
both_left (One i) (Both x y) whole = cc
both_left (One i) (Either x y) whole = cc
both_left (Both x y) Whole whole = whole
both_left (Both x y) (One j) whole = cc
both_left (Both x y) (Both z w) whole = cc
both_left (Both x y) (Either z w) whole = cc
both_left (Either x y) Whole whole = whole
both_left (Either x y) (One j) whole = cc
both_left (Either x y) (Both z w) whole = cc
both_left (Either x y) (Either z w) whole = cc

both_right : (a b : Plan) → both a b ≡ Whole → b ≡ Whole
both_right a b whole = ap (λ (p : Plan). both p b) (sym (both_left a b whole)) ∙ whole

-- by cases, whichever side of OR isn't the whole table
either_side : (a b : Plan) (x y : Bool) → either a b ≡ Whole → (a ≡ Whole → x ≡ true) → (b ≡ Whole → y ≡ true) → (x || y) ≡ true
either_side Whole b x y whole left right = ap (λ (z : Bool). z || y) (left refl)
either_side (One i) Whole x y whole left right = or_true x y (right refl)
either_side (One i) (One j) x y whole left right = cc
either_side (One i) (Both z w) x y whole left right = cc
either_side (One i) (Either z w) x y whole left right = cc
either_side (Both z w) Whole x y whole left right = or_true x y (right refl)
either_side (Both z w) (One j) x y whole left right = cc
either_side (Both z w) (Both v u) x y whole left right = cc
either_side (Both z w) (Either v u) x y whole left right = cc
either_side (Either z w) Whole x y whole left right = or_true x y (right refl)
either_side (Either z w) (One j) x y whole left right = cc
either_side (Either z w) (Both v u) x y whole left right = cc
either_side (Either z w) (Either v u) x y whole left right = cc

-- Where the plan is the whole table, each row is found.

module _ (indexes : List Index) (name : List ℕ) where
  atom_finds : (place : ℕ) (op : Operator) (operand : Option Operand) (field : Option Datum) → atom_plan indexes name place op operand ≡ Whole → is_found_of_atom indexes name place op operand field ≡ true
  atom_finds place op None field whole = refl
  atom_finds place op (Some operand) field whole = one_whole (index_where indexes name place (λ i. supports i.class op operand.kind)) _ whole

  null_finds : (place : ℕ) (negated : Bool) (field : Option Datum) → null_plan indexes name place negated ≡ Whole → is_found_of_null indexes name place negated field ≡ true
  null_finds place false field whole = one_whole (index_where indexes name place (λ i. true)) _ whole
  null_finds place true field whole = refl

  whole_finds : (b : Bound) (fields : List (Option Datum)) → plan indexes name b ≡ Whole → is_found indexes name b fields ≡ true
  whole_finds (And a b) fields whole =
      (λ i. whole_finds a fields (both_left (plan indexes name a) (plan indexes name b) whole) i && is_found indexes name b fields)
      ∙ whole_finds b fields (both_right (plan indexes name a) (plan indexes name b) whole)
  whole_finds (Or a b) fields whole =
      either_side (plan indexes name a) (plan indexes name b) (is_found indexes name a fields) (is_found indexes name b fields) whole (whole_finds a fields) (whole_finds b fields)
  whole_finds (Not a) fields whole = refl
  whole_finds (Atom place op operand) fields whole = atom_finds place op operand (field_at fields place) whole
  whole_finds (IsNull place negated) fields whole = null_finds place negated (field_at fields place) whole

each_found : (db : Database) (t : Table) (condition : Option Bound) → plan_where db t condition ≡ Whole → (row : Row) → is_found_where db t condition row ≡ true
each_found db t None whole row = refl
each_found db t (Some b) whole row = whole_finds db.indexes t.name b row.fields whole

kept_all : (p : Row → Bool) (rows : List Row) → ((row : Row) → p row ≡ true) → filter p rows ≡ rows
kept_all p [] each = refl
kept_all p (row ∷ rows) each = (λ i. cond (each row i) (row ∷ filter p rows) (filter p rows)) ∙ ap (λ (l : List Row). row ∷ l) (kept_all p rows each)

pub whole_found : (db : Database) (t : Table) (condition : Option Bound) → plan_where db t condition ≡ Whole → found db t condition ≡ t.rows
whole_found db t condition whole = kept_all (is_found_where db t condition) t.rows (each_found db t condition whole)
