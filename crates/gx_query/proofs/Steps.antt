-- Steps of statements that look for rows, and what they cost.
use Rattle.std.proofs.Common.{◌≡◌, inl, inr, ℕ, ◌+◌, ◌*◌, List, [], ◌++◌, length, Option, None, Some, refl, sym, ◌∙◌, ap, subst}
use Rattle.std.specs.Prelude.{codes, IsSomeAnd}
use Rattle.std.specs.Fmt.{decimal}
use Rattle.gx_parse.specs.Said.{Said, Query, Select, Explain, Delete}
use Rattle.gx_parse.specs.Trees.{Tree}
use Rattle.gx_model.specs.Checks.{Check, Find}
use Rattle.gx_model.specs.Conditions.{BindsWhere, where_checks}
use Rattle.gx_model.specs.Database.{Database, Table, table_named, with_table}
use Rattle.gx_model.specs.Faults.{checks, found_checks}
use Rattle.gx_model.proofs.WholePlans.{whole_found, whole_where}
use Rattle.gx_model.specs.Plans.{Plan, Whole, found, plan_where, plan_text, price}
use Rattle.gx_model.specs.Replies.{Reply, accepted, line, refusal}
use Rattle.gx_model.specs.Steps.{Stepped, Steps, Costs, QueryCosts, CostsTwice, Selects, Explains, Deletes, selected, selection, explanation, others, unchanged}
use Rattle.gx_model.specs.Truth.{Bound}
use Rattle.gx_query.specs.Answers.{Refused, Passes, Answers, checks_of, select_reply, explain_reply, explained_reply, delete_reply}

-- no table of the name is there
pub none_found : (o : Option Table) (more : Table → List Check) → o ≡ None → Find (found_checks o more) (Some 2)
none_found o more none = subst (λ (p : Option Table). Find (found_checks p more) (Some 2)) (sym none) (inr (2, (refl, refl), refl))

-- what is found of the table that is there
pub some_found : (o : Option Table) (t : Table) (more : Table → List Check) (found : Option ℕ) → o ≡ Some t → Find (more t) found → Find (found_checks o more) found
some_found o t more found some find = subst (λ (p : Option Table). Find (found_checks p more) found) (sym some) find

of_table : (o : Option Table) (t : Table) (Q : Table → Type 0) → o ≡ Some t → Q t → IsSomeAnd o Q
of_table o t Q some so = subst (λ (p : Option Table). IsSomeAnd p Q) (sym some) so

pub table_of : (o : Option Table) (t : Table) (Q : Table → Type 0) → o ≡ Some t → IsSomeAnd o Q → Q t
table_of o t Q some so = subst (λ (p : Option Table). IsSomeAnd p Q) some so

refused_step : (db : Database) (said : Said) (reply : Reply) (n : ℕ) → Find (checks db said) (Some n) → reply ≡ refusal n → Steps db said (unchanged db reply)
refused_step db said reply n find is = inl (n, find, λ i. unchanged db (is i))

module _ (db : Database) (q : Query) (t : Table) (named : table_named db q.table ≡ Some t) where
  abbrev more : Table → List Check
  more u = checks_of u.columns q

  pub select_steps : (reply : Reply) → Answers (select_reply q t) q t reply → Steps db (Select q) (unchanged db reply)
  unfolding select_reply
  select_steps reply (inl refuses) = refused_step db (Select q) reply refuses.0 (some_found (table_named db q.table) t more (Some refuses.0) named refuses.1) refuses.2
  select_steps reply (inr allows) = inr (
    some_found (table_named db q.table) t more None named allows.0,
    of_table (table_named db q.table) t (Selects db q (unchanged db reply)) named
        (allows.1.0, allows.1.1, λ i. unchanged db (allows.1.2 i)),
  )

  pub explain_steps : db.indexes ≡ [] → (reply : Reply) → Answers (explain_reply t) q t reply → Steps db (Explain q) (unchanged db reply)
  unfolding explained_reply
  explain_steps bare reply (inl refuses) = refused_step db (Explain q) reply refuses.0 (some_found (table_named db q.table) t more (Some refuses.0) named refuses.1) refuses.2
  explain_steps bare reply (inr allows) =
      let condition = allows.1.0 in
      let whole : plan_where db t condition ≡ Whole = whole_where db t condition bare in
      let all : found db t condition ≡ t.rows = whole_found db t condition whole in
      inr (
        some_found (table_named db q.table) t more None named allows.0,
        of_table (table_named db q.table) t (Explains db q (unchanged db reply)) named (
          condition,
          allows.1.1,
          λ i. unchanged db ((allows.1.2 ∙ sym (λ j. accepted (explanation (plan_text (whole j)) (length (all j)) (length (selected condition t))))) i),
        ),
      )

-- The database without the rows of which the condition is true.
abbrev pub deleted : Database → Table → Option Bound → Database
deleted db t condition = with_table db t.name (record t { rows = others condition t })

module _ (db : Database) (name : List ℕ) (tree : Option Tree) (t : Table) (named : table_named db name ≡ Some t) where
  pub delete_refused : (reply : Reply) → Refused (where_checks t.columns tree) reply → Steps db (Delete name tree) (unchanged db reply)
  delete_refused reply refuses = refused_step db (Delete name tree) reply refuses.0 (some_found (table_named db name) t (λ u. where_checks u.columns tree) (Some refuses.0) named refuses.1) refuses.2

  pub delete_steps : (condition : Option Bound) (reply : Reply) → Find (where_checks t.columns tree) None → BindsWhere t.columns tree condition → reply ≡ delete_reply t condition
      → Steps db (Delete name tree) (record { database = deleted db t condition; reply = reply; growth = 0 })
  unfolding delete_reply
  delete_steps condition reply find binds is = inr (
    some_found (table_named db name) t (λ u. where_checks u.columns tree) None named find,
    of_table (table_named db name) t (Deletes db tree (record { database = deleted db t condition; reply = reply; growth = 0 })) named
        (condition, binds, λ i. record { database = deleted db t condition; reply = is i; growth = 0 }),
  )

-- What a statement costs that fetches no page, or is accepted.

abbrev pub OneStep : Type 0
OneStep = (db : Database) (said : Said) (a b : Stepped) → Steps db said a → Steps db said b → a ≡ b

no_fault : (n : ℕ) → Some n ≡ None → ⊥
no_fault n is = cc

faults_differ : (db : Database) (a b : Stepped) (n : ℕ) (bytes : List ℕ) → a ≡ b → a.reply ≡ refusal n → b.reply ≡ accepted bytes → ⊥
faults_differ db a b n bytes same first second = no_fault n (ap (λ (r : Reply). r.fault) (sym first ∙ ap (λ (s : Stepped). s.reply) same ∙ second))

-- a statement is accepted and refused
pub not_both : OneStep → (db : Database) (said : Said) (n : ℕ) (new : Database) (bytes : List ℕ) → Find (checks db said) (Some n) → Steps db said (record { database = new; reply = accepted bytes; growth = 0 }) → ⊥
not_both one db said n new bytes find step =
    faults_differ db (unchanged db (refusal n)) (record { database = new; reply = accepted bytes; growth = 0 }) n bytes
    (one db said (unchanged db (refusal n)) (record { database = new; reply = accepted bytes; growth = 0 }) (inl (n, find, refl)) step) refl refl

query_cost : (db : Database) (tree : Option Tree) (t : Table) (n : ℕ) → db.indexes ≡ [] → QueryCosts db tree n t → n ≡ t.next + 1
query_cost db tree t n bare costs = costs.2 ∙ ap (λ (p : Plan). price p t (length (found db t costs.0))) (whole_where db t costs.0 bare)

pub select_costs : OneStep → (db : Database) (q : Query) (t : Table) → table_named db q.table ≡ Some t → db.indexes ≡ [] → Passes (checks_of t.columns q) t.columns q.condition → (n : ℕ) → Costs db (Select q) n
    → n ≡ t.next + 1
unfolding select_reply
select_costs one db q t named bare passes n (inl refuses) =
    absurd (not_both one db (Select q) refuses.0 db (selection t q.columns (selected passes.1.0 t)) refuses.1 (select_steps db q t named (accepted (selection t q.columns (selected passes.1.0 t))) (inr (passes.0, (passes.1.0, passes.1.1, refl)))))
select_costs one db q t named bare passes n (inr allows) = query_cost db q.condition t n bare (table_of (table_named db q.table) t (QueryCosts db q.condition n) named allows.1)

pub explain_costs : OneStep → (db : Database) (q : Query) (t : Table) → table_named db q.table ≡ Some t → db.indexes ≡ [] → Passes (checks_of t.columns q) t.columns q.condition → (n : ℕ) → Costs db (Explain q) n
    → n ≡ t.next + 1
unfolding explained_reply
explain_costs one db q t named bare passes n (inl refuses) =
    let bytes = explanation (codes "*") (length t.rows) (length (selected passes.1.0 t)) in
    absurd (not_both one db (Explain q) refuses.0 db bytes refuses.1 (explain_steps db q t named bare (accepted bytes) (inr (passes.0, (passes.1.0, passes.1.1, refl)))))
explain_costs one db q t named bare passes n (inr allows) = query_cost db q.condition t n bare (table_of (table_named db q.table) t (QueryCosts db q.condition n) named allows.1)

pub delete_costs : OneStep → (db : Database) (name : List ℕ) (tree : Option Tree) (t : Table) → table_named db name ≡ Some t → db.indexes ≡ [] → Passes (where_checks t.columns tree) t.columns tree → (n : ℕ)
    → Costs db (Delete name tree) n → n ≡ 2 * (t.next + 1)
unfolding delete_reply
delete_costs one db name tree t named bare passes n (inl refuses) =
    absurd (not_both one db (Delete name tree) refuses.0 (deleted db t passes.1.0) (line (codes "DELETE " ++ decimal (length (selected passes.1.0 t)))) refuses.1
    (delete_steps db name tree t named passes.1.0 (delete_reply t passes.1.0) passes.0 passes.1.1 refl))
delete_costs one db name tree t named bare passes n (inr allows) =
    let costs = table_of (table_named db name) t (CostsTwice db tree n) named allows.1 in
    costs.2 ∙ ap (λ (k : ℕ). 2 * k) (query_cost db tree t costs.0 bare costs.1)
