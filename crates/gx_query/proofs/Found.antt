-- A table that the catalog finds is the database's table of the name, and what a statement that changes nothing leaves.
use Rattle.std.proofs.Common.{◌≡◌, ◌⊎◌, inl, inr, ℕ, ◌+◌, ◌^◌, ◌≤◌, Bool, true, false, cond, List, [], ◌∷◌, map, Option, None, Some, Result, Ok, Err, refl, sym, ◌∙◌, subst, arith}
use Rattle.std.specs.Prelude.{IfSome, IfOk, IfErr, bytes_eq, find}
use Rattle.std.specs.List.{AllByRecursion}
use Rattle.gx_pages.specs.declared.store.Pages.{Ghosts}
use Rattle.gx_pages.specs.Frees.{HasCount}
use Rattle.gx_value.specs.declared.fields.Column.{Column}
use Rattle.gx_catalog.specs.Catalogs.{Directory}
use Rattle.gx_catalog.specs.Validity as catalogs
use Rattle.gx_catalog.specs.declared.info.IndexInfo.{IndexInfo}
use Rattle.gx_catalog.specs.declared.info.TableInfo.{TableInfo}
use Rattle.gx_parse.specs.Said.{Query, Select, Explain}
use Rattle.gx_model.specs.Database as model
use Rattle.gx_model.specs.Database.{Database, Table, table_named}
use Rattle.gx_model.specs.Replies.{Reply, refusal}
use Rattle.gx_model.specs.Steps.{Costs}
use Rattle.gx_database.specs.Standing.{StandsFor}
use Rattle.gx_step.specs.Doing.{Done}
use Rattle.gx_step.specs.Opened.{IsLoaded}
use Rattle.gx_step.proofs.Found.{FindsNone, FindsTables}
use Rattle.gx_step.proofs.Names.{to_model}
use Rattle.gx_step.proofs.Same.{done_same, refused_done}
use Rattle.gx_query.specs.Answers.{Answers, Passes, checks_of, explain_reply, select_reply}
use Rattle.gx_query.specs.Tables.{HoldsTable}
use Rattle.gx_query.proofs.Standing.{feet_apart, parts, same_tables, table_held, table_same}
use Rattle.gx_query.proofs.Steps.{OneStep, explain_costs, explain_steps, none_found, select_costs, select_steps}

-- The columns of a table have different names.

first_or : {X : Type 0} (b : Bool) (Q : X → Type 0) (x y : X) (rest : Option X) → cond b (Some x) rest ≡ Some y → Q x → (rest ≡ Some y → Q y) → Q y
first_or true Q x y rest same here more = subst Q (let e : x ≡ y = (cc) in e) here
first_or false Q x y rest same here more = more same

none_some : {X : Type 0} (y : X) → None ≡ Some y → ⊥
none_some y same = cc

-- what is so of all is so of the one that is found
all_found : {X : Type 0} (p : X → Bool) (Q : X → Type 0) (xs : List X) (y : X) → find p xs ≡ Some y → AllByRecursion Q xs → Q y
all_found p Q [] y none all = absurd (none_some y none)
all_found p Q (x ∷ xs) y found all = first_or (p x) Q x y (find p xs) found all.0 (λ later. all_found p Q xs y later all.1)

pub columns_differ : (name : List ℕ) (tables : List TableInfo) (indexes : List IndexInfo) (info : TableInfo) → catalogs.AreCatalog tables indexes → catalogs.table_named name tables ≡ Some info
    → model.AreDistinct (map (λ (c : Column). c.name) info.columns)
columns_differ name tables indexes info valid found =
    to_model (map (λ (c : Column). c.name) info.columns) (all_found (λ (t : TableInfo). bytes_eq t.name name) catalogs.IsTable tables info found valid.each_table).columns.distinct

-- Results.

pub ok_map : {T E : Type 0} (r : Result T E) (P Q : T → Type 0) → ((x : T) → P x → Q x) → IfOk r P → IfOk r Q
ok_map (Ok x) P Q more has = more x has
ok_map (Err e) P Q more has = tt

pub err_map : {T E : Type 0} (r : Result T E) (P Q : E → Type 0) → ((e : E) → P e → Q e) → IfErr r P → IfErr r Q
err_map (Ok x) P Q more has = tt
err_map (Err e) P Q more has = more e has

-- The database's table of a name, that the pages hold. The database has no index.
pub record Found {P : Type 0} (g : Ghosts P) (pages : P) (db : Database) (name : List ℕ) (info : TableInfo) : Type 0 where
  pub table : Table
  pub named : table_named db name ≡ Some table
  pub bare : db.indexes ≡ []
  pub held : HoldsTable g pages info table

module _ {P : Type 0} (g : Ghosts P) (old new : P) (db : Database) (s : StandsFor (g.map old) db) (counted : IfSome (g.map old 0) (λ header. HasCount header (g.count old))) (bounded : g.count old ≤ 2 ^ 50) where
  module _ (catalog : Directory) (loaded : IsLoaded g old new catalog) (name slice : List ℕ) (is_name : slice ≡ name) where
    same : catalog.tables ≡ s.infos
    same = same_tables g old db s counted bounded catalog.tables (λ others indexes feet free stores frees apart. (loaded others indexes feet free stores frees apart).0)

    -- the catalog that is read has no index
    pub no_indexes : catalog.indexes ≡ []
    no_indexes =
        let here = parts g old db s counted bounded in
        (loaded s.infos [] s.feet s.free here.catalog here.frees (feet_apart g old db s counted bounded)).1

    in_infos : (o : Option TableInfo) → o ≡ catalogs.table_named slice catalog.tables → catalogs.table_named name s.infos ≡ o
    in_infos o is = sym (is ∙ (λ i. catalogs.table_named (is_name i) (same i)))

    pub table_found : FindsTables → g.map new ≡ g.map old → g.count new ≡ g.count old → (info : TableInfo) → Some info ≡ catalogs.table_named slice catalog.tables → Found g new db name info
    table_found finds map count info is =
        let found = finds db s.infos s.stored name info s.tables (in_infos (Some info) is) in
        record {
          table = found.0;
          named = found.1;
          bare = s.valid.no_index;
          held = table_same g old new info found.0 map count (table_held g old db s counted bounded name info found.0 found.2 found.3);
        }

    pub table_missing : FindsNone → None ≡ catalogs.table_named slice catalog.tables → table_named db name ≡ None
    table_missing finds is = finds db s.infos s.stored name s.tables (in_infos None is)

module _ {P : Type 0} (g : Ghosts P) (old mid new : P) (db : Database) (q : Query) (info : TableInfo) (s : StandsFor (g.map old) db) (f : Found g mid db q.table info) where
  pub select_done : g.map new ≡ g.map old → g.count new ≡ g.count old → (reply : Reply) → Answers (select_reply q f.table) q f.table reply → Done g old new (Select q) db reply
  select_done map count reply answers = done_same g old new (Select q) db reply reply s map count (select_steps db q f.table f.named reply answers) refl tt

  pub explain_done : g.map new ≡ g.map old → g.count new ≡ g.count old → (reply : Reply) → Answers (explain_reply f.table) q f.table reply → Done g old new (Explain q) db reply
  explain_done map count reply answers = done_same g old new (Explain q) db reply reply s map count (explain_steps db q f.table f.named f.bare reply answers) refl tt

  its_next : info.heap.next ≡ f.table.next
  its_next = f.held.stored.next

  passes : Passes (checks_of info.columns q) info.columns q.condition → Passes (checks_of f.table.columns q) f.table.columns q.condition
  passes here = subst (λ (cs : List Column). Passes (checks_of cs q) cs q.condition) f.held.stored.columns here

  pub select_most : OneStep → (before after n : ℕ) → (after ≡ before) ⊎ (Passes (checks_of info.columns q) info.columns q.condition × (after ≤ before + info.heap.next)) → Costs db (Select q) n → after ≤ before + n
  select_most one before after n (inl same) cost = omega (arith, same)
  select_most one before after n (inr more) cost =
      let is = select_costs one db q f.table f.named f.bare (passes more.0) n cost in let last = more.1 in let next = its_next in omega (arith, is, last, next)

  pub explain_most : OneStep → (before after n : ℕ) → (after ≡ before) ⊎ (Passes (checks_of info.columns q) info.columns q.condition × (after ≤ before + info.heap.next)) → Costs db (Explain q) n → after ≤ before + n
  explain_most one before after n (inl same) cost = omega (arith, same)
  explain_most one before after n (inr more) cost =
      let is = explain_costs one db q f.table f.named f.bare (passes more.0) n cost in let last = more.1 in let next = its_next in omega (arith, is, last, next)

module _ {P : Type 0} (g : Ghosts P) (old new : P) (db : Database) (q : Query) (s : StandsFor (g.map old) db) (missing : table_named db q.table ≡ None) (map : g.map new ≡ g.map old) (count : g.count new ≡ g.count old) where
  pub select_lacks : (reply : Reply) → reply ≡ refusal 2 → Done g old new (Select q) db reply
  select_lacks reply is = refused_done g old new (Select q) db 2 reply map count s (none_found (table_named db q.table) (λ t. checks_of t.columns q) missing) is

  pub explain_lacks : (reply : Reply) → reply ≡ refusal 2 → Done g old new (Explain q) db reply
  explain_lacks reply is = refused_done g old new (Explain q) db 2 reply map count s (none_found (table_named db q.table) (λ t. checks_of t.columns q) missing) is
