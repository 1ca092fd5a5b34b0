-- A piece has one cost in a session.
use Rattle.std.proofs.Common.{◌≡◌, ◌⊎◌, inl, inr, ℕ, ◌+◌, ◌*◌, List, Option, Some, None, sym, ◌∙◌, ap}
use Rattle.gx_parse.specs.Answers.{Answer, says, wrong_at, too_deep}
use Rattle.gx_parse.specs.Said.{Said, DropTable, CreateIndex, Insert, Delete, Select, Explain, Vacuum}
use Rattle.gx_parse.specs.Trees.{Tree}
use Rattle.gx_model.specs.Checks.{Check, Find}
use Rattle.gx_model.specs.Database.{Database, Table, table_named}
use Rattle.gx_model.specs.Faults.{checks}
use Rattle.gx_model.specs.Plans.{price_where}
use Rattle.gx_model.specs.Steps.{QueryCosts, CostsTwice, CostsOf, Costs}
use Rattle.gx_model.specs.Truth.{Bound}
use Rattle.gx_model.specs.Turns.{Session, Block, idle, begun, failed, CostsRefused, CostsBegun, CostsIn, CostsBy, TurnCosts, reading_of}
use Rattle.gx_model.proofs.OneTurn.{Facts, found_both, one_where}
use Rattle.gx_model.proofs.Tables.{there, of_some}

of_query : Facts → (db : Database) (tree : Option Tree) (a b : ℕ) (t : Table) → QueryCosts db tree a t → QueryCosts db tree b t → a ≡ b
of_query facts db tree a b t h k =
    h.2 ∙ ap (λ (c : Option Bound). price_where db t c) (one_where facts t.columns tree h.0 k.0 h.1 k.1) ∙ sym k.2

of_twice : Facts → (db : Database) (tree : Option Tree) (a b : ℕ) (t : Table) → CostsTwice db tree a t → CostsTwice db tree b t → a ≡ b
of_twice facts db tree a b t h k = h.2 ∙ ap (λ (n : ℕ). 2 * n) (of_query facts db tree h.0 k.0 t h.1 k.1) ∙ sym k.2

of_accepted : Facts → (db : Database) (said : Said) (a b : ℕ) → CostsOf db said a → CostsOf db said b → a ≡ b
of_accepted facts db (DropTable name) a b p q =
    let k = there (table_named db name) (λ t. a ≡ t.next + 1) p in k.2 ∙ sym (of_some (table_named db name) (λ t. b ≡ t.next + 1) k.0 k.1 q)
of_accepted facts db (CreateIndex name table method column class parameter) a b p q =
    let k = there (table_named db table) (λ t. a ≡ t.next + 1) p in k.2 ∙ sym (of_some (table_named db table) (λ t. b ≡ t.next + 1) k.0 k.1 q)
of_accepted facts db (Delete table tree) a b p q =
    let k = there (table_named db table) (CostsTwice db tree a) p in of_twice facts db tree a b k.0 k.2 (of_some (table_named db table) (CostsTwice db tree b) k.0 k.1 q)
of_accepted facts db (Select query) a b p q =
    let k = there (table_named db query.table) (QueryCosts db query.condition a) p in
    of_query facts db query.condition a b k.0 k.2 (of_some (table_named db query.table) (QueryCosts db query.condition b) k.0 k.1 q)
of_accepted facts db (Explain query) a b p q =
    let k = there (table_named db query.table) (QueryCosts db query.condition a) p in
    of_query facts db query.condition a b k.0 k.2 (of_some (table_named db query.table) (QueryCosts db query.condition b) k.0 k.1 q)
of_accepted facts db (Vacuum name) a b p q =
    let k = there (table_named db name) (λ t. a ≡ 2 * (t.next + 1)) p in k.2 ∙ sym (of_some (table_named db name) (λ t. b ≡ 2 * (t.next + 1)) k.0 k.1 q)
of_accepted facts db said a b p q = p ∙ sym q

of_checked : Facts → (cs : List Check) (C : ℕ → Type 0) → ((a b : ℕ) → C a → C b → a ≡ b) → (a b : ℕ) → ((n : ℕ) × Find cs (Some n) × (a ≡ 0)) ⊎ (Find cs None × C a)
    → ((n : ℕ) × Find cs (Some n) × (b ≡ 0)) ⊎ (Find cs None × C b) → a ≡ b
of_checked facts cs C one a b (inl p) (inl q) = p.2 ∙ sym q.2
of_checked facts cs C one a b (inl p) (inr q) = absurd (found_both facts cs p.0 p.1 q.0)
of_checked facts cs C one a b (inr p) (inl q) = absurd (found_both facts cs q.0 q.1 p.0)
of_checked facts cs C one a b (inr p) (inr q) = one a b p.1 q.1

of_statement : Facts → (db : Database) (said : Said) (a b : ℕ) → Costs db said a → Costs db said b → a ≡ b
of_statement facts db (Insert table listed rows) a b p q = p ∙ sym q
of_statement facts db said a b p q = of_checked facts (checks db said) (CostsOf db said) (of_accepted facts db said) a b p q

of_refused : (said : Said) (a b : ℕ) → CostsRefused said a → CostsRefused said b → a ≡ b
of_refused (Insert table listed rows) a b p q = p ∙ sym q
of_refused said a b p q = p ∙ sym q

of_begun : Facts → (own : Database) (said : Said) (a b : ℕ) → CostsBegun own said a → CostsBegun own said b → a ≡ b
of_begun facts own (Vacuum table) a b p q = p ∙ sym q
of_begun facts own said a b p q = of_statement facts own said a b p q

of_block : Facts → (block : Block) (db : Database) (said : Said) (a b : ℕ) → CostsIn block db said a → CostsIn block db said b → a ≡ b
of_block facts idle db said a b p q = of_statement facts db said a b p q
of_block facts (begun own) db said a b p q = of_begun facts own said a b p q
of_block facts failed db said a b p q = of_refused said a b p q

of_reading : Facts → (reading : Option Answer) (session : Session) (a b : ℕ) → CostsBy reading session a → CostsBy reading session b → a ≡ b
of_reading facts None session a b p q = p ∙ sym q
of_reading facts (Some (says said)) session a b p q = of_block facts session.block session.committed said a b p q
of_reading facts (Some (wrong_at at)) session a b p q = p ∙ sym q
of_reading facts (Some too_deep) session a b p q = p ∙ sym q

pub one_cost : Facts → (session : Session) (piece : List ℕ) (a b : ℕ) → TurnCosts session piece a → TurnCosts session piece b → a ≡ b
one_cost facts session piece a b p q = of_reading facts (reading_of piece) session a b p q
