-- An engine that lends its store.
use Rattle.std.specs.Borrow.{Fml, RattleType, MutBor, Lends}
use Rattle.gx_engine.specs.declared.engine.Engine.{Engine}
use Rattle.gx_engine.specs.contracts.engine.Engine.{the_row}

module _ (P : RattleType) where
  abbrev pub lends_store : MutBor (Engine P.Denot) → MutBor P.Denot → Fml
  lends_store s r = Lends (the_row P) P s r (λ w. record s.now { store = w })
