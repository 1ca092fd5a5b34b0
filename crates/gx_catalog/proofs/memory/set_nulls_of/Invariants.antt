use Rattle.std.proofs.Common.{◌≡◌, ◌++◌, take, drop}
use Rattle.gx_catalog.specs.Catalogs.{with_nulls}
use Rattle.gx_catalog.proofs.memory.set_nulls_of.Given as goal

abbrev pub invariant-loop-index : goal.invariant-loop-index
invariant-loop-index l = l.index-items ≡ with_nulls l.name l.nulls (take l.index-index l.fn.indexes.items) ++ drop l.index-index l.fn.indexes.items
