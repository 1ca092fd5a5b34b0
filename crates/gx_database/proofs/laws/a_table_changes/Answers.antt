use Rattle.gx_database.proofs.Exchange as tables
use Rattle.gx_database.proofs.laws.a_table_changes.Goals as goal

pub returns-clause-place : goal.returns-clause-place
returns-clause-place c = λ db name t infos stored h e. tables.place name t db.tables infos stored h e

pub returns-clause-exchange : goal.returns-clause-exchange
returns-clause-exchange c = λ db name t new infos stored p info s v n h. tables.exchanged db name t new infos stored p info s v.names n h

pub returns-clause-heap_set : goal.returns-clause-heap_set
returns-clause-heap_set c = tables.with_heap_mid

pub returns-clause-added : goal.returns-clause-added
returns-clause-added c = tables.added

pub returns-clause-dropped : goal.returns-clause-dropped
returns-clause-dropped c = λ db name t infos stored p v n. tables.dropped db name t infos stored p v.names n

pub returns-clause-taken_out : goal.returns-clause-taken_out
returns-clause-taken_out c = tables.without_mid
