use Rattle.gx_opr.proofs.operators.path_holds.Goals as goal

pub returns-in-Matches-Lquery : goal.returns-in-Matches-Lquery
returns-in-Matches-Lquery c = rw (c.in-Matches-Lquery.is-0, c.in-Matches-Lquery.is-1) c.matches.ensures

pub returns-in-Has-Lqueries : goal.returns-in-Has-Lqueries
returns-in-Has-Lqueries c = rw (c.in-Has-Lqueries.is-0, c.in-Has-Lqueries.is-1) c.matches-in-Has-Lqueries.ensures
