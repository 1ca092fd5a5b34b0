use Rattle.std.proofs.Common.{◌≤◌, length, arith}
use Rattle.gx_catalog.proofs.TailFacts.{columns_new, new_columns}
use Rattle.gx_catalog.proofs.validity.are_columns.Goals as goal

pub returns : goal.returns
returns c = (
  λ yes.
      let new = columns_new c.args.columns.now (c.are_new_columns.ensures.0 yes) in
      record { few = (let few : length c.args.columns.now ≤ 32 = omega arith in few); named = new.0; distinct = new.1 },
  λ are. c.are_new_columns.ensures.1 (new_columns c.args.columns.now are.named are.distinct),
)
