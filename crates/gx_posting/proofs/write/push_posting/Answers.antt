use Rattle.std.proofs.Common.{refl}
use Rattle.gx_posting.proofs.PostingFacts.{few_pushed, pushed_list, row_pushed}
use Rattle.gx_posting.proofs.write.push_posting.Goals as goal

pub returns-clause-list : goal.returns-clause-list
returns-clause-list c =
    pushed_list _ _ c.args.last c.args.row (row_pushed _ _ _ _ c.args.row c.number_before-before.ensures c.in_default.ensures.ok) c.push_numbers.ensures.fit c.requires

pub returns-clause-behind : goal.returns-clause-behind
returns-clause-behind c = λ list. pushed_list list _ c.args.last c.args.row refl c.push_numbers.ensures.fit c.requires

pub returns-clause-few : goal.returns-clause-few
returns-clause-few c = few_pushed _ _ _ c.args.row c.push_numbers.ensures.fit (row_pushed _ _ _ _ c.args.row c.number_before-before.ensures c.in_default.ensures.ok)
