use Rattle.gx_query.proofs.Narrowing.{narrows_more, narrows_never, ok_weaker}
use Rattle.gx_query.proofs.narrow.+narrow.Goals as goal

pub returns-in_default-take_field : goal.returns-in_default-take_field
returns-in_default-take_field t c =
    narrows_never c.args.wanted.now c.in-Some.more.now c.in-Some.want.now c.args.bytes.now c.args.to.now c.args.to.now c.in-Some.ensures.cases.0 c.in_default-take_field.ensures

pub returns : goal.returns
returns t c =
    ok_weaker c.narrow.result _ _ (λ so narrows.
    narrows_more c.args.wanted.now c.in-Some.more.now c.in-Some.want.now so c.args.bytes.now c.in-Some-take_field.front.now c.in-Some-take_field.rest.now c.args.to.now c.push_wanted.new.to c.narrow.new.to
    c.in-Some.ensures.cases.0 c.in-Some-take_field.ensures c.in_ok-push_wanted.ensures narrows) c.narrow.ensures
