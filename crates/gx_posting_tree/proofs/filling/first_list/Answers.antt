use Rattle.std.proofs.Common.{inr, arith}
use Rattle.gx_posting_tree.proofs.Fills.{last_here, list_grows, row_above}
use Rattle.gx_posting_tree.proofs.filling.first_list.Goals as goal

pub push_posting-requires : goal.push_posting-requires
push_posting-requires c = row_above c.args.rows.now c.requires.rising c.loop-at.at c.loop-at-test.true (record { number = 0; page = 0; slot = 0 }) c.loop-at.last c.loop-at.invariant.last

pub returns-then-len-gt-LONGEST-clause-some : goal.returns-then-len-gt-LONGEST-clause-some
returns-then-len-gt-LONGEST-clause-some c =
    let grown = list_grows c.args.rows.now c.requires.rising c.loop-at.at c.loop-at-test.true (record { number = 0; page = 0; slot = 0 }) c.loop-at.item c.push_posting.new.to c.loop-at.last c.loop-at.invariant.last
    c.loop-at.invariant.spells c.in_ok-push_posting.ensures.bytes c.in_ok-push_posting.ensures.list in
    let few = grown.1 in
    let long = c.if-len-gt-LONGEST.true in
    let size = c.len.ensures in
    let small = c.loop-at.invariant.small in
    omega (arith, few, long, size, small)

pub returns-then-len-gt-LONGEST-clause-many : goal.returns-then-len-gt-LONGEST-clause-many
returns-then-len-gt-LONGEST-clause-many c =
    let grown = list_grows c.args.rows.now c.requires.rising c.loop-at.at c.loop-at-test.true (record { number = 0; page = 0; slot = 0 }) c.loop-at.item c.push_posting.new.to c.loop-at.last c.loop-at.invariant.last
    c.loop-at.invariant.spells c.in_ok-push_posting.ensures.bytes c.in_ok-push_posting.ensures.list in
    let few = grown.1 in
    let long = c.if-len-gt-LONGEST.true in
    let size = c.len.ensures in
    let small = c.loop-at.invariant.small in
    inr (omega (arith, few, long, size, small))

pub loop-at-preserved : goal.loop-at-preserved
loop-at-preserved c =
    let grown = list_grows c.args.rows.now c.requires.rising c.loop-at.at c.loop-at-test.true (record { number = 0; page = 0; slot = 0 }) c.loop-at.item c.push_posting.new.to c.loop-at.last c.loop-at.invariant.last
    c.loop-at.invariant.spells c.in_ok-push_posting.ensures.bytes c.in_ok-push_posting.ensures.list in
    let few = grown.1 in
    let short = c.if-len-gt-LONGEST.false in
    let size = c.len.ensures in
    let small = c.loop-at.invariant.small in
    record {
      spells = grown.0;
      last = last_here c.args.rows.now c.requires.rising c.loop-at.at c.loop-at-test.true (record { number = 0; page = 0; slot = 0 });
      short = omega (arith, short, size);
      small = omega (arith, few, small);
    }
