-- What the texts say.
use Rattle.std.proofs.Common.{◌∙◌, sym, ap}
use Rattle.std.specs.Ordering.{is_gt}
use Rattle.gx_class_ltree.proofs.ReadFacts.{no_sig, no_low, no_high, read_of, crossed, key_is}
use Rattle.gx_class_ltree.proofs.read.key_from.Goals as goal

pub returns-in_default-sig_from : goal.returns-in_default-sig_from
returns-in_default-sig_from g c =
    no_sig g.row.N c.args.bytes.now c.in-Some.texts.low.now c.in-Some.texts.high.now c.in-Some.texts.sig.now c.in-Some.texts.low_cut c.in-Some.texts.high_cut c.in-Some.ensures c.in_default-sig_from.ensures

pub returns-in_default-2 : goal.returns-in_default-2
returns-in_default-2 g c =
    let told = rw c.in_default-2.is at c.in_ok-low.ensures in
    no_low g.row.N c.args.bytes.now c.in-Some.texts.low.now c.in-Some.texts.high.now c.in-Some.texts.sig.now c.in-Some.texts.low_cut c.in-Some.texts.high_cut c.in-Some.ensures told

pub returns-in_default-3 : goal.returns-in_default-3
returns-in_default-3 g c =
    let told = rw c.in_default-3.is at c.in_ok-high.ensures in
    no_high g.row.N c.args.bytes.now c.in-Some.texts.low.now c.in-Some.texts.high.now c.in-Some.texts.sig.now c.in-Some.texts.low_cut c.in-Some.texts.high_cut c.in-Some.ensures told

pub returns-then-is_gt : goal.returns-then-is_gt
returns-then-is_gt g c =
    let low = read_of c.in-Some-2.low c.in-Some.texts.low.now c.in-Some.texts.low_cut (rw c.in-Some-2.is at c.in_ok-low.ensures) in
    let high = read_of c.in-Some-3.high c.in-Some.texts.high.now c.in-Some.texts.high_cut (rw c.in-Some-3.is at c.in_ok-high.ensures) in
    crossed g.row.N c.args.bytes.now c.in-Some.texts.low.now c.in-Some.texts.high.now c.in-Some.texts.sig.now c.in-Some.texts.low_cut c.in-Some.texts.high_cut c.in-Some-2.low c.in-Some-3.high c.in-Some.ensures low high
    (sym (c.is_gt.ensures ∙ ap is_gt c.compare_parts.ensures) ∙ c.if-is_gt.true)

pub returns : goal.returns
returns g c =
    let low = read_of c.in-Some-2.low c.in-Some.texts.low.now c.in-Some.texts.low_cut (rw c.in-Some-2.is at c.in_ok-low.ensures) in
    let high = read_of c.in-Some-3.high c.in-Some.texts.high.now c.in-Some.texts.high_cut (rw c.in-Some-3.is at c.in_ok-high.ensures) in
    key_is g.row.N c.args.bytes.now c.in-Some.texts.low.now c.in-Some.texts.high.now c.in-Some.texts.sig.now c.in-Some-sig_from.sig c.in-Some.texts.low_cut c.in-Some.texts.high_cut c.in-Some-2.low c.in-Some-3.high c.in-Some.ensures
    low high (sym (c.is_gt.ensures ∙ ap is_gt c.compare_parts.ensures) ∙ c.if-is_gt.false) c.in-Some-sig_from.ensures
