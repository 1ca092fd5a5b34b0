use Rattle.std.proofs.Common.{sym, ap, ap₂, ◌∙◌, true≢false, nat_eq, length}
use Rattle.std.specs.Ordering.{is_gt, ordering_then}
use Rattle.gx_class_scalar.specs.Readings.{part_with}
use Rattle.gx_class_scalar.proofs.ReadLemmas.{no_second, more_behind, parts_crossed}
use Rattle.gx_class_scalar.proofs.read_cut.cuts_from.Goals as goal

pub returns-in_default-part_from : goal.returns-in_default-part_from
returns-in_default-part_from c =
    no_second c.args.kind c.args.bytes.now c.in-Some.behind.now (part_with c.in-Some.low.now c.in-Some.low_more) c.requires c.in-Some.ensures.0 c.in-Some.ensures.1 c.in_default-part_from.ensures

pub returns-then-not-is_empty : goal.returns-then-not-is_empty
returns-then-not-is_empty c =
    more_behind c.args.kind c.args.bytes.now c.in-Some.behind.now c.in-Some-part_from.rest.now (part_with c.in-Some.low.now c.in-Some.low_more) (part_with c.in-Some-part_from.high.now c.in-Some-part_from.high_more)
    c.requires c.in-Some.ensures.0 c.in-Some-part_from.ensures.0 c.in-Some.ensures.1 c.in-Some-part_from.ensures.1
    (λ e. true≢false (sym (c.is_empty.ensures ∙ ap (λ t. nat_eq (length t) 0) e) ∙ c.if-not-is_empty.true))

pub returns-then-is_gt : goal.returns-then-is_gt
returns-then-is_gt c =
    parts_crossed c.args.kind c.args.bytes.now c.in-Some.behind.now c.in-Some-part_from.rest.now (part_with c.in-Some.low.now c.in-Some.low_more) (part_with c.in-Some-part_from.high.now c.in-Some-part_from.high_more)
    c.requires c.in-Some.ensures.0 c.in-Some-part_from.ensures.0 c.in-Some.ensures.1 c.in-Some-part_from.ensures.1
    (sym (c.is_gt.ensures ∙ ap is_gt (c.then.ensures ∙ ap₂ ordering_then c.cmp.ensures c.cmp-2.ensures)) ∙ c.if-is_gt.true)
