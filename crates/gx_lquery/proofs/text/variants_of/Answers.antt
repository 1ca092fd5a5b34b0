-- One piece more, and the last.
use Rattle.std.proofs.Common.{List, sym, subst}
use Rattle.std.specs.List.{AllZip}
use Rattle.gx_lquery.specs.declared.variant.Variant.{Variant}
use Rattle.gx_lquery.specs.Text.{split, SpellsVariant}
use Rattle.gx_lquery.proofs.SplitLemmas.{HasSplit, split_more, split_last, split_wrong, split_wrong_last}
use Rattle.gx_lquery.proofs.text.variants_of.Goals as goal

pub loop-piece-preserved : goal.loop-piece-preserved
loop-piece-preserved c =
    let cuts = rw c.in-Some.is at c.cut_at.ensures.some in
    let spelled = rw c.in-Some-2.is at c.in_ok-variant.ensures in
    let P : List Variant → Type 0 = λ values. HasSplit SpellsVariant 124 c.args.text.now c.in-Some.after.now values in
    subst P (sym c.in_ok-push.ensures.ok) (split_more SpellsVariant 124 c.args.text.now c.loop-piece.rest.now c.in-Some.piece.now c.in-Some.after.now c.loop-piece.variants c.in-Some-2.variant c.loop-piece.invariant cuts spelled)

pub returns-in_default-2 : goal.returns-in_default-2
returns-in_default-2 c =
    let cuts = rw c.in-Some.is at c.cut_at.ensures.some in
    split_wrong SpellsVariant 124 c.args.text.now c.loop-piece.rest.now c.in-Some.piece.now c.in-Some.after.now c.loop-piece.variants c.loop-piece.invariant cuts (rw c.in_default-2.is at c.in_ok-variant.ensures)

pub returns-in_default-3 : goal.returns-in_default-3
returns-in_default-3 c =
    let whole = rw c.in_default.is at c.cut_at.ensures.none in
    split_wrong_last SpellsVariant 124 c.args.text.now c.loop-piece.rest.now c.loop-piece.variants c.loop-piece.invariant whole (rw c.in_default-3.is at c.in_ok-variant-2.ensures)

pub returns : goal.returns
returns c =
    let whole = rw c.in_default.is at c.cut_at.ensures.none in
    let spelled = rw c.in-Some-3.is at c.in_ok-variant-2.ensures in
    let P : List Variant → Type 0 = λ values. AllZip SpellsVariant (split 124 c.args.text.now) values in
    subst P (sym c.in_ok-push-2.ensures.ok) (split_last SpellsVariant 124 c.args.text.now c.loop-piece.rest.now c.loop-piece.variants c.in-Some-3.variant c.loop-piece.invariant whole spelled)
