use Rattle.std.proofs.Common.{◌≡◌, ◌+◌, ◌<◌, ◌++◌, ◌∷◌, [], ℕ, List, length, take, sym, ◌∙◌, ap, subst, arith}
use Rattle.gx_gin_entry.specs.EntryTrees.{AreListed, Entry}
use Rattle.gx_gin_entry.specs.Listed.{entries_of}
use Rattle.gx_gin_entry.proofs.AllOf.{Here, entry_here, listed_length, push_more}
use Rattle.gx_gin_entry.proofs.listing.push_entries.Goals as goal

pub loop-slot-preserved : goal.loop-slot-preserved
loop-slot-preserved c = λ list are.
    let len = listed_length c.args.slots.now.items list are in
    let count = c.count-slot-end.ensures in
    let below = c.loop-slot-test.true in
    let slot = c.loop-slot.slot in
    let inside : slot < length list = omega (arith, len, count, below) in
    let here = entry_here list slot inside in
    let found = c.in-Some.ensures.entry list here.front here.back here.entry are here.cut here.at in
    push_more (entries_of c.args.to.now.items) (entries_of c.loop-slot.to.items) (entries_of c.push_entry.new.to.items) (take slot list) here.entry (take (slot + 1) list)
    (c.loop-slot.invariant list are)
    (c.in_ok-push_entry.ensures.ok ∙ ap (λ (k : List ℕ). entries_of c.loop-slot.to.items ++ (k, c.in-Some.posting.now) ∷ []) found.0 ∙ ap (λ (p : List ℕ). entries_of c.loop-slot.to.items ++ (here.entry.0, p) ∷ []) found.1)
    (here.more ∙ ap (λ (l : List Entry). l ++ here.entry ∷ []) (sym here.before))
