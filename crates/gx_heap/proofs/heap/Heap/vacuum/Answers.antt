use Rattle.std.proofs.Common.{◌≡◌, ◌≤◌, List, ℕ, length, map, refl, sym, ◌∙◌, ap, subst, arith}
use Rattle.std.specs.List.{AllByRecursion}
use Rattle.gx_pages.specs.Footprints.{KeepsPages}
use Rattle.gx_chain.specs.declared.chain.Chain.{Chain}
use Rattle.gx_chain.specs.declared.entry.Entry.{Entry}
use Rattle.gx_chain.specs.Chains.{HoldsBeside, pages_of}
use Rattle.gx_heap.specs.Heaps.{Row, IsIn, chain_of, row_of, rows_of}
use Rattle.gx_heap.proofs.Entries.{used}
use Rattle.gx_heap.proofs.Heaps.{held_bound}
use Rattle.gx_heap.proofs.heap.Heap.vacuum.Goals as goal

pub returns-clause-kept : goal.returns-clause-kept
returns-clause-kept g c = λ tells rows feet free held.
    let chain = c.to_chain-chain.ensures in
    let kept = c.in_ok-drop_empty.ensures.kept tells held.links free (subst (λ (k : Chain). HoldsBeside g.P.Pages c.args.pages.now 2 k held.links free) (sym chain) held.held) in
    let last = c.in_ok-drop_empty.ensures.last ∙ ap (λ (k : Chain). k.last) chain in
    let pages = c.in_ok-drop_empty.ensures.pages ∙ ap (λ (k : Chain). k.pages) chain in
    let spelled : rows ≡ rows_of kept.0 = held.spelled ∙ ap (λ (l : List Entry). map row_of l) (sym kept.3) in (
      pages_of kept.0,
      kept.1,
      record {
        links = kept.0;
        held = held_bound g.P.Pages c.drop_empty.new.pages 2 c.drop_empty.new.chain
            (chain_of (record { first = c.drop_empty.new.chain.first; last = c.args.self.now.last; next = c.args.self.now.next })) kept.0 kept.1 refl (sym last) (omega (arith, pages)) kept.2;
        stand = refl;
        spelled = spelled;
        whole = subst (λ (l : List Entry). AllByRecursion (λ (e : Entry). 8 ≤ length e.item) l) (sym kept.3) held.whole;
        rising = held.rising;
        numbered = held.numbered;
      },
      used rows kept.0 kept.4 (λ row is. subst (λ (l : List Row). IsIn row l) (sym spelled) is),
      subst (λ (l : List ℕ). KeepsPages g.P.Pages c.args.pages.now c.drop_empty.new.pages l free (pages_of kept.0) kept.1) (sym held.stand) kept.5,
    )
