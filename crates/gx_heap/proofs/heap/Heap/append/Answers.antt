use Rattle.std.proofs.Common.{◌≡◌, List, [], ◌∷◌, ◌++◌, Option, ℕ, ◌+◌, length, refl, sym, ◌∙◌, ap, subst, length-append, arith}
use Rattle.std.proofs.lemmas.Result.{err_from_is_err_and}
use Rattle.gx_pages.proofs.Footprints.{cause_weaker}
use Rattle.gx_bytes.specs.Fields.{le64, length-le64}
use Rattle.gx_chain.specs.declared.chain.Chain.{Chain}
use Rattle.gx_chain.specs.Chains.{HasRoom, Holds, HoldsBeside, Link, pages_of}
use Rattle.gx_heap.specs.declared.heap.Heap.{Heap}
use Rattle.gx_heap.specs.Heaps.{StandsBehind, chain_of}
use Rattle.gx_heap.proofs.Behind.{no_room, stands_behind}
use Rattle.gx_heap.proofs.Heaps.{grown_heap, held_bound}
use Rattle.gx_heap.proofs.heap.Heap.append.Goals as goal

pub append-requires : goal.append-requires
append-requires g c =
    let is = ap (λ (l : List ℕ). length l) (c.as_slice.ensures ∙ c.in_ok-item.ensures.ok) in
    let short = c.requires.short in
    omega (arith, is, short, length-append (le64 c.args.self.now.next) c.args.row.now, length-le64 c.args.self.now.next)

pub returns-clause-added : goal.returns-clause-added
returns-clause-added g c = λ tells rows feet free held.
    let chain = c.to_chain-chain.ensures in
    let added = c.in_ok-page.ensures.added tells held.links free (subst (λ (k : Chain). HoldsBeside g.P.Pages c.args.pages.now 2 k held.links free) (sym chain) held.held) in
    let first = c.in_ok-page.ensures.first ∙ ap (λ (k : Chain). k.first) chain in
    let last = c.in_ok-page.ensures.last in
    let pages = c.in_ok-page.ensures.pages in
    let was = ap (λ (k : Chain). k.pages) chain in
    let longer : Heap = record { first = c.args.self.now.first; last = c.in_ok-page.page; next = c.args.self.now.next + 1 } in
    let long : length c.as_slice.result.now ≡ 8 + length c.args.row.now =
    let is = ap (λ (l : List ℕ). length l) (c.as_slice.ensures ∙ c.in_ok-item.ensures.ok) in omega (arith, is, length-append (le64 c.args.self.now.next) c.args.row.now, length-le64 c.args.self.now.next) in
    let grown = grown_heap g.P.Pages c.args.pages.now c.append.new.pages c.args.self.now longer c.in_ok-page.page c.in_ok-page.slot c.as_slice.result.now c.args.row.now rows feet free held
    (let room = c.requires.room in omega (arith, room)) (c.as_slice.ensures ∙ c.in_ok-item.ensures.ok) refl
    added.0 added.1
    (held_bound g.P.Pages c.append.new.pages 2 c.append.new.self (chain_of longer) added.0 added.1 (sym first) (sym last) (omega (arith, pages, was)) added.2)
    added.4 added.5 in (
      pages_of added.0,
      added.1,
      grown.0,
      grown.1,
      subst (λ (l : List ℕ). StandsBehind (g.P.Pages.map c.args.pages.now) c.args.self.now c.args.row.now c.in_ok-page.page l (pages_of added.0)) (sym held.stand)
          (stands_behind (g.P.Pages.map c.args.pages.now) (g.P.Pages.count c.args.pages.now) c.args.self.now held.links held.held.held c.as_slice.result.now c.args.row.now long added.0 c.in_ok-page.page c.in_ok-page.slot added.3),
    )

pub returns-in_err-page-clause-cause : goal.returns-in_err-page-clause-cause
returns-in_err-page-clause-cause g c =
    let p = err_from_is_err_and c.from_residual-in_err-page.result c.from_residual-in_err-page.ensures.1 in
    let chain = c.to_chain-chain.ensures in
    let long : length c.as_slice.result.now ≡ 8 + length c.args.row.now =
    let is = ap (λ (l : List ℕ). length l) (c.as_slice.ensures ∙ c.in_ok-item.ensures.ok) in omega (arith, is, length-append (le64 c.args.self.now.next) c.args.row.now, length-le64 c.args.self.now.next) in
    let Full : Chain → Type 0 = λ k. (front : List Link) (items : List (Option (List ℕ))) → Holds (g.P.Pages.map c.args.pages.now) (g.P.Pages.count c.args.pages.now) 2 k (front ++ (k.last, items) ∷ [])
    → ¬ HasRoom items c.as_slice.result.now in
    rw (p.1, p.2)
    (cause_weaker c.in_err-page.field-0.0 (g.P.Pages.faults c.args.pages.now) (g.P.Pages.faults c.args.pages.now) (g.P.Pages.faults c.append.new.pages) (g.P.Pages.faults c.append.new.pages)
    _ _ _ _ _ _ (omega arith) (omega arith)
    (λ at expected found broken tells rows feet free held. broken tells held.links free (subst (λ (k : Chain). HoldsBeside g.P.Pages c.args.pages.now 2 k held.links free) (sym chain) held.held))
    (λ n full. (
      full.0,
      λ tells rows feet free held.
          no_room (g.P.Pages.map c.args.pages.now) (g.P.Pages.count c.args.pages.now) c.args.self.now held.links held.held.held c.as_slice.result.now c.args.row.now long (subst Full chain (full.1 tells)),
    ))
    (λ memory. memory) c.in_err-page.ensures.cause)
