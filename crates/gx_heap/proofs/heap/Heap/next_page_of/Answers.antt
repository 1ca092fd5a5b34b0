use Rattle.std.proofs.Common.{◌≤◌, ◌++◌, List, length, map, ⊎_elim, sym, ◌∙◌, ap, subst, arith}
use Rattle.std.proofs.lemmas.Result.{err_from_is_err_and}
use Rattle.std.specs.List.{AllByRecursion}
use Rattle.gx_pages.specs.Frees.{IsApart}
use Rattle.gx_pages.proofs.Footprints as feet
use Rattle.gx_slot.specs.Slots.{Slots}
use Rattle.gx_chain.specs.declared.entry.Entry.{Entry}
use Rattle.gx_chain.specs.Chains.{Link, AreLinked, Holds, entries_at, entries_of, pages_of}
use Rattle.gx_chain.proofs.Links.{broken_cause, mid_sound}
use Rattle.gx_heap.specs.Heaps.{Row, chain_of, row_of, rows_of, rows_on}
use Rattle.gx_heap.proofs.Entries.{entries_mid, rows_on_page, split_feet}
use Rattle.gx_heap.proofs.heap.Heap.next_page_of.Goals as goal

pub returns-in_err-slots-clause-cause : goal.returns-in_err-slots-clause-cause
returns-in_err-slots-clause-cause g c =
    let p = err_from_is_err_and c.from_residual.result c.from_residual.ensures.1 in
    rw (p.1, p.2)
    (feet.cause_weaker c.in_err-slots.field-0.0 (g.P.Pages.faults c.args.pages.now) (g.P.Pages.faults c.args.pages.now) (g.P.Pages.faults c.fetch_slots.new.pages) (g.P.Pages.faults c.fetch_slots.new.pages)
    _ _ _ _ _ _ (omega arith) (omega arith)
    (λ at expected found broken tells all front back free held.
    let there = split_feet held.links front c.args.page back held.stand in
    mid_sound (g.P.Pages.map c.args.pages.now) (g.P.Pages.count c.args.pages.now) 2 (chain_of c.args.self.now) there.before c.args.page there.items there.behind
    (subst (λ (l : List Link). Holds (g.P.Pages.map c.args.pages.now) (g.P.Pages.count c.args.pages.now) 2 (chain_of c.args.self.now) l) there.cut held.held.held)
    (λ some below bytes is. broken some below tells bytes is))
    (λ n none. absurd none) (λ none. absurd none) c.in_err-slots.ensures.cause)

pub returns-in_err-push_rows-clause-cause : goal.returns-in_err-push_rows-clause-cause
returns-in_err-push_rows-clause-cause g c =
    let p = err_from_is_err_and c.from_residual-in_err-push_rows.result c.from_residual-in_err-push_rows.ensures.1 in
    rw (p.1, p.2)
    (⊎_elim
    (λ memory. rw memory tt)
    (λ broken.
    broken_cause c.in_err-push_rows.field-0.0 c.args.page (g.P.Pages.faults c.args.pages.now) (g.P.Pages.faults c.fetch_slots.new.pages) _ _ _ broken.0
    (λ at expected found tells all front back free held.
    let there = split_feet held.links front c.args.page back held.stand in
    let linked = subst (λ (l : List Link). AreLinked (g.P.Pages.map c.args.pages.now) 2 l) there.cut held.held.held.linked in
    let read = c.in_ok-slots.ensures.link tells there.before there.behind there.items linked in
    let W : List Entry → Type 0 = λ l. AllByRecursion (λ (e : Entry). 8 ≤ length e.item) l in
    let whole : W (entries_of there.before ++ (entries_at c.args.page 0 there.items ++ entries_of there.behind)) =
    subst W (ap (λ (l : List Link). entries_of l) there.cut ∙ entries_mid there.before (c.args.page, there.items) there.behind) held.whole in
    broken.1 (subst W (ap (λ (s : Slots). entries_at c.args.page 0 s.items) (sym read))
    (feet.all_left (λ (e : Entry). 8 ≤ length e.item) (entries_at c.args.page 0 there.items) (entries_of there.behind)
    (feet.all_right (λ (e : Entry). 8 ≤ length e.item) (entries_of there.before) (entries_at c.args.page 0 there.items ++ entries_of there.behind) whole)))))
    c.in_err-push_rows.ensures.cause)

pub returns-clause-read : goal.returns-clause-read
returns-clause-read g c = λ tells all front back free held.
    let there = split_feet held.links front c.args.page back held.stand in
    let linked = subst (λ (l : List Link). AreLinked (g.P.Pages.map c.args.pages.now) 2 l) there.cut held.held.held.linked in
    let read = c.in_ok-slots.ensures.link tells there.before there.behind there.items linked in
    let apart = subst (λ (l : List Link). IsApart (pages_of l)) there.cut held.held.held.apart in (
      c.in_ok-push_rows.ensures.ok
          ∙ ap (λ (l : List Row). c.args.rows.now ++ l)
          (ap (λ (s : Slots). map row_of (entries_at c.args.page 0 s.items)) read ∙ sym (rows_on_page there.before c.args.page there.items there.behind apart)
          ∙ ap (λ (l : List Row). rows_on c.args.page l) (sym (held.spelled ∙ ap (λ (l : List Link). rows_of l) there.cut))),
      c.next.ensures ∙ ap (λ (s : Slots). s.next) read ∙ sym there.next,
    )
