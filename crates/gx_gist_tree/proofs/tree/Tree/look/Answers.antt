use Rattle.std.proofs.Common.{◌≡◌, ◌≤◌, ◌+◌, ◌++◌, List, ℕ, map, filter, sym, ◌∙◌, ap, subst, arith}
use Rattle.std.specs.List.Sorted.{IsPermutation}
use Rattle.std.proofs.lemmas.Result.{err_from_is_err_and}
use Rattle.gx_pages.specs.declared.row.RowRef.{RowRef}
use Rattle.gx_pages.specs.Rows.{HasTwice}
use Rattle.gx_pages.proofs.Footprints.{cause_weaker}
use Rattle.gx_gist_tree.specs.Trees.{Entry, Node, found, pages_of, passes, visits}
use Rattle.gx_gist_tree.specs.OnPages.{AreFresh, IsRead, entries_of, footprint}
use Rattle.gx_gist_tree.proofs.VisitFacts.{read_same, visits_some}
use Rattle.gx_gist_tree.proofs.HeldFacts.{root_there, root_read, root_flat, low_level, fresh_none, twice_none, level_cause}
use Rattle.gx_gist_tree.proofs.tree.Tree.look.Goals as goal

pub returns-in_err-root-clause-cause : goal.returns-in_err-root-clause-cause
returns-in_err-root-clause-cause g c =
    let class = c.args.self.now.class in
    let root = c.args.self.now.root in
    let old = c.args.pages.now in
    let leaf_valid = λ (v : g.row.C-Value.Denot) (ok : g.C.GistClass.valid_value class v). g.met.C.GistClass.leaf_is_valid class v c.requires.class ok in
    let p = err_from_is_err_and c.from_residual.result c.from_residual.ensures.1 in
    rw (p.1, p.2)
    (cause_weaker c.in_err-root.field-0.0 (g.P.Pages.faults old) (g.P.Pages.faults old) (g.P.Pages.faults c.fetch_slots.new.pages) (g.P.Pages.faults c.fetch_slots.new.pages)
    _ _ _ _ _ _ (omega arith) (omega arith)
    (λ at expected found broken tells held holds.
    root_there g.C.GistClass class leaf_valid (g.P.Pages.map old) (g.P.Pages.count old) root held holds (λ some low bytes is. broken some low tells bytes is))
    (λ n no. absurd no) (λ no. absurd no) c.in_err-root.ensures.cause)

pub returns-in_err-root-clause-visits : goal.returns-in_err-root-clause-visits
returns-in_err-root-clause-visits g c = λ tells held holds.
    let class = c.args.self.now.class in
    let root = c.args.self.now.root in
    let old = c.args.pages.now in
    let leaf_valid = λ (v : g.row.C-Value.Denot) (ok : g.C.GistClass.valid_value class v). g.met.C.GistClass.leaf_is_valid class v c.requires.class ok in
    let some = visits_some (λ (k : g.row.C-Key.Denot). g.C.GistClass.inner_test class k c.args.query.now) held.0 held.1 in
    let first = c.fetch_slots.ensures.fetches in
    omega (arith, some, first)

pub returns-in_err-level-clause-cause : goal.returns-in_err-level-clause-cause
returns-in_err-level-clause-cause g c =
    let class = c.args.self.now.class in
    let root = c.args.self.now.root in
    let old = c.args.pages.now in
    let leaf_valid = λ (v : g.row.C-Value.Denot) (ok : g.C.GistClass.valid_value class v). g.met.C.GistClass.leaf_is_valid class v c.requires.class ok in
    let p = err_from_is_err_and c.from_residual-in_err-level.result c.from_residual-in_err-level.ensures.1 in
    rw (p.1, p.2)
    (level_cause c.in_err-level.field-0.0 root c.in_ok-root.root.level _ _ _ _ c.in_err-level.ensures.cause
    (λ high tells held holds.
    let one = c.in_ok-root.ensures.one tells in
    let read = root_read g.C.GistClass class leaf_valid (g.P.Pages.map old) (g.P.Pages.count old) root held holds c.in_ok-root.root one in
    let flat = root_flat g.C.GistClass class leaf_valid (g.P.Pages.map old) (g.P.Pages.count old) root held holds c.in_ok-root.root one in
    low_level g.row.C-Key.Denot held.0 held.1 (g.P.Pages.count old) holds.two holds.apart holds.below (g.met.P.Pages.bounded old) (omega (arith, high, flat))))

pub returns-in_err-level-clause-visits : goal.returns-in_err-level-clause-visits
returns-in_err-level-clause-visits g c = λ tells held holds.
    let class = c.args.self.now.class in
    let root = c.args.self.now.root in
    let old = c.args.pages.now in
    let leaf_valid = λ (v : g.row.C-Value.Denot) (ok : g.C.GistClass.valid_value class v). g.met.C.GistClass.leaf_is_valid class v c.requires.class ok in
    let some = visits_some (λ (k : g.row.C-Key.Denot). g.C.GistClass.inner_test class k c.args.query.now) held.0 held.1 in
    let first = c.in_ok-root.ensures.fetches in
    omega (arith, some, first)

pub returns-in_err-visit_page-clause-cause : goal.returns-in_err-visit_page-clause-cause
returns-in_err-visit_page-clause-cause g c =
    let class = c.args.self.now.class in
    let root = c.args.self.now.root in
    let old = c.args.pages.now in
    let leaf_valid = λ (v : g.row.C-Value.Denot) (ok : g.C.GistClass.valid_value class v). g.met.C.GistClass.leaf_is_valid class v c.requires.class ok in
    let p = err_from_is_err_and c.from_residual-in_err-visit_page.result c.from_residual-in_err-visit_page.ensures.1 in
    rw (p.1, p.2)
    (cause_weaker c.in_err-visit_page.field-0.0 (g.P.Pages.faults old) (g.P.Pages.faults c.fetch_slots.new.pages) (g.P.Pages.faults c.visit_page.new.pages) (g.P.Pages.faults c.visit_page.new.pages)
    _ _ _ _ _ _ (let q = c.in_ok-root.ensures.quiet.faults in omega (arith, q)) (omega arith)
    (λ at expected found broken tells held holds.
    let one = c.in_ok-root.ensures.one tells in
    let read = root_read g.C.GistClass class leaf_valid (g.P.Pages.map old) (g.P.Pages.count old) root held holds c.in_ok-root.root one in
    let flat = root_flat g.C.GistClass class leaf_valid (g.P.Pages.map old) (g.P.Pages.count old) root held holds c.in_ok-root.root one in
    let at_level : c.in_ok-level.level ≡ held.0 = c.in_ok-level.ensures.level.0 ∙ flat in
    let there = read_same g.C.GistClass class (g.P.Pages.map old) (g.P.Pages.count old) (g.P.Pages.map c.fetch_slots.new.pages) (g.P.Pages.count c.fetch_slots.new.pages) c.in_ok-root.ensures.map c.in_ok-root.ensures.count
    held.0 held.1 c.in_ok-root.root root read in
    subst (λ (n : ℕ). (node : Node g.row.C-Key.Denot n) → IsRead g.C.GistClass class (g.P.Pages.map c.fetch_slots.new.pages) (g.P.Pages.count c.fetch_slots.new.pages) n node c.in_ok-root.root root → AreFresh c.new-so_far.result.seen (pages_of g.row.C-Key.Denot n node) → ⊥) at_level (broken tells) held.1 there
    (subst (λ (l : List ℕ). AreFresh l (footprint held)) (sym c.new-so_far.ensures.seen) (fresh_none (footprint held) holds.apart)))
    (λ n no. absurd no) (λ no. no) c.in_err-visit_page.ensures.cause)

pub returns-in_err-visit_page-clause-visits : goal.returns-in_err-visit_page-clause-visits
returns-in_err-visit_page-clause-visits g c = λ tells held holds.
    let class = c.args.self.now.class in
    let root = c.args.self.now.root in
    let old = c.args.pages.now in
    let leaf_valid = λ (v : g.row.C-Value.Denot) (ok : g.C.GistClass.valid_value class v). g.met.C.GistClass.leaf_is_valid class v c.requires.class ok in
    let one = c.in_ok-root.ensures.one tells in
    let read = root_read g.C.GistClass class leaf_valid (g.P.Pages.map old) (g.P.Pages.count old) root held holds c.in_ok-root.root one in
    let flat = root_flat g.C.GistClass class leaf_valid (g.P.Pages.map old) (g.P.Pages.count old) root held holds c.in_ok-root.root one in
    let at_level : c.in_ok-level.level ≡ held.0 = c.in_ok-level.ensures.level.0 ∙ flat in
    let there = read_same g.C.GistClass class (g.P.Pages.map old) (g.P.Pages.count old) (g.P.Pages.map c.fetch_slots.new.pages) (g.P.Pages.count c.fetch_slots.new.pages) c.in_ok-root.ensures.map c.in_ok-root.ensures.count
    held.0 held.1 c.in_ok-root.root root read in
    let looked = subst (λ (n : ℕ). (node : Node g.row.C-Key.Denot n) → IsRead g.C.GistClass class (g.P.Pages.map c.fetch_slots.new.pages) (g.P.Pages.count c.fetch_slots.new.pages) n node c.in_ok-root.root root
    → g.P.Pages.fetches c.visit_page.new.pages + 1 ≤ g.P.Pages.fetches c.fetch_slots.new.pages + visits (λ (k : g.row.C-Key.Denot). g.C.GistClass.inner_test class k c.args.query.now) n node) at_level (c.visit_page.ensures.visits tells) held.1 there in
    let first = c.in_ok-root.ensures.fetches in
    omega (arith, looked, first)

pub returns-in_default-clause-cause : goal.returns-in_default-clause-cause
returns-in_default-clause-cause g c =
    let class = c.args.self.now.class in
    let root = c.args.self.now.root in
    let old = c.args.pages.now in
    let leaf_valid = λ (v : g.row.C-Value.Denot) (ok : g.C.GistClass.valid_value class v). g.met.C.GistClass.leaf_is_valid class v c.requires.class ok in
    let is = c.no_item.ensures in
    rw is (
      (λ same. omega (arith, same)),
      λ tells held holds.
          let one = c.in_ok-root.ensures.one tells in
          let read = root_read g.C.GistClass class leaf_valid (g.P.Pages.map old) (g.P.Pages.count old) root held holds c.in_ok-root.root one in
          let flat = root_flat g.C.GistClass class leaf_valid (g.P.Pages.map old) (g.P.Pages.count old) root held holds c.in_ok-root.root one in
          let at_level : c.in_ok-level.level ≡ held.0 = c.in_ok-level.ensures.level.0 ∙ flat in
          let there = read_same g.C.GistClass class (g.P.Pages.map old) (g.P.Pages.count old) (g.P.Pages.map c.fetch_slots.new.pages) (g.P.Pages.count c.fetch_slots.new.pages) c.in_ok-root.ensures.map c.in_ok-root.ensures.count
          held.0 held.1 c.in_ok-root.root root read in
          let found_all = subst (λ (n : ℕ). (node : Node g.row.C-Key.Denot n) → IsRead g.C.GistClass class (g.P.Pages.map c.fetch_slots.new.pages) (g.P.Pages.count c.fetch_slots.new.pages) n node c.in_ok-root.root root
          → c.visit_page.new.so_far.rows.items ≡ c.new-so_far.result.rows.items ++ map (λ e. e.0) (found (λ (k : g.row.C-Key.Denot). g.C.GistClass.leaf_test class k c.args.query.now) (λ (k : g.row.C-Key.Denot). g.C.GistClass.inner_test class k c.args.query.now) n node)) at_level (c.in_ok-visit_page.ensures.found tells) held.1 there in
          let rows : c.visit_page.new.so_far.rows.items ≡ map (λ (e : Entry g.row.C-Key.Denot). e.0) (filter (λ e. passes ((λ (k : g.row.C-Key.Denot). g.C.GistClass.leaf_test class k c.args.query.now) e.1)) (entries_of held)) =
          found_all ∙ ap (λ (l : List RowRef). l ++ map (λ (e : Entry g.row.C-Key.Denot). e.0) (found (λ (k : g.row.C-Key.Denot). g.C.GistClass.leaf_test class k c.args.query.now) (λ (k : g.row.C-Key.Denot). g.C.GistClass.inner_test class k c.args.query.now) held.0 held.1)) c.new-so_far.ensures.rows
          ∙ ap (λ (l : List (Entry g.row.C-Key.Denot)). map (λ (e : Entry g.row.C-Key.Denot). e.0) l) (c.search_is_exact.ensures held.0 held.1 holds.keys) in
          twice_none (λ e. passes ((λ (k : g.row.C-Key.Denot). g.C.GistClass.leaf_test class k c.args.query.now) e.1)) (entries_of held) holds.once (subst (λ (l : List RowRef). HasTwice l) rows c.in_default.ensures.none),
    )

pub returns-in_default-clause-visits : goal.returns-in_default-clause-visits
returns-in_default-clause-visits g c = λ tells held holds.
    let class = c.args.self.now.class in
    let root = c.args.self.now.root in
    let old = c.args.pages.now in
    let leaf_valid = λ (v : g.row.C-Value.Denot) (ok : g.C.GistClass.valid_value class v). g.met.C.GistClass.leaf_is_valid class v c.requires.class ok in
    let one = c.in_ok-root.ensures.one tells in
    let read = root_read g.C.GistClass class leaf_valid (g.P.Pages.map old) (g.P.Pages.count old) root held holds c.in_ok-root.root one in
    let flat = root_flat g.C.GistClass class leaf_valid (g.P.Pages.map old) (g.P.Pages.count old) root held holds c.in_ok-root.root one in
    let at_level : c.in_ok-level.level ≡ held.0 = c.in_ok-level.ensures.level.0 ∙ flat in
    let there = read_same g.C.GistClass class (g.P.Pages.map old) (g.P.Pages.count old) (g.P.Pages.map c.fetch_slots.new.pages) (g.P.Pages.count c.fetch_slots.new.pages) c.in_ok-root.ensures.map c.in_ok-root.ensures.count
    held.0 held.1 c.in_ok-root.root root read in
    let looked = subst (λ (n : ℕ). (node : Node g.row.C-Key.Denot n) → IsRead g.C.GistClass class (g.P.Pages.map c.fetch_slots.new.pages) (g.P.Pages.count c.fetch_slots.new.pages) n node c.in_ok-root.root root
    → g.P.Pages.fetches c.visit_page.new.pages + 1 ≤ g.P.Pages.fetches c.fetch_slots.new.pages + visits (λ (k : g.row.C-Key.Denot). g.C.GistClass.inner_test class k c.args.query.now) n node) at_level (c.visit_page.ensures.visits tells) held.1 there in
    let first = c.in_ok-root.ensures.fetches in
    omega (arith, looked, first)

pub returns-clause-found : goal.returns-clause-found
returns-clause-found g c = λ tells held holds.
    let class = c.args.self.now.class in
    let root = c.args.self.now.root in
    let old = c.args.pages.now in
    let leaf_valid = λ (v : g.row.C-Value.Denot) (ok : g.C.GistClass.valid_value class v). g.met.C.GistClass.leaf_is_valid class v c.requires.class ok in
    let one = c.in_ok-root.ensures.one tells in
    let read = root_read g.C.GistClass class leaf_valid (g.P.Pages.map old) (g.P.Pages.count old) root held holds c.in_ok-root.root one in
    let flat = root_flat g.C.GistClass class leaf_valid (g.P.Pages.map old) (g.P.Pages.count old) root held holds c.in_ok-root.root one in
    let at_level : c.in_ok-level.level ≡ held.0 = c.in_ok-level.ensures.level.0 ∙ flat in
    let there = read_same g.C.GistClass class (g.P.Pages.map old) (g.P.Pages.count old) (g.P.Pages.map c.fetch_slots.new.pages) (g.P.Pages.count c.fetch_slots.new.pages) c.in_ok-root.ensures.map c.in_ok-root.ensures.count
    held.0 held.1 c.in_ok-root.root root read in
    let found_all = subst (λ (n : ℕ). (node : Node g.row.C-Key.Denot n) → IsRead g.C.GistClass class (g.P.Pages.map c.fetch_slots.new.pages) (g.P.Pages.count c.fetch_slots.new.pages) n node c.in_ok-root.root root
    → c.visit_page.new.so_far.rows.items ≡ c.new-so_far.result.rows.items ++ map (λ e. e.0) (found (λ (k : g.row.C-Key.Denot). g.C.GistClass.leaf_test class k c.args.query.now) (λ (k : g.row.C-Key.Denot). g.C.GistClass.inner_test class k c.args.query.now) n node)) at_level (c.in_ok-visit_page.ensures.found tells) held.1 there in
    let rows : c.visit_page.new.so_far.rows.items ≡ map (λ (e : Entry g.row.C-Key.Denot). e.0) (filter (λ e. passes ((λ (k : g.row.C-Key.Denot). g.C.GistClass.leaf_test class k c.args.query.now) e.1)) (entries_of held)) =
    found_all ∙ ap (λ (l : List RowRef). l ++ map (λ (e : Entry g.row.C-Key.Denot). e.0) (found (λ (k : g.row.C-Key.Denot). g.C.GistClass.leaf_test class k c.args.query.now) (λ (k : g.row.C-Key.Denot). g.C.GistClass.inner_test class k c.args.query.now) held.0 held.1)) c.new-so_far.ensures.rows
    ∙ ap (λ (l : List (Entry g.row.C-Key.Denot)). map (λ (e : Entry g.row.C-Key.Denot). e.0) l) (c.search_is_exact.ensures held.0 held.1 holds.keys) in
    subst (λ (l : List RowRef). IsPermutation l c.in-Some.bitmap) rows c.in-Some.ensures.all

pub returns-clause-visits : goal.returns-clause-visits
returns-clause-visits g c = λ tells held holds.
    let class = c.args.self.now.class in
    let root = c.args.self.now.root in
    let old = c.args.pages.now in
    let leaf_valid = λ (v : g.row.C-Value.Denot) (ok : g.C.GistClass.valid_value class v). g.met.C.GistClass.leaf_is_valid class v c.requires.class ok in
    let one = c.in_ok-root.ensures.one tells in
    let read = root_read g.C.GistClass class leaf_valid (g.P.Pages.map old) (g.P.Pages.count old) root held holds c.in_ok-root.root one in
    let flat = root_flat g.C.GistClass class leaf_valid (g.P.Pages.map old) (g.P.Pages.count old) root held holds c.in_ok-root.root one in
    let at_level : c.in_ok-level.level ≡ held.0 = c.in_ok-level.ensures.level.0 ∙ flat in
    let there = read_same g.C.GistClass class (g.P.Pages.map old) (g.P.Pages.count old) (g.P.Pages.map c.fetch_slots.new.pages) (g.P.Pages.count c.fetch_slots.new.pages) c.in_ok-root.ensures.map c.in_ok-root.ensures.count
    held.0 held.1 c.in_ok-root.root root read in
    let looked = subst (λ (n : ℕ). (node : Node g.row.C-Key.Denot n) → IsRead g.C.GistClass class (g.P.Pages.map c.fetch_slots.new.pages) (g.P.Pages.count c.fetch_slots.new.pages) n node c.in_ok-root.root root
    → g.P.Pages.fetches c.visit_page.new.pages + 1 ≤ g.P.Pages.fetches c.fetch_slots.new.pages + visits (λ (k : g.row.C-Key.Denot). g.C.GistClass.inner_test class k c.args.query.now) n node) at_level (c.visit_page.ensures.visits tells) held.1 there in
    let first = c.in_ok-root.ensures.fetches in
    omega (arith, looked, first)
