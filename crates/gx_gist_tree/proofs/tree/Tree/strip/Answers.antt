use Rattle.std.proofs.Common.{◌≡◌, List, ℕ, sym, ◌∙◌, ap, subst, arith}
use Rattle.std.proofs.lemmas.Result.{err_from_is_err_and}
use Rattle.gx_words.specs.PageMap.{PageMap}
use Rattle.gx_pages.specs.Frees.{IsApart}
use Rattle.gx_pages.specs.Footprints.{ChangesOnly}
use Rattle.gx_pages.proofs.Footprints.{cause_weaker}
use Rattle.gx_gist_tree.specs.Trees.{Entry, Node, pages_of, stripped}
use Rattle.gx_gist_tree.specs.OnPages.{AreFresh, IsRead, Stands, footprint, is_in}
use Rattle.gx_gist_tree.proofs.VisitFacts.{read_same}
use Rattle.gx_gist_tree.proofs.HeldFacts.{root_there, root_read, root_flat, low_level, fresh_none, level_cause}
use Rattle.gx_gist_tree.proofs.StripHeld.{removed}
use Rattle.gx_gist_tree.proofs.tree.Tree.strip.Goals as goal

pub returns-in_err-root-clause-cause : goal.returns-in_err-root-clause-cause
returns-in_err-root-clause-cause g c =
    let class = c.args.self.now.class in
    let root = c.args.self.now.root in
    let old = c.args.pages.now in
    let leaf_valid = λ (v : g.row.C-Value.Denot) (ok : g.C.GistClass.valid_value class v). g.met.C.GistClass.leaf_is_valid class v c.requires.class ok in
    let p = err_from_is_err_and c.from_residual.result c.from_residual.ensures.1 in
    rw (p.1, p.2)
    (cause_weaker c.in_err-root.field-0.0 (g.P.Pages.faults old) (g.P.Pages.faults old) (g.P.Pages.faults c.fetch_slots.new.pages) (g.P.Pages.faults c.fetch_slots.new.pages)
    _ _ _ _ _ _ (omega arith) (omega arith)
    (λ at expected found broken tells held holds.
    root_there g.C.GistClass class leaf_valid (g.P.Pages.map old) (g.P.Pages.count old) root held holds (λ some low bytes is. broken some low tells bytes is))
    (λ n no. absurd no) (λ no. absurd no) c.in_err-root.ensures.cause)

pub returns-in_err-level-clause-cause : goal.returns-in_err-level-clause-cause
returns-in_err-level-clause-cause g c =
    let class = c.args.self.now.class in
    let root = c.args.self.now.root in
    let old = c.args.pages.now in
    let leaf_valid = λ (v : g.row.C-Value.Denot) (ok : g.C.GistClass.valid_value class v). g.met.C.GistClass.leaf_is_valid class v c.requires.class ok in
    let p = err_from_is_err_and c.from_residual-in_err-level.result c.from_residual-in_err-level.ensures.1 in
    rw (p.1, p.2)
    (level_cause c.in_err-level.field-0.0 root c.in_ok-root.root.level _ _ _ _ c.in_err-level.ensures.cause
    (λ high tells held holds.
    let one = c.in_ok-root.ensures.one tells in
    let read = root_read g.C.GistClass class leaf_valid (g.P.Pages.map old) (g.P.Pages.count old) root held holds c.in_ok-root.root one in
    let flat = root_flat g.C.GistClass class leaf_valid (g.P.Pages.map old) (g.P.Pages.count old) root held holds c.in_ok-root.root one in
    low_level g.row.C-Key.Denot held.0 held.1 (g.P.Pages.count old) holds.two holds.apart holds.below (g.met.P.Pages.bounded old) (omega (arith, high, flat))))

pub returns-in_err-strip_page-clause-cause : goal.returns-in_err-strip_page-clause-cause
returns-in_err-strip_page-clause-cause g c =
    let class = c.args.self.now.class in
    let root = c.args.self.now.root in
    let old = c.args.pages.now in
    let leaf_valid = λ (v : g.row.C-Value.Denot) (ok : g.C.GistClass.valid_value class v). g.met.C.GistClass.leaf_is_valid class v c.requires.class ok in
    let p = err_from_is_err_and c.from_residual-in_err-strip_page.result c.from_residual-in_err-strip_page.ensures.1 in
    rw (p.1, p.2)
    (cause_weaker c.in_err-strip_page.field-0.0 (g.P.Pages.faults old) (g.P.Pages.faults c.fetch_slots.new.pages) (g.P.Pages.faults c.strip_page.new.pages) (g.P.Pages.faults c.strip_page.new.pages)
    _ _ _ _ _ _ (let q = c.in_ok-root.ensures.quiet.faults in omega (arith, q)) (omega arith)
    (λ at expected found broken tells held holds.
    let one = c.in_ok-root.ensures.one tells in
    let read = root_read g.C.GistClass class leaf_valid (g.P.Pages.map old) (g.P.Pages.count old) root held holds c.in_ok-root.root one in
    let flat = root_flat g.C.GistClass class leaf_valid (g.P.Pages.map old) (g.P.Pages.count old) root held holds c.in_ok-root.root one in
    let at_level : c.in_ok-level.level ≡ held.0 = c.in_ok-level.ensures.level.0 ∙ flat in
    let there = read_same g.C.GistClass class (g.P.Pages.map old) (g.P.Pages.count old) (g.P.Pages.map c.fetch_slots.new.pages) (g.P.Pages.count c.fetch_slots.new.pages) c.in_ok-root.ensures.map c.in_ok-root.ensures.count
    held.0 held.1 c.in_ok-root.root root read in
    subst (λ (n : ℕ). (node : Node g.row.C-Key.Denot n) → IsRead g.C.GistClass class (g.P.Pages.map c.fetch_slots.new.pages) (g.P.Pages.count c.fetch_slots.new.pages) n node c.in_ok-root.root root → AreFresh c.new-seen.result (pages_of g.row.C-Key.Denot n node) → ⊥) at_level (broken tells) held.1 there
    (subst (λ (l : List ℕ). AreFresh l (footprint held)) (sym c.new-seen.ensures) (fresh_none (footprint held) holds.apart)))
    (λ n no. absurd no) (λ no. no) c.in_err-strip_page.ensures.cause)

pub returns-clause-removed : goal.returns-clause-removed
returns-clause-removed g c = λ tells held free beside.
    let class = c.args.self.now.class in
    let root = c.args.self.now.root in
    let old = c.args.pages.now in
    let leaf_valid = λ (v : g.row.C-Value.Denot) (ok : g.C.GistClass.valid_value class v). g.met.C.GistClass.leaf_is_valid class v c.requires.class ok in
    let holds = beside.held in
    let one = c.in_ok-root.ensures.one tells in
    let read = root_read g.C.GistClass class leaf_valid (g.P.Pages.map old) (g.P.Pages.count old) root held holds c.in_ok-root.root one in
    let flat = root_flat g.C.GistClass class leaf_valid (g.P.Pages.map old) (g.P.Pages.count old) root held holds c.in_ok-root.root one in
    let at_level : c.in_ok-level.level ≡ held.0 = c.in_ok-level.ensures.level.0 ∙ flat in
    let there = read_same g.C.GistClass class (g.P.Pages.map old) (g.P.Pages.count old) (g.P.Pages.map c.fetch_slots.new.pages) (g.P.Pages.count c.fetch_slots.new.pages) c.in_ok-root.ensures.map c.in_ok-root.ensures.count
    held.0 held.1 c.in_ok-root.root root read in
    let made = subst (λ (n : ℕ). (node : Node g.row.C-Key.Denot n) → IsRead g.C.GistClass class (g.P.Pages.map c.fetch_slots.new.pages) (g.P.Pages.count c.fetch_slots.new.pages) n node c.in_ok-root.root root → IsApart (pages_of g.row.C-Key.Denot n node)
    → Stands (g.P.Pages.map c.strip_page.new.pages) (g.C.GistClass.spelling class) n (stripped (λ (e : Entry g.row.C-Key.Denot). is_in c.args.rows.now e.0.number) n node) × ChangesOnly (g.P.Pages.map c.fetch_slots.new.pages) (g.P.Pages.map c.strip_page.new.pages) (pages_of g.row.C-Key.Denot n node))
    at_level (c.in_ok-strip_page.ensures.stripped tells) held.1 there holds.apart in
    removed g.P.Pages g.C.GistClass class old c.strip_page.new.pages root held c.args.rows.now
    (c.in_ok-strip_page.ensures.zero tells ∙ ap (λ (m : PageMap). m 0) c.in_ok-root.ensures.map) (c.in_ok-strip_page.ensures.count ∙ c.in_ok-root.ensures.count)
    (made.0, subst (λ (m : PageMap). ChangesOnly m (g.P.Pages.map c.strip_page.new.pages) (footprint held)) c.in_ok-root.ensures.map made.1) free beside
