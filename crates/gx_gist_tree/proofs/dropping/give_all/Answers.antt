use Rattle.std.proofs.Common.{◌≡◌, ◌++◌, List, ℕ, ◌∙◌, subst, arith}
use Rattle.std.specs.List.Sorted.{IsPermutation}
use Rattle.std.proofs.lemmas.Result.{err_from_is_err_and}
use Rattle.gx_words.specs.PageMap.{PageMap}
use Rattle.gx_pages.specs.Frees.{IsApart, IsFreeList, KeepsHeader}
use Rattle.gx_pages.specs.Footprints.{ChangesOnly}
use Rattle.gx_pages.proofs.Footprints.{cause_weaker, free_list_at}
use Rattle.gx_gist_tree.specs.Trees.{Node, pages_of}
use Rattle.gx_gist_tree.specs.OnPages.{IsRead, footprint}
use Rattle.gx_gist_tree.proofs.VisitFacts.{read_same}
use Rattle.gx_gist_tree.proofs.HeldFacts.{root_there, root_read, root_flat, low_level, level_cause}
use Rattle.gx_gist_tree.proofs.DropWalk.{all_dropped}
use Rattle.gx_gist_tree.proofs.dropping.give_all.Goals as goal

pub returns-in_err-slots-clause-cause : goal.returns-in_err-slots-clause-cause
returns-in_err-slots-clause-cause g c =
    let class = c.args.class.now in
    let root = c.args.root in
    let old = c.args.pages.now in
    let leaf_valid = λ (v : g.row.C-Value.Denot) (ok : g.C.GistClass.valid_value class v). g.met.C.GistClass.leaf_is_valid class v c.requires.class ok in
    let p = err_from_is_err_and c.from_residual.result c.from_residual.ensures.1 in
    rw (p.1, p.2)
    (cause_weaker c.in_err-slots.field-0.0 (g.P.Pages.faults old) (g.P.Pages.faults old) (g.P.Pages.faults c.fetch_slots.new.pages) (g.P.Pages.faults c.fetch_slots.new.pages)
    _ _ _ _ _ _ (omega arith) (omega arith)
    (λ at expected found broken tells held free beside.
    root_there g.C.GistClass class leaf_valid (g.P.Pages.map old) (g.P.Pages.count old) root held beside.held (λ some low bytes is. broken some low tells bytes is))
    (λ n no. absurd no) (λ no. absurd no) c.in_err-slots.ensures.cause)

pub returns-in_err-level-clause-cause : goal.returns-in_err-level-clause-cause
returns-in_err-level-clause-cause g c =
    let class = c.args.class.now in
    let root = c.args.root in
    let old = c.args.pages.now in
    let leaf_valid = λ (v : g.row.C-Value.Denot) (ok : g.C.GistClass.valid_value class v). g.met.C.GistClass.leaf_is_valid class v c.requires.class ok in
    let p = err_from_is_err_and c.from_residual-in_err-level.result c.from_residual-in_err-level.ensures.1 in
    rw (p.1, p.2)
    (level_cause c.in_err-level.field-0.0 root c.in_ok-slots.slots.level _ _ _ _ c.in_err-level.ensures.cause
    (λ high tells held free beside.
    let holds = beside.held in
    let one = c.in_ok-slots.ensures.one tells in
    let read = root_read g.C.GistClass class leaf_valid (g.P.Pages.map old) (g.P.Pages.count old) root held holds c.in_ok-slots.slots one in
    let flat = root_flat g.C.GistClass class leaf_valid (g.P.Pages.map old) (g.P.Pages.count old) root held holds c.in_ok-slots.slots one in
    low_level g.row.C-Key.Denot held.0 held.1 (g.P.Pages.count old) holds.two holds.apart holds.below (g.met.P.Pages.bounded old) (omega (arith, high, flat))))

pub returns-in_err-drop_page-clause-cause : goal.returns-in_err-drop_page-clause-cause
returns-in_err-drop_page-clause-cause g c =
    let class = c.args.class.now in
    let root = c.args.root in
    let old = c.args.pages.now in
    let leaf_valid = λ (v : g.row.C-Value.Denot) (ok : g.C.GistClass.valid_value class v). g.met.C.GistClass.leaf_is_valid class v c.requires.class ok in
    let p = err_from_is_err_and c.from_residual-in_err-drop_page.result c.from_residual-in_err-drop_page.ensures.1 in
    rw (p.1, p.2)
    (cause_weaker c.in_err-drop_page.field-0.0 (g.P.Pages.faults old) (g.P.Pages.faults c.fetch_slots.new.pages) (g.P.Pages.faults c.drop_page.new.pages) (g.P.Pages.faults c.drop_page.new.pages)
    _ _ _ _ _ _ (let q = c.in_ok-slots.ensures.quiet.faults in omega (arith, q)) (omega arith)
    (λ at expected found broken tells held free beside.
    let holds = beside.held in
    let one = c.in_ok-slots.ensures.one tells in
    let read = root_read g.C.GistClass class leaf_valid (g.P.Pages.map old) (g.P.Pages.count old) root held holds c.in_ok-slots.slots one in
    let flat = root_flat g.C.GistClass class leaf_valid (g.P.Pages.map old) (g.P.Pages.count old) root held holds c.in_ok-slots.slots one in
    let at_level : c.in_ok-level.level ≡ held.0 = c.in_ok-level.ensures.level.0 ∙ flat in
    let there = read_same g.C.GistClass class (g.P.Pages.map old) (g.P.Pages.count old) (g.P.Pages.map c.fetch_slots.new.pages) (g.P.Pages.count c.fetch_slots.new.pages) c.in_ok-slots.ensures.map c.in_ok-slots.ensures.count
    held.0 held.1 c.in_ok-slots.slots root read in
    let list = free_list_at (g.P.Pages.map c.fetch_slots.new.pages) (g.P.Pages.map old) (g.P.Pages.count c.fetch_slots.new.pages) (g.P.Pages.count old) free c.in_ok-slots.ensures.map c.in_ok-slots.ensures.count beside.frees in
    subst (λ (n : ℕ). (node : Node g.row.C-Key.Denot n) → IsRead g.C.GistClass class (g.P.Pages.map c.fetch_slots.new.pages) (g.P.Pages.count c.fetch_slots.new.pages) n node c.in_ok-slots.slots root → (others : List ℕ) → IsFreeList (g.P.Pages.map c.fetch_slots.new.pages) (g.P.Pages.count c.fetch_slots.new.pages) others → IsApart (pages_of g.row.C-Key.Denot n node ++ others) → ⊥) at_level (broken tells) held.1 there free list beside.apart)
    (λ n no. absurd no) (λ no. no) c.in_err-drop_page.ensures.cause)

pub returns-clause-dropped : goal.returns-clause-dropped
returns-clause-dropped g c = λ tells held free beside.
    let class = c.args.class.now in
    let root = c.args.root in
    let old = c.args.pages.now in
    let leaf_valid = λ (v : g.row.C-Value.Denot) (ok : g.C.GistClass.valid_value class v). g.met.C.GistClass.leaf_is_valid class v c.requires.class ok in
    let holds = beside.held in
    let one = c.in_ok-slots.ensures.one tells in
    let read = root_read g.C.GistClass class leaf_valid (g.P.Pages.map old) (g.P.Pages.count old) root held holds c.in_ok-slots.slots one in
    let flat = root_flat g.C.GistClass class leaf_valid (g.P.Pages.map old) (g.P.Pages.count old) root held holds c.in_ok-slots.slots one in
    let at_level : c.in_ok-level.level ≡ held.0 = c.in_ok-level.ensures.level.0 ∙ flat in
    let there = read_same g.C.GistClass class (g.P.Pages.map old) (g.P.Pages.count old) (g.P.Pages.map c.fetch_slots.new.pages) (g.P.Pages.count c.fetch_slots.new.pages) c.in_ok-slots.ensures.map c.in_ok-slots.ensures.count
    held.0 held.1 c.in_ok-slots.slots root read in
    let list = free_list_at (g.P.Pages.map c.fetch_slots.new.pages) (g.P.Pages.map old) (g.P.Pages.count c.fetch_slots.new.pages) (g.P.Pages.count old) free c.in_ok-slots.ensures.map c.in_ok-slots.ensures.count beside.frees in
    let made = subst (λ (n : ℕ). (node : Node g.row.C-Key.Denot n) → IsRead g.C.GistClass class (g.P.Pages.map c.fetch_slots.new.pages) (g.P.Pages.count c.fetch_slots.new.pages) n node c.in_ok-slots.slots root → (others : List ℕ) → IsFreeList (g.P.Pages.map c.fetch_slots.new.pages) (g.P.Pages.count c.fetch_slots.new.pages) others → IsApart (pages_of g.row.C-Key.Denot n node ++ others)
    → (rest : List ℕ) × IsFreeList (g.P.Pages.map c.drop_page.new.pages) (g.P.Pages.count c.drop_page.new.pages) rest × IsPermutation (pages_of g.row.C-Key.Denot n node ++ others) rest
    × ChangesOnly (g.P.Pages.map c.fetch_slots.new.pages) (g.P.Pages.map c.drop_page.new.pages) (pages_of g.row.C-Key.Denot n node))
    at_level (c.in_ok-drop_page.ensures.dropped tells) held.1 there free list beside.apart in (
      made.0,
      all_dropped g.P.Pages old c.drop_page.new.pages (footprint held) free made.0 (c.in_ok-drop_page.ensures.count ∙ c.in_ok-slots.ensures.count)
          (subst (λ (m : PageMap). ChangesOnly m (g.P.Pages.map c.drop_page.new.pages) (footprint held)) c.in_ok-slots.ensures.map made.3)
          (subst (λ (m : PageMap). KeepsHeader m (g.P.Pages.map c.drop_page.new.pages)) c.in_ok-slots.ensures.map (c.in_ok-drop_page.ensures.header tells)) made.1 made.2,
    )
