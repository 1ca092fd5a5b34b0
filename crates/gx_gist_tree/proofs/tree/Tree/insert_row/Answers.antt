use Rattle.std.proofs.Common.{◌≡◌, List, ℕ, refl, ◌∙◌, subst, arith}
use Rattle.std.proofs.lemmas.Result.{err_from_is_err_and}
use Rattle.gx_pages.proofs.Footprints.{cause_weaker, quiet_join}
use Rattle.gx_gist_tree.specs.declared.change.Change.{Change}
use Rattle.gx_gist_tree.specs.Trees.{Node}
use Rattle.gx_gist_tree.specs.Insertion.{IsInserted, IsReady}
use Rattle.gx_gist_tree.proofs.ChildFacts.{inserted_same, ready_same}
use Rattle.gx_gist_tree.proofs.HeldFacts.{root_there, root_read, root_flat, low_level, level_cause}
use Rattle.gx_gist_tree.proofs.RootPut.{later_grown, later_within, not_stuck, ready_root}
use Rattle.gx_gist_tree.proofs.tree.Tree.insert_row.Goals as goal

pub returns-in_err-root-clause-cause : goal.returns-in_err-root-clause-cause
returns-in_err-root-clause-cause g c =
    let class = c.args.self.now.class in
    let root = c.args.self.now.root in
    let old = c.args.pages.now in
    let leaf_valid = λ (v : g.row.C-Value.Denot) (ok : g.C.GistClass.valid_value class v). g.met.C.GistClass.leaf_is_valid class v c.requires.class ok in
    let p = err_from_is_err_and c.from_residual.result c.from_residual.ensures.1 in
    rw (p.1, p.2)
    (cause_weaker c.in_err-root.field-0.0 (g.P.Pages.faults old) (g.P.Pages.faults old) (g.P.Pages.faults c.fetch_slots.new.pages) (g.P.Pages.faults c.fetch_slots.new.pages)
    _ _ _ _ _ _ (omega arith) (omega arith)
    (λ at expected found broken tells held free holds.
    root_there g.C.GistClass class leaf_valid (g.P.Pages.map old) (g.P.Pages.count old) root held holds.held (λ some low bytes is. broken some low tells bytes is))
    (λ n no. absurd no) (λ no. absurd no) c.in_err-root.ensures.cause)

pub returns-in_err-level-clause-cause : goal.returns-in_err-level-clause-cause
returns-in_err-level-clause-cause g c =
    let class = c.args.self.now.class in
    let root = c.args.self.now.root in
    let old = c.args.pages.now in
    let leaf_valid = λ (v : g.row.C-Value.Denot) (ok : g.C.GistClass.valid_value class v). g.met.C.GistClass.leaf_is_valid class v c.requires.class ok in
    let p = err_from_is_err_and c.from_residual-in_err-level.result c.from_residual-in_err-level.ensures.1 in
    rw (p.1, p.2)
    (level_cause c.in_err-level.field-0.0 root c.in_ok-root.root.level _ _ _ _ c.in_err-level.ensures.cause
    (λ high tells held free holds.
    let one = c.in_ok-root.ensures.one tells in
    let flat = root_flat g.C.GistClass class leaf_valid (g.P.Pages.map old) (g.P.Pages.count old) root held holds.held c.in_ok-root.root one in
    low_level g.row.C-Key.Denot held.0 held.1 (g.P.Pages.count old) holds.held.two holds.held.apart holds.held.below (g.met.P.Pages.bounded old) (omega (arith, high, flat))))

pub returns-in_err-change-clause-cause : goal.returns-in_err-change-clause-cause
returns-in_err-change-clause-cause g c =
    let class = c.args.self.now.class in
    let root = c.args.self.now.root in
    let old = c.args.pages.now in
    let mid = c.fetch_slots.new.pages in
    let leaf_valid = λ (v : g.row.C-Value.Denot) (ok : g.C.GistClass.valid_value class v). g.met.C.GistClass.leaf_is_valid class v c.requires.class ok in
    let p = err_from_is_err_and c.from_residual-in_err-change.result c.from_residual-in_err-change.ensures.1 in
    rw (p.1, p.2)
    (cause_weaker c.in_err-change.field-0.0 (g.P.Pages.faults old) (g.P.Pages.faults mid) (g.P.Pages.faults c.insert_on_page.new.pages) (g.P.Pages.faults c.insert_on_page.new.pages)
    _ _ _ _ _ _ (let q = c.in_ok-root.ensures.quiet.faults in omega (arith, q)) (omega arith)
    (λ at expected found broken tells held free holds.
    let one = c.in_ok-root.ensures.one tells in
    let read = root_read g.C.GistClass class leaf_valid (g.P.Pages.map old) (g.P.Pages.count old) root held holds.held c.in_ok-root.root one in
    let flat = root_flat g.C.GistClass class leaf_valid (g.P.Pages.map old) (g.P.Pages.count old) root held holds.held c.in_ok-root.root one in
    let at_level : c.in_ok-level.level ≡ held.0 = c.in_ok-level.ensures.level.0 ∙ flat in
    let ready = ready_same g.P.Pages g.C.GistClass class old held.0 held.1 c.in_ok-root.root root free (ready_root g.P.Pages g.C.GistClass class old root held free holds c.in_ok-root.root read) mid
    c.in_ok-root.ensures.map c.in_ok-root.ensures.count c.in_ok-root.root refl in
    subst (λ (n : ℕ). (node : Node g.row.C-Key.Denot n) (list : List ℕ) → IsReady g.P.Pages g.C.GistClass class mid n node c.in_ok-root.root root list → ⊥) at_level (broken tells) held.1 free ready)
    (λ n has. has) (λ has. has) c.in_err-change.ensures.cause)

pub returns-in_default-clause-inserted : goal.returns-in_default-clause-inserted
returns-in_default-clause-inserted g c = λ tells held free holds fresh.
    let class = c.args.self.now.class in
    let root = c.args.self.now.root in
    let old = c.args.pages.now in
    let mid = c.fetch_slots.new.pages in
    let new = c.insert_on_page.new.pages in
    let law = g.met.C.GistClass in
    let ok = c.requires.class in
    let leaf_valid = λ (v : g.row.C-Value.Denot) (vv : g.C.GistClass.valid_value class v). law.leaf_is_valid class v ok vv in
    let one = c.in_ok-root.ensures.one tells in
    let read = root_read g.C.GistClass class leaf_valid (g.P.Pages.map old) (g.P.Pages.count old) root held holds.held c.in_ok-root.root one in
    let flat = root_flat g.C.GistClass class leaf_valid (g.P.Pages.map old) (g.P.Pages.count old) root held holds.held c.in_ok-root.root one in
    let at_level : c.in_ok-level.level ≡ held.0 = c.in_ok-level.ensures.level.0 ∙ flat in
    let ready = ready_same g.P.Pages g.C.GistClass class old held.0 held.1 c.in_ok-root.root root free (ready_root g.P.Pages g.C.GistClass class old root held free holds c.in_ok-root.root read) mid
    c.in_ok-root.ensures.map c.in_ok-root.ensures.count c.in_ok-root.root refl in
    let made = subst (λ (n : ℕ). (node : Node g.row.C-Key.Denot n) (list : List ℕ) → IsReady g.P.Pages g.C.GistClass class mid n node c.in_ok-root.root root list
    → IsInserted g.P.Pages g.C.GistClass class mid new c.args.row c.args.key.now n node list c.insert_on_page.new.slots c.in_ok-change.change) at_level (c.in_ok-change.ensures.inserted tells) held.1 free ready in
    let done = inserted_same g.P.Pages g.C.GistClass class old mid new c.args.row c.args.key.now held.0 held.1 free c.insert_on_page.new.slots c.in_ok-change.change c.in_ok-root.ensures.map c.in_ok-root.ensures.count made in
    let made_tree = later_within g.P.Pages g.C.GistClass class old root held free holds leaf_valid
    (λ a b va vb. law.union_is_valid class a b ok va vb)
    (λ v vv. law.over_itself class v ok vv)
    (λ a b v va vb vv h. law.union_over_left class a b v ok va vb vv h)
    (λ a b v va vb vv h. law.union_over_right class a b v ok va vb vv h)
    c.args.row c.args.key.now c.requires.key (omega arith, omega arith, omega arith) fresh new c.insert_on_page.new.slots
    (subst (λ (x : Change g.row.C-Key.Denot). IsInserted g.P.Pages g.C.GistClass class old new c.args.row c.args.key.now held.0 held.1 free c.insert_on_page.new.slots x) c.in_default.is done) in
    (made_tree.0, made_tree.1, made_tree.2.0, made_tree.2.1, made_tree.2.2, made_tree.2.3)

pub returns-clause-inserted : goal.returns-clause-inserted
returns-clause-inserted g c = λ tells held free holds fresh.
    let class = c.args.self.now.class in
    let root = c.args.self.now.root in
    let old = c.args.pages.now in
    let mid = c.fetch_slots.new.pages in
    let far = c.insert_on_page.new.pages in
    let new = c.grow_root.new.pages in
    let law = g.met.C.GistClass in
    let ok = c.requires.class in
    let leaf_valid = λ (v : g.row.C-Value.Denot) (vv : g.C.GistClass.valid_value class v). law.leaf_is_valid class v ok vv in
    let one = c.in_ok-root.ensures.one tells in
    let read = root_read g.C.GistClass class leaf_valid (g.P.Pages.map old) (g.P.Pages.count old) root held holds.held c.in_ok-root.root one in
    let flat = root_flat g.C.GistClass class leaf_valid (g.P.Pages.map old) (g.P.Pages.count old) root held holds.held c.in_ok-root.root one in
    let at_level : c.in_ok-level.level ≡ held.0 = c.in_ok-level.ensures.level.0 ∙ flat in
    let ready = ready_same g.P.Pages g.C.GistClass class old held.0 held.1 c.in_ok-root.root root free (ready_root g.P.Pages g.C.GistClass class old root held free holds c.in_ok-root.root read) mid
    c.in_ok-root.ensures.map c.in_ok-root.ensures.count c.in_ok-root.root refl in
    let made = subst (λ (n : ℕ). (node : Node g.row.C-Key.Denot n) (list : List ℕ) → IsReady g.P.Pages g.C.GistClass class mid n node c.in_ok-root.root root list
    → IsInserted g.P.Pages g.C.GistClass class mid far c.args.row c.args.key.now n node list c.insert_on_page.new.slots c.in_ok-change.change) at_level (c.in_ok-change.ensures.inserted tells) held.1 free ready in
    let done = inserted_same g.P.Pages g.C.GistClass class old mid far c.args.row c.args.key.now held.0 held.1 free c.insert_on_page.new.slots c.in_ok-change.change c.in_ok-root.ensures.map c.in_ok-root.ensures.count made in
    let made_tree = later_grown g.P.Pages g.C.GistClass class old root held free holds leaf_valid
    (λ a b va vb. law.union_is_valid class a b ok va vb)
    (λ v vv. law.over_itself class v ok vv)
    (λ a b v va vb vv h. law.union_over_left class a b v ok va vb vv h)
    (λ a b v va vb vv h. law.union_over_right class a b v ok va vb vv h)
    c.args.row c.args.key.now c.requires.key (omega arith, omega arith, omega arith) fresh far new c.insert_on_page.new.slots c.in-Split.left c.in-Split.other c.in-Split.right
    (subst (λ (x : Change g.row.C-Key.Denot). IsInserted g.P.Pages g.C.GistClass class old far c.args.row c.args.key.now held.0 held.1 free c.insert_on_page.new.slots x) c.in-Split.is done)
    c.in_ok-level.level at_level (c.in_ok-grow_root.ensures.put tells) in
    (made_tree.0, made_tree.1, made_tree.2.0, made_tree.2.1, made_tree.2.2, made_tree.2.3)

pub returns-in_err-grow_root-clause-cause : goal.returns-in_err-grow_root-clause-cause
returns-in_err-grow_root-clause-cause g c =
    let class = c.args.self.now.class in
    let root = c.args.self.now.root in
    let old = c.args.pages.now in
    let mid = c.fetch_slots.new.pages in
    let far = c.insert_on_page.new.pages in
    let leaf_valid = λ (v : g.row.C-Value.Denot) (ok : g.C.GistClass.valid_value class v). g.met.C.GistClass.leaf_is_valid class v c.requires.class ok in
    let p = err_from_is_err_and c.from_residual-in_err-grow_root.result c.from_residual-in_err-grow_root.ensures.1 in
    rw (p.1, p.2)
    (cause_weaker c.in_err-grow_root.field-0.0 (g.P.Pages.faults old) (g.P.Pages.faults far) (g.P.Pages.faults c.grow_root.new.pages) (g.P.Pages.faults c.grow_root.new.pages)
    _ _ _ _ _ _ (let q = c.in_ok-root.ensures.quiet.faults in let r = c.in_ok-change.ensures.quiet.faults in omega (arith, q, r)) (omega arith)
    (λ at expected found broken tells held free holds.
    let one = c.in_ok-root.ensures.one tells in
    let read = root_read g.C.GistClass class leaf_valid (g.P.Pages.map old) (g.P.Pages.count old) root held holds.held c.in_ok-root.root one in
    let flat = root_flat g.C.GistClass class leaf_valid (g.P.Pages.map old) (g.P.Pages.count old) root held holds.held c.in_ok-root.root one in
    let at_level : c.in_ok-level.level ≡ held.0 = c.in_ok-level.ensures.level.0 ∙ flat in
    let ready = ready_same g.P.Pages g.C.GistClass class old held.0 held.1 c.in_ok-root.root root free (ready_root g.P.Pages g.C.GistClass class old root held free holds c.in_ok-root.root read) mid
    c.in_ok-root.ensures.map c.in_ok-root.ensures.count c.in_ok-root.root refl in
    let made = subst (λ (n : ℕ). (node : Node g.row.C-Key.Denot n) (list : List ℕ) → IsReady g.P.Pages g.C.GistClass class mid n node c.in_ok-root.root root list
    → IsInserted g.P.Pages g.C.GistClass class mid far c.args.row c.args.key.now n node list c.insert_on_page.new.slots c.in_ok-change.change) at_level (c.in_ok-change.ensures.inserted tells) held.1 free ready in
    let done = inserted_same g.P.Pages g.C.GistClass class old mid far c.args.row c.args.key.now held.0 held.1 free c.insert_on_page.new.slots c.in_ok-change.change c.in_ok-root.ensures.map c.in_ok-root.ensures.count made in
    not_stuck g.P.Pages g.C.GistClass class old root held free holds far c.args.row c.args.key.now c.insert_on_page.new.slots c.in-Split.left c.in-Split.other c.in-Split.right
    (subst (λ (x : Change g.row.C-Key.Denot). IsInserted g.P.Pages g.C.GistClass class old far c.args.row c.args.key.now held.0 held.1 free c.insert_on_page.new.slots x) c.in-Split.is done)
    (g.met.P.Pages.bounded far) c.in_ok-level.level at_level (λ low list frees. broken low tells list frees))
    (λ n has. has) (λ has. has) c.in_err-grow_root.ensures.cause)

pub returns-in_err-change-clause-quiet : goal.returns-in_err-change-clause-quiet
returns-in_err-change-clause-quiet g c = quiet_join g.P.Pages g.met.P.Pages.follows_on c.args.pages.now c.fetch_slots.new.pages c.insert_on_page.new.pages c.fetch_slots.ensures.quiet c.insert_on_page.ensures.quiet

pub returns-in_default-clause-quiet : goal.returns-in_default-clause-quiet
returns-in_default-clause-quiet g c = quiet_join g.P.Pages g.met.P.Pages.follows_on c.args.pages.now c.fetch_slots.new.pages c.insert_on_page.new.pages c.fetch_slots.ensures.quiet c.insert_on_page.ensures.quiet

pub returns-in_err-grow_root-clause-quiet : goal.returns-in_err-grow_root-clause-quiet
returns-in_err-grow_root-clause-quiet g c = quiet_join g.P.Pages g.met.P.Pages.follows_on c.args.pages.now c.insert_on_page.new.pages c.grow_root.new.pages (quiet_join g.P.Pages g.met.P.Pages.follows_on c.args.pages.now c.fetch_slots.new.pages c.insert_on_page.new.pages c.fetch_slots.ensures.quiet c.insert_on_page.ensures.quiet) c.grow_root.ensures.quiet

pub returns-clause-quiet : goal.returns-clause-quiet
returns-clause-quiet g c = quiet_join g.P.Pages g.met.P.Pages.follows_on c.args.pages.now c.insert_on_page.new.pages c.grow_root.new.pages (quiet_join g.P.Pages g.met.P.Pages.follows_on c.args.pages.now c.fetch_slots.new.pages c.insert_on_page.new.pages c.fetch_slots.ensures.quiet c.insert_on_page.ensures.quiet) c.grow_root.ensures.quiet
