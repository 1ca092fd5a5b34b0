use Rattle.std.proofs.Common.{◌≡◌, ◌≤◌, ◌+◌, ℕ, List, Option, Some, None, Bor, arith}
use Rattle.std.proofs.lemmas.Result.{IfErr-weaker, IfOk-weaker, err_from_is_err_and}
use Rattle.std.specs.Option.{option_map}
use Rattle.gx_pages.proofs.Footprints.{cause_weaker}
use Rattle.gx_tree.proofs.Causes.{broken_or}
use Rattle.gx_gin_entry.proofs.Afters.{after_behind, after_here, after_refused, inside, later, others_are, others_rise, others_spelled}
use Rattle.gx_gin_entry.proofs.tree.EntryTree.after.Goals as goal

abbrev low_of : Option (Bor (List ℕ)) → Option (List ℕ)
low_of key = option_map (λ k. k.now) key

pub returns-in_err-found-clause-cause : goal.returns-in_err-found-clause-cause
returns-in_err-found-clause-cause g c =
    let p = err_from_is_err_and c.from_residual-in_err-found.result c.from_residual-in_err-found.ensures.1 in
    let old = c.args.pages.now in
    let mid = c.find_page.new.pages in
    rw (p.1, p.2)
    (broken_or c.in_err-found.field-0.0 c.in_ok-leaf.leaf.page (g.P.Pages.faults old) (g.P.Pages.faults mid) _ _ _ _ c.in_err-found.ensures.cause
    (λ refused at expected found tells list feet held.
    after_refused g.P.Pages old mid c.args.self.now.page list feet c.in_ok-leaf.ensures.map c.in_ok-leaf.ensures.count held (low_of c.args.key) c.sought_from-sought.result.key.now c.sought_from-sought.ensures
    c.in_ok-leaf.leaf.page c.in_ok-leaf.leaf.slots (c.in_ok-leaf.ensures.found tells list feet held) refused) tt)

pub returns-in-Some-clause-next : goal.returns-in-Some-clause-next
returns-in-Some-clause-next g c = λ tells list feet held.
    after_here g.P.Pages c.args.pages.now c.find_page.new.pages c.args.self.now.page list feet c.in_ok-leaf.ensures.map c.in_ok-leaf.ensures.count held (low_of c.args.key) c.sought_from-sought.result.key.now c.sought_from-sought.ensures
    c.in_ok-leaf.leaf.page c.in_ok-leaf.leaf.slots (c.in_ok-leaf.ensures.found tells list feet held) (c.in-Some.entry.0, c.in-Some.entry.1)
    (λ l listed. let all = c.in_ok-found.ensures.found l listed in rw c.in-Some.is at all)

pub returns-in-None-clause-next : goal.returns-in-None-clause-next
returns-in-None-clause-next g c =
    IfOk-weaker c.first_behind.result _ _ (λ found first tells list feet held.
    let old = c.args.pages.now in
    let mid = c.find_page.new.pages in
    let root = c.args.self.now.page in
    let key = c.sought_from-sought.result.key.now in
    let leaf = c.in_ok-leaf.ensures.found tells list feet held in
    after_behind g.P.Pages old mid root list feet c.in_ok-leaf.ensures.map c.in_ok-leaf.ensures.count held (low_of c.args.key) key c.sought_from-sought.ensures c.in_ok-leaf.leaf.page c.in_ok-leaf.leaf.slots leaf _
    (λ l listed. let all = c.in_ok-found.ensures.found l listed in rw c.in-None.is at all)
    (first tells list feet (later g.P.Pages old mid root list feet c.in_ok-leaf.ensures.map c.in_ok-leaf.ensures.count held (low_of c.args.key) key c.sought_from-sought.ensures c.in_ok-leaf.leaf.page c.in_ok-leaf.leaf.slots leaf)
    leaf.prior leaf.others leaf.leaf (inside g.P.Pages old mid root list feet c.in_ok-leaf.ensures.map c.in_ok-leaf.ensures.count held (low_of c.args.key) key c.sought_from-sought.ensures c.in_ok-leaf.leaf.page c.in_ok-leaf.leaf.slots leaf).right leaf.row
    (others_spelled g.P.Pages old mid root list feet c.in_ok-leaf.ensures.map c.in_ok-leaf.ensures.count held (low_of c.args.key) key c.sought_from-sought.ensures c.in_ok-leaf.leaf.page c.in_ok-leaf.leaf.slots leaf)
    (others_are g.P.Pages old mid root list feet c.in_ok-leaf.ensures.map c.in_ok-leaf.ensures.count held (low_of c.args.key) key c.sought_from-sought.ensures c.in_ok-leaf.leaf.page c.in_ok-leaf.leaf.slots leaf)
    (others_rise g.P.Pages old mid root list feet c.in_ok-leaf.ensures.map c.in_ok-leaf.ensures.count held (low_of c.args.key) key c.sought_from-sought.ensures c.in_ok-leaf.leaf.page c.in_ok-leaf.leaf.slots leaf)))
    c.first_behind.ensures.found

pub returns-in-None-clause-cause : goal.returns-in-None-clause-cause
returns-in-None-clause-cause g c =
    IfErr-weaker c.first_behind.result _ _ (λ error has.
    let old = c.args.pages.now in
    let mid = c.find_page.new.pages in
    let root = c.args.self.now.page in
    let key = c.sought_from-sought.result.key.now in
    cause_weaker error (g.P.Pages.faults old) (g.P.Pages.faults mid) (g.P.Pages.faults c.first_behind.new.pages) (g.P.Pages.faults c.first_behind.new.pages)
    _ _ _ _ _ _ (let q = c.in_ok-leaf.ensures.quiet.faults in omega (arith, q)) (omega arith) (λ at expected found refused tells list feet held.
    let leaf = c.in_ok-leaf.ensures.found tells list feet held in
    refused tells list feet (later g.P.Pages old mid root list feet c.in_ok-leaf.ensures.map c.in_ok-leaf.ensures.count held (low_of c.args.key) key c.sought_from-sought.ensures c.in_ok-leaf.leaf.page c.in_ok-leaf.leaf.slots leaf)
    leaf.prior leaf.others leaf.leaf (inside g.P.Pages old mid root list feet c.in_ok-leaf.ensures.map c.in_ok-leaf.ensures.count held (low_of c.args.key) key c.sought_from-sought.ensures c.in_ok-leaf.leaf.page c.in_ok-leaf.leaf.slots leaf).right leaf.row
    (others_spelled g.P.Pages old mid root list feet c.in_ok-leaf.ensures.map c.in_ok-leaf.ensures.count held (low_of c.args.key) key c.sought_from-sought.ensures c.in_ok-leaf.leaf.page c.in_ok-leaf.leaf.slots leaf)
    (others_are g.P.Pages old mid root list feet c.in_ok-leaf.ensures.map c.in_ok-leaf.ensures.count held (low_of c.args.key) key c.sought_from-sought.ensures c.in_ok-leaf.leaf.page c.in_ok-leaf.leaf.slots leaf)
    (others_rise g.P.Pages old mid root list feet c.in_ok-leaf.ensures.map c.in_ok-leaf.ensures.count held (low_of c.args.key) key c.sought_from-sought.ensures c.in_ok-leaf.leaf.page c.in_ok-leaf.leaf.slots leaf))
    (λ n no. absurd no) (λ m. m) has)
    c.first_behind.ensures.cause
