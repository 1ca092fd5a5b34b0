use Rattle.std.proofs.Common.{◌≡◌, arith}
use Rattle.std.proofs.lemmas.Result.{err_from_is_err_and}
use Rattle.gx_pages.proofs.Footprints.{cause_weaker}
use Rattle.gx_gist_tree.proofs.VisitFacts.{named_cause}
use Rattle.gx_gist_tree.proofs.LeafPut.{leaf_keys, leaf_inserted, leaf_same, leaf_apart}
use Rattle.gx_gist_tree.proofs.PutFacts.{valid_keys}
use Rattle.gx_gist_tree.proofs.insertion.insert_on_leaf.Goals as goal

pub returns-in_err-arranged-clause-cause : goal.returns-in_err-arranged-clause-cause
returns-in_err-arranged-clause-cause g c =
    let p = err_from_is_err_and c.from_residual.result c.from_residual.ensures.1 in
    let class = c.args.class.now in
    rw (p.1, p.2)
    (named_cause c.in_err-arranged.field-0.0 c.args.page _ _ _ _ _ c.in_err-arranged.ensures.cause
    (λ broken tells node free ready. leaf_keys g.P.Pages g.C.GistClass class (λ a b va vb. g.met.C.GistClass.one_spelling class a b c.requires.class va vb) c.args.pages.now c.args.pages.now c.args.row c.args.key.now c.requires.key node free c.args.slots.now c.args.page ready broken))

pub returns-in_err-change-clause-cause : goal.returns-in_err-change-clause-cause
returns-in_err-change-clause-cause g c =
    let p = err_from_is_err_and c.from_residual-in_err-change.result c.from_residual-in_err-change.ensures.1 in
    rw (p.1, p.2)
    (cause_weaker c.in_err-change.field-0.0 (g.P.Pages.faults c.args.pages.now) (g.P.Pages.faults c.args.pages.now) (g.P.Pages.faults c.put_arranged.new.pages) (g.P.Pages.faults c.put_arranged.new.pages)
    _ _ _ _ _ _ (omega arith) (omega arith) (λ at expected found broken tells node free ready. broken tells free ready.frees) (λ n has. has) (λ has. has) c.in_err-change.ensures.cause)

pub returns-clause-valid : goal.returns-clause-valid
returns-clause-valid g c = valid_keys (g.C.GistClass.valid_key c.args.class.now) c.in_ok-arranged.arranged c.in_ok-change.change c.in_ok-change.ensures.keys c.in_ok-arranged.ensures.valid

pub returns-clause-inserted : goal.returns-clause-inserted
returns-clause-inserted g c = λ tells node free ready.
    let class = c.args.class.now in
    let old = c.args.pages.now in
    let one = λ (a b : g.row.C-Key.Denot) (va : g.C.GistClass.valid_key class a) (vb : g.C.GistClass.valid_key class b) (same : g.C.GistClass.spelling class a ≡ g.C.GistClass.spelling class b). g.met.C.GistClass.one_spelling class a b c.requires.class va vb same in
    leaf_inserted g.P.Pages g.C.GistClass class one old c.put_arranged.new.pages c.args.row c.args.key.now c.requires.key node free c.args.slots.now c.args.page ready c.add_row.new.slots
    c.in_ok-arranged.arranged c.in_ok-change.change c.in_ok-arranged.ensures.added
    (c.in_ok-change.ensures.put tells free ready.frees (leaf_apart g.P.Pages g.C.GistClass class old node free c.args.slots.now c.args.page ready)
    (λ none. absurd (leaf_same g.P.Pages g.C.GistClass class old node free c.args.slots.now c.args.page ready c.args.row c.args.key.now c.add_row.new.slots c.in_ok-arranged.arranged c.in_ok-arranged.ensures.added none)))
