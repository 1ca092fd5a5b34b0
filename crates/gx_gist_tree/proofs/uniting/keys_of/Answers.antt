use Rattle.std.proofs.Common.{inl, inr, ⊎_elim, ◌+◌, ℕ, List, take, sym, subst, arith}
use Rattle.std.specs.List.{AllZip}
use Rattle.std.proofs.lemmas.Result.{err_from_is_err_and}
use Rattle.gx_gist_tree.specs.Insertion.{IsKeyOf, head_len}
use Rattle.gx_gist_tree.proofs.KeyFacts.{beside_at, zip_more}
use Rattle.gx_gist_tree.proofs.uniting.keys_of.Goals as goal

pub returns-in_err-key-clause-cause : goal.returns-in_err-key-clause-cause
returns-in_err-key-clause-cause g c =
    let p = err_from_is_err_and c.from_residual.result c.from_residual.ensures.1 in
    let R = IsKeyOf (g.C.GistClass.valid_key c.args.class.now) (g.C.GistClass.spelling c.args.class.now) (head_len c.args.level) in
    rw (p.1, p.2)
    (⊎_elim (λ memory. inl memory)
    (λ broken. inr (
      broken.0,
      λ keys are.
          let at = beside_at R c.args.items.now keys c.loop-item.item-index c.item-item.result are (let test = c.loop-item-test.true in omega arith) c.item-item.is in
          broken.1 at.0 (subst (λ (l : List ℕ). R l at.0) (sym c.as_slice.ensures) at.1),
    ))
    c.in_err-key.ensures.cause)

pub loop-item-preserved : goal.loop-item-preserved
loop-item-preserved g c =
    let R = IsKeyOf (g.C.GistClass.valid_key c.args.class.now) (g.C.GistClass.spelling c.args.class.now) (head_len c.args.level) in
    subst (λ (l : List g.row.C-Key.Denot). AllZip R (take (c.loop-item.item-index + 1) c.args.items.now) l) (sym c.in-Ok.ensures.ok)
    (zip_more R c.args.items.now c.loop-item.keys c.loop-item.item-index c.item-item.result c.in_ok-key.key (let test = c.loop-item-test.true in omega arith) c.item-item.is c.loop-item.invariant
    (subst (λ (l : List ℕ). R l c.in_ok-key.key) c.as_slice.ensures c.in_ok-key.ensures.ok))
