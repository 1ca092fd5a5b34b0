use Rattle.std.proofs.Common.{◌≡◌, List, ℕ, sym, subst}
use Rattle.std.proofs.lemmas.Result.{IfOk-weaker}
use Rattle.gx_gin_entry.specs.EntryTrees.{AreShorter, IsPut}
use Rattle.gx_gin_entry.proofs.tree.EntryTree.replace.Goals as goal

pub returns-clause-replaced : goal.returns-clause-replaced
returns-clause-replaced g c =
    IfOk-weaker c.put_in_place.result _ _ (λ done is yes tells list feet free held.
    let put = is yes tells list feet free held in (
      put.0,
      put.1,
      put.2,
      put.3,
      subst (λ (k : List ℕ). IsPut k c.args.posting.now list put.0) c.in-Ok.ensures.key (subst (λ (p : List ℕ). IsPut c.in-Ok.change.key.now p list put.0) c.in-Ok.ensures.posting put.4),
    ))
    c.put_in_place.ensures.put

pub returns-clause-shorter : goal.returns-clause-shorter
returns-clause-shorter g c =
    IfOk-weaker c.put_in_place.result _ _ (λ done is no tells list feet free held.
    subst (λ (k : List ℕ). AreShorter list k c.args.posting.now) c.in-Ok.ensures.key
    (subst (λ (p : List ℕ). AreShorter list c.in-Ok.change.key.now p) c.in-Ok.ensures.posting (is no tells list feet free held)))
    c.put_in_place.ensures.shorter
