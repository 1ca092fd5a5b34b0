use Rattle.std.proofs.Common.{List, ◌++◌, ℕ, subst, inl, inr, ⊎_elim}
use Rattle.gx_pages.specs.Frees.{IsApart}
use Rattle.gx_index.proofs.nulls.nulls_stay.Goals as goal

pub returns-clause-stays : goal.returns-clause-stays
returns-clause-stays g c old new nulls rows feet before free after rest h keeps apart =
    ⊎_elim (λ none. inl none) (λ some.
    let l = some.held in
    inr (record {
      root = some.root;
      some = some.some;
      held = record {
        tree = l.tree;
        held = c.tree_stays.ensures old new 6 nulls l.tree before free after rest l.held keeps (subst (λ (f : List ℕ). IsApart (before ++ free ++ f)) l.stand apart);
        stand = l.stand;
        spelled = l.spelled;
        rising = l.rising;
        keyed = l.keyed;
      };
    })) h
