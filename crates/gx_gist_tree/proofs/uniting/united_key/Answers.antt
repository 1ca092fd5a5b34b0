use Rattle.std.proofs.Common.{◌≡◌, ◌++◌, ◌∷◌, [], ℕ, List, take, sym, ◌∙◌, ap, subst, arith}
use Rattle.std.proofs.lemmas.List.Elements.{All-contains}
use Rattle.gx_gist_tree.specs.Insertion.{IsUnion, picked}
use Rattle.gx_gist_tree.proofs.ItemSteps.{picked_none}
use Rattle.gx_gist_tree.proofs.KeyFacts.{union_more}
use Rattle.gx_gist_tree.proofs.Places.{take_whole}
use Rattle.gx_gist_tree.proofs.uniting.united_key.Goals as goal

pub union-requires-clause-left : goal.union-requires-clause-left
union-requires-clause-left g c = All-contains (λ k. g.C.GistClass.valid_key c.args.class.now k) c.args.keys.now c.picked_at-first.result.now c.requires.keys c.picked_at-first.ensures.among

pub union-requires-clause-right : goal.union-requires-clause-right
union-requires-clause-right g c = All-contains (λ k. g.C.GistClass.valid_key c.args.class.now k) c.args.keys.now c.picked_at-second.result.now c.requires.keys c.picked_at-second.ensures.among

pub loop-k-init : goal.loop-k-init
loop-k-init g c =
    let class = c.args.class.now in
    let keys = c.args.keys.now in
    let places = c.args.places.now in
    let left = All-contains (λ k. g.C.GistClass.valid_key class k) keys c.picked_at-first.result.now c.requires.keys c.picked_at-first.ensures.among in
    let right = All-contains (λ k. g.C.GistClass.valid_key class k) keys c.picked_at-second.result.now c.requires.keys c.picked_at-second.ensures.among in
    let both : picked keys (take 2 places) ≡ c.picked_at-first.result.now ∷ c.picked_at-second.result.now ∷ [] =
    c.picked_at-second.ensures.next ∙ ap (λ (l : List g.row.C-Key.Denot). l ++ c.picked_at-second.result.now ∷ []) (c.picked_at-first.ensures.next ∙ ap (λ (l : List g.row.C-Key.Denot). l ++ c.picked_at-first.result.now ∷ []) (picked_none keys places)) in
    record {
      valid = subst (g.C.GistClass.valid_key class) (sym c.in-Ok.ensures) (g.met.C.GistClass.union_is_valid class c.picked_at-first.result.now c.picked_at-second.result.now c.requires.class left right);
      union = (c.picked_at-first.result.now, c.picked_at-second.result.now ∷ [], both, c.in-Ok.ensures);
    }

pub loop-k-preserved : goal.loop-k-preserved
loop-k-preserved g c =
    let class = c.args.class.now in
    let keys = c.args.keys.now in
    let places = c.args.places.now in
    let right = All-contains (λ k. g.C.GistClass.valid_key class k) keys c.picked_at-next.result.now c.requires.keys c.picked_at-next.ensures.among in
    record {
      valid = subst (g.C.GistClass.valid_key class) (sym c.in-Ok-union.ensures) (g.met.C.GistClass.union_is_valid class c.loop-k.united c.picked_at-next.result.now c.requires.class c.loop-k.invariant.valid right);
      union = subst (λ (l : List g.row.C-Key.Denot). IsUnion (g.C.GistClass.union_of class) l c.in-Ok-union.more) (sym c.picked_at-next.ensures.next)
          (subst (λ (k : g.row.C-Key.Denot). IsUnion (g.C.GistClass.union_of class) (picked keys (take c.loop-k.k places) ++ c.picked_at-next.result.now ∷ []) k) (sym c.in-Ok-union.ensures)
          (union_more (g.C.GistClass.union_of class) (picked keys (take c.loop-k.k places)) c.loop-k.united c.picked_at-next.result.now c.loop-k.invariant.union));
    }

pub returns-clause-union : goal.returns-clause-union
returns-clause-union g c =
    subst (λ (l : List ℕ). IsUnion (g.C.GistClass.union_of c.args.class.now) (picked c.args.keys.now l) c.loop-k.united) (take_whole c.args.places.now c.loop-k.k (let test = c.loop-k-test.false in omega arith)) c.loop-k.invariant.union
