use Rattle.std.proofs.Common.{◌-◌, List, ℕ, length, take, drop, nat_cmp, sym, ap, ◌∙◌}
use Rattle.std.specs.Cmp.Lexicographic.{slice_cmp}
use Rattle.gx_json.specs.Tree.{data_of, members_data}
use Rattle.gx_json.proofs.OperatorLemmas.{begin_search, rest_split, pass_member, find_member, miss_member, no_member, empty_members}
use Rattle.gx_json.proofs.operators.sought.Goals as goal

pub loop-rest-init : goal.loop-rest-init
loop-rest-init c = begin_search (members_data c.args.pairs.now) c.args.key.now c.requires

pub loop-rest-preserved : goal.loop-rest-preserved
loop-rest-preserved c =
    let i = c.loop-rest.invariant in
    let rest = c.loop-rest.rest.now in
    let p = c.pair-item.result in
    let order = ap (λ (k : List ℕ). slice_cmp nat_cmp k c.args.key.now) (sym c.as_slice.ensures) ∙ sym c.cmp.ensures ∙ c.in-Less.is in
    pass_member (members_data c.args.pairs.now) (members_data rest) (members_data (take (length rest - 1) (drop 1 rest))) i.0 c.args.key.now p.0 (data_of p.1) i.1 i.2 i.3 (rest_split rest p c.in-len1-up.len_at_least c.pair-item.is) order

pub returns-in-Equal : goal.returns-in-Equal
returns-in-Equal c =
    let i = c.loop-rest.invariant in
    let rest = c.loop-rest.rest.now in
    let p = c.pair-item.result in
    let order = ap (λ (k : List ℕ). slice_cmp nat_cmp k c.args.key.now) (sym c.as_slice.ensures) ∙ sym c.cmp.ensures ∙ c.in-Equal.is in
    find_member (members_data c.args.pairs.now) (members_data rest) (members_data (take (length rest - 1) (drop 1 rest))) i.0 c.args.key.now p.0 (data_of p.1) i.1 i.2 i.3 (rest_split rest p c.in-len1-up.len_at_least c.pair-item.is) order

pub returns-in-Greater : goal.returns-in-Greater
returns-in-Greater c =
    let i = c.loop-rest.invariant in
    let rest = c.loop-rest.rest.now in
    let p = c.pair-item.result in
    let order = ap (λ (k : List ℕ). slice_cmp nat_cmp k c.args.key.now) (sym c.as_slice.ensures) ∙ sym c.cmp.ensures ∙ c.in-Greater.is in
    miss_member (members_data c.args.pairs.now) (members_data rest) (members_data (take (length rest - 1) (drop 1 rest))) i.0 c.args.key.now p.0 (data_of p.1) i.1 i.2 i.3 (rest_split rest p c.in-len1-up.len_at_least c.pair-item.is) order

pub returns : goal.returns
returns c =
    let i = c.loop-rest.invariant in
    no_member (members_data c.args.pairs.now) (members_data c.loop-rest.rest.now) i.0 c.args.key.now i.1 i.2 (empty_members c.loop-rest.rest.now c.in_default.len_below)
