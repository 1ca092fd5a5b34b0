use Rattle.std.proofs.Common.{List, Box, ap, subst}
use Rattle.std.specs.declared.alloc.Global.{Global}
use Rattle.gx_value.specs.declared.fields.Column.{Column}
use Rattle.gx_parse.specs.declared.statement.Condition.{Condition}
use Rattle.gx_parse.specs.Trees.{tree_of}
use Rattle.gx_model.specs.Conditions.{condition_checks}
use Rattle.gx_model.specs.Refusals.{Refuses}
use Rattle.gx_model.specs.declared.refusal.Refusal.{Refusal}
use Rattle.gx_plan.specs.Bindings.{IsBinding}
use Rattle.gx_plan.specs.Bounds.{bound_of}
use Rattle.gx_plan.specs.declared.bound.Bound.{Bound}
use Rattle.gx_plan.proofs.BindingLemmas.{left_exit, right_exit, in_box, both, either}
use Rattle.gx_plan.proofs.binding.+bind_tree.Goals as goal

-- a refusal, and a binding, of the condition behind a box
abbrev refused : List Column → Refusal → Condition → Type 0
refused columns r condition = Refuses (condition_checks columns (tree_of condition)) r

abbrev bound_to : List Column → Bound → Condition → Type 0
bound_to columns bound condition = IsBinding columns (tree_of condition) (bound_of bound)

abbrev boxed_value : Box Bound Global → Bound
boxed_value made = made.value

pub returns-in_err-left-in-And : goal.returns-in_err-left-in-And
returns-in_err-left-in-And t c =
    let columns = c.args.columns.now in
    let r = c.in_err-left-in-And.field-0.0 in
    left_exit columns (condition_checks columns (tree_of c.args.condition.now)) (tree_of c.in-And.left.value) (tree_of c.in-And.right.value) c.from_residual.result r _
    (ap (λ (x : Condition). condition_checks columns (tree_of x)) c.in-And.is) c.from_residual.ensures.1
    (subst (refused columns r) c.deref.ensures c.in_err-left-in-And.ensures)

pub returns-in_err-left-in-Or : goal.returns-in_err-left-in-Or
returns-in_err-left-in-Or t c =
    let columns = c.args.columns.now in
    let r = c.in_err-left-in-Or.field-0.0 in
    left_exit columns (condition_checks columns (tree_of c.args.condition.now)) (tree_of c.in-Or.left.value) (tree_of c.in-Or.right.value) c.from_residual-in_err-left-in-Or.result r _
    (ap (λ (x : Condition). condition_checks columns (tree_of x)) c.in-Or.is) c.from_residual-in_err-left-in-Or.ensures.1
    (subst (refused columns r) c.deref-in-Or.ensures c.in_err-left-in-Or.ensures)

pub returns-in_err-right-in-And : goal.returns-in_err-right-in-And
returns-in_err-right-in-And t c =
    let columns = c.args.columns.now in
    let r = c.in_err-right-in-And.field-0.0 in
    right_exit columns (condition_checks columns (tree_of c.args.condition.now)) (tree_of c.in-And.left.value) (tree_of c.in-And.right.value) (bound_of c.in_ok-left-in-And.left.value)
    c.from_residual-in_err-right-in-And.result r _
    (ap (λ (x : Condition). condition_checks columns (tree_of x)) c.in-And.is) c.from_residual-in_err-right-in-And.ensures.1
    (subst (bound_to columns c.in_ok-left-in-And.left.value) c.deref.ensures c.in_ok-left-in-And.ensures)
    (subst (refused columns r) c.deref-in-And.ensures c.in_err-right-in-And.ensures)

pub returns-in_err-right-in-Or : goal.returns-in_err-right-in-Or
returns-in_err-right-in-Or t c =
    let columns = c.args.columns.now in
    let r = c.in_err-right-in-Or.field-0.0 in
    right_exit columns (condition_checks columns (tree_of c.args.condition.now)) (tree_of c.in-Or.left.value) (tree_of c.in-Or.right.value) (bound_of c.in_ok-left-in-Or.left.value)
    c.from_residual-in_err-right-in-Or.result r _
    (ap (λ (x : Condition). condition_checks columns (tree_of x)) c.in-Or.is) c.from_residual-in_err-right-in-Or.ensures.1
    (subst (bound_to columns c.in_ok-left-in-Or.left.value) c.deref-in-Or.ensures c.in_ok-left-in-Or.ensures)
    (subst (refused columns r) c.deref-in-Or-2.ensures c.in_err-right-in-Or.ensures)

pub returns-in_ok-right-in-And : goal.returns-in_ok-right-in-And
returns-in_ok-right-in-And t c =
    let columns = c.args.columns.now in
    let left = subst (bound_to columns c.in_ok-left-in-And.left.value) c.deref.ensures c.in_ok-left-in-And.ensures in
    let right = subst (bound_to columns c.in_ok-right-in-And.right.value) c.deref-in-And.ensures c.in_ok-right-in-And.ensures in
    rw c.in-And.is
    (in_box boxed_value _ columns _ c.boxed.result c.boxed.ensures
    (both columns (tree_of c.in-And.left.value) (tree_of c.in-And.right.value) (bound_of c.in_ok-left-in-And.left.value) (bound_of c.in_ok-right-in-And.right.value) left right))

pub returns-in_ok-right-in-Or : goal.returns-in_ok-right-in-Or
returns-in_ok-right-in-Or t c =
    let columns = c.args.columns.now in
    let left = subst (bound_to columns c.in_ok-left-in-Or.left.value) c.deref-in-Or.ensures c.in_ok-left-in-Or.ensures in
    let right = subst (bound_to columns c.in_ok-right-in-Or.right.value) c.deref-in-Or-2.ensures c.in_ok-right-in-Or.ensures in
    rw c.in-Or.is
    (in_box boxed_value _ columns _ c.boxed-in-Or.result c.boxed-in-Or.ensures
    (either columns (tree_of c.in-Or.left.value) (tree_of c.in-Or.right.value) (bound_of c.in_ok-left-in-Or.left.value) (bound_of c.in_ok-right-in-Or.right.value) left right))
