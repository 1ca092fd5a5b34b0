-- What each token makes of what was read.
use Rattle.std.proofs.Common.{◌≡◌, ◌+◌, ◌<◌, ◌≤◌, inl, inr, Bool, false, true≢false, List, ◌∷◌, length, map, Option, None, Some, option_map, is_some, refl, sym, ap, ◌∙◌, subst, arith}
use Rattle.std.proofs.lemmas.List.{length-map, length-reverse}
use Rattle.gx_bytes.specs.declared.error.ValueError.TheVariants.{TooDeep}
use Rattle.gx_formula.specs.declared.sign.Sign.TheVariants as sign
use Rattle.gx_formula.specs.declared.parser.Parser.{Parser}
use Rattle.gx_formula.specs.declared.parser.Pending.{Pending}
use Rattle.gx_formula.specs.Formula.{Tree}
use Rattle.gx_formula.specs.Machine.{Wanted, Behind, Negation, Group, with_product, with_sum, frame_of, frames, state_of, parsed, FailsSign}

pub length-frames : {F W : Type 0} (tree : F → Tree W) (items : List (Pending F)) → length (frames tree items) ≡ length items
length-frames tree items = length-reverse (map (frame_of tree) items) ∙ length-map items (frame_of tree)

no_operand : {F : Type 0} (o : Option F) (b : Bool) → b ≡ is_some o → b ≡ false → o ≡ None
no_operand None b e f = refl
no_operand (Some x) b e f = absurd (true≢false (sym e ∙ f))

wanted : {F W : Type 0} (tree : F → Tree W) (p : Parser F) → p.operand ≡ None → parsed tree p ≡ Wanted (frames tree p.stack.items) (option_map tree p.sum) (option_map tree p.product)
wanted tree p e = ap (λ o. state_of (frames tree p.stack.items) (option_map tree p.sum) (option_map tree p.product) (option_map tree o)) e

pub not_deep : {F W : Type 0} (tree : F → Tree W) (p : Parser F) (b : Bool) → b ≡ is_some p.operand → b ≡ false → 64 ≤ length p.stack.items → FailsSign (parsed tree p) p.operators sign.Not TooDeep
not_deep tree p b e f deep =
    let long : 64 < length (Negation ∷ frames tree p.stack.items) = omega (arith, length-frames tree p.stack.items, deep) in
    subst (λ s. FailsSign s p.operators sign.Not TooDeep) (sym (wanted tree p (no_operand p.operand b e f)))
    (Wanted (Negation ∷ frames tree p.stack.items) (option_map tree p.sum) (option_map tree p.product), refl, inl long)

pub open_deep : {F W : Type 0} (tree : F → Tree W) (p : Parser F) (b : Bool) → b ≡ is_some p.operand → b ≡ false → 64 ≤ length p.stack.items → FailsSign (parsed tree p) p.operators sign.Open TooDeep
open_deep tree p b e f deep =
    let s = option_map tree p.sum in
    let q = option_map tree p.product in
    let long : 64 < length (Group s q ∷ frames tree p.stack.items) = omega (arith, length-frames tree p.stack.items, deep) in
    subst (λ z. FailsSign z p.operators sign.Open TooDeep) (sym (wanted tree p (no_operand p.operand b e f)))
    (Wanted (Group s q ∷ frames tree p.stack.items) None None, refl, inl long)

behind : {F W : Type 0} (tree : F → Tree W) (p : Parser F) (f : F) → p.operand ≡ Some f → parsed tree p ≡ Behind (frames tree p.stack.items) (option_map tree p.sum) (option_map tree p.product) (tree f)
behind tree p f e = ap (λ o. state_of (frames tree p.stack.items) (option_map tree p.sum) (option_map tree p.product) (option_map tree o)) e

pub and_deep : {F W : Type 0} (tree : F → Tree W) (p : Parser F) (f : F) → p.operand ≡ Some f → 1024 ≤ p.operators → FailsSign (parsed tree p) p.operators sign.And TooDeep
and_deep tree p f e many =
    let more : 1024 < p.operators + 1 = omega (arith, many) in
    subst (λ z. FailsSign z p.operators sign.And TooDeep) (sym (behind tree p f e))
    (Wanted (frames tree p.stack.items) (option_map tree p.sum) (Some (with_product (option_map tree p.product) (tree f))), refl, inr more)

pub or_deep : {F W : Type 0} (tree : F → Tree W) (p : Parser F) (f : F) → p.operand ≡ Some f → 1024 ≤ p.operators → FailsSign (parsed tree p) p.operators sign.Or TooDeep
or_deep tree p f e many =
    let more : 1024 < p.operators + 1 = omega (arith, many) in
    subst (λ z. FailsSign z p.operators sign.Or TooDeep) (sym (behind tree p f e))
    (Wanted (frames tree p.stack.items) (Some (with_sum (option_map tree p.sum) (with_product (option_map tree p.product) (tree f)))) None, refl, inr more)
