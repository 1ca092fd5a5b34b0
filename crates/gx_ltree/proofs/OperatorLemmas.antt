-- The tests of operators tell where they hold.
use Rattle.std.proofs.Common.{◌≡◌, ◌↔◌, IsTrue, ℕ, Bool, true, false, ◌&&◌, List, [], ◌∷◌, ◌++◌, bytes_eq, refl, sym, ap, ap₂, ◌∙◌, subst, true≢false}
use Rattle.std.specs.Bool.{Decides}
use Rattle.std.specs.Ordering.{nat_cmp, is_eq, ordering_then}
use Rattle.std.specs.Cmp.Lexicographic.{slice_cmp}
use Rattle.std.specs.declared.cmp.Ordering.{Ordering}
use Rattle.std.specs.declared.cmp.Ordering.TheVariants as ordering
use Rattle.std.proofs.lemmas.Slice.Eq.{bytes_eq-Decides}
use Rattle.std.proofs.lemmas.Map.Text.{is_eq-slice_cmp}
use Rattle.gx_ltree.specs.declared.operators.LtreeOp.{LtreeOp}
use Rattle.gx_ltree.specs.declared.operators.LtreeOp.TheVariants.{Less, LessEqual, Equal, GreaterEqual, Greater, Above, Below}
use Rattle.gx_ltree.specs.Operators.{order, IsPrefix, begins_with, Holds, holds}

is_equal : (o : Ordering) → is_eq o ≡ true → o ≡ ordering.Equal
is_equal ordering.Less e = cc
is_equal ordering.Equal e = refl
is_equal ordering.Greater e = cc

itself : (label : List ℕ) → slice_cmp nat_cmp label label ≡ ordering.Equal
itself label = is_equal (slice_cmp nat_cmp label label) (is_eq-slice_cmp label label ∙ (bytes_eq-Decides label label).1 refl)

then_equal : (o p : Ordering) → is_eq (ordering_then o p) ≡ true → (is_eq o ≡ true) × (is_eq p ≡ true)
then_equal ordering.Less p e = cc
then_equal ordering.Equal p e = (refl, e)
then_equal ordering.Greater p e = cc

equal_paths : (a b : List (List ℕ)) → is_eq (order a b) ≡ true → a ≡ b
equal_paths [] [] e = refl
equal_paths [] (y ∷ b) e = cc
equal_paths (x ∷ a) [] e = cc
equal_paths (x ∷ a) (y ∷ b) e =
    let two = then_equal (slice_cmp nat_cmp x y) (order a b) e in
    ap₂ (λ (c : List ℕ) (cs : List (List ℕ)). c ∷ cs) ((bytes_eq-Decides x y).0 (sym (is_eq-slice_cmp x y) ∙ two.0)) (equal_paths a b two.1)

path_itself : (a : List (List ℕ)) → order a a ≡ ordering.Equal
path_itself [] = refl
path_itself (x ∷ a) = ap₂ (λ (o p : Ordering). ordering_then o p) (itself x) (path_itself a)

equal_decided : (a b : List (List ℕ)) → Decides (is_eq (order a b)) (a ≡ b)
equal_decided a b = (equal_paths a b, λ e. ap (λ (c : List (List ℕ)). is_eq (order a c)) (sym e) ∙ ap is_eq (path_itself a))

both : (a b : Bool) → a && b ≡ true → (a ≡ true) × (b ≡ true)
both true b e = (refl, e)
both false b e = absurd (true≢false (sym e))

prefix_found : (path front : List (List ℕ)) → begins_with path front ≡ true → IsPrefix front path
prefix_found path [] e = (path, refl)
prefix_found [] (label ∷ front) e = absurd (true≢false (sym e))
prefix_found (first ∷ path) (label ∷ front) e =
    let two = both (bytes_eq first label) (begins_with path front) e in
    let more = prefix_found path front two.1 in
    (more.0, ap₂ (λ (c : List ℕ) (cs : List (List ℕ)). c ∷ cs) ((bytes_eq-Decides first label).0 two.0) more.1)

prefix_tested : (path front rest : List (List ℕ)) → path ≡ front ++ rest → begins_with path front ≡ true
prefix_tested path [] rest e = refl
prefix_tested [] (label ∷ front) rest e = cc
prefix_tested (first ∷ path) (label ∷ front) rest e =
    let head : first ≡ label = cc in
    let tail : path ≡ front ++ rest = cc in
    ap₂ (λ (a b : Bool). a && b) ((bytes_eq-Decides first label).1 head) (prefix_tested path front rest tail)

prefix_decided : (path front : List (List ℕ)) → Decides (begins_with path front) (IsPrefix front path)
prefix_decided path front = (prefix_found path front, λ p. prefix_tested path front p.0 p.1)

pub decided : (op : LtreeOp) (value operand : List (List ℕ)) → Decides (holds op value operand) (Holds op value operand)
decided Less value operand = (λ e. e, λ e. e)
decided LessEqual value operand = (λ e. e, λ e. e)
decided Equal value operand = equal_decided value operand
decided GreaterEqual value operand = (λ e. e, λ e. e)
decided Greater value operand = (λ e. e, λ e. e)
decided Above value operand = prefix_decided operand value
decided Below value operand = prefix_decided value operand

-- what is tested where the operator is `=`
pub equal_holds : (op : LtreeOp) (value operand : List (List ℕ)) (r : Bool) → op ≡ Equal → r ≡ is_eq (order value operand) → IsTrue r ↔ Holds op value operand
equal_holds op value operand r e f =
    let P : LtreeOp → Type 0 = λ o. IsTrue r ↔ Holds o value operand in
    let both = equal_decided value operand in
    subst P (sym e) (λ t. both.0 (sym f ∙ t), λ h. f ∙ both.1 h)
