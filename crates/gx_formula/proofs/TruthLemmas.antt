-- The test of a formula tells where it is true.
use Rattle.std.proofs.Common.{Bool}
use Rattle.std.specs.Bool.{Decides}
use Rattle.std.proofs.lemmas.Bool.Decides.{Decides-not, Decides-and, Decides-or}
use Rattle.gx_formula.specs.Formula.{Tree, Word, Not, And, Or, IsTrueWhere, is_true_where}

pub truth_decided : {W : Type 0} (p : W → Bool) (P : W → Type 0) → ((w : W) → Decides (p w) (P w)) → (t : Tree W) → Decides (is_true_where p t) (IsTrueWhere P t)
truth_decided p P d (Word w) = d w
truth_decided p P d (Not t) = Decides-not _ (truth_decided p P d t)
truth_decided p P d (And t u) = Decides-and _ _ (truth_decided p P d t) (truth_decided p P d u)
truth_decided p P d (Or t u) = Decides-or _ _ (truth_decided p P d t) (truth_decided p P d u)
