-- Formulas over tests of words: Kleene's three-valued logic, in which No is false, Yes is true and Maybe is unknown.
use Rattle.std.specs.Prelude.{Bool, true, false}
use Rattle.gx_gist.specs.declared.test.Test.{Test}
use Rattle.gx_gist.specs.declared.test.Test.TheVariants.{No, Maybe, Yes}
use Rattle.gx_formula.specs.Formula.{Tree, Word, Not, And, Or}

abbrev pub opposite : Test → Test
opposite No = Yes
opposite Maybe = Maybe
opposite Yes = No

-- the least of No, Maybe, Yes
abbrev pub both : Test → Test → Test
both No b = No
both Maybe No = No
both Maybe Maybe = Maybe
both Maybe Yes = Maybe
both Yes b = b

-- the greatest
abbrev pub either : Test → Test → Test
either No b = b
either Maybe No = Maybe
either Maybe Maybe = Maybe
either Maybe Yes = Yes
either Yes b = Yes

-- a Yes counts as Maybe
abbrev pub unsure : Test → Test
unsure No = No
unsure Maybe = Maybe
unsure Yes = Maybe

-- the answer of a leaf key, from its tests of words
abbrev pub leaf_formula : {W : Type 0} → (W → Test) → Tree W → Test
leaf_formula test (Word w) = test w
leaf_formula test (Not t) = opposite (leaf_formula test t)
leaf_formula test (And t u) = both (leaf_formula test t) (leaf_formula test u)
leaf_formula test (Or t u) = either (leaf_formula test t) (leaf_formula test u)

-- the answer of a key above the leaves: what is sure of one value isn't of all that are below it, so a NOT may hold whatever it negates
abbrev pub inner_formula : {W : Type 0} → (W → Test) → Tree W → Test
inner_formula test (Word w) = unsure (test w)
inner_formula test (Not t) = Maybe
inner_formula test (And t u) = both (inner_formula test t) (inner_formula test u)
inner_formula test (Or t u) = either (inner_formula test t) (inner_formula test u)
