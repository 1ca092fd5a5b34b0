-- The decisions of the operators are true exactly where the relations hold.
use Rattle.std.proofs.Common.{◌≡◌, ℤ, ◌≤ℤ◌, Option, Some, None, Bool, true, false, ◌&&◌, refl, ap, arith}
use Rattle.std.specs.Prelude.{int_le}
use Rattle.std.specs.Bool.{Decides}
use Rattle.std.proofs.lemmas.Int.{ints}
use Rattle.std.proofs.lemmas.Bool.Decides.{Decides-int_eq, Decides-like, Decides-not, Decides-and, Decides-or}
use Rattle.gx_range.specs.declared.range.Range.{Range}
use Rattle.gx_range.specs.declared.range.Range.TheVariants.{Empty, Span}
use Rattle.gx_range.specs.declared.range.RangeOp.{RangeOp}
use Rattle.gx_range.specs.declared.range.RangeOp.TheVariants.{Equal, Overlaps, Contains, Within, Left, Right, NotRight, NotLeft, Adjacent}
use Rattle.gx_range.specs.Operators.{Place, Below, At, Above, IsAtMost, IsBefore, lower_place, upper_place, EndsBy, EndsAt, HoldsOfSpans, Holds, HasElement}
use Rattle.gx_range.specs.Decisions.{is_at_most, is_before, ends_by, ends_at, is_same, holds_of_spans, holds, has_element}

yes : Decides true (Unit {0})
yes = (λ _. tt, λ _. refl)

no : Decides false ⊥
no = (λ e. let f : ⊥ = cc in f, λ f. absurd f)

le : (m n : ℤ) → Decides (int_le m n) (m ≤ℤ n)
le m n = (λ e. grind (arith, ints), λ h. grind (arith, ints))

at_most : (p q : Place) → Decides (is_at_most p q) (IsAtMost p q)
at_most Below q = yes
at_most (At m) Below = no
at_most (At m) (At n) = le m n
at_most (At m) Above = yes
at_most Above Below = no
at_most Above (At n) = no
at_most Above Above = yes

before : (p q : Place) → Decides (is_before p q) (IsBefore p q)
before p q = Decides-not (is_at_most q p) (at_most q p)

by : (u l : Option ℤ) → Decides (ends_by u l) (EndsBy u l)
by (Some u) (Some l) = le u l
by (Some u) None = no
by None l = no

at : (u l : Option ℤ) → Decides (ends_at u l) (EndsAt u l)
at (Some u) (Some l) = Decides-int_eq u l
at (Some u) None = no
at None l = no

same : (l m : Option ℤ) → Decides (is_same l m) (l ≡ m)
same None None = (λ _. refl, λ _. refl)
same None (Some n) = (λ e. let f : ⊥ = cc in absurd f, λ e. let f : ⊥ = cc in absurd f)
same (Some m) None = (λ e. let f : ⊥ = cc in absurd f, λ e. let f : ⊥ = cc in absurd f)
same (Some m) (Some n) = Decides-like (is_same (Some m) (Some n)) (λ e. ap Some e) (λ e. cc) (Decides-int_eq m n)

both : {P Q : Type 0} {x y : Bool} → Decides x P → Decides y Q → Decides (x && y) (P × Q)
both {P} {Q} {x} {y} p q = Decides-and x y p q

of_spans : (op : RangeOp) (l u m v : Option ℤ) → Decides (holds_of_spans op l u m v) (HoldsOfSpans op l u m v)
of_spans Equal l u m v = both (same l m) (same u v)
of_spans Overlaps l u m v =
    Decides-like (holds_of_spans Overlaps l u m v) (λ h. (h.0, h.1.0, h.1.1.0, h.1.1.1)) (λ h. (h.0, (h.1, (h.2, h.3))))
    (both (before (lower_place l) (upper_place u)) (both (before (lower_place l) (upper_place v))
    (both (before (lower_place m) (upper_place u)) (before (lower_place m) (upper_place v)))))
of_spans Contains l u m v = both (at_most (lower_place l) (lower_place m)) (at_most (upper_place v) (upper_place u))
of_spans Within l u m v = both (at_most (lower_place m) (lower_place l)) (at_most (upper_place u) (upper_place v))
of_spans Left l u m v = by u m
of_spans Right l u m v = by v l
of_spans NotRight l u m v = at_most (upper_place u) (upper_place v)
of_spans NotLeft l u m v = at_most (lower_place m) (lower_place l)
of_spans Adjacent l u m v = Decides-or (ends_at u m) (ends_at v l) (at u m) (at v l)

of_empty : (op : RangeOp) → Decides (holds op Empty Empty) (Holds op Empty Empty)
unfolding holds
of_empty Equal = yes
of_empty Overlaps = no
of_empty Contains = yes
of_empty Within = yes
of_empty Left = no
of_empty Right = no
of_empty NotRight = no
of_empty NotLeft = no
of_empty Adjacent = no

to_empty : (op : RangeOp) (l u : Option ℤ) → Decides (holds op (Span l u) Empty) (Holds op (Span l u) Empty)
unfolding holds
to_empty Equal l u = no
to_empty Overlaps l u = no
to_empty Contains l u = yes
to_empty Within l u = no
to_empty Left l u = no
to_empty Right l u = no
to_empty NotRight l u = no
to_empty NotLeft l u = no
to_empty Adjacent l u = no

from_empty : (op : RangeOp) (m v : Option ℤ) → Decides (holds op Empty (Span m v)) (Holds op Empty (Span m v))
unfolding holds
from_empty Equal m v = no
from_empty Overlaps m v = no
from_empty Contains m v = no
from_empty Within m v = yes
from_empty Left m v = no
from_empty Right m v = no
from_empty NotRight m v = no
from_empty NotLeft m v = no
from_empty Adjacent m v = no

pub holds-Decides : (op : RangeOp) (a b : Range) → Decides (holds op a b) (Holds op a b)
unfolding holds
holds-Decides op (Span l u) (Span m v) = of_spans op l u m v
holds-Decides op (Span l u) Empty = to_empty op l u
holds-Decides op Empty (Span m v) = from_empty op m v
holds-Decides op Empty Empty = of_empty op

pub has_element-Decides : (a : Range) (n : ℤ) → Decides (has_element a n) (HasElement a n)
unfolding has_element
has_element-Decides Empty n = no
has_element-Decides (Span l u) n = both (at_most (lower_place l) (At n)) (before (At n) (upper_place u))
