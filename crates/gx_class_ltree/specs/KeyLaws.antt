-- Keys of paths and unions are valid, and are over what is below them.
use Rattle.std.specs.Prelude.{◌≡◌, ℕ, ◌+◌, ◌-◌, ◌≤◌, Bool, true, false, nat_le, List, [], ◌∷◌, length, map, if◌then◌else◌, refl}
use Rattle.std.specs.List.{AllByRecursion}
use Rattle.std.specs.Ordering.{is_le, ordering_reverse}
use Rattle.std.specs.declared.cmp.Ordering.{Ordering}
use Rattle.std.specs.declared.cmp.Ordering.TheVariants as ordering
use Rattle.std.proofs.Common.{ap, ◌∙◌, arith, true≢false, length-append}
use Rattle.std.proofs.lemmas.Bool.Decides.{nat_tests}
use Rattle.std.proofs.lemmas.Cmp.{tied_itself}
use Rattle.std.proofs.lemmas.List.Sums.{sum_by-cons}
use Rattle.gx_ltree.specs.Label.{IsLabel}
use Rattle.gx_ltree.specs.Path.{IsPath}
use Rattle.gx_sig.proofs.Bytes.{are_signatures}
use Rattle.gx_class_sets.specs.SignatureLaws as signatures
use Rattle.gx_class_ltree.specs.declared.key.Part.{Part}
use Rattle.gx_class_ltree.specs.declared.key.LtreeKey.{LtreeKey}
use Rattle.gx_class_ltree.specs.Keys.{front, room_of, part, part_cmp, IsAtMost, label_hash, lesser, greater, IsPart, IsKey, leaf_key, union, IsOver}
use Rattle.gx_class_ltree.specs.Orders.{le_trans}
use Rattle.gx_class_ltree.specs.Laws.{front_parts}
use Rattle.gx_class_ltree.specs.Sorting.{part_total}

-- The first labels take no more than the room, and they are labels.
fits : (k room : ℕ) → nat_le k room ≡ true → k ≤ room
fits k room e = grind (arith, nat_tests, e)

together : (a r room all : ℕ) → a + 2 ≤ room → r ≤ room - (a + 2) → all ≡ a + 2 + r → all ≤ room
together a r room all few rest e = omega (arith, few, rest, e)

short_at : (label : List ℕ) (path rest : List (List ℕ)) (room : ℕ) (b : Bool) → nat_le (length label + 2) room ≡ b → room_of rest ≤ room - (length label + 2) → room_of (if b then label ∷ rest else []) ≤ room
short_at label path rest room true e h =
    together (length label) (room_of rest) room (room_of (label ∷ rest)) (fits (length label + 2) room e) h (sum_by-cons (λ (l : List ℕ). length l + 2) label rest)
short_at label path rest room false e h = omega arith

pub front_short : (room : ℕ) (path : List (List ℕ)) → room_of (front room path) ≤ room
front_short room [] = omega arith
front_short room (label ∷ path) =
    short_at label path (front (room - (length label + 2)) path) room (nat_le (length label + 2) room) refl (front_short (room - (length label + 2)) path)

labels_at : (label : List ℕ) (rest : List (List ℕ)) (b : Bool) → IsLabel label → AllByRecursion IsLabel rest → AllByRecursion IsLabel (if b then label ∷ rest else [])
labels_at label rest true first others = (first, others)
labels_at label rest false first others = tt

front_labels : (room : ℕ) (path : List (List ℕ)) → AllByRecursion IsLabel path → AllByRecursion IsLabel (front room path)
front_labels room [] all = tt
front_labels room (label ∷ path) all =
    labels_at label (front (room - (length label + 2)) path) (nat_le (length label + 2) room) all.0 (front_labels (room - (length label + 2)) path all.1)

pub part_is_valid : (path : List (List ℕ)) → IsPath path → IsPart (part path)
part_is_valid path p =
    let parts = front_parts 600 path in
    record {
      valid = record { labels = front_labels 600 path p.labels; most = omega (arith, ap length parts.joined, length-append (front 600 path) parts.more, p.most) };
      short = front_short 600 path;
    }

at_most_itself : (p : Part) → IsAtMost p p
at_most_itself p = ap is_le (tied_itself part_total p)

pub leaf_is_valid : (n : ℕ) (path : List (List ℕ)) → IsPath path → IsKey n (leaf_key n path)
leaf_is_valid n path p =
    let valid = part_is_valid path p in
    record { low = valid; high = valid; rise = at_most_itself (part path); sig = signatures.sign_is n (map label_hash path) }

-- The lesser part is at most both, and the greater at least both.
other_way : (o : Ordering) → is_le o ≡ false → is_le (ordering_reverse o) ≡ true
other_way ordering.Less e = absurd (true≢false e)
other_way ordering.Equal e = refl
other_way ordering.Greater e = refl

turned : (a b : Part) → is_le (part_cmp a b) ≡ false → IsAtMost b a
turned a b e = ap is_le (part_total.antisymm b a) ∙ other_way (part_cmp a b) e

first_below : (a b : Part) (t : Bool) → is_le (part_cmp a b) ≡ t → IsAtMost (if t then a else b) a
first_below a b true e = at_most_itself a
first_below a b false e = turned a b e

second_below : (a b : Part) (t : Bool) → is_le (part_cmp a b) ≡ t → IsAtMost (if t then a else b) b
second_below a b true e = e
second_below a b false e = at_most_itself b

first_above : (a b : Part) (t : Bool) → is_le (part_cmp b a) ≡ t → IsAtMost a (if t then a else b)
first_above a b true e = at_most_itself a
first_above a b false e = turned b a e

second_above : (a b : Part) (t : Bool) → is_le (part_cmp b a) ≡ t → IsAtMost b (if t then a else b)
second_above a b true e = e
second_above a b false e = at_most_itself b

trans : (a b c : Part) → IsAtMost a b → IsAtMost b c → IsAtMost a c
trans a b c = le_trans part_cmp part_total a b c

either : (a b : Part) (t : Bool) → IsPart a → IsPart b → IsPart (if t then a else b)
either a b true p q = p
either a b false p q = q

pub union_is_valid : (n : ℕ) (a b : LtreeKey n) → IsKey n a → IsKey n b → IsKey n (union a b)
union_is_valid n a b p q = record {
  low = either a.low b.low (is_le (part_cmp a.low b.low)) p.low q.low;
  high = either a.high b.high (is_le (part_cmp b.high a.high)) p.high q.high;
  rise = trans (lesser a.low b.low) a.low (greater a.high b.high) (first_below a.low b.low (is_le (part_cmp a.low b.low)) refl)
      (trans a.low a.high (greater a.high b.high) p.rise (first_above a.high b.high (is_le (part_cmp b.high a.high)) refl));
  sig = are_signatures.2 n a.sig b.sig p.sig q.sig;
}

pub over_itself : (n : ℕ) (path : List (List ℕ)) → IsOver (leaf_key n path) (leaf_key n path)
over_itself n path = record { low = at_most_itself (part path); high = at_most_itself (part path); sig = λ bit has. has }

pub over_left : (n : ℕ) (a b l : LtreeKey n) → IsKey n a → IsKey n b → IsOver a l → IsOver (union a b) l
over_left n a b l p q over = record {
  low = trans (lesser a.low b.low) a.low l.low (first_below a.low b.low (is_le (part_cmp a.low b.low)) refl) over.low;
  high = trans l.high a.high (greater a.high b.high) over.high (first_above a.high b.high (is_le (part_cmp b.high a.high)) refl);
  sig = signatures.over_left n a.sig b.sig l.sig p.sig q.sig over.sig;
}

pub over_right : (n : ℕ) (a b l : LtreeKey n) → IsKey n a → IsKey n b → IsOver b l → IsOver (union a b) l
over_right n a b l p q over = record {
  low = trans (lesser a.low b.low) b.low l.low (second_below a.low b.low (is_le (part_cmp a.low b.low)) refl) over.low;
  high = trans l.high b.high (greater a.high b.high) over.high (second_above a.high b.high (is_le (part_cmp b.high a.high)) refl);
  sig = signatures.over_right n a.sig b.sig l.sig p.sig q.sig over.sig;
}
