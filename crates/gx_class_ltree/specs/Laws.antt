-- What the laws of gist_ltree_ops stand on.
use Rattle.std.specs.Prelude.{◌≡◌, ◌≢◌, ℕ, ◌+◌, ◌-◌, ◌==◌, ◌<◌, ◌≤◌, nat_le, nat_lt, Bool, true, false, ◌&&◌, ◌||◌, ◌⊎◌, List, [], ◌∷◌, ◌++◌, length, map, Option, None, Some, Any, Contains, if◌then◌else◌, bytes_eq, refl}
use Rattle.std.specs.Bool.{Decides}
use Rattle.std.specs.List.{list_any, list_all, AllZip, flat_map}
use Rattle.std.specs.Ordering.{nat_cmp, bool_cmp, is_lt, is_le, is_gt, is_ge, ordering_then, ordering_reverse}
use Rattle.std.specs.Cmp.Lexicographic.{slice_cmp}
use Rattle.std.specs.Char.{to_ascii_lowercase}
use Rattle.std.specs.declared.cmp.Ordering.{Ordering}
use Rattle.std.specs.declared.cmp.Ordering.TheVariants as ordering
use Rattle.std.proofs.Common.{sym, ap, ◌∙◌, subst, arith, inl, inr, true≢false, length-append, append-nil}
use Rattle.std.proofs.lemmas.Bool.Decides.{nat_tests}
use Rattle.std.proofs.lemmas.Cmp.{tied_itself, nat_list_cmp_total}
use Rattle.std.proofs.lemmas.Slice.Eq.{bytes_eq-Decides}
use Rattle.std.proofs.lemmas.List.Folds.{list_any-from_Any}
use Rattle.std.proofs.lemmas.List.Elements.{All-contains, All-contains_itself, Contains-append_left, Contains-append_right}
use Rattle.gx_gist.specs.declared.test.Test.TheVariants.{No, Maybe, Yes}
use Rattle.gx_kleene.specs.Laws as kleene
use Rattle.gx_kleene.specs.Laws.{IsRight}
use Rattle.gx_bytes.specs.Hash.{hash_from}
use Rattle.gx_sig.specs.BitSets.{IsSignatureLength}
use Rattle.gx_ltree.specs.declared.operators.LtreeOp.{LtreeOp}
use Rattle.gx_ltree.specs.declared.operators.LtreeOp.TheVariants.{Less, LessEqual, Equal, GreaterEqual, Greater, Above, Below}
use Rattle.gx_ltree.specs.Operators.{order, IsPrefix, begins_with, Holds, holds}
use Rattle.gx_ltree.proofs.OperatorLemmas.{decided}
use Rattle.gx_lquery.specs.declared.variant.Variant.{Variant}
use Rattle.gx_lquery.specs.declared.query.LqueryItem.{LqueryItem}
use Rattle.gx_lquery.specs.declared.query.Lquery.{Lquery}
use Rattle.gx_ltxtquery.specs.declared.operators.LtreeQuery.{LtreeQuery}
use Rattle.gx_ltxtquery.specs.declared.operators.LtreeQuery.TheVariants as query
use Rattle.gx_ltxtquery.specs.declared.formula.Ltxtquery.{Ltxtquery}
use Rattle.gx_kleene.specs.Answers.{leaf_formula, inner_formula}
use Rattle.gx_ltxtquery.specs.Formula.{tree_of}
use Rattle.gx_ltxtquery.specs.Operators as queries
use Rattle.gx_ltxtquery.proofs.LawLemmas.{operators_decided}
use Rattle.gx_lquery.specs.Matching.{MatchesAny, folded, MatchesVariant, MatchesItem, MatchesWord, FitsItem, MatchesPath}
use Rattle.gx_class_sets.specs.Signatures.{has, IsOver, maybe}
use Rattle.gx_class_sets.specs.SignatureLaws.{signed, has_over, any_mono, all_mono, all_true, both_true, maybe_sees, maybe_true, maybe_right}
use Rattle.gx_class_ltree.specs.declared.key.Part.{Part}
use Rattle.gx_class_ltree.specs.Keys.{IsAtMost, front, part, label_hash, labels_key}
use Rattle.gx_class_ltree.specs.Tests.{sure, leaf_answer, inner_answer, has_label, has_labels, cut_order, passes, order_answer, cut_answer, variant_may, item_may, query_may, prefixes, between, equal_may, path_may}
use Rattle.gx_class_ltree.specs.Orders.{order_total, le_trans, Tells, cut_tells, Decided, cut_decided, begins_append, begins_trans}

-- What a sure answer says.
sure_right : (b : Bool) (P : Type 0) → Decides b P → IsRight (sure b) P
sure_right true P d = record { sees = λ p e. cc e; sure = λ e. d.0 refl }
sure_right false P d = record { sees = λ p e. true≢false (sym (d.1 p)); sure = λ e. cc e }

-- A label of the path is seen by its bit, and so is one that differs from it by case alone.
label_seen : (n : ℕ) (path : List (List ℕ)) → IsSignatureLength n → (label : List ℕ) → Contains path label → has_label n (labels_key n path) label ≡ true
label_seen n path long label c = signed label_hash n path label long c

same_hash : (n : ℕ) (sig l m : List ℕ) → map to_ascii_lowercase l ≡ map to_ascii_lowercase m → has_label n sig l ≡ true → has_label n sig m ≡ true
same_hash n sig l m e h = subst (λ (x : List ℕ). has n sig (hash_from 2166136261 x) ≡ true) e h

lower_of : (caseless : Bool) (l m : List ℕ) → folded caseless l ≡ folded caseless m → map to_ascii_lowercase l ≡ map to_ascii_lowercase m
lower_of true l m e = e
lower_of false l m e = ap (map to_ascii_lowercase) e

-- a variant that matches a label of the path
variant_at : (n : ℕ) (sig : List ℕ) (prefix : Bool) (v : Variant) (label : List ℕ) → v.prefix ≡ prefix → MatchesVariant v label → has_label n sig label ≡ true → (prefix || has_label n sig v.label) ≡ true
variant_at n sig true v label e m h = refl
variant_at n sig false v label e m h =
    let whole : label ≡ m.front = m.parts ∙ ap (λ (x : List ℕ). m.front ++ x) (m.whole e) ∙ append-nil m.front in
    same_hash n sig m.front v.label (lower_of v.caseless m.front v.label m.same) (subst (λ (x : List ℕ). has_label n sig x ≡ true) whole h)

variant_seen : (n : ℕ) (path : List (List ℕ)) → IsSignatureLength n → (v : Variant) (label : List ℕ) → Contains path label → MatchesVariant v label → variant_may n (labels_key n path) v ≡ true
variant_seen n path long v label c m = variant_at n (labels_key n path) v.prefix v label refl m (label_seen n path long label c)

-- what some element gives
any_gives : {X : Type 0} (p : X → Bool) (P : X → Type 0) → ((x : X) → P x → p x ≡ true) → (xs : List X) → Any P xs → list_any p xs ≡ true
any_gives p P f xs h = list_any-from_Any p xs (h.0, h.1, h.2, h.3, f h.1 h.4)

or_right : (a b : Bool) → b ≡ true → (a || b) ≡ true
or_right true b e = refl
or_right false b e = e

-- an item that takes a label of the path
word_seen : (n : ℕ) (path : List (List ℕ)) → IsSignatureLength n → (item : LqueryItem) (label : List ℕ) → Contains path label → (star negated : Bool) → MatchesWord star negated item.variants label
    → (((star || negated) || item.least == 0) || list_any (variant_may n (labels_key n path)) item.variants) ≡ true
word_seen n path long item label c true negated m = refl
word_seen n path long item label c false true m = refl
word_seen n path long item label c false false m =
    or_right (item.least == 0) (list_any (variant_may n (labels_key n path)) item.variants)
    (any_gives (variant_may n (labels_key n path)) (λ v. MatchesVariant v label) (λ v w. variant_seen n path long v label c w) item.variants m)

no_least : (star negated some : Bool) (least : ℕ) → least ≡ 0 → (((star || negated) || least == 0) || some) ≡ true
no_least true negated some least e = refl
no_least false true some least e = refl
no_least false false some least e = grind (arith, nat_tests, e)

Contains-head : (x : List ℕ) (xs : List (List ℕ)) → Contains (x ∷ xs) x
Contains-head x xs = (0, omega arith, refl)

-- an item that takes a group of the path's labels
item_seen : (n : ℕ) (path group : List (List ℕ)) → IsSignatureLength n → (item : LqueryItem) → FitsItem item group → ((label : List ℕ) → Contains group label → Contains path label) → item_may n (labels_key n path) item ≡ true
item_seen n path [] long item f within = no_least item.star item.negated (list_any (variant_may n (labels_key n path)) item.variants) item.least (let few = f.least in omega arith)
item_seen n path (label ∷ group) long item f within =
    word_seen n path long item label (within label (Contains-head label group)) item.star item.negated (All-contains (MatchesItem item) (label ∷ group) label f.each (Contains-head label group))

items_seen : (n : ℕ) (path : List (List ℕ)) → IsSignatureLength n → (items : List LqueryItem) (groups : List (List (List ℕ))) → AllZip FitsItem items groups
    → ((label : List ℕ) → Contains (flat_map (λ group. group) groups) label → Contains path label) → list_all (item_may n (labels_key n path)) items ≡ true
items_seen n path long [] [] z within = refl
items_seen n path long [] (g ∷ groups) z within = absurd z
items_seen n path long (i ∷ items) [] z within = absurd z
items_seen n path long (i ∷ items) (g ∷ groups) z within =
    both_true (item_may n (labels_key n path) i) (list_all (item_may n (labels_key n path)) items)
    (item_seen n path g long i z.0 (λ label c. within label (Contains-append_left g (flat_map (λ group. group) groups) label c)))
    (items_seen n path long items groups z.1 (λ label c. within label (Contains-append_right g (flat_map (λ group. group) groups) label c)))

-- a query that the path matches
pub query_seen : (n : ℕ) (path : List (List ℕ)) → IsSignatureLength n → (q : Lquery) → MatchesPath q.items path → query_may n (labels_key n path) q ≡ true
query_seen n path long q m =
    items_seen n path long q.items m.groups m.fits (λ label c. subst (λ (x : List (List ℕ)). Contains x label) (sym m.joined) c)

-- all labels of a prefix
pub labels_seen : (n : ℕ) (path : List (List ℕ)) → IsSignatureLength n → (q : List (List ℕ)) → IsPrefix q path → has_labels n (labels_key n path) q ≡ true
labels_seen n path long q p =
    all_true (has_label n (labels_key n path)) (Contains q)
    (λ label c. label_seen n path long label (subst (λ (x : List (List ℕ)). Contains x label) (sym p.1) (Contains-append_left q p.0 label c))) q (All-contains_itself q)

-- The first labels of a path, and those behind them.
pub record Parts (path front : List (List ℕ)) : Type 0 where
  pub more : List (List ℕ)
  pub joined : path ≡ front ++ more

front_at : (label : List ℕ) (path rest : List (List ℕ)) (b : Bool) → Parts path rest → Parts (label ∷ path) (if b then label ∷ rest else [])
front_at label path rest true p = record { more = p.more; joined = ap (λ (x : List (List ℕ)). label ∷ x) p.joined }
front_at label path rest false p = record { more = label ∷ path; joined = refl }

pub front_parts : (room : ℕ) (path : List (List ℕ)) → Parts path (front room path)
front_parts room [] = record { more = []; joined = refl }
front_parts room (label ∷ path) = front_at label path (front (room - (length label + 2)) path) (nat_le (length label + 2) room) (front_parts (room - (length label + 2)) path)

-- a path whose first labels are p, that goes on exactly where it is cut
pub record IsCut (path p : List (List ℕ)) (cut : Bool) : Type 0 where
  pub more : List (List ℕ)
  pub joined : path ≡ p ++ more
  pub whole : cut ≡ false → path ≡ p
  pub goes_on : cut ≡ true → 0 < length more

all_there : (path p more : List (List ℕ)) → path ≡ p ++ more → nat_lt (length p) (length path) ≡ false → path ≡ p
all_there path p [] e f = e ∙ append-nil p
all_there path p (x ∷ more) e f = absurd (grind (arith, nat_tests, f, ap length e, length-append p (x ∷ more)))

some_more : (path p more : List (List ℕ)) → path ≡ p ++ more → nat_lt (length p) (length path) ≡ true → 0 < length more
some_more path p more e f = grind (arith, nat_tests, f, ap length e, length-append p more)

pub part_is : (path : List (List ℕ)) → IsCut path (front 600 path) (nat_lt (length (front 600 path)) (length path))
part_is path =
    let p = front_parts 600 path in
    record { more = p.more; joined = p.joined; whole = all_there path (front 600 path) p.more p.joined; goes_on = some_more path (front 600 path) p.more p.joined }

-- The answer by an order that is known.
maybe_yes : Maybe ≡ Yes → ⊥
maybe_yes e = cc e

maybe_no : Maybe ≡ No → ⊥
maybe_no e = cc e

order_right : (op : LtreeOp) (d : Option Ordering) (v q : List (List ℕ)) → Decided d (order v q) → Decides (passes op (order v q)) (Holds op v q) → IsRight (order_answer op d) (Holds op v q)
order_right op None v q e d = record { sees = λ p. maybe_no; sure = λ y. absurd (maybe_yes y) }
order_right op (Some o) v q e d = sure_right (passes op o) (Holds op v q) (subst (λ (r : Ordering). Decides (passes op r) (Holds op v q)) e d)

less_count : (m n k : ℕ) → n ≡ m + k → 0 < k → nat_lt m n ≡ true
less_count m n k e h = grind (arith, nat_tests, e, h)

above_cut : (v p q : List (List ℕ)) → IsCut v p true → Holds Above v q → (begins_with q p && nat_lt (length p) (length q)) ≡ true
above_cut v p q c h =
    let begins = (decided Above v q).1 h in
    let first = begins_trans p c.more q (subst (λ (x : List (List ℕ)). begins_with q x ≡ true) c.joined begins) in
    let long = c.goes_on refl in
    both_true (begins_with q p) (nat_lt (length p) (length q)) first
    (less_count (length p) (length q) (length c.more + length h.0) (omega (arith, ap length h.1, ap length c.joined, length-append v h.0, length-append p c.more)) (omega (arith, long)))

begins_both : (p more q rest : List (List ℕ)) → p ++ more ≡ q ++ rest → length p ≤ length q → begins_with q p ≡ true
begins_both [] more q rest e h = refl
begins_both (l ∷ p) more [] rest e h = absurd (omega (arith, h))
begins_both (l ∷ p) more (m ∷ q) rest e h =
    let head : m ≡ l = cc e in
    let tail : p ++ more ≡ q ++ rest = cc e in
    both_true (bytes_eq m l) (begins_with q p) ((bytes_eq-Decides m l).1 head) (begins_both p more q rest tail (omega (arith, h)))

le_count : (m n : ℕ) → nat_le m n ≡ true → m ≤ n
le_count m n e = grind (arith, nat_tests, e)

not_le_count : (m n : ℕ) → nat_le m n ≡ false → n ≤ m
not_le_count m n e = grind (arith, nat_tests, e)

below_cut : (n : ℕ) (v p q : List (List ℕ)) (b : Bool) → IsSignatureLength n → IsCut v p true → nat_le (length q) (length p) ≡ b
    → IsRight (if b then sure (begins_with p q) else maybe (begins_with q p && has_labels n (labels_key n v) q)) (Holds Below v q)
below_cut n v p q true long c e =
    let same : begins_with v q ≡ begins_with p q = ap (λ (x : List (List ℕ)). begins_with x q) c.joined ∙ begins_append p c.more q (le_count (length q) (length p) e) in
    sure_right (begins_with p q) (Holds Below v q) (subst (λ (b : Bool). Decides b (Holds Below v q)) same (decided Below v q))
below_cut n v p q false long c e =
    maybe_right (begins_with q p && has_labels n (labels_key n v) q) (Holds Below v q)
    (λ h.
    both_true (begins_with q p) (has_labels n (labels_key n v) q) (begins_both p c.more q h.0 (sym c.joined ∙ h.1) (not_le_count (length q) (length p) e)) (labels_seen n v long q h))

decided_by : (v p q : List (List ℕ)) → IsCut v p true → Decided (cut_order p q) (order v q)
decided_by v p q c = subst (λ (x : List (List ℕ)). Decided (cut_order p q) (order x q)) (sym c.joined) (cut_decided p c.more q (c.goes_on refl))

path_cut : (n : ℕ) (v p : List (List ℕ)) (op : LtreeOp) (q : List (List ℕ)) → IsSignatureLength n → IsCut v p true → IsRight (cut_answer n (labels_key n v) op p q) (Holds op v q)
path_cut n v p Less q long c = order_right Less (cut_order p q) v q (decided_by v p q c) (decided Less v q)
path_cut n v p LessEqual q long c = order_right LessEqual (cut_order p q) v q (decided_by v p q c) (decided LessEqual v q)
path_cut n v p Equal q long c = order_right Equal (cut_order p q) v q (decided_by v p q c) (decided Equal v q)
path_cut n v p GreaterEqual q long c = order_right GreaterEqual (cut_order p q) v q (decided_by v p q c) (decided GreaterEqual v q)
path_cut n v p Greater q long c = order_right Greater (cut_order p q) v q (decided_by v p q c) (decided Greater v q)
path_cut n v p Above q long c = maybe_right (begins_with q p && nat_lt (length p) (length q)) (Holds Above v q) (above_cut v p q c)
path_cut n v p Below q long c = below_cut n v p q (nat_le (length q) (length p)) long c refl

word_right : (n : ℕ) (v : List (List ℕ)) → IsSignatureLength n → (w : Variant) → IsRight (maybe (variant_may n (labels_key n v) w)) (Any (λ label. MatchesVariant w label) v)
word_right n v long w =
    maybe_right (variant_may n (labels_key n v) w) (Any (λ label. MatchesVariant w label) v) (λ h. variant_seen n v long w h.1 (h.0, h.2, h.3) h.4)

-- The key of a path says No only where the query doesn't hold, and Yes only where it does.
leaf_at : (n : ℕ) (v p : List (List ℕ)) (cut : Bool) (q : LtreeQuery) → IsSignatureLength n → IsCut v p cut → IsRight (leaf_answer n p cut (labels_key n v) q) (queries.Holds q v)
leaf_at n v p false q long c =
    sure_right (queries.holds q p) (queries.Holds q v) (subst (λ (x : List (List ℕ)). Decides (queries.holds q p) (queries.Holds q x)) (sym (c.whole refl)) (operators_decided q p))
leaf_at n v p true (query.Path op operand) long c = path_cut n v p op operand long c
leaf_at n v p true (query.Lquery q) long c = maybe_right (query_may n (labels_key n v) q) (MatchesPath q.items v) (query_seen n v long q)
leaf_at n v p true (query.Lqueries qs) long c =
    maybe_right (list_any (query_may n (labels_key n v)) qs) (MatchesAny qs v) (any_gives (query_may n (labels_key n v)) (λ q. MatchesPath q.items v) (query_seen n v long) qs)
leaf_at n v p true (query.Words w) long c =
    kleene.leaf_is_right (λ x. maybe (variant_may n (labels_key n v) x)) (λ x. Any (λ label. MatchesVariant x label) v) (word_right n v long) (tree_of w.formula)

pub leaf_is_right : (n : ℕ) (v : List (List ℕ)) (q : LtreeQuery) → IsSignatureLength n → IsRight (leaf_answer n (part v).path (part v).cut (labels_key n v) q) (queries.Holds q v)
leaf_is_right n v q long = leaf_at n v (front 600 v) (nat_lt (length (front 600 v)) (length v)) q long (part_is v)

-- What a leaf key that doesn't say No tells of its first labels, and the operand: how they compare, and whether they begin it.
abbrev pub Fact : LtreeOp → Ordering → Bool → Type 0
Fact Less o inside = is_le o ≡ true
Fact LessEqual o inside = is_le o ≡ true
Fact Equal o inside = inside ≡ true
Fact GreaterEqual o inside = (is_ge o ≡ true) ⊎ (inside ≡ true)
Fact Greater o inside = (is_ge o ≡ true) ⊎ (inside ≡ true)
Fact Above o inside = inside ≡ true
Fact Below o inside = Unit {0}

sure_true : (b : Bool) → sure b ≢ No → b ≡ true
sure_true true h = refl
sure_true false h = absurd (h refl)

is_less : (o : Ordering) → o ≡ ordering.Less → is_le o ≡ true
is_less o e = ap is_le e

cut_fact : (op : LtreeOp) (d : Option Ordering) (o : Ordering) (inside : Bool) → op ≢ Above → Tells d o inside → order_answer op d ≢ No → Fact op o inside
cut_fact Less None o inside n t h = is_less o t.0
cut_fact Less (Some ordering.Less) o inside n t h = is_less o t
cut_fact Less (Some ordering.Equal) o inside n t h = absurd t
cut_fact Less (Some ordering.Greater) o inside n t h = absurd (h refl)
cut_fact LessEqual None o inside n t h = is_less o t.0
cut_fact LessEqual (Some ordering.Less) o inside n t h = is_less o t
cut_fact LessEqual (Some ordering.Equal) o inside n t h = absurd t
cut_fact LessEqual (Some ordering.Greater) o inside n t h = absurd (h refl)
cut_fact Equal None o inside n t h = t.1
cut_fact Equal (Some ordering.Less) o inside n t h = absurd (h refl)
cut_fact Equal (Some ordering.Equal) o inside n t h = absurd t
cut_fact Equal (Some ordering.Greater) o inside n t h = absurd (h refl)
cut_fact GreaterEqual None o inside n t h = inr t.1
cut_fact GreaterEqual (Some ordering.Less) o inside n t h = absurd (h refl)
cut_fact GreaterEqual (Some ordering.Equal) o inside n t h = absurd t
cut_fact GreaterEqual (Some ordering.Greater) o inside n t h = inl t
cut_fact Greater None o inside n t h = inr t.1
cut_fact Greater (Some ordering.Less) o inside n t h = absurd (h refl)
cut_fact Greater (Some ordering.Equal) o inside n t h = absurd t
cut_fact Greater (Some ordering.Greater) o inside n t h = inl t
cut_fact Above d o inside n t h = absurd (n refl)
cut_fact Below d o inside n t h = tt

lt_le : (o : Ordering) → is_lt o ≡ true → is_le o ≡ true
lt_le ordering.Less e = refl
lt_le ordering.Equal e = refl
lt_le ordering.Greater e = e

gt_ge : (o : Ordering) → is_gt o ≡ true → is_ge o ≡ true
gt_ge ordering.Less e = e
gt_ge ordering.Equal e = refl
gt_ge ordering.Greater e = refl

begins_self : (p : List (List ℕ)) → begins_with p p ≡ true
begins_self [] = refl
begins_self (l ∷ p) = both_true (bytes_eq l l) (begins_with p p) ((bytes_eq-Decides l l).1 refl) (begins_self p)

whole_fact : (op : LtreeOp) (p q : List (List ℕ)) → holds op p q ≡ true → Fact op (order p q) (begins_with q p)
whole_fact Less p q e = lt_le (order p q) e
whole_fact LessEqual p q e = e
whole_fact Equal p q e = subst (λ (x : List (List ℕ)). begins_with x p ≡ true) ((decided Equal p q).0 e) (begins_self p)
whole_fact GreaterEqual p q e = inl e
whole_fact Greater p q e = inl (gt_ge (order p q) e)
whole_fact Above p q e = e
whole_fact Below p q e = tt

-- some prefix passes
any_map : {X Y : Type 0} (f : Y → Bool) (g : X → Y) (xs : List X) → list_any f (map g xs) ≡ list_any (λ x. f (g x)) xs
any_map f g [] = refl
any_map f g (x ∷ xs) = ap (λ (b : Bool). f (g x) || b) (any_map f g xs)

or_first : (a b : Bool) → a ≡ true → (a || b) ≡ true
or_first a b e = rw e refl

both_parts : (a b : Bool) → (a && b) ≡ true → (a ≡ true) × (b ≡ true)
both_parts true b e = (refl, e)
both_parts false b e = absurd (true≢false (sym e))

prefix_there : (q p : List (List ℕ)) (f : List (List ℕ) → Bool) → begins_with q p ≡ true → f p ≡ true → list_any f (prefixes q) ≡ true
prefix_there [] [] f b e = or_first (f []) false e
prefix_there [] (l ∷ p) f b e = absurd (true≢false (sym b))
prefix_there (m ∷ q) [] f b e = or_first (f []) (list_any f (map (λ s. m ∷ s) (prefixes q))) e
prefix_there (m ∷ q) (l ∷ p) f b e =
    let parts = both_parts (bytes_eq m l) (begins_with q p) b in
    let same : m ≡ l = (bytes_eq-Decides m l).0 parts.0 in
    let here : f (m ∷ p) ≡ true = subst (λ (x : List ℕ). f (x ∷ p) ≡ true) (sym same) e in
    or_right (f []) (list_any f (map (λ s. m ∷ s) (prefixes q))) (any_map f (λ s. m ∷ s) (prefixes q) ∙ prefix_there q p (λ s. f (m ∷ s)) parts.1 here)

-- a prefix isn't greater
label_itself : (l m : List ℕ) → m ≡ l → slice_cmp nat_cmp l m ≡ ordering.Equal
label_itself l m e = ap (slice_cmp nat_cmp l) e ∙ tied_itself nat_list_cmp_total l

prefix_le : (p q : List (List ℕ)) → begins_with q p ≡ true → is_le (order p q) ≡ true
prefix_le [] [] b = refl
prefix_le [] (m ∷ q) b = refl
prefix_le (l ∷ p) [] b = absurd (true≢false (sym b))
prefix_le (l ∷ p) (m ∷ q) b =
    let parts = both_parts (bytes_eq m l) (begins_with q p) b in
    ap (λ (o : Ordering). is_le (ordering_then o (order p q))) (label_itself l m ((bytes_eq-Decides m l).0 parts.0)) ∙ prefix_le p q parts.1

reversed : (o : Ordering) → is_ge (ordering_reverse o) ≡ is_le o
reversed ordering.Less = refl
reversed ordering.Equal = refl
reversed ordering.Greater = refl

ge_back : (x y : List (List ℕ)) → is_ge (order x y) ≡ is_le (order y x)
ge_back x y = ap is_ge (order_total.antisymm x y) ∙ reversed (order y x)

-- So a key over it doesn't either.
equal_there : (low high p q : List (List ℕ)) → is_le (order low p) ≡ true → is_le (order p high) ≡ true → begins_with q p ≡ true → equal_may low high q ≡ true
equal_there low high p q l h b = prefix_there q p (between low high) b (both_true (is_le (order low p)) (is_le (order p high)) l h)

ge_there : (low high p q : List (List ℕ)) → is_le (order low p) ≡ true → is_le (order p high) ≡ true → (is_ge (order p q) ≡ true) ⊎ (begins_with q p ≡ true) → (is_ge (order high q) || equal_may low high q) ≡ true
ge_there low high p q l h (inl e) =
    or_first (is_ge (order high q)) (equal_may low high q) (ge_back high q ∙ le_trans order order_total q p high (sym (ge_back p q) ∙ e) h)
ge_there low high p q l h (inr b) = or_right (is_ge (order high q)) (equal_may low high q) (equal_there low high p q l h b)

path_there : (n : ℕ) (low high p : List (List ℕ)) (sig : List ℕ) (op : LtreeOp) (q : List (List ℕ)) → is_le (order low p) ≡ true → is_le (order p high) ≡ true → Fact op (order p q) (begins_with q p) → op ≢ Below
    → path_may n low high sig op q ≡ true
path_there n low high p sig Less q l h f b = le_trans order order_total low p q l f
path_there n low high p sig LessEqual q l h f b = le_trans order order_total low p q l f
path_there n low high p sig Equal q l h f b = equal_there low high p q l h f
path_there n low high p sig GreaterEqual q l h f b = ge_there low high p q l h f
path_there n low high p sig Greater q l h f b = ge_there low high p q l h f
path_there n low high p sig Above q l h f b = le_trans order order_total low p q l (prefix_le p q f)
path_there n low high p sig Below q l h f b = absurd (b refl)

-- What a signature over another may have.
or_more : (a b c : Bool) → (b ≡ true → c ≡ true) → (a || b) ≡ true → (a || c) ≡ true
or_more true b c f e = refl
or_more false b c f e = f e

variant_over : (n : ℕ) (k l : List ℕ) → IsOver k l → (v : Variant) → variant_may n l v ≡ true → variant_may n k v ≡ true
variant_over n k l over v = or_more v.prefix (has_label n l v.label) (has_label n k v.label) (has_over n k l (label_hash v.label) over)

item_over : (n : ℕ) (k l : List ℕ) → IsOver k l → (item : LqueryItem) → item_may n l item ≡ true → item_may n k item ≡ true
item_over n k l over item =
    or_more ((item.star || item.negated) || item.least == 0) (list_any (variant_may n l) item.variants) (list_any (variant_may n k) item.variants)
    (any_mono (variant_may n l) (variant_may n k) (variant_over n k l over) item.variants)

query_over : (n : ℕ) (k l : List ℕ) → IsOver k l → (q : Lquery) → query_may n l q ≡ true → query_may n k q ≡ true
query_over n k l over q = all_mono (item_may n l) (item_may n k) (item_over n k l over) q.items

labels_over : (n : ℕ) (k l : List ℕ) → IsOver k l → (q : List (List ℕ)) → has_labels n l q ≡ true → has_labels n k q ≡ true
labels_over n k l over q = all_mono (has_label n l) (has_label n k) (λ m. has_over n k l (label_hash m) over) q

maybe_is : (b : Bool) → maybe b ≢ No → b ≡ true
maybe_is true h = refl
maybe_is false h = absurd (h refl)

cut_below : (n : ℕ) (v p q : List (List ℕ)) (b : Bool) → IsSignatureLength n → IsCut v p true → nat_le (length q) (length p) ≡ b
    → (if b then sure (begins_with p q) else maybe (begins_with q p && has_labels n (labels_key n v) q)) ≢ No → has_labels n (labels_key n v) q ≡ true
cut_below n v p q true long c e some =
    let same : begins_with v q ≡ begins_with p q = ap (λ (x : List (List ℕ)). begins_with x q) c.joined ∙ begins_append p c.more q (le_count (length q) (length p) e) in
    labels_seen n v long q ((decided Below v q).0 (same ∙ sure_true (begins_with p q) some))
cut_below n v p q false long c e some = (both_parts (begins_with q p) (has_labels n (labels_key n v) q) (maybe_is (begins_with q p && has_labels n (labels_key n v) q) some)).1

-- The key of a path that goes on, and an operator of paths.
cut_path : (n : ℕ) (low high v p : List (List ℕ)) (sig : List ℕ) (op : LtreeOp) (q : List (List ℕ)) → is_le (order low p) ≡ true → is_le (order p high) ≡ true → IsOver sig (labels_key n v)
    → cut_answer n (labels_key n v) op p q ≢ No → IsSignatureLength n → IsRight (cut_answer n (labels_key n v) op p q) (Holds op v q) → IsCut v p true → path_may n low high sig op q ≡ true
cut_path n low high v p sig Less q l h over some long r c = path_there n low high p sig Less q l h (cut_fact Less (cut_order p q) (order p q) (begins_with q p) (λ e. cc e) (cut_tells p q) some) (λ e. cc e)
cut_path n low high v p sig LessEqual q l h over some long r c =
    path_there n low high p sig LessEqual q l h (cut_fact LessEqual (cut_order p q) (order p q) (begins_with q p) (λ e. cc e) (cut_tells p q) some) (λ e. cc e)
cut_path n low high v p sig Equal q l h over some long r c =
    path_there n low high p sig Equal q l h (cut_fact Equal (cut_order p q) (order p q) (begins_with q p) (λ e. cc e) (cut_tells p q) some) (λ e. cc e)
cut_path n low high v p sig GreaterEqual q l h over some long r c =
    path_there n low high p sig GreaterEqual q l h (cut_fact GreaterEqual (cut_order p q) (order p q) (begins_with q p) (λ e. cc e) (cut_tells p q) some) (λ e. cc e)
cut_path n low high v p sig Greater q l h over some long r c =
    path_there n low high p sig Greater q l h (cut_fact Greater (cut_order p q) (order p q) (begins_with q p) (λ e. cc e) (cut_tells p q) some) (λ e. cc e)
cut_path n low high v p sig Above q l h over some long r c =
    path_there n low high p sig Above q l h (both_parts (begins_with q p) (nat_lt (length p) (length q)) (maybe_is (begins_with q p && nat_lt (length p) (length q)) some)).0 (λ e. cc e)
cut_path n low high v p sig Below q l h over some long r c = labels_over n sig (labels_key n v) over q (cut_below n v p q (nat_le (length q) (length p)) long c refl some)

whole_path : (n : ℕ) (low high v : List (List ℕ)) (sig : List ℕ) (op : LtreeOp) (q : List (List ℕ)) → is_le (order low v) ≡ true → is_le (order v high) ≡ true → IsOver sig (labels_key n v) → IsSignatureLength n
    → holds op v q ≡ true → path_may n low high sig op q ≡ true
whole_path n low high v sig Less q l h over long e = path_there n low high v sig Less q l h (whole_fact Less v q e) (λ x. cc x)
whole_path n low high v sig LessEqual q l h over long e = path_there n low high v sig LessEqual q l h (whole_fact LessEqual v q e) (λ x. cc x)
whole_path n low high v sig Equal q l h over long e = path_there n low high v sig Equal q l h (whole_fact Equal v q e) (λ x. cc x)
whole_path n low high v sig GreaterEqual q l h over long e = path_there n low high v sig GreaterEqual q l h (whole_fact GreaterEqual v q e) (λ x. cc x)
whole_path n low high v sig Greater q l h over long e = path_there n low high v sig Greater q l h (whole_fact Greater v q e) (λ x. cc x)
whole_path n low high v sig Above q l h over long e = path_there n low high v sig Above q l h (whole_fact Above v q e) (λ x. cc x)
whole_path n low high v sig Below q l h over long e = labels_over n sig (labels_key n v) over q (labels_seen n v long q ((decided Below v q).0 e))

-- A key over that of a path says No only where this one does.
formula_there : (n : ℕ) (v : List (List ℕ)) (sig : List ℕ) (w : LtreeQuery) (f : Ltxtquery) → IsOver sig (labels_key n v) → leaf_formula (λ x. maybe (variant_may n (labels_key n v) x)) (tree_of f.formula) ≢ No
    → inner_formula (λ x. maybe (variant_may n sig x)) (tree_of f.formula) ≢ No
formula_there n v sig w f over =
    kleene.inner_sees (λ x. maybe (variant_may n (labels_key n v) x)) (λ x. maybe (variant_may n sig x))
    (λ x. maybe_sees (variant_may n (labels_key n v) x) (variant_may n sig x) (variant_over n sig (labels_key n v) over x)) (tree_of f.formula)

whole_sees : (n : ℕ) (low high v : List (List ℕ)) (sig : List ℕ) (q : LtreeQuery) → IsSignatureLength n → is_le (order low v) ≡ true → is_le (order v high) ≡ true → IsOver sig (labels_key n v)
    → queries.holds q v ≡ true → inner_answer n low high sig q ≢ No
whole_sees n low high v sig (query.Path op operand) long l h over e = maybe_true (path_may n low high sig op operand) (whole_path n low high v sig op operand l h over long e)
whole_sees n low high v sig (query.Lquery q) long l h over e =
    maybe_true (query_may n sig q) (query_over n sig (labels_key n v) over q (query_seen n v long q ((operators_decided (query.Lquery q) v).0 e)))
whole_sees n low high v sig (query.Lqueries qs) long l h over e =
    maybe_true (list_any (query_may n sig) qs)
    (any_mono (query_may n (labels_key n v)) (query_may n sig) (query_over n sig (labels_key n v) over) qs
    (any_gives (query_may n (labels_key n v)) (λ q. MatchesPath q.items v) (query_seen n v long) qs ((operators_decided (query.Lqueries qs) v).0 e)))
whole_sees n low high v sig (query.Words w) long l h over e =
    formula_there n v sig (query.Words w) w over
    ((kleene.leaf_is_right (λ x. maybe (variant_may n (labels_key n v) x)) (λ x. Any (λ label. MatchesVariant x label) v) (word_right n v long) (tree_of w.formula)).sees ((operators_decided (query.Words w) v).0 e))

inner_at : (n : ℕ) (low high v p : List (List ℕ)) (cut : Bool) (sig : List ℕ) (q : LtreeQuery) → IsSignatureLength n → IsCut v p cut → is_le (order low p) ≡ true → is_le (order p high) ≡ true → IsOver sig (labels_key n v)
    → leaf_answer n p cut (labels_key n v) q ≢ No → inner_answer n low high sig q ≢ No
inner_at n low high v p false sig q long c l h over some =
    let same : p ≡ v = sym (c.whole refl) in
    whole_sees n low high v sig q long (subst (λ (x : List (List ℕ)). is_le (order low x) ≡ true) same l) (subst (λ (x : List (List ℕ)). is_le (order x high) ≡ true) same h) over
    (subst (λ (x : List (List ℕ)). queries.holds q x ≡ true) same (sure_true (queries.holds q p) some))
inner_at n low high v p true sig (query.Path op operand) long c l h over some =
    maybe_true (path_may n low high sig op operand) (cut_path n low high v p sig op operand l h over some long (path_cut n v p op operand long c) c)
inner_at n low high v p true sig (query.Lquery q) long c l h over some =
    maybe_sees (query_may n (labels_key n v) q) (query_may n sig q) (query_over n sig (labels_key n v) over q) some
inner_at n low high v p true sig (query.Lqueries qs) long c l h over some =
    maybe_sees (list_any (query_may n (labels_key n v)) qs) (list_any (query_may n sig) qs) (any_mono (query_may n (labels_key n v)) (query_may n sig) (query_over n sig (labels_key n v) over) qs) some
inner_at n low high v p true sig (query.Words w) long c l h over some = formula_there n v sig (query.Words w) w over some

then_le : (o p : Ordering) → is_le (ordering_then o p) ≡ true → is_le o ≡ true
then_le ordering.Less p e = refl
then_le ordering.Equal p e = refl
then_le ordering.Greater p e = e

paths_rise : (a b : Part) → IsAtMost a b → is_le (order a.path b.path) ≡ true
paths_rise a b e = then_le (order a.path b.path) (bool_cmp a.cut b.cut) e

pub inner_sees : (n : ℕ) (low high : Part) (sig : List ℕ) (v : List (List ℕ)) (q : LtreeQuery) → IsSignatureLength n → IsAtMost low (part v) → IsAtMost (part v) high → IsOver sig (labels_key n v)
    → leaf_answer n (part v).path (part v).cut (labels_key n v) q ≢ No → inner_answer n low.path high.path sig q ≢ No
inner_sees n low high sig v q long l h over some =
    inner_at n low.path high.path v (front 600 v) (nat_lt (length (front 600 v)) (length v)) sig q long (part_is v) (paths_rise low (part v) l) (paths_rise (part v) high h) over some
