-- The tree that the printed text of a document is: the document with the members of each object in printed order.
use Rattle.std.proofs.Common.{◌≡◌, ◌≢◌, ℕ, ◌≤◌, Bool, true, false, if◌then◌else◌, nat_lt, nat_cmp, List, [], ◌∷◌, ◌++◌, length, map, Some, option_map, option_and_then, Less, Equal, Greater, refl, sym, ap, ap₂, ◌∙◌, arith}
use Rattle.std.specs.List.{AllByRecursion}
use Rattle.std.specs.declared.cmp.Ordering.{Ordering}
use Rattle.std.specs.Ordering.{ordering_reverse}
use Rattle.std.specs.Cmp.Lexicographic.{slice_cmp}
use Rattle.std.proofs.lemmas.Cmp.{nat_list_cmp_total}
use Rattle.json.specs.Token.{Token}
use Rattle.json.specs.Print.{quoted, token_text}
use Rattle.json.specs.Json as json
use Rattle.json.specs.Tree as tree
use Rattle.serde_json.specs.Data.{Num, Data, null, boolean, number, string, array, object, Items, no_items, item, Members, no_members, member, put, depth, items_depth, members_depth}
use Rattle.serde_json.specs.Read.{of_json, of_items, of_members}
use Rattle.serde_json.specs.Written.{number_text}
use Rattle.gx_json.specs.Valid.{IsWholeNumber, IsBelow, IsBelowAll, IsRising, IsStored, AreStored, MembersStored}
use Rattle.gx_json.specs.Print.{Entry, put_by_length, shorter_first, separator, entries_text, printed, printed_items, entries_of}
use Rattle.gx_json.specs.Steps.{joined}
use Rattle.gx_json.proofs.OperatorLemmas.{joined-assoc}
use Rattle.gx_json.proofs.ReadBack.{number_reads, Precede, precede_none, precede_last, put_last, joined_none}

-- ---- pairs by the lengths of their keys

abbrev pub on : {X Y : Type 0} → (X → Y) → List ℕ × X → List ℕ × Y
on f p = (p.0, f p.1)

put_by_length-map : {X Y : Type 0} (f : X → Y) (e : List ℕ × X) (es : List (List ℕ × X)) → map (on f) (put_by_length e es) ≡ put_by_length (on f e) (map (on f) es)
put_by_length-map f e [] = refl
put_by_length-map f e (g ∷ es) =
    elim (nat_lt (length g.0) (length e.0)) as (λ b. map (on f) (if b then g ∷ put_by_length e es else e ∷ g ∷ es) ≡ (if b then on f g ∷ put_by_length (on f e) (map (on f) es) else on f e ∷ on f g ∷ map (on f) es)) [
      | true ↦ ap (λ t. on f g ∷ t) (put_by_length-map f e es)
      | false ↦ refl
    ]

pub shorter_first-map : {X Y : Type 0} (f : X → Y) (es : List (List ℕ × X)) → map (on f) (shorter_first es) ≡ shorter_first (map (on f) es)
shorter_first-map f [] = refl
shorter_first-map f (e ∷ es) = put_by_length-map f e (shorter_first es) ∙ ap (put_by_length (on f e)) (shorter_first-map f es)

put_by_length-all : {X : Type 0} (P : List ℕ × X → Type 0) (e : List ℕ × X) (es : List (List ℕ × X)) → P e → AllByRecursion P es → AllByRecursion P (put_by_length e es)
put_by_length-all P e [] h all = (h, tt)
put_by_length-all P e (f ∷ es) h all = elim (nat_lt (length f.0) (length e.0)) as (λ b. AllByRecursion P (if b then f ∷ put_by_length e es else e ∷ f ∷ es)) [
  | true ↦ (all.0, put_by_length-all P e es h all.1)
  | false ↦ (h, all)
]

pub shorter_first-all : {X : Type 0} (P : List ℕ × X → Type 0) (es : List (List ℕ × X)) → AllByRecursion P es → AllByRecursion P (shorter_first es)
shorter_first-all P [] all = tt
shorter_first-all P (e ∷ es) all = put_by_length-all P e (shorter_first es) all.0 (shorter_first-all P es all.1)

-- ---- the tree

abbrev pub members_in : List (List ℕ × json.Json) → json.Members
members_in [] = json.no_members
members_in (p ∷ ps) = json.member p.0 p.1 (members_in ps)

abbrev mutual
  pub reorder : Data → json.Json
  reorder null = json.null
  reorder (boolean b) = json.boolean b
  reorder (number n) = json.number (number_text n)
  reorder (string s) = json.string s
  reorder (array ds) = json.array (reorder_items ds)
  reorder (object ms) = json.object (members_in (shorter_first (reorder_pairs ms)))

  pub reorder_items : Items → json.Items
  reorder_items no_items = json.no_items
  reorder_items (item d ds) = json.item (reorder d) (reorder_items ds)

  pub reorder_pairs : Members → List (List ℕ × json.Json)
  reorder_pairs no_members = []
  reorder_pairs (member k d ms) = (k, reorder d) ∷ reorder_pairs ms

-- ---- its text, with a space behind each comma and each colon

abbrev mutual
  pub tree_text : json.Json → List ℕ
  tree_text json.null = token_text Token.null
  tree_text (json.boolean b) = token_text (Token.boolean b)
  tree_text (json.number s) = s
  tree_text (json.string s) = quoted s
  tree_text (json.array js) = 91 ∷ (items_text false js ++ 93 ∷ [])
  tree_text (json.object ms) = 123 ∷ (members_text false ms ++ 125 ∷ [])

  pub items_text : Bool → json.Items → List ℕ
  items_text later json.no_items = []
  items_text later (json.item j js) = separator later ++ (tree_text j ++ items_text true js)

  pub members_text : Bool → json.Members → List ℕ
  members_text later json.no_members = []
  members_text later (json.member k j ms) = separator later ++ (quoted k ++ 58 ∷ 32 ∷ (tree_text j ++ members_text true ms))

entries_written : (later : Bool) (ps : List (List ℕ × json.Json)) → members_text later (members_in ps) ≡ entries_text later (map (on tree_text) ps)
entries_written later [] = refl
entries_written later (p ∷ ps) = ap (λ (t : List ℕ). separator later ++ (quoted p.0 ++ 58 ∷ 32 ∷ (tree_text p.1 ++ t))) (entries_written true ps)

mutual
  pub printed_tree : (d : Data) → tree_text (reorder d) ≡ printed d
  printed_tree null = refl
  printed_tree (boolean b) = refl
  printed_tree (number n) = refl
  printed_tree (string s) = refl
  printed_tree (array ds) = ap (λ (t : List ℕ). 91 ∷ (t ++ 93 ∷ [])) (printed_tree_items false ds)
  printed_tree (object ms) =
      ap (λ (t : List ℕ). 123 ∷ (t ++ 125 ∷ []))
      (entries_written false (shorter_first (reorder_pairs ms))
      ∙ ap (entries_text false) (shorter_first-map tree_text (reorder_pairs ms) ∙ ap shorter_first (printed_tree_pairs ms)))

  printed_tree_items : (later : Bool) (ds : Items) → items_text later (reorder_items ds) ≡ printed_items later ds
  printed_tree_items later no_items = refl
  printed_tree_items later (item d ds) = ap (λ (t : List ℕ). separator later ++ t) (ap₂ (λ (a b : List ℕ). a ++ b) (printed_tree d) (printed_tree_items true ds))

  printed_tree_pairs : (ms : Members) → map (on tree_text) (reorder_pairs ms) ≡ entries_of ms
  printed_tree_pairs no_members = refl
  printed_tree_pairs (member k d ms) = ap₂ (λ (x : List ℕ) (t : List Entry). (k, x) ∷ t) (printed_tree d) (printed_tree_pairs ms)

-- ---- its depth

members_low : (n : ℕ) (ps : List (List ℕ × json.Json)) → AllByRecursion (λ p. tree.depth p.1 ≤ n) ps → tree.members_depth (members_in ps) ≤ n
members_low n [] all = omega arith
members_low n (p ∷ ps) all = let low = all.0 in omega (arith, low, members_low n ps all.1)

mutual
  pub reorder_depth : (d : Data) → tree.depth (reorder d) ≤ depth d
  reorder_depth null = omega arith
  reorder_depth (boolean b) = omega arith
  reorder_depth (number n) = omega arith
  reorder_depth (string s) = omega arith
  reorder_depth (array ds) = omega (arith, reorder_items_depth ds)
  reorder_depth (object ms) =
      omega (arith, members_low (members_depth ms) (shorter_first (reorder_pairs ms)) (shorter_first-all (λ p. tree.depth p.1 ≤ members_depth ms) (reorder_pairs ms) (reorder_pairs_depth ms (members_depth ms) (omega arith))))

  reorder_items_depth : (ds : Items) → tree.items_depth (reorder_items ds) ≤ items_depth ds
  reorder_items_depth no_items = omega arith
  reorder_items_depth (item d ds) = omega (arith, reorder_depth d, reorder_items_depth ds)

  reorder_pairs_depth : (ms : Members) (n : ℕ) → members_depth ms ≤ n → AllByRecursion (λ p. tree.depth p.1 ≤ n) (reorder_pairs ms)
  reorder_pairs_depth no_members n le = tt
  reorder_pairs_depth (member k d ms) n le = (omega (arith, le, reorder_depth d), reorder_pairs_depth ms n (omega (arith, le)))

-- ---- the texts of its numbers

abbrev mutual
  pub EachNumber : (List ℕ → Type 0) → json.Json → Type 0
  EachNumber P json.null = Unit {0}
  EachNumber P (json.boolean b) = Unit {0}
  EachNumber P (json.number s) = P s
  EachNumber P (json.string s) = Unit {0}
  EachNumber P (json.array js) = EachOfItems P js
  EachNumber P (json.object ms) = EachOfMembers P ms

  pub EachOfItems : (List ℕ → Type 0) → json.Items → Type 0
  EachOfItems P json.no_items = Unit {0}
  EachOfItems P (json.item j js) = EachNumber P j × EachOfItems P js

  pub EachOfMembers : (List ℕ → Type 0) → json.Members → Type 0
  EachOfMembers P json.no_members = Unit {0}
  EachOfMembers P (json.member k j ms) = EachNumber P j × EachOfMembers P ms

each_member : (P : List ℕ → Type 0) (ps : List (List ℕ × json.Json)) → AllByRecursion (λ p. EachNumber P p.1) ps → EachOfMembers P (members_in ps)
each_member P [] all = tt
each_member P (p ∷ ps) all = (all.0, each_member P ps all.1)

module _ (P : List ℕ → Type 0) (written : (n : Num) → IsWholeNumber n → P (number_text n)) where
  mutual
    pub reorder_numbers : (d : Data) → IsStored d → EachNumber P (reorder d)
    reorder_numbers null h = tt
    reorder_numbers (boolean b) h = tt
    reorder_numbers (number n) h = written n h
    reorder_numbers (string s) h = tt
    reorder_numbers (array ds) h = reorder_items_numbers ds h
    reorder_numbers (object ms) h = each_member P (shorter_first (reorder_pairs ms)) (shorter_first-all (λ p. EachNumber P p.1) (reorder_pairs ms) (reorder_pairs_numbers ms h.1))

    reorder_items_numbers : (ds : Items) → AreStored ds → EachOfItems P (reorder_items ds)
    reorder_items_numbers no_items h = tt
    reorder_items_numbers (item d ds) h = (reorder_numbers d h.0, reorder_items_numbers ds h.1)

    reorder_pairs_numbers : (ms : Members) → MembersStored ms → AllByRecursion (λ p. EachNumber P p.1) (reorder_pairs ms)
    reorder_pairs_numbers no_members h = tt
    reorder_pairs_numbers (member k d ms) h = (reorder_numbers d h.0.1, reorder_pairs_numbers ms h.1)

-- ---- members that are put in any order

module _ (k l : List ℕ) (d e : Data) (below : IsBelow k l) where
  above : slice_cmp nat_cmp l k ≡ Greater
  above = nat_list_cmp_total.antisymm l k ∙ ap ordering_reverse below

  under_less : (m : List ℕ) → slice_cmp nat_cmp l m ≡ Less → slice_cmp nat_cmp k m ≡ Less
  under_less m lt = nat_list_cmp_total.trans k l m below lt

  under_equal : (m : List ℕ) → slice_cmp nat_cmp l m ≡ Equal → slice_cmp nat_cmp k m ≡ Less
  under_equal m same =
      let turned : slice_cmp nat_cmp l k ≡ slice_cmp nat_cmp m k = nat_list_cmp_total.congr l m k same in
      nat_list_cmp_total.antisymm k m ∙ ap ordering_reverse (sym turned ∙ above)

  two_put_at : (m : List ℕ) (f : Data) (ms : Members) (o p : Ordering) → slice_cmp nat_cmp l m ≡ o → slice_cmp nat_cmp k m ≡ p → put k d (put l e ms) ≡ put l e (put k d ms)
      → put k d (put l e (member m f ms)) ≡ put l e (put k d (member m f ms))
  two_put_at m f ms Less p a b h = rw (a, under_less m a, below, above, a) refl
  two_put_at m f ms Equal p a b h = rw (a, under_equal m a, above, a) refl
  two_put_at m f ms Greater Less a b h = rw (a, b, above, a) refl
  two_put_at m f ms Greater Equal a b h = rw (a, b, a) refl
  two_put_at m f ms Greater Greater a b h = rw (a, b, a) (ap (member m f) h)

  two_put : (ms : Members) → put k d (put l e ms) ≡ put l e (put k d ms)
  two_put no_members = rw (below, above) refl
  two_put (member m f ms) = two_put_at m f ms (slice_cmp nat_cmp l m) (slice_cmp nat_cmp k m) refl refl (two_put ms)

put_either : (k l : List ℕ) (d e : Data) (ms : Members) (o : Ordering) → slice_cmp nat_cmp k l ≡ o → o ≢ Equal → put k d (put l e ms) ≡ put l e (put k d ms)
put_either k l d e ms Less is other = two_put k l d e is ms
put_either k l d e ms Equal is other = absurd (other refl)
put_either k l d e ms Greater is other = sym (two_put l k e d (nat_list_cmp_total.antisymm l k ∙ ap ordering_reverse is) ms)

-- the keys compare as different
abbrev Differs : List ℕ → List ℕ × Data → Type 0
Differs k q = slice_cmp nat_cmp k q.0 ≢ Equal

abbrev AllDiffer : List (List ℕ × Data) → Type 0
AllDiffer [] = Unit {0}
AllDiffer (q ∷ qs) = AllByRecursion (Differs q.0) qs × AllDiffer qs

abbrev puts : List (List ℕ × Data) → Members → Members
puts [] found = found
puts (q ∷ qs) found = puts qs (put q.0 q.1 found)

puts_pair : (q : List ℕ × Data) (qs : List (List ℕ × Data)) (found : Members) → AllByRecursion (Differs q.0) qs → puts (put_by_length q qs) found ≡ puts (q ∷ qs) found
puts_pair q [] found all = refl
puts_pair q (r ∷ qs) found all =
    elim (nat_lt (length r.0) (length q.0)) as (λ b. puts (if b then r ∷ put_by_length q qs else q ∷ r ∷ qs) found ≡ puts (q ∷ r ∷ qs) found) [
      | true ↦ puts_pair q qs (put r.0 r.1 found) all.1 ∙ ap (puts qs) (put_either q.0 r.0 q.1 r.1 found (slice_cmp nat_cmp q.0 r.0) refl all.0)
      | false ↦ refl
    ]

puts_by_length : (qs : List (List ℕ × Data)) (found : Members) → AllDiffer qs → puts (shorter_first qs) found ≡ puts qs found
puts_by_length [] found all = refl
puts_by_length (q ∷ qs) found all =
    puts_pair q (shorter_first qs) found (shorter_first-all (Differs q.0) qs all.0) ∙ puts_by_length qs (put q.0 q.1 found) all.1

-- ---- the document is read again from its tree

abbrev pairs_of : Members → List (List ℕ × Data)
pairs_of no_members = []
pairs_of (member k d ms) = (k, d) ∷ pairs_of ms

less_differs : (o : Ordering) → o ≡ Less → o ≢ Equal
less_differs Less e f = cc
less_differs Equal e f = cc
less_differs Greater e f = cc

all_differ : (k : List ℕ) (ms : Members) → IsBelowAll k ms → AllByRecursion (Differs k) (pairs_of ms)
all_differ k no_members h = tt
all_differ k (member l d ms) h = (less_differs (slice_cmp nat_cmp k l) h.0, all_differ k ms h.1)

rising_differ : (ms : Members) → IsRising ms → AllDiffer (pairs_of ms)
rising_differ no_members h = tt
rising_differ (member k d ms) h = (all_differ k ms h.0, rising_differ ms h.1)

puts_rising : (es ms : Members) → Precede es ms → IsRising ms → puts (pairs_of ms) es ≡ joined es ms
puts_rising es no_members p r = sym (joined_none es)
puts_rising es (member k d ms) p r =
    ap (puts (pairs_of ms)) (put_last es k d p.0)
    ∙ puts_rising (joined es (member k d no_members)) ms (precede_last es k d ms p.1 r.0) r.1
    ∙ joined-assoc es (member k d no_members) ms

reordered : (ms : Members) → reorder_pairs ms ≡ map (on reorder) (pairs_of ms)
reordered no_members = refl
reordered (member k d ms) = ap (λ (t : List (List ℕ × json.Json)). (k, reorder d) ∷ t) (reordered ms)

abbrev IsReadAgain : List ℕ × Data → Type 0
IsReadAgain q = of_json (reorder q.1) ≡ Some q.1

puts_read : (qs : List (List ℕ × Data)) (found : Members) → AllByRecursion IsReadAgain qs → of_members (members_in (map (on reorder) qs)) found ≡ Some (puts qs found)
puts_read [] found all = refl
puts_read (q ∷ qs) found all =
    ap (option_and_then (λ d. of_members (members_in (map (on reorder) qs)) (put q.0 d found))) all.0 ∙ puts_read qs (put q.0 q.1 found) all.1

mutual
  pub reorder_reads : (d : Data) → IsStored d → of_json (reorder d) ≡ Some d
  reorder_reads null h = refl
  reorder_reads (boolean b) h = refl
  reorder_reads (number n) h = ap (option_map number) (number_reads n h)
  reorder_reads (string s) h = refl
  reorder_reads (array ds) h = ap (option_map array) (reorder_items_read ds h)
  reorder_reads (object ms) h =
      let qs = pairs_of ms in
      ap (option_map object)
      (ap (λ (ps : List (List ℕ × json.Json)). of_members (members_in ps) no_members) (ap shorter_first (reordered ms) ∙ sym (shorter_first-map reorder qs))
      ∙ puts_read (shorter_first qs) no_members (shorter_first-all IsReadAgain qs (reorder_pairs_read ms h.1))
      ∙ ap Some (puts_by_length qs no_members (rising_differ ms h.0) ∙ puts_rising no_members ms (precede_none ms) h.0))

  reorder_items_read : (ds : Items) → AreStored ds → of_items (reorder_items ds) ≡ Some ds
  reorder_items_read no_items h = refl
  reorder_items_read (item d ds) h =
      ap (option_and_then (λ e. option_map (item e) (of_items (reorder_items ds)))) (reorder_reads d h.0)
      ∙ ap (option_map (item d)) (reorder_items_read ds h.1)

  reorder_pairs_read : (ms : Members) → MembersStored ms → AllByRecursion IsReadAgain (pairs_of ms)
  reorder_pairs_read no_members h = tt
  reorder_pairs_read (member k d ms) h = (reorder_reads d h.0.1, reorder_pairs_read ms h.1)
