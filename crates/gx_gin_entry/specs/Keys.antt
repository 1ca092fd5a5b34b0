-- The order of keys is one.
use Rattle.std.proofs.Common.{◌≡◌, ◌≢◌, ℕ, zero, suc, ◌+◌, ◌^◌, ◌<◌, ◌≤◌, List, [], ◌∷◌, ◌++◌, length, map, Option, Some, None, refl, sym, ◌∙◌, ap, subst, append_assoc, append-nil, length-append, arith}
use Rattle.std.specs.List.{AllByRecursion}
use Rattle.std.specs.Ordering.{nat_cmp, ordering_reverse}
use Rattle.std.specs.Cmp.Lexicographic.{slice_cmp}
use Rattle.std.specs.declared.cmp.Ordering.{Ordering}
use Rattle.std.specs.declared.cmp.Ordering.TheVariants.{Less, Equal, Greater}
use Rattle.std.proofs.lemmas.Cmp.{nat_list_cmp_total, tied_itself}
use Rattle.std.proofs.lemmas.Map.Lookups.{exact_bytes}
use Rattle.gx_bytes.specs.Fields.{le16, length-le16}
use Rattle.gx_pages.proofs.Footprints as feet
use Rattle.gx_tree.specs.Orders.{IsFrom, IsLawful, IsUnder}
use Rattle.gx_gin_entry.specs.EntryTrees.{AreRising, Entry, HaveEntries, IsBefore, IsEntry, IsFromKey, IsKey, IsOwn, IsUnderKey, by_key, entry_bytes, key_bytes, key_of}
use Rattle.gx_gin_entry.specs.Lists.{Split, entry_short, key_again, map_join, one_entry, split_list}

abbrev R : List ℕ → List ℕ → Ordering
R = slice_cmp nat_cmp

pub before_on : (a b c : List ℕ) → IsBefore a b → IsBefore b c → IsBefore a c
before_on a b c first second = nat_list_cmp_total.trans a b c first second

pub not_itself : (a : List ℕ) → IsBefore a a → ⊥
not_itself a less = let both : Equal ≡ Less = sym (tied_itself nat_list_cmp_total a) ∙ less in cc both

pub not_turned : (a b : List ℕ) → IsBefore a b → IsBefore b a → ⊥
not_turned a b less back = not_itself a (before_on a b a less back)

-- a is before b, or it is b, or b is before a
pub three : (a b : List ℕ) (G : Type 0) → (IsBefore a b → G) → (a ≡ b → G) → (IsBefore b a → G) → G
three a b G less same more = pick (R a b) refl
  where
    pick : (o : Ordering) → R a b ≡ o → G
    pick Less is = less is
    pick Equal is = same (exact_bytes a b is)
    pick Greater is = more (nat_list_cmp_total.antisymm b a ∙ ap ordering_reverse is)

pub most_less : (a b c : List ℕ) → (IsBefore b a → ⊥) → IsBefore b c → IsBefore a c
most_less a b c most less =
    three a b (IsBefore a c) (λ first. before_on a b c first less) (λ same. subst (λ (x : List ℕ). IsBefore x c) (sym same) less) (λ no. absurd (most no))

pub less_most : (a b c : List ℕ) → IsBefore a b → (IsBefore c b → ⊥) → IsBefore a c
less_most a b c less most =
    three b c (IsBefore a c) (λ second. before_on a b c less second) (λ same. subst (λ (x : List ℕ). IsBefore a x) same less) (λ no. absurd (most no))

pub most_most : (a b c : List ℕ) → (IsBefore b a → ⊥) → (IsBefore c b → ⊥) → IsBefore c a → ⊥
most_most a b c first second less = second (less_most c a b less first)

pub rising_left : (xs ys : List Entry) → AreRising (xs ++ ys) → AreRising xs
rising_left [] ys rising = tt
rising_left (x ∷ xs) ys rising = (feet.all_left (λ (e : Entry). IsBefore x.0 e.0) xs ys rising.0, rising_left xs ys rising.1)

pub rising_right : (xs ys : List Entry) → AreRising (xs ++ ys) → AreRising ys
rising_right [] ys rising = rising
rising_right (x ∷ xs) ys rising = rising_right xs ys rising.1

-- entries before a key, and entries from it on
pub rising_join : (xs ys : List Entry) (key : List ℕ) → AreRising xs → AreRising ys → AllByRecursion (λ e. IsBefore e.0 key) xs → AllByRecursion (λ e. IsBefore e.0 key → ⊥) ys → AreRising (xs ++ ys)
rising_join [] ys key first last below from = last
rising_join (x ∷ xs) ys key first last below from = (
  feet.all_join (λ (e : Entry). IsBefore x.0 e.0) xs ys first.0
      (feet.all_weaker (λ (e : Entry). IsBefore e.0 key → ⊥) (λ (e : Entry). IsBefore x.0 e.0) ys (λ e low. less_most x.0 key e.0 below.0 low) from),
  rising_join xs ys key first.1 last below.1 from,
)

-- those before an entry come before it
pub rising_across : (xs : List Entry) (y : Entry) (ys : List Entry) → AreRising (xs ++ y ∷ ys) → AllByRecursion (λ e. IsBefore e.0 y.0) xs
rising_across [] y ys rising = tt
rising_across (x ∷ xs) y ys rising = ((feet.all_right (λ (e : Entry). IsBefore x.0 e.0) xs (y ∷ ys) rising.0).0, rising_across xs y ys rising.1)

pub rising_from : (y : Entry) (ys : List Entry) → AreRising (y ∷ ys) → AllByRecursion (λ e. IsBefore e.0 y.0 → ⊥) (y ∷ ys)
rising_from y ys rising = (
  not_itself y.0,
  feet.all_weaker (λ (e : Entry). IsBefore y.0 e.0) (λ (e : Entry). IsBefore e.0 y.0 → ⊥) ys (λ e low. not_turned y.0 e.0 low) rising.0,
)

small_items : (list : List Entry) → AllByRecursion IsEntry list → AllByRecursion (λ item. length item ≤ 2416) (map entry_bytes list)
small_items [] are = tt
small_items (x ∷ list) are = (
  (
      let key = are.0.key in let posting = are.0.posting in
      omega (arith, key, posting, length-append (key_bytes x.0) x.1, length-append (le16 (length x.0)) x.0, length-le16 (length x.0))
      ),
  small_items list are.1,
)

pub of_key : (least : Option (List ℕ)) (e : Entry) → IsFromKey least e → IsFrom by_key least (key_bytes e.0)
of_key None e from = tt
of_key (Some l) e from = λ less. from (subst (λ (k : List ℕ). IsBefore k (key_of l)) (key_again e.0) less)

pub to_key : (least : Option (List ℕ)) (e : Entry) → IsFrom by_key least (key_bytes e.0) → IsFromKey least e
to_key None e from = tt
to_key (Some l) e from = λ less. from (subst (λ (k : List ℕ). IsBefore k (key_of l)) (sym (key_again e.0)) less)

pub of_end : (end : Option (List ℕ)) (e : Entry) → IsUnderKey end e → IsUnder by_key end (key_bytes e.0)
of_end None e under = tt
of_end (Some l) e under = subst (λ (k : List ℕ). IsBefore k (key_of l)) (sym (key_again e.0)) under

pub to_end : (end : Option (List ℕ)) (e : Entry) → IsUnder by_key end (key_bytes e.0) → IsUnderKey end e
to_end None e under = tt
to_end (Some l) e under = subst (λ (k : List ℕ). IsBefore k (key_of l)) (key_again e.0) under

lower_all : (least lower : Option (List ℕ)) (list : List Entry) → ((key : List ℕ) → IsFrom by_key least key → IsFrom by_key lower key) → AllByRecursion (IsFromKey least) list → AllByRecursion (IsFromKey lower) list
lower_all least lower list falls from = feet.all_weaker (IsFromKey least) (IsFromKey lower) list (λ e has. to_key lower e (falls (key_bytes e.0) (of_key least e has))) from

from_on : (least : Option (List ℕ)) (key : List ℕ) (e : Entry) → IsFrom by_key least key → (IsBefore e.0 (key_of key) → ⊥) → IsFromKey least e
from_on None key e from low = tt
from_on (Some l) key e from low = most_most (key_of l) (key_of key) e.0 from low

under_on : (end : Option (List ℕ)) (key : List ℕ) (e : Entry) → IsUnder by_key end key → IsBefore e.0 (key_of key) → IsUnderKey end e
under_on None key e under low = tt
under_on (Some l) key e under low = before_on e.0 (key_of key) (key_of l) low under

pub join_entries : (least end : Option (List ℕ)) (key : List ℕ) (front back : List (List ℕ)) → HaveEntries least (Some key) front → HaveEntries (Some key) end back → IsFrom by_key least key → IsUnder by_key end key → HaveEntries least end (front ++ back)
join_entries least end key front back first last from under = record {
  list = first.list ++ last.list;
  spelled = ap (λ (l : List (List ℕ)). l ++ back) first.spelled ∙ ap (λ (l : List (List ℕ)). map entry_bytes first.list ++ l) last.spelled ∙ sym (map_join first.list last.list);
  are = feet.all_join IsEntry first.list last.list first.are last.are;
  rising = rising_join first.list last.list (key_of key) first.rising last.rising first.under last.from;
  from = feet.all_join (IsFromKey least) first.list last.list first.from (feet.all_weaker (λ (e : Entry). IsBefore e.0 (key_of key) → ⊥) (IsFromKey least) last.list (λ e low. from_on least key e from low) last.from);
  under = feet.all_join (IsUnderKey end) first.list last.list (feet.all_weaker (λ (e : Entry). IsBefore e.0 (key_of key)) (IsUnderKey end) first.list (λ e low. under_on end key e under low) first.under) last.under;
}

-- entries that are cut before one of them
record CutEntries (least end : Option (List ℕ)) (key : List ℕ) (front : List (List ℕ)) (item : List ℕ) (back : List (List ℕ)) : Type 0 where
  pub is_key : IsKey key
  pub from : IsFrom by_key least key
  pub under : IsUnder by_key end key
  pub before : HaveEntries least (Some key) front
  pub behind : HaveEntries (Some key) end (item ∷ back)

-- the first entry of some items
record Head (item : List ℕ) (back : List (List ℕ)) (list : List Entry) : Type 0 where
  pub entry : Entry
  pub more : List Entry
  pub is : list ≡ entry ∷ more
  pub spells : item ≡ entry_bytes entry

head_of : (item : List ℕ) (back : List (List ℕ)) (list : List Entry) → item ∷ back ≡ map entry_bytes list → Head item back list
head_of item back [] are = absurd (let e = ap (λ (l : List (List ℕ)). length l) are in omega (arith, e))
head_of item back (x ∷ list) are = record { entry = x; more = list; is = refl; spells = cc }

cut_entries : (least end : Option (List ℕ)) (key item : List ℕ) (front back : List (List ℕ)) → HaveEntries least end (front ++ item ∷ back) → IsOwn item key → CutEntries least end key front item back
cut_entries least end key item front back have own =
    let both = split_list front (item ∷ back) have.list have.spelled in
    let head = head_of item back both.right both.behind in
    let tail = head.entry ∷ head.more in
    let all_is : have.list ≡ both.left ++ tail = both.cut ∙ ap (λ (l : List Entry). both.left ++ l) head.is in
    let are = subst (λ (l : List Entry). AllByRecursion IsEntry l) all_is have.are in
    let rising = subst (λ (l : List Entry). AreRising l) all_is have.rising in
    let from = subst (λ (l : List Entry). AllByRecursion (IsFromKey least) l) all_is have.from in
    let under = subst (λ (l : List Entry). AllByRecursion (IsUnderKey end) l) all_is have.under in
    let fits = (feet.all_right IsEntry both.left tail are).0 in
    let same : own.entry ≡ head.entry = one_entry own.entry head.entry (entry_short own.entry own.fits) (entry_short head.entry fits) (sym own.spells ∙ head.spells) in
    let named : key ≡ key_bytes head.entry.0 = own.is ∙ ap (λ (e : Entry). key_bytes e.0) same in
    let again : head.entry.0 ≡ key_of key = sym (key_again head.entry.0) ∙ ap key_of (sym named) in
    let from_tail = feet.all_right (IsFromKey least) both.left tail from in
    let under_tail = feet.all_right (IsUnderKey end) both.left tail under in
    record {
      is_key = record { key = own.entry.0; short = own.fits.key; is = own.is };
      from = subst (λ (k : List ℕ). IsFrom by_key least k) (sym named) (of_key least head.entry from_tail.0);
      under = subst (λ (k : List ℕ). IsUnder by_key end k) (sym named) (of_end end head.entry under_tail.0);
      before = record {
        list = both.left;
        spelled = both.before;
        are = feet.all_left IsEntry both.left tail are;
        rising = rising_left both.left tail rising;
        from = feet.all_left (IsFromKey least) both.left tail from;
        under = subst (λ (k : List ℕ). AllByRecursion (λ e. IsBefore e.0 k) both.left) again (rising_across both.left head.entry head.more rising);
      };
      behind = record {
        list = tail;
        spelled = both.behind ∙ ap (λ (l : List Entry). map entry_bytes l) head.is;
        are = feet.all_right IsEntry both.left tail are;
        rising = rising_right both.left tail rising;
        from = subst (λ (k : List ℕ). AllByRecursion (λ e. IsBefore e.0 k → ⊥) tail) again (rising_from head.entry head.more (rising_right both.left tail rising));
        under = under_tail;
      };
    }

between_entries : (a b item : List ℕ) (items : List (List ℕ)) → HaveEntries (Some a) (Some b) (item ∷ items) → IsBefore (key_of a) (key_of b)
between_entries a b item items have =
    let head = head_of item items have.list have.spelled in
    let from = (subst (λ (l : List Entry). AllByRecursion (IsFromKey (Some a)) l) head.is have.from).0 in
    let under = (subst (λ (l : List Entry). AllByRecursion (IsUnderKey (Some b)) l) head.is have.under).0 in
    most_less (key_of a) head.entry.0 (key_of b) from under

pub lawful : IsLawful by_key
lawful = record {
  strict = λ a less. not_itself (key_of a) less;
  most_less = λ a b c most less. most_less (key_of a) (key_of b) (key_of c) most less;
  less_most = λ a b c less most. less_most (key_of a) (key_of b) (key_of c) less most;
  most_most = λ a b c first second. most_most (key_of a) (key_of b) (key_of c) first second;
  less_is_most = λ a b less. not_turned (key_of a) (key_of b) less;
  itself = λ a. not_itself (key_of a);
  between = between_entries;
  short = λ key is. let e = ap (λ (l : List ℕ). length l) is.is in let few = is.short in omega (arith, e, few, length-append (le16 (length is.key)) is.key, length-le16 (length is.key));
  small = λ least end items have. subst (λ (l : List (List ℕ)). AllByRecursion (λ item. length item ≤ 2416) l) (sym have.spelled) (small_items have.list have.are);
  none = λ least end. record { list = []; spelled = refl; are = tt; rising = tt; from = tt; under = tt };
  lower = λ least lower end items falls have. record {
    list = have.list;
    spelled = have.spelled;
    are = have.are;
    rising = have.rising;
    from = lower_all least lower have.list falls have.from;
    under = have.under;
  };
  join = join_entries;
  cut = λ least end key item front back have own.
      let parts = cut_entries least end key item front back have own in
      (parts.is_key, parts.from, parts.under, parts.before, parts.behind);
}
