-- What a change of one structure of an index leaves of the others.
use Rattle.std.proofs.Common.{◌≡◌, inl, inr, ⊎_elim, ℕ, zero, suc, ◌+◌, ◌<◌, ◌≤◌, List, [], ◌∷◌, ◌++◌, length, drop, get_or, refl, sym, ap, subst, arith}
use Rattle.std.specs.List.{AllByRecursion}
use Rattle.std.specs.List.Sorted.{IsPermutation}
use Rattle.std.proofs.lemmas.Bool.Decides.{eqb_tells}
use Rattle.std.proofs.lemmas.List.Sorted.{IsPermutation-refl, IsPermutation-trans, IsPermutation-cons, IsPermutation-sym, IsPermutation-middle}
use Rattle.gx_words.specs.PageMap.{PageMap}
use Rattle.gx_pages.specs.declared.row.RowRef.{RowRef}
use Rattle.gx_pages.specs.declared.store.Pages.{Ghosts}
use Rattle.gx_pages.specs.Footprints.{KeepsPages, grown}
use Rattle.gx_pages.specs.Frees.{IsApart, IsFreeList}
use Rattle.gx_pages.proofs.Footprints.{all_join, apart_once, hit_none, keeps_join, keeps_none, kept_apart, none_outside, once_apart, outside_none, times, times-append, times-permutation, times_one}
use Rattle.gx_tree.proofs.Staying.{stays}
use Rattle.gx_gin_entry.specs.EntryTrees.{Entry, HoldsMap}
use Rattle.gx_gin_entry.specs.Listed.{entries_of}
use Rattle.gx_gin_entry.specs.declared.listing.EntryBytes.{EntryBytes}
use Rattle.gx_gin_scan.specs.Gins.{AreHeld, IsPosting}
use Rattle.gx_gin_scan.specs.Lists.{Lists}

-- lists with each number as often are in another order
record Cut (x : ℕ) (ys : List ℕ) : Type 0 where
  pub front : List ℕ
  pub back : List ℕ
  pub is : ys ≡ front ++ x ∷ back

cut_at : (x : ℕ) (ys : List ℕ) → 0 < times x ys → Cut x ys
cut_at x [] some = absurd (omega (arith, some))
cut_at x (y ∷ ys) some =
    ⊎_elim
    (λ same. record { front = []; back = ys; is = ap (λ (n : ℕ). n ∷ ys) (sym same.1) })
    (λ other.
    let none = hit_none x y other.1 in
    let rest = cut_at x ys (omega (arith, some, none)) in
    record { front = y ∷ rest.front; back = rest.back; is = ap (λ (l : List ℕ). y ∷ l) rest.is })
    (eqb_tells x y)

none_left : (ys : List ℕ) → ((n : ℕ) → times n ys ≡ 0) → ys ≡ []
none_left [] none = refl
none_left (y ∷ ys) none = let one = times_one y ys in let zero_ = none y in absurd (omega (arith, one, zero_))

pub same_counts : (xs ys : List ℕ) → ((n : ℕ) → times n xs ≡ times n ys) → IsPermutation xs ys
same_counts [] ys same = subst (λ (l : List ℕ). IsPermutation [] l) (sym (none_left ys (λ n. sym (same n)))) (IsPermutation-refl [])
same_counts (x ∷ xs) ys same =
    let one = times_one x xs in
    let here = same x in
    let cut = cut_at x ys (omega (arith, one, here)) in
    let rest : IsPermutation xs (cut.front ++ cut.back) = same_counts xs (cut.front ++ cut.back) (λ n.
    let all = same n in
    let parts = ap (λ (l : List ℕ). times n l) cut.is in
    omega (arith, all, parts, times-append n cut.front (x ∷ cut.back), times-append n cut.front cut.back)) in
    subst (λ (l : List ℕ). IsPermutation (x ∷ xs) l) (sym cut.is)
    (IsPermutation-trans (x ∷ xs) (x ∷ (cut.front ++ cut.back)) (cut.front ++ x ∷ cut.back) (IsPermutation-cons x xs (cut.front ++ cut.back) rest)
    (IsPermutation-sym (cut.front ++ x ∷ cut.back) (x ∷ (cut.front ++ cut.back)) (IsPermutation-middle cut.front x cut.back)))

module _ {P : Type 0} (g : Ghosts P) where
  -- a change of pages among others
  pub keeps_within : (old new : P) (left before right free after rest : List ℕ) → KeepsPages g old new before free after rest → KeepsPages g old new (left ++ before ++ right) free (left ++ after ++ right) rest
  keeps_within old new left before right free after rest keeps =
      let more = grown (g.count old) (g.count new) in
      record {
        grows = keeps.grows;
        others = λ page some below out.
            keeps.others page some below (none_outside page (before ++ free) (omega (
              arith,
              outside_none page (left ++ before ++ right ++ free) out,
              times-append page (left ++ before ++ right) free,
              times-append page (left ++ before) right,
              times-append page left before,
              times-append page before free,
            )));
        header = keeps.header;
        frees = keeps.frees;
        kept = same_counts ((left ++ before ++ right) ++ free ++ more) ((left ++ after ++ right) ++ rest) (λ n.
            omega (
              arith,
              times-permutation n (before ++ free ++ more) (after ++ rest) keeps.kept,
              times-append n (before ++ free) more,
              times-append n before free,
              times-append n after rest,
              times-append n ((left ++ before ++ right) ++ free) more,
              times-append n (left ++ before ++ right) free,
              times-append n (left ++ before) right,
              times-append n left before,
              times-append n (left ++ after ++ right) rest,
              times-append n (left ++ after) right,
              times-append n left after,
            ));
      }

  module _ (old new : P) (before free after rest : List ℕ) (keeps : KeepsPages g old new before free after rest) where
    pub posting_stays : (posting : List ℕ) (rows : List RowRef) (own : List ℕ) → IsPosting (g.map old) (g.count old) posting rows own → IsApart (before ++ free ++ own) → IsPosting (g.map new) (g.count new) posting rows own
    posting_stays posting rows own stands apart =
        ⊎_elim
        (λ short. inl short)
        (λ tree. inr (record {
          root = tree.root;
          is = tree.is;
          held = record {
            tree = tree.held.tree;
            held = stays g old new before free after rest keeps 6 tree.root tree.held.tree tree.held.held (subst (λ (l : List ℕ). IsApart (before ++ free ++ l)) tree.held.stand apart);
            stand = tree.held.stand;
            spelled = tree.held.spelled;
            rising = tree.held.rising;
            keyed = tree.held.keyed;
          };
        }))
        stands

    apart_part : (left right trees : List ℕ) → trees ≡ left ++ right → IsApart (before ++ free ++ trees) → IsApart (before ++ free ++ left) × IsApart (before ++ free ++ right)
    apart_part left right trees cut apart = (
      once_apart (before ++ free ++ left) (λ n. omega (
        arith,
        apart_once (before ++ free ++ trees) apart n,
        times-append n (before ++ free) trees,
        times-append n (before ++ free) left,
        ap (λ (l : List ℕ). times n l) cut,
        times-append n left right,
      )),
      once_apart (before ++ free ++ right) (λ n. omega (
        arith,
        apart_once (before ++ free ++ trees) apart n,
        times-append n (before ++ free) trees,
        times-append n (before ++ free) right,
        ap (λ (l : List ℕ). times n l) cut,
        times-append n left right,
      )),
    )

    pub held_stays : (entries : List Entry) (lists : Lists) (trees : List ℕ) → AreHeld (g.map old) (g.count old) entries lists trees → IsApart (before ++ free ++ trees) → AreHeld (g.map new) (g.count new) entries lists trees
    held_stays [] [] trees are apart = are
    held_stays [] (list ∷ lists) trees are apart = absurd are
    held_stays (entry ∷ entries) [] trees are apart = absurd are
    held_stays (entry ∷ entries) (list ∷ lists) trees are apart =
        let parts = apart_part are.0 are.1 trees are.2 apart in
        (are.0, are.1, are.2, are.3, are.4, posting_stays entry.1 list.1 are.0 are.5 parts.0, held_stays entries lists are.1 are.6 parts.1)

    pub map_stays : (root : ℕ) (entries : List Entry) (keys : List ℕ) → HoldsMap (g.map old) (g.count old) root entries keys → IsApart (before ++ free ++ keys) → HoldsMap (g.map new) (g.count new) root entries keys
    map_stays root entries keys held apart = record {
      tree = held.tree;
      held = stays g old new before free after rest keeps 5 root held.tree held.held (subst (λ (l : List ℕ). IsApart (before ++ free ++ l)) held.stand apart);
      stand = held.stand;
      spelled = held.spelled;
      are = held.are;
      rising = held.rising;
      keyed = held.keyed;
    }

-- the pages of postings are below the count
pub posting_below : (now : PageMap) (count : ℕ) (posting : List ℕ) (rows : List RowRef) (own : List ℕ) → IsPosting now count posting rows own → AllByRecursion (λ page. page < count) own
posting_below now count posting rows own stands =
    ⊎_elim
    (λ short. subst (λ (l : List ℕ). AllByRecursion (λ (page : ℕ). page < count) l) (sym short.stand) tt)
    (λ tree. subst (λ (l : List ℕ). AllByRecursion (λ (page : ℕ). page < count) l) (sym tree.held.stand) tree.held.held.below)
    stands

pub held_below : (now : PageMap) (count : ℕ) (entries : List Entry) (lists : Lists) (trees : List ℕ) → AreHeld now count entries lists trees → AllByRecursion (λ page. page < count) trees
held_below now count [] [] trees are = subst (λ (l : List ℕ). AllByRecursion (λ (page : ℕ). page < count) l) (sym are) tt
held_below now count [] (list ∷ lists) trees are = absurd are
held_below now count (entry ∷ entries) [] trees are = absurd are
held_below now count (entry ∷ entries) (list ∷ lists) trees are =
    subst (λ (l : List ℕ). AllByRecursion (λ (page : ℕ). page < count) l) (sym are.2)
    (all_join (λ (page : ℕ). page < count) are.0 are.1 (posting_below now count entry.1 list.1 are.0 are.5) (held_below now count entries lists are.1 are.6))

-- a walk that drops postings
module _ {P : Type 0} (g : Ghosts P) (old : P) (entries : List EntryBytes) (lists : Lists) (feet free : List ℕ) where
  pub record Drops (now : P) (i : ℕ) : Type 0 where
    pub left : List ℕ
    pub rest : List ℕ
    pub others : Lists
    pub held : AreHeld (g.map now) (g.count now) (entries_of (drop i entries)) others left
    pub apart : IsApart (left ++ rest)
    pub keeps : KeepsPages g old now feet free left rest

  pub drops_none : AreHeld (g.map old) (g.count old) (entries_of entries) lists feet → IsFreeList (g.map old) (g.count old) free → IsApart (feet ++ free) → Drops old 0
  drops_none are frees apart = record { left = feet; rest = free; others = lists; held = are; apart = apart; keeps = keeps_none g old feet free frees }

  -- the posting that is next, and the others
  pub record Front (now : P) (i : ℕ) (posting : List ℕ) (rest : List ℕ) : Type 0 where
    pub rows : List RowRef
    pub own : List ℕ
    pub behind : List ℕ
    pub later : Lists
    pub stands : IsPosting (g.map now) (g.count now) posting rows own
    pub held : AreHeld (g.map now) (g.count now) (entries_of (drop (i + 1) entries)) later behind
    pub apart : IsApart (own ++ behind ++ rest)
    pub keeps : KeepsPages g old now feet free (own ++ behind) rest

  front_of : (now : P) (some : List EntryBytes) (entry : EntryBytes) (more : List EntryBytes) (others : Lists) (left rest : List ℕ) → some ≡ entry ∷ more
      → AreHeld (g.map now) (g.count now) (entries_of some) others left → IsApart (left ++ rest) → KeepsPages g old now feet free left rest → (i : ℕ) → more ≡ drop (i + 1) entries → Front now i entry.posting rest
  front_of now some entry more [] left rest is are apart keeps i drops = absurd (subst (λ (l : List EntryBytes). AreHeld (g.map now) (g.count now) (entries_of l) [] left) is are)
  front_of now some entry more (list ∷ others) left rest is are apart keeps i drops =
      let here = subst (λ (l : List EntryBytes). AreHeld (g.map now) (g.count now) (entries_of l) (list ∷ others) left) is are in
      record {
        rows = list.1;
        own = here.0;
        behind = here.1;
        later = others;
        stands = here.5;
        held = subst (λ (l : List EntryBytes). AreHeld (g.map now) (g.count now) (entries_of l) others here.1) drops here.6;
        apart = subst (λ (l : List ℕ). IsApart (l ++ rest)) here.2 apart;
        keeps = subst (λ (l : List ℕ). KeepsPages g old now feet free l rest) here.2 keeps;
      }

  drop_cut : (some : List EntryBytes) (i : ℕ) (d : EntryBytes) → i < length some → drop i some ≡ get_or some i d ∷ drop (i + 1) some
  drop_cut [] i d below = absurd (omega (arith, below))
  drop_cut (entry ∷ some) zero d below = refl
  drop_cut (entry ∷ some) (suc i) d below = let e : suc i + 1 ≡ suc (i + 1) = omega arith in rw e (drop_cut some i d (omega (arith, below)))

  pub drops_front : (now : P) (i : ℕ) (d : EntryBytes) → i < length entries → (drops : Drops now i) → Front now i (get_or entries i d).posting drops.rest
  drops_front now i d below drops =
      front_of now (drop i entries) (get_or entries i d) (drop (i + 1) entries) drops.others drops.left drops.rest (drop_cut entries i d below) drops.held drops.apart drops.keeps i refl

  pub front_apart : (now : P) (i : ℕ) (posting rest : List ℕ) (front : Front now i posting rest) → IsApart (front.own ++ rest)
  front_apart now i posting rest front =
      once_apart (front.own ++ rest) (λ n. omega (
        arith,
        apart_once (front.own ++ front.behind ++ rest) front.apart n,
        times-append n (front.own ++ front.behind) rest,
        times-append n front.own front.behind,
        times-append n front.own rest,
      ))

  pub drops_next : (now new : P) (i : ℕ) (posting rest freed : List ℕ) (front : Front now i posting rest) → KeepsPages g now new front.own rest [] freed → Drops new (i + 1)
  drops_next now new i posting rest freed front keeps =
      let wide : KeepsPages g now new (front.own ++ front.behind) rest front.behind freed = keeps_within g now new [] front.own front.behind rest [] freed keeps in
      let low = all_join (λ (page : ℕ). page < g.count now) (front.own ++ front.behind) rest
      (all_join (λ (page : ℕ). page < g.count now) front.own front.behind (posting_below (g.map now) (g.count now) posting front.rows front.own front.stands) (held_below (g.map now) (g.count now) (entries_of (drop (i + 1) entries)) front.later front.behind front.held))
      front.keeps.frees.below in
      record {
        left = front.behind;
        rest = freed;
        others = front.later;
        held = held_stays g now new front.own rest [] freed keeps (entries_of (drop (i + 1) entries)) front.later front.behind front.held
            (once_apart (front.own ++ rest ++ front.behind) (λ n. omega (
              arith,
              apart_once (front.own ++ front.behind ++ rest) front.apart n,
              times-append n (front.own ++ front.behind) rest,
              times-append n front.own front.behind,
              times-append n (front.own ++ rest) front.behind,
              times-append n front.own rest,
            )));
        apart = kept_apart g now new (front.own ++ front.behind) rest front.behind freed wide front.apart low;
        keeps = keeps_join g old now new feet free (front.own ++ front.behind) rest front.behind freed front.keeps wide;
      }

  pub drops_all : (now : P) (i : ℕ) → length entries ≤ i → (drops : Drops now i) → (rest : List ℕ) × KeepsPages g old now feet free [] rest
  drops_all now i past drops =
      let none : drop i entries ≡ [] = drop_none entries i past in
      let left = no_trees (g.map now) (g.count now) drops.others drops.left (subst (λ (l : List EntryBytes). AreHeld (g.map now) (g.count now) (entries_of l) drops.others drops.left) none drops.held) in
      (drops.rest, subst (λ (l : List ℕ). KeepsPages g old now feet free l drops.rest) left drops.keeps)
    where
      drop_none : (some : List EntryBytes) (i : ℕ) → length some ≤ i → drop i some ≡ []
      drop_none [] zero past = refl
      drop_none [] (suc i) past = refl
      drop_none (entry ∷ some) zero past = absurd (omega (arith, past))
      drop_none (entry ∷ some) (suc i) past = drop_none some i (omega (arith, past))

      no_trees : (now : PageMap) (count : ℕ) (others : Lists) (left : List ℕ) → AreHeld now count [] others left → left ≡ []
      no_trees now count [] left are = are
      no_trees now count (list ∷ others) left are = absurd are
