-- What a document holds, level by level.
use Rattle.std.proofs.Common.{◌≡◌, ℕ, suc, ◌+◌, ◌-◌, ◌<◌, ◌≤◌, Bool, false, true≢false, IsTrue, ◌↔◌, List, [], ◌∷◌, length, get_or, take, drop, nat_cmp, Less, Equal, Greater, inl, inr, refl, sym, ap, ◌∙◌, subst, arith, add-one, drop-cons, length-drop}
use Rattle.std.specs.Cmp.Lexicographic.{slice_cmp}
use Rattle.std.proofs.lemmas.Cmp.{nat_list_cmp_total, tied_itself}
use Rattle.std.proofs.lemmas.Map.Text.{is_eq-slice_cmp}
use Rattle.std.proofs.lemmas.Slice.Eq.{bytes_eq-Decides}
use Rattle.std.proofs.lemmas.List.{take_all}
use Rattle.std.specs.Ordering.{is_eq}
use Rattle.serde_json.specs.Data.{Data, array, object, Items, item, Members, no_members, member}
use Rattle.gx_json.specs.declared.document.Json.{Json}
use Rattle.gx_json.specs.Tree.{data_of, items_data, members_data}
use Rattle.gx_json.specs.Valid.{IsBelow, IsBelowAll, IsRising}
use Rattle.gx_json.specs.Operators.{SomeItem, SomeMember, Covers, CoverItems, CoverMembers, IsScalar}
use Rattle.gx_json.specs.Steps.{AreMembers, joined, AreBelow, Found}

-- ---- the element at a place, and those behind it

pub items_split : (js : List Json) (i : ℕ) (j : Json) → i < length js → j ≡ get_or js i j → items_data (drop i js) ≡ item (data_of j) (items_data (drop (i + 1) js))
items_split js i j within is =
    let split : drop i js ≡ j ∷ drop (i + 1) js = rw add-one (drop-cons js i j within ∙ ap (λ (x : Json). x ∷ drop (suc i) js) (sym is)) in
    ap items_data split

pub members_split : (ps : List (List ℕ × Json)) (i : ℕ) (p : List ℕ × Json) → i < length ps → p ≡ get_or ps i p → members_data (drop i ps) ≡ member p.0 (data_of p.1) (members_data (drop (i + 1) ps))
members_split ps i p within is =
    let split : drop i ps ≡ p ∷ drop (i + 1) ps = rw add-one (drop-cons ps i p within ∙ ap (λ (x : List ℕ × Json). x ∷ drop (suc i) ps) (sym is)) in
    ap members_data split

-- ---- arrays

pub hold_no_item : (vs all left more : Items) (q : Data) → left ≡ item q more → (CoverItems vs all ↔ CoverItems vs left) → (SomeItem (λ v. Covers v q) vs → ⊥) → CoverItems vs all → ⊥
hold_no_item vs all left more q is same none h = none (subst (CoverItems vs) is (same.0 h)).0

pub hold_more_items : (vs all left more : Items) (q : Data) → left ≡ item q more → (CoverItems vs all ↔ CoverItems vs left) → SomeItem (λ v. Covers v q) vs → CoverItems vs all ↔ CoverItems vs more
hold_more_items vs all left more q is same some = (λ h. (subst (CoverItems vs) is (same.0 h)).1, λ h. same.1 (subst (CoverItems vs) (sym is) (some, h)))

-- ---- keys

pub same_key : (k l : List ℕ) → slice_cmp nat_cmp k l ≡ Equal → k ≡ l
same_key k l is = (bytes_eq-Decides k l).0 (sym (is_eq-slice_cmp k l) ∙ ap is_eq is)

not_below : (k l : List ℕ) → IsBelow k l → k ≡ l → ⊥
not_below k l below same =
    let tied : slice_cmp nat_cmp l l ≡ Equal = tied_itself nat_list_cmp_total l in
    let less : slice_cmp nat_cmp l l ≡ Less = subst (λ (x : List ℕ). slice_cmp nat_cmp x l ≡ Less) same below in
    let apart : Equal ≡ Less = sym tied ∙ less in
    cc

pub joined-assoc : (a b c : Members) → joined (joined a b) c ≡ joined a (joined b c)
joined-assoc no_members b c = refl
joined-assoc (member k d a) b c = ap (member k d) (joined-assoc a b c)

pub below_more : (before : Members) (key k : List ℕ) (d : Data) → AreBelow before key → IsBelow k key → AreBelow (joined before (member k d no_members)) key
below_more no_members key k d h below = (below, tt)
below_more (member l e before) key k d h below = (h.0, below_more before key k d h.1 below)

-- a member of another key doesn't matter
some_behind : (before ms : Members) (key : List ℕ) (P : Data → Type 0) → AreBelow before key → SomeMember key P (joined before ms) → SomeMember key P ms
some_behind no_members ms key P below s = s
some_behind (member k d before) ms key P below s = elim s [ inl x ↦ absurd (not_below k key below.0 x.0) | inr x ↦ some_behind before ms key P below.1 x ]

some_before : (before ms : Members) (key : List ℕ) (P : Data → Type 0) → SomeMember key P ms → SomeMember key P (joined before ms)
some_before no_members ms key P s = s
some_before (member k d before) ms key P s = inr (some_before before ms key P s)

some_any : (ms : Members) (key : List ℕ) (P : Data → Type 0) → SomeMember key P ms → SomeMember key (λ _. Unit {0}) ms
some_any no_members key P s = s
some_any (member k d ms) key P s = elim s [ inl x ↦ inl (x.0, tt) | inr x ↦ inr (some_any ms key P x) ]

-- no key above another is that one
none_above : (key k : List ℕ) (ms : Members) (P : Data → Type 0) → IsBelowAll k ms → (IsBelow k key → ⊥) → SomeMember key P ms → ⊥
none_above key k no_members P above other s = s
none_above key k (member l d ms) P above other s = elim s [
  | inl x ↦ other (subst (IsBelow k) x.0 above.0)
  | inr x ↦ none_above key k ms P above.1 other x
]

members_behind : (before ms : Members) → AreMembers (joined before ms) → AreMembers ms
members_behind no_members ms h = h
members_behind (member k d before) ms h = members_behind before ms (record { rising = h.rising.1; stored = h.stored.1 })

-- ---- the search for a key

pub begin_search : (ms : Members) (key : List ℕ) → AreMembers ms → (before : Members) × (ms ≡ joined before ms) × AreBelow before key × AreMembers ms
begin_search ms key h = (no_members, refl, tt, h)

pub rest_split : (ps : List (List ℕ × Json)) (p : List ℕ × Json) → 1 ≤ length ps → p ≡ get_or ps 0 p → members_data ps ≡ member p.0 (data_of p.1) (members_data (take (length ps - 1) (drop 1 ps)))
rest_split ps p some is =
    members_split ps 0 p (omega arith) is
    ∙ ap (λ (xs : List (List ℕ × Json)). member p.0 (data_of p.1) (members_data xs)) (sym (take_all (length ps - 1) (drop 1 ps) (omega (arith, length-drop 1 ps))))

pub pass_member : (all ms rest before : Members) (key k : List ℕ) (d : Data) → all ≡ joined before ms → AreBelow before key → AreMembers ms → ms ≡ member k d rest → IsBelow k key
    → (b : Members) × (all ≡ joined b rest) × AreBelow b key × AreMembers rest
pass_member all ms rest before key k d is below are split less =
    let here : AreMembers (member k d rest) = subst AreMembers split are in (
      joined before (member k d no_members),
      is ∙ ap (joined before) split ∙ sym (joined-assoc before (member k d no_members) rest),
      below_more before key k d below less,
      record { rising = here.rising.1; stored = here.stored.1 },
    )

pub find_member : (all ms rest before : Members) (key k : List ℕ) (d : Data) → all ≡ joined before ms → AreBelow before key → AreMembers ms → ms ≡ member k d rest → slice_cmp nat_cmp k key ≡ Equal → Found key all d rest
find_member all ms rest before key k d is below are split equal =
    let here : AreMembers (member k d rest) = subst AreMembers split are in
    record {
      before = before;
      parts = is ∙ ap (joined before) (split ∙ ap (λ (l : List ℕ). member l d rest) (same_key k key equal));
      below = below;
      stored = here.stored.0.1;
      are = record { rising = here.rising.1; stored = here.stored.1 };
    }

pub miss_member : (all ms rest before : Members) (key k : List ℕ) (d : Data) → all ≡ joined before ms → AreBelow before key → AreMembers ms → ms ≡ member k d rest → slice_cmp nat_cmp k key ≡ Greater
    → SomeMember key (λ _. Unit {0}) all → ⊥
miss_member all ms rest before key k d is below are split greater some =
    let here : AreMembers (member k d rest) = subst AreMembers split are in
    let there : SomeMember key (λ _. Unit {0}) (member k d rest) = subst (SomeMember key (λ _. Unit {0})) split (some_behind before ms key (λ _. Unit {0}) below (subst (SomeMember key (λ _. Unit {0})) is some)) in
    elim there [
      | inl x ↦ (
          let tied : slice_cmp nat_cmp key key ≡ Equal = tied_itself nat_list_cmp_total key in
          let more : slice_cmp nat_cmp key key ≡ Greater = subst (λ (y : List ℕ). slice_cmp nat_cmp y key ≡ Greater) x.0 greater in
          let apart : Equal ≡ Greater = sym tied ∙ more in
          cc
          )
      | inr x ↦ none_above key k rest (λ _. Unit {0}) here.rising.0 (λ less. let apart : Less ≡ Greater = sym less ∙ greater in cc) x
    ]

pub no_member : (all ms before : Members) (key : List ℕ) → all ≡ joined before ms → AreBelow before key → ms ≡ no_members → SomeMember key (λ _. Unit {0}) all → ⊥
no_member all ms before key is below none some =
    let P : Data → Type 0 = λ _. Unit {0} in
    subst (SomeMember key P) none (some_behind before ms key P below (subst (SomeMember key P) is some))

-- ---- objects

-- the value that was found is the key's
found_is : (key : List ℕ) (ms rest : Members) (d : Data) (P : Data → Type 0) → AreMembers ms → Found key ms d rest → SomeMember key P ms → P d
found_is key ms rest d P are found some =
    let here : AreMembers (member key d rest) = members_behind found.before (member key d rest) (subst AreMembers found.parts are) in
    elim (some_behind found.before (member key d rest) key P found.below (subst (SomeMember key P) found.parts some)) [
      | inl x ↦ x.1
      | inr x ↦ absurd (none_above key key rest P here.rising.0 (λ less. not_below key key less refl) x)
    ]

below_later : (before : Members) (key l : List ℕ) → AreBelow before key → IsBelow key l → AreBelow before l
below_later no_members key l h below = tt
below_later (member k d before) key l h below = (nat_list_cmp_total.trans k key l h.0 below, below_later before key l h.1 below)

-- what is sought later stands behind it
behind_found : (key : List ℕ) (ms rest : Members) (d : Data) (l : List ℕ) (P : Data → Type 0) → Found key ms d rest → IsBelow key l → SomeMember l P ms → SomeMember l P rest
behind_found key ms rest d l P found below some =
    elim (some_behind found.before (member key d rest) l P (below_later found.before key l found.below below) (subst (SomeMember l P) found.parts some)) [
      | inl x ↦ absurd (not_below key l below x.0)
      | inr x ↦ x
    ]

hold_behind : (key : List ℕ) (ms rest : Members) (d : Data) (qs : Members) → Found key ms d rest → IsBelowAll key qs → CoverMembers ms qs → CoverMembers rest qs
hold_behind key ms rest d no_members found above h = tt
hold_behind key ms rest d (member l q qs) found above h =
    (behind_found key ms rest d l (λ v. Covers v q) found above.0 h.0, hold_behind key ms rest d qs found above.1 h.1)

hold_before : (key : List ℕ) (ms rest : Members) (d : Data) (qs : Members) → Found key ms d rest → CoverMembers rest qs → CoverMembers ms qs
hold_before key ms rest d no_members found h = tt
hold_before key ms rest d (member l q qs) found h =
    (subst (SomeMember l (λ v. Covers v q)) (sym found.parts) (some_before found.before (member key d rest) l (λ v. Covers v q) (inr h.0)), hold_before key ms rest d qs found h.1)

pub hold_no_member : (pairs others ms left more : Members) (key : List ℕ) (q : Data) → (CoverMembers pairs others ↔ CoverMembers ms left) → left ≡ member key q more → (SomeMember key (λ _. Unit {0}) ms → ⊥) → CoverMembers pairs others → ⊥
hold_no_member pairs others ms left more key q same split none h = none (some_any ms key (λ v. Covers v q) (subst (CoverMembers ms) split (same.0 h)).0)

pub hold_other_member : (pairs others ms left more rest : Members) (key : List ℕ) (q d : Data) → (CoverMembers pairs others ↔ CoverMembers ms left) → left ≡ member key q more → AreMembers ms → Found key ms d rest
    → (Covers d q → ⊥) → CoverMembers pairs others → ⊥
hold_other_member pairs others ms left more rest key q d same split are found other h =
    other (found_is key ms rest d (λ v. Covers v q) are found (subst (CoverMembers ms) split (same.0 h)).0)

pub hold_more_members : (pairs others ms left more rest : Members) (key : List ℕ) (q d : Data) → (CoverMembers pairs others ↔ CoverMembers ms left) → left ≡ member key q more → IsRising left → Found key ms d rest → Covers d q
    → CoverMembers pairs others ↔ CoverMembers rest more
hold_more_members pairs others ms left more rest key q d same split rising found holds =
    let above : IsBelowAll key more = (subst IsRising split rising).0 in (
      λ h. hold_behind key ms rest d more found above (subst (CoverMembers ms) split (same.0 h)).1,
      λ h. same.1 (subst (CoverMembers ms) (sym split) (
        subst (SomeMember key (λ v. Covers v q)) (sym found.parts) (some_before found.before (member key d rest) key (λ v. Covers v q) (inl (refl, holds))),
        hold_before key ms rest d more found h,
      )),
    )

-- ---- answers

pub refuted : {P : Type 0} (b : Bool) → (IsTrue b ↔ P) → b ≡ false → P → ⊥
refuted b same not_true p = true≢false (sym (same.1 p) ∙ not_true)

pub answers_no : {P : Type 0} → (P → ⊥) → IsTrue false ↔ P
answers_no never = (λ (e : IsTrue false). absurd (true≢false (sym e)), λ p. absurd (never p))

pub empty_members : (ps : List (List ℕ × Json)) → length ps < 1 → members_data ps ≡ no_members
empty_members [] h = refl
empty_members (p ∷ ps) h = absurd (omega arith)

same_items : (a b : Items) → array a ≡ array b → a ≡ b
same_items a b e = cc

same_members : (a b : Members) → object a ≡ object b → a ≡ b
same_members a b e = cc

pub scalar_in : (b : Bool) (v q : Data) (vs : Items) → v ≡ array vs → (IsTrue b ↔ (IsScalar q × SomeItem (λ d. d ≡ q) vs)) → IsTrue b ↔ (IsScalar q × ((ws : Items) × (v ≡ array ws) × SomeItem (λ d. d ≡ q) ws))
scalar_in b v q vs is same = (
  λ t. ((same.0 t).0, (vs, is, (same.0 t).1)),
  λ h. same.1 (h.0, subst (SomeItem (λ d. d ≡ q)) (same_items h.1.0 vs (sym h.1.1 ∙ is)) h.1.2),
)

pub objects_held : (b : Bool) (v q : Data) (vs qs : Members) → v ≡ object vs → q ≡ object qs → (IsTrue b ↔ CoverMembers vs qs) → IsTrue b ↔ Covers v q
objects_held b v q vs qs is other same = subst (λ (d : Data). IsTrue b ↔ Covers v d) (sym other) (
  λ t. (vs, is, same.0 t),
  λ h. same.1 (subst (λ (ms : Members). CoverMembers ms qs) (same_members h.0 vs (sym h.1 ∙ is)) h.2),
)
