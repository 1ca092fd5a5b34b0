-- The lists that the entries of a chain spell.
use Rattle.std.proofs.Common.{◌≡◌, ◌≢◌, ℕ, ◌+◌, ◌<◌, ◌≤◌, zero, suc, List, [], ◌∷◌, ◌++◌, length, map, take, get_or, refl, sym, ◌∙◌, ap, subst, append-nil, add-one, arith}
use Rattle.std.specs.List.{AllByRecursion}
use Rattle.std.proofs.lemmas.List.{map-append}
use Rattle.gx_pages.proofs.Footprints as feet
use Rattle.gx_chain.specs.declared.entry.Entry.{Entry}
use Rattle.gx_catalog.specs.declared.info.TableInfo.{TableInfo}
use Rattle.gx_catalog.specs.declared.info.IndexInfo.{IndexInfo}
use Rattle.gx_catalog.specs.declared.info.Item.{Item}
use Rattle.gx_catalog.specs.declared.info.Item.TheVariants.{Table, Index}
use Rattle.gx_catalog.specs.Items.{FitsItem, IsNone, Spells, SpellsNone, bytes_of, item_bytes, tables_in, indexes_in}
use Rattle.gx_catalog.proofs.Fronts.{item_same}

pub tables_append : (xs ys : List Item) → tables_in (xs ++ ys) ≡ tables_in xs ++ tables_in ys
tables_append [] ys = refl
tables_append (Table t ∷ xs) ys = ap (λ (l : List TableInfo). t ∷ l) (tables_append xs ys)
tables_append (Index i ∷ xs) ys = tables_append xs ys

pub indexes_append : (xs ys : List Item) → indexes_in (xs ++ ys) ≡ indexes_in xs ++ indexes_in ys
indexes_append [] ys = refl
indexes_append (Table t ∷ xs) ys = indexes_append xs ys
indexes_append (Index i ∷ xs) ys = ap (λ (l : List IndexInfo). i ∷ l) (indexes_append xs ys)

pub bytes_append : (xs ys : List Entry) → bytes_of (xs ++ ys) ≡ bytes_of xs ++ bytes_of ys
bytes_append xs ys = map-append (λ (e : Entry). e.item) xs ys

-- one more entry
pub spells_more : (done : List Entry) (tables : List TableInfo) (indexes : List IndexInfo) (e : Entry) (item : Item) → Spells done tables indexes → FitsItem item → e.item ≡ item_bytes item
    → Spells (done ++ e ∷ []) (tables ++ tables_in (item ∷ [])) (indexes ++ indexes_in (item ∷ []))
spells_more done tables indexes e item spells fits is = record {
  items = spells.items ++ item ∷ [];
  fit = feet.all_join FitsItem spells.items (item ∷ []) spells.fit (fits, tt);
  spelled = bytes_append done (e ∷ []) ∙ ap (λ (l : List (List ℕ)). l ++ e.item ∷ []) spells.spelled ∙ ap (λ (b : List ℕ). map item_bytes spells.items ++ b ∷ []) is
      ∙ sym (map-append item_bytes spells.items (item ∷ []));
  in_tables = ap (λ (l : List TableInfo). l ++ tables_in (item ∷ [])) spells.in_tables ∙ sym (tables_append spells.items (item ∷ []));
  in_indexes = ap (λ (l : List IndexInfo). l ++ indexes_in (item ∷ [])) spells.in_indexes ∙ sym (indexes_append spells.items (item ∷ []));
}

pub spells_start : Spells [] [] []
spells_start = record { items = []; fit = tt; spelled = refl; in_tables = refl; in_indexes = refl }

take_more : (es : List Entry) (k : ℕ) (e : Entry) → k < length es → e ≡ get_or es k e → take (suc k) es ≡ take k es ++ e ∷ []
take_more [] k e below is = absurd (omega arith)
take_more (x ∷ es) zero e below is = ap (λ (y : Entry). y ∷ []) (sym is)
take_more (x ∷ es) (suc k) e below is = ap (λ (l : List Entry). x ∷ l) (take_more es k e (omega arith) is)

-- the next entry of a list
pub spells_next : (entries : List Entry) (k n : ℕ) (tables later : List TableInfo) (indexes more : List IndexInfo) (e : Entry) (item : Item) → n ≡ suc k → k < length entries → e ≡ get_or entries k e
    → Spells (take k entries) tables indexes → FitsItem item → e.item ≡ item_bytes item → later ≡ tables ++ tables_in (item ∷ []) → more ≡ indexes ++ indexes_in (item ∷ [])
    → Spells (take n entries) later more
spells_next entries k n tables later indexes more e item at below is spells fits bytes one two =
    subst (λ (m : ℕ). Spells (take m entries) later more) (sym at)
    (subst (λ (l : List Entry). Spells l later more) (sym (take_more entries k e below is))
    (subst (λ (l : List TableInfo). Spells (take k entries ++ e ∷ []) l more) (sym one)
    (subst (λ (l : List IndexInfo). Spells (take k entries ++ e ∷ []) (tables ++ tables_in (item ∷ [])) l) (sym two)
    (spells_more (take k entries) tables indexes e item spells fits bytes))))

take_all : (es : List Entry) (k : ℕ) → length es ≤ k → take k es ≡ es
take_all [] zero long = refl
take_all [] (suc k) long = refl
take_all (e ∷ es) zero long = absurd (omega arith)
take_all (e ∷ es) (suc k) long = ap (λ (l : List Entry). e ∷ l) (take_all es k (omega arith))

pub spells_end : (entries : List Entry) (k : ℕ) (tables : List TableInfo) (indexes : List IndexInfo) → length entries ≤ k → Spells (take k entries) tables indexes → Spells entries tables indexes
spells_end entries k tables indexes long spells = subst (λ (l : List Entry). Spells l tables indexes) (take_all entries k long) spells

-- an entry that is no item
no_item : (entries : List Entry) (items : List Item) (k : ℕ) (e : Entry) → k < length entries → e ≡ get_or entries k e → bytes_of entries ≡ map item_bytes items → AllByRecursion FitsItem items
    → IsNone FitsItem item_bytes e.item → ⊥
no_item [] items k e below is spelled fit none = omega arith
no_item (x ∷ entries) [] k e below is spelled fit none = cc
no_item (x ∷ entries) (item ∷ items) zero e below is spelled fit none =
    let head : x.item ≡ item_bytes item = cc in
    none item fit.0 (ap (λ (y : Entry). y.item) is ∙ head)
no_item (x ∷ entries) (item ∷ items) (suc k) e below is spelled fit none =
    let tail : bytes_of entries ≡ map item_bytes items = cc in
    no_item entries items k e (omega arith) is tail fit.1 none

pub spells_none : (entries : List Entry) (k : ℕ) (e : Entry) → k < length entries → e ≡ get_or entries k e → IsNone FitsItem item_bytes e.item → SpellsNone entries
spells_none entries k e below is none = λ tables indexes spells. no_item entries spells.items k e below is spells.spelled spells.fit none

-- entries spell one list of items
pub items_same : (xs ys : List Item) → AllByRecursion FitsItem xs → AllByRecursion FitsItem ys → map item_bytes xs ≡ map item_bytes ys → xs ≡ ys
items_same [] [] small fits same = refl
items_same [] (y ∷ ys) small fits same = cc
items_same (x ∷ xs) [] small fits same = cc
items_same (x ∷ xs) (y ∷ ys) small fits same =
    let head : item_bytes x ≡ item_bytes y = cc in
    let tail : map item_bytes xs ≡ map item_bytes ys = cc in
    ap (λ (z : Item). z ∷ xs) (item_same x y small.0 fits.0 head) ∙ ap (λ (l : List Item). y ∷ l) (items_same xs ys small.1 fits.1 tail)

pub spells_same : (entries : List Entry) (tables others : List TableInfo) (indexes more : List IndexInfo) → Spells entries tables indexes → Spells entries others more → (tables ≡ others) × (indexes ≡ more)
spells_same entries tables others indexes more one two =
    let same = items_same one.items two.items one.fit two.fit (sym one.spelled ∙ two.spelled) in
    (one.in_tables ∙ ap tables_in same ∙ sym two.in_tables, one.in_indexes ∙ ap indexes_in same ∙ sym two.in_indexes)
