-- The rows of a table as they are stored, and as they are looked at.
use Rattle.std.proofs.Common.{◌≡◌, inl, inr, ⊎_elim, ℕ, ◌+◌, ◌<◌, ◌≤◌, ◌==◌, suc, Bool, true, false, not, List, [], ◌∷◌, ◌++◌, length, filter, map, Option, refl, sym, ◌∙◌, ap, subst, append_assoc, append-nil, arith}
use Rattle.std.proofs.lemmas.Bool.Decides.{eqb_tells}
use Rattle.std.proofs.lemmas.List.{length-map}
use Rattle.std.specs.List.{AllZip, AllByRecursion, flat_map}
use Rattle.gx_pages.specs.declared.row.RowRef.{RowRef}
use Rattle.gx_pages.specs.Rows.{IsRising}
use Rattle.gx_pages.proofs.Footprints.{all_weaker}
use Rattle.gx_heap.specs.Heaps.{Row, AreRows, IsRef, refs, without}
use Rattle.gx_value.specs.declared.fields.Column.{Column}
use Rattle.gx_model.specs.Database as model
use Rattle.gx_model.specs.Replies.{Reply, accepted, line, row_line}
use Rattle.gx_model.specs.Steps.{selected, selection}
use Rattle.gx_model.specs.Values.{named}
use Rattle.std.specs.Prelude.{codes}
use Rattle.std.specs.Fmt.{decimal}
use Rattle.gx_query.specs.declared.counts.Counts.{Counts}
use Rattle.gx_model.specs.Truth.{Bound, selects}
use Rattle.gx_database.specs.Standing.{SpellsStored}
use Rattle.gx_plan.specs.Bounds.{kinds_of}
use Rattle.gx_target.specs.Places.{columns_at}
use Rattle.gx_query.specs.declared.visitors.Lines.{Lines}
use Rattle.gx_query.specs.Seen.{Seen, AreSeen, row_seen}
use Rattle.gx_query.specs.Visitors.{line_of, with_line, with_row}
use Rattle.gx_query.specs.Walks.{Shown, picked, visited}
use Rattle.gx_query.proofs.Lists.{by_test, filter_yes, filter_no}

-- each stored row with the fields of the table's
abbrev pub seen_of : List Row → List model.Row → List Seen
seen_of [] ms = []
seen_of (r ∷ rs) [] = []
seen_of (r ∷ rs) (m ∷ ms) = (r.0, m.fields) ∷ seen_of rs ms

pub are_seen : (columns : List Column) (rs : List Row) (ms : List model.Row) → AllZip (SpellsStored columns) ms rs → AreSeen (kinds_of columns) rs (seen_of rs ms)
are_seen columns [] [] all = tt
are_seen columns [] (m ∷ ms) all = absurd all
are_seen columns (r ∷ rs) [] all = absurd all
are_seen columns (r ∷ rs) (m ∷ ms) all = (record { place = refl; spelled = all.0.spelled }, are_seen columns rs ms all.1)

same_row : (r : Row) (m : model.Row) → r.0.number ≡ m.number → row_seen (r.0, m.fields) ≡ m
same_row r m same = λ i. record { number = same i; fields = m.fields }

pub rows_seen : (columns : List Column) (rs : List Row) (ms : List model.Row) → AllZip (SpellsStored columns) ms rs → map row_seen (seen_of rs ms) ≡ ms
rows_seen columns [] [] all = refl
rows_seen columns [] (m ∷ ms) all = absurd all
rows_seen columns (r ∷ rs) [] all = absurd all
rows_seen columns (r ∷ rs) (m ∷ ms) all = λ i. same_row r m all.0.number i ∷ rows_seen columns rs ms all.1 i

abbrev pub chosen : Option Bound → List model.Row → List model.Row
chosen condition ms = filter (λ row. selects condition row.fields) ms

-- the picked ones are the rows of which the condition is true
pub picked_rows : (condition : Option Bound) (seen : List Seen) → map row_seen (picked condition seen) ≡ chosen condition (map row_seen seen)
picked_rows condition [] = refl
picked_rows condition (s ∷ seen) =
    ⊎_elim
    (λ yes. ap (λ (l : List Seen). map row_seen l) (filter_yes (λ (x : Seen). selects condition x.1) s seen yes) ∙ ap (λ (l : List model.Row). row_seen s ∷ l) (picked_rows condition seen)
    ∙ sym (filter_yes (λ (row : model.Row). selects condition row.fields) (row_seen s) (map row_seen seen) yes))
    (λ no. ap (λ (l : List Seen). map row_seen l) (filter_no (λ (x : Seen). selects condition x.1) s seen no) ∙ picked_rows condition seen
    ∙ sym (filter_no (λ (row : model.Row). selects condition row.fields) (row_seen s) (map row_seen seen) no))
    (by_test (selects condition s.1))

module _ (columns : List Column) (condition : Option Bound) (rs : List Row) (ms : List model.Row) (all : AllZip (SpellsStored columns) ms rs) where
  pub picked_are : map row_seen (picked condition (seen_of rs ms)) ≡ chosen condition ms
  picked_are = picked_rows condition (seen_of rs ms) ∙ ap (λ (l : List model.Row). chosen condition l) (rows_seen columns rs ms all)

  pub picked_many : length (picked condition (seen_of rs ms)) ≡ length (chosen condition ms)
  picked_many = sym (length-map (picked condition (seen_of rs ms)) row_seen) ∙ ap (λ (l : List model.Row). length l) picked_are

  pub seen_many : length (seen_of rs ms) ≡ length ms
  seen_many = sym (length-map (seen_of rs ms) row_seen) ∙ ap (λ (l : List model.Row). length l) (rows_seen columns rs ms all)

abbrev pub select_said_reply : model.Table → Option (List (List ℕ)) → Option Bound → Reply
select_said_reply t asked condition = accepted (selection t asked (selected condition t))

-- The lines of rows that were shown.
pub lines_visited : (columns : List Column) (v : Lines) (seen : List Seen)
    → (visited (with_line columns) v seen).bytes ≡ v.bytes ++ flat_map (row_line columns (columns_at columns v.places.items)) (map row_seen seen)
unfolding line_of
lines_visited columns v [] = sym (append-nil v.bytes)
lines_visited columns v (s ∷ seen) =
    lines_visited columns (with_line columns v s) seen
    ∙ append_assoc v.bytes (row_line columns (columns_at columns v.places.items) (row_seen s)) (flat_map (row_line columns (columns_at columns v.places.items)) (map row_seen seen))

-- the reply to a SELECT
pub select_said : (columns : List Column) (condition : Option Bound) (t : model.Table) (asked : Option (List (List ℕ))) (rs : List Row) (v w : Lines) (n : Counts) → columns ≡ t.columns
    → AllZip (SpellsStored t.columns) t.rows rs → v.bytes ≡ [] → columns_at columns v.places.items ≡ named columns asked
    → Shown (with_line columns) condition v w (record { rows = 0; selected = 0 }) n (seen_of rs t.rows)
    → accepted (w.bytes ++ line (codes "SELECT " ++ decimal n.selected)) ≡ select_said_reply t asked condition
select_said columns condition t asked rs v w n same all none places shown =
    let rows = chosen condition t.rows in
    let bytes : w.bytes ≡ flat_map (row_line t.columns (named t.columns asked)) rows =
    ap (λ (l : Lines). l.bytes) shown.visitor ∙ lines_visited columns v (picked condition (seen_of rs t.rows))
    ∙ ap (λ (b : List ℕ). b ++ flat_map (row_line columns (columns_at columns v.places.items)) (map row_seen (picked condition (seen_of rs t.rows)))) none
    ∙ ap (λ (l : List model.Row). flat_map (row_line columns (columns_at columns v.places.items)) l) (picked_are t.columns condition rs t.rows all)
    ∙ ap (λ (cs : List Column). flat_map (row_line columns cs) rows) places ∙ ap (λ (cs : List Column). flat_map (row_line cs (named cs asked)) rows) same in
    let count : n.selected ≡ length rows = (let many = picked_many t.columns condition rs t.rows all in let here = shown.selected in omega (arith, many, here)) in
    λ i. accepted (bytes i ++ line (codes "SELECT " ++ decimal (count i)))

-- The rows that were gathered.
abbrev pub refs_of : List Seen → List RowRef
refs_of seen = map (λ s. s.0) seen

pub rows_visited : (columns : List Column) (v : List RowRef) (seen : List Seen) → visited (with_row columns) v seen ≡ v ++ refs_of seen
rows_visited columns v [] = sym (append-nil v)
rows_visited columns v (s ∷ seen) = rows_visited columns (v ++ s.0 ∷ []) seen ∙ append_assoc v (s.0 ∷ []) (refs_of seen)

-- Rows that are taken out.

abbrev gone_of : Option Bound → List Row → List model.Row → List RowRef
gone_of condition rs ms = refs_of (picked condition (seen_of rs ms))

gone_yes : (condition : Option Bound) (r : Row) (rs : List Row) (m : model.Row) (ms : List model.Row) → selects condition m.fields ≡ true → gone_of condition (r ∷ rs) (m ∷ ms) ≡ r.0 ∷ gone_of condition rs ms
gone_yes condition r rs m ms holds = ap (λ (l : List Seen). refs_of l) (filter_yes (λ (x : Seen). selects condition x.1) (r.0, m.fields) (seen_of rs ms) holds)

gone_no : (condition : Option Bound) (r : Row) (rs : List Row) (m : model.Row) (ms : List model.Row) → selects condition m.fields ≡ false → gone_of condition (r ∷ rs) (m ∷ ms) ≡ gone_of condition rs ms
gone_no condition r rs m ms fails = ap (λ (l : List Seen). refs_of l) (filter_no (λ (x : Seen). selects condition x.1) (r.0, m.fields) (seen_of rs ms) fails)

pub all_gone : (Q : RowRef → Type 0) (condition : Option Bound) (rs : List Row) (ms : List model.Row) → AllByRecursion Q (refs rs) → AllByRecursion Q (refs_of (picked condition (seen_of rs ms)))
all_gone Q condition [] ms all = tt
all_gone Q condition (r ∷ rs) [] all = tt
all_gone Q condition (r ∷ rs) (m ∷ ms) all =
    ⊎_elim
    (λ yes. subst (λ (l : List RowRef). AllByRecursion Q l) (sym (gone_yes condition r rs m ms yes)) (all.0, all_gone Q condition rs ms all.1))
    (λ no. subst (λ (l : List RowRef). AllByRecursion Q l) (sym (gone_no condition r rs m ms no)) (all_gone Q condition rs ms all.1))
    (by_test (selects condition m.fields))

pub rising_gone : (condition : Option Bound) (rs : List Row) (ms : List model.Row) → IsRising (refs rs) → IsRising (refs_of (picked condition (seen_of rs ms)))
rising_gone condition [] ms rising = tt
rising_gone condition (r ∷ rs) [] rising = tt
rising_gone condition (r ∷ rs) (m ∷ ms) rising =
    ⊎_elim
    (λ yes. subst (λ (l : List RowRef). IsRising l) (sym (gone_yes condition r rs m ms yes)) (all_gone (λ at. r.0.number < at.number) condition rs ms rising.0, rising_gone condition rs ms rising.1))
    (λ no. subst (λ (l : List RowRef). IsRising l) (sym (gone_no condition r rs m ms no)) (rising_gone condition rs ms rising.1))
    (by_test (selects condition m.fields))

more_rows : (at : List RowRef) (r : Row) (rs : List Row) → AreRows at rs → AreRows at (r ∷ rs)
more_rows at r rs are = all_weaker (λ (x : RowRef). IsRef x rs) (λ (x : RowRef). IsRef x (r ∷ rs)) at (λ x is. (is.0, inr is.1)) are

pub gone_are_rows : (condition : Option Bound) (rs : List Row) (ms : List model.Row) → AreRows (refs_of (picked condition (seen_of rs ms))) rs
gone_are_rows condition [] ms = tt
gone_are_rows condition (r ∷ rs) [] = tt
gone_are_rows condition (r ∷ rs) (m ∷ ms) =
    let rest = more_rows (gone_of condition rs ms) r rs (gone_are_rows condition rs ms) in
    ⊎_elim
    (λ yes. subst (λ (l : List RowRef). AreRows l (r ∷ rs)) (sym (gone_yes condition r rs m ms yes)) ((r.1, inl refl), rest))
    (λ no. subst (λ (l : List RowRef). AreRows l (r ∷ rs)) (sym (gone_no condition r rs m ms no)) rest)
    (by_test (selects condition m.fields))

-- rows by rising numbers below a number are no more than it
pub rising_few : (low high : ℕ) (rows : List RowRef) → low ≤ high → IsRising rows → AllByRecursion (λ at. (low ≤ at.number) × (at.number < high)) rows → length rows + low ≤ high
rising_few low high [] less rising all = omega arith
rising_few low high (at ∷ rows) less rising all =
    let here = all.0 in
    let first = here.0 in
    let last = here.1 in
    let rest = rising_few (suc at.number) high rows (omega arith) rising.1 (joined rows rising.0 all.1) in omega arith
  where
    joined : (rows : List RowRef) → AllByRecursion (λ other. at.number < other.number) rows → AllByRecursion (λ other. (low ≤ other.number) × (other.number < high)) rows
        → AllByRecursion (λ other. (suc at.number ≤ other.number) × (other.number < high)) rows
    joined [] above all = tt
    joined (other ∷ rows) above all = ((let here = above.0 in omega arith, all.0.1), joined rows above.1 all.1)

-- the row has another number
abbrev other_than : ℕ → Row → Bool
other_than number row = not (row.0.number == number)

is_other : (number : ℕ) (row : Row) → (row.0.number ≡ number → ⊥) → other_than number row ≡ true
is_other number row differ = ⊎_elim (λ same. absurd (differ same.1)) (λ other. rw (other.0) refl) (eqb_tells row.0.number number)

is_same : (row : Row) → other_than row.0.number row ≡ false
is_same row = ⊎_elim (λ holds. rw (holds.0) refl) (λ other. absurd (other.1 refl)) (eqb_tells row.0.number row.0.number)

kept_above : (number : ℕ) (rows : List Row) → AllByRecursion (λ at. number < at.number) (refs rows) → filter (other_than number) rows ≡ rows
kept_above number [] above = refl
kept_above number (row ∷ rows) above =
    filter_yes (other_than number) row rows (is_other number row (λ same. let here = above.0 in omega arith)) ∙ ap (λ (l : List Row). row ∷ l) (kept_above number rows above.1)

-- the first row of some is taken out
without_first : (gone : List RowRef) (r : Row) (rs : List Row) → AllByRecursion (λ at. r.0.number < at.number) (refs rs) → without (r.0 ∷ gone) (r ∷ rs) ≡ without gone rs
without_first gone r rs above =
    ap (λ (l : List Row). without gone l) (filter_no (other_than r.0.number) r rs (is_same r) ∙ kept_above r.0.number rs above)

-- the first row isn't one of those that are taken out
without_none : (gone : List RowRef) (r : Row) (rs : List Row) → AllByRecursion (λ at. r.0.number < at.number) gone → without gone (r ∷ rs) ≡ r ∷ without gone rs
without_none [] r rs above = refl
without_none (at ∷ gone) r rs above =
    ap (λ (l : List Row). without gone l) (filter_yes (other_than at.number) r rs (is_other at.number r (λ same. let here = above.0 in omega arith)))
    ∙ without_none gone r (filter (other_than at.number) rs) above.1

-- the rows that stay are those of which the condition isn't true
pub rows_left : (columns : List Column) (condition : Option Bound) (rs : List Row) (ms : List model.Row) → AllZip (SpellsStored columns) ms rs → IsRising (refs rs)
    → AllZip (SpellsStored columns) (filter (λ row. not (selects condition row.fields)) ms) (without (refs_of (picked condition (seen_of rs ms))) rs)
rows_left columns condition [] [] all rising = tt
rows_left columns condition [] (m ∷ ms) all rising = absurd all
rows_left columns condition (r ∷ rs) [] all rising = absurd all
rows_left columns condition (r ∷ rs) (m ∷ ms) all rising =
    let p : model.Row → Bool = λ row. not (selects condition row.fields) in
    let rest = rows_left columns condition rs ms all.1 rising.1 in
    ⊎_elim
    (λ yes.
    let here : p m ≡ false = ap (λ (b : Bool). not b) yes in
    subst (λ (l : List model.Row). AllZip (SpellsStored columns) l (without (gone_of condition (r ∷ rs) (m ∷ ms)) (r ∷ rs))) (sym (filter_no p m ms here))
    (subst (λ (l : List Row). AllZip (SpellsStored columns) (filter p ms) l)
    (sym (ap (λ (l : List RowRef). without l (r ∷ rs)) (gone_yes condition r rs m ms yes) ∙ without_first (gone_of condition rs ms) r rs rising.0)) rest))
    (λ no.
    let here : p m ≡ true = ap (λ (b : Bool). not b) no in
    subst (λ (l : List model.Row). AllZip (SpellsStored columns) l (without (gone_of condition (r ∷ rs) (m ∷ ms)) (r ∷ rs))) (sym (filter_yes p m ms here))
    (subst (λ (l : List Row). AllZip (SpellsStored columns) (m ∷ filter p ms) l)
    (sym (ap (λ (l : List RowRef). without l (r ∷ rs)) (gone_no condition r rs m ms no)
    ∙ without_none (gone_of condition rs ms) r rs (all_gone (λ at. r.0.number < at.number) condition rs ms rising.0))) (all.0, rest)))
    (by_test (selects condition m.fields))
