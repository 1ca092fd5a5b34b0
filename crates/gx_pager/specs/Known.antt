-- What is known of a sound disk: its counted records are determined by the log, so a proof that they exist gives them.
use Rattle.std.proofs.Common.{◌≡◌, suc, ℕ, ◌<◌, ◌^◌, List, [], ◌∷◌, ◌++◌, length, drop, slice_index_or, Option, Some, refl, sym, ◌∙◌, ap}
use Rattle.std.proofs.Math.Logic.{∥∥₁_elim, ∥∥₁_prop}
use Rattle.std.proofs.Props.{props}
use Rattle.std.specs.Coded.{Coded-set, coded_ℕ, coded_list, coded_option, coded×, ×_prop}
use Rattle.std.specs.List.{AllByRecursion-prop}
use mathlib.Core.HLevel.{Σ_prop_path, ⊥_prop}
use Rattle.gx_words.specs.PageMap.{PageMap}
use Rattle.gx_words.specs.Image.{Image}
use Rattle.gx_disk.specs.declared.disk.Disk.{Ghosts}
use Rattle.gx_log.specs.Records.{Entry, Record, IsEntry, IsRecord, Stands, opened, laid_all, piece}
use Rattle.gx_log.proofs.Bodies.{stands_same}
use Rattle.gx_pager.specs.Layers.{over}

-- The counted records of the log as read are just what the pages since the last checkpoint show, page 0 as read is the
-- header, and nothing is pending.
pub record IsSound {D : Type 0} (g : Ghosts D) (disk : D) (front : ℕ) (header : List ℕ) (overlay : PageMap) : Type 0 where
  pub records : List Record
  pub stands : Stands records (g.told disk).log
  pub at_front : front ≡ length (opened records)
  pub laid : (before : Option (List ℕ)) (n : ℕ) → laid_all before n records ≡ over (overlay n) before
  pub zero : over (overlay 0) (piece (g.told disk).pages 0) ≡ Some header
  pub pages : (c : Image) → g.now_may_leave disk c → c.pages ≡ (g.told disk).pages
  pub log : (c : Image) → g.now_may_leave disk c → c.log ≡ (g.told disk).log

bytes_prop : (a b : List ℕ) → IsProp (a ≡ b)
bytes_prop a b = Coded-set (coded_list coded_ℕ) a b

number_prop : (a b : ℕ) → IsProp (a ≡ b)
number_prop a b = Coded-set coded_ℕ a b

is_entry_prop : (e : Entry) → IsProp (IsEntry e)
is_entry_prop e = ×_prop (number_prop (length e.0) 8) (number_prop (length e.1) 8192)

is_record_prop : (r : Record) → IsProp (IsRecord r)
is_record_prop r a b = λ i. record {
  count = below a.count b.count i;
  whole = AllByRecursion-prop IsEntry is_entry_prop r a.whole b.whole i;
}
  where
    below : IsProp (length r < 2 ^ 64)
    below = hlevel props

records_prop : (a b : List Record) → IsProp (a ≡ b)
records_prop a b = Coded-set (coded_list (coded_list (coded× (coded_list coded_ℕ) (coded_list coded_ℕ)))) a b

pub map_prop : (a b : Option (List ℕ)) → IsProp (a ≡ b)
map_prop a b = Coded-set (coded_option (coded_list coded_ℕ)) a b

parts : (front : List ℕ) (gate : ℕ) (rest : List ℕ) → (slice_index_or (front ++ gate ∷ rest) (length front) 0 ≡ gate) × (drop (suc (length front)) (front ++ gate ∷ rest) ≡ rest)
parts [] gate rest = (refl, refl)
parts (x ∷ front) gate rest = parts front gate rest

-- what stands in the log, out of a proof that it does
stands_of : (records : List Record) (log : List ℕ) → ∥ Stands records log ∥₁ → Stands records log
stands_of records log there = record {
  gate = slice_index_or log (length (opened records)) 0;
  rest = drop (suc (length (opened records))) log;
  bytes = ∥∥₁_elim there (bytes_prop log (opened records ++ slice_index_or log (length (opened records)) 0 ∷ drop (suc (length (opened records))) log)) (λ s.
      s.bytes ∙ ap (λ (k : ℕ). opened records ++ k ∷ s.rest) (sym (at_gate s)) ∙ ap (λ (l : List ℕ). opened records ++ slice_index_or log (length (opened records)) 0 ∷ l) (sym (at_rest s)));
  shut = λ same. ∥∥₁_elim there ⊥_prop (λ s. s.shut (sym (at_gate s) ∙ same));
  sound = ∥∥₁_elim there (AllByRecursion-prop IsRecord is_record_prop records) (λ s. s.sound);
}
  where
    at_gate : (s : Stands records log) → slice_index_or log (length (opened records)) 0 ≡ s.gate
    at_gate s = ap (λ (l : List ℕ). slice_index_or l (length (opened records)) 0) s.bytes ∙ (parts (opened records) s.gate s.rest).0

    at_rest : (s : Stands records log) → drop (suc (length (opened records))) log ≡ s.rest
    at_rest s = ap (λ (l : List ℕ). drop (suc (length (opened records))) l) s.bytes ∙ (parts (opened records) s.gate s.rest).1

abbrev Known : List ℕ → Type 0
Known log = (records : List Record) × ∥ Stands records log ∥₁

known_prop : (log : List ℕ) → IsProp (Known log)
known_prop log a b =
    Σ_prop_path (λ records. ∥∥₁_prop) (∥∥₁_elim a.1 (records_prop a.0 b.0) (λ s. ∥∥₁_elim b.1 (records_prop a.0 b.0) (λ t. stands_same a.0 b.0 log s t)))

module _ {D : Type 0} (g : Ghosts D) (disk : D) (front : ℕ) (header : List ℕ) (overlay : PageMap) where
  pub sound_of : ∥ IsSound g disk front header overlay ∥₁ → IsSound g disk front header overlay
  sound_of sound =
      let log = (g.told disk).log in
      let known : Known log = ∥∥₁_elim sound (known_prop log) (λ s. (s.records, ∣ s.stands ∣₁)) in
      let stands : Stands known.0 log = stands_of known.0 log known.1 in
      let same : (s : IsSound g disk front header overlay) → s.records ≡ known.0 = λ s. stands_same s.records known.0 log s.stands stands in
      record {
        records = known.0;
        stands = stands;
        at_front = ∥∥₁_elim sound (number_prop front (length (opened known.0))) (λ s. s.at_front ∙ ap (λ (r : List Record). length (opened r)) (same s));
        laid = λ before n. ∥∥₁_elim sound (map_prop (laid_all before n known.0) (over (overlay n) before)) (λ s. ap (λ (r : List Record). laid_all before n r) (sym (same s)) ∙ s.laid before n);
        zero = ∥∥₁_elim sound (map_prop (over (overlay 0) (piece (g.told disk).pages 0)) (Some header)) (λ s. s.zero);
        pages = λ c left. ∥∥₁_elim sound (bytes_prop c.pages (g.told disk).pages) (λ s. s.pages c left);
        log = λ c left. ∥∥₁_elim sound (bytes_prop c.log (g.told disk).log) (λ s. s.log c left);
      }
