-- What pages in memory stand for, as a store.
use Rattle.std.specs.Prelude.{◌≡◌, ◌⊎◌, ℕ, ◌≤◌, Bool, false, List, [], ◌∷◌, length, Some, None, IfSome, refl}
use Rattle.std.proofs.Common.{inl, inr, arith, nat_lt, cond, true}
use Rattle.std.proofs.lemmas.Grind.{common_steps}
use Rattle.gx_words.specs.Causes.{Said}
use Rattle.gx_words.specs.Moments.{Moment, Now}
use Rattle.gx_words.specs.PageMap.{PageMap}
use Rattle.gx_pages.specs.Contents.{Contents, below}
use Rattle.gx_pages.specs.Frees.{HasCount}
use Rattle.gx_pages.specs.Tables.{now_at, was_at, map_of, committed_of}
use Rattle.gx_pages.specs.declared.table.PageTable.{PageTable}
use Rattle.gx_pages.specs.declared.memory.MemoryPages.{MemoryPages}

-- Nothing is answered.
abbrev pub nothing_said : Said
nothing_said = record { bytes = []; faults = 0 }

-- The moments since t are those of the committed maps of these tables, the newest first, and no bytes.
abbrev pub Since : List PageTable → ℕ → Moment PageMap → Type 0
Since [] t m = ⊥
Since (table ∷ past) t m = ((t ≤ length past) × Now (λ map. map ≡ committed_of table) [] m) ⊎ Since past t m

abbrev pub memory_map : MemoryPages → PageMap
memory_map s = map_of s.table

abbrev pub memory_committed : MemoryPages → PageMap
memory_committed s = committed_of s.table

abbrev pub memory_moment : MemoryPages → ℕ
memory_moment s = length s.history.tables

abbrev pub memory_leaves : MemoryPages → PageMap → Type 0
memory_leaves s map = map ≡ committed_of s.table

abbrev pub memory_since : MemoryPages → ℕ → Moment PageMap → Type 0
memory_since s = Since (s.table ∷ s.history.tables)

-- A store with these pages, so many, all committed: no unit is begun, nothing was fetched, and this is its first moment.
pub record IsFresh (map : PageMap) (count : ℕ) (s : MemoryPages) : Type 0 where
  pub now : memory_map s ≡ map
  pub committed : memory_committed s ≡ map
  pub counted : s.table.count ≡ count
  pub committed_counted : s.table.committed_count ≡ count
  pub begun : s.begun ≡ false
  pub fetches : s.fetches ≡ 0
  pub heap_fetches : s.heap_fetches ≡ 0
  pub moment : memory_moment s ≡ 0

if_below : (b : Bool) (bytes : List ℕ) (P : List ℕ → Type 0) → P bytes → IfSome (cond b (Some bytes) None) P
if_below true bytes P has = has
if_below false bytes P has = tt

pub memory_counted : (s : MemoryPages) → IfSome (memory_map s 0) (λ header. HasCount header s.table.count)
memory_counted s = if_below (nat_lt 0 s.table.count) (now_at s.table 0) (λ header. HasCount header s.table.count) s.counted.header

pub memory_committed_counted : (s : MemoryPages) → IfSome (memory_committed s 0) (λ header. HasCount header s.table.committed_count)
memory_committed_counted s =
    if_below (nat_lt 0 s.table.committed_count) (was_at s.table 0) (λ header. HasCount header s.table.committed_count) s.committed_counted.header

none_above : (count : ℕ) (contents : Contents) (n : ℕ) → count ≤ n → below count contents n ≡ None
none_above count contents n le = grind (arith, common_steps)

pub memory_ends : (s : MemoryPages) (n : ℕ) → s.table.count ≤ n → memory_map s n ≡ None
memory_ends s n le = none_above s.table.count (now_at s.table) n le

pub memory_committed_ends : (s : MemoryPages) (n : ℕ) → s.table.committed_count ≤ n → memory_committed s n ≡ None
memory_committed_ends s n le = none_above s.table.committed_count (was_at s.table) n le

none_later : (past : List PageTable) (t : ℕ) (m : Moment PageMap) → length past ≤ t → Since past t m → ⊥
none_later [] t m later since = since
none_later (table ∷ past) t m later (inl now) = omega (arith, now.0)
none_later (table ∷ past) t m later (inr since) = none_later past t m (omega (arith, later)) since

pub memory_counts : (s : MemoryPages) (t : ℕ) (map : PageMap) → t ≤ memory_moment s → memory_leaves s map → memory_since s t (record { image = map; bytes = [] })
memory_counts s t map le left = inl (le, (left, refl))

pub memory_only : (s : MemoryPages) (m : Moment PageMap) → memory_since s (memory_moment s) m → Now (memory_leaves s) [] m
memory_only s m (inl now) = now.1
memory_only s m (inr since) = absurd (none_later s.history.tables (length s.history.tables) m (omega arith) since)
