-- What a disk leaves, as maps of pages.
use Rattle.std.specs.Prelude.{◌≡◌, ℕ, ◌^◌, ◌≤◌, nat_lt, Bool, true, false, cond, List, Option, Some, None, IfSome, refl}
use Rattle.std.proofs.Common.{inl, inr, ⊎_elim, ◌∙◌, sym, ap, arith}
use Rattle.std.proofs.lemmas.Grind.{common_steps}
use Rattle.gx_bytes.specs.Fields.{of64, of64-le64}
use Rattle.gx_words.specs.Image.{Image}
use Rattle.gx_words.specs.Moments.{Moment, Now, Through, Goes}
use Rattle.gx_words.specs.PageMap.{PageMap}
use Rattle.gx_disk.specs.declared.disk.Disk.{Ghosts}
use Rattle.gx_log.specs.Records.{Record, Stands, HasPages, HasMap, count_in, laid_all, piece}
use Rattle.gx_pages.specs.Frees.{HasCount}
use Rattle.gx_pager.specs.Known.{IsSound, sound_of}
use Rattle.gx_pager.specs.Layers.{over, pieces, map_over, header_over, committed_in}
use Rattle.gx_pager.specs.Maps.{cut}

-- an image that has some map
abbrev pub HasSome : Image → Type 0
HasSome image = (map : PageMap) × HasMap image map

module _ {D : Type 0} (g : Ghosts D) where
  -- some image that a crash now may leave has this map
  abbrev pub MapLeft : D → PageMap → Type 0
  MapLeft disk map = g.tells × ((c : Image) × g.now_may_leave disk c × HasMap c map)

  -- some moment since then has an image with this map, and these bytes answered
  abbrev pub MapSince : D → ℕ → Moment PageMap → Type 0
  MapSince disk t m = g.tells × ((c : Image) × g.may_have_left_since disk t (record { image = c; bytes = m.bytes }) × HasMap c m.image)

-- From a state of the disk to a later one time goes on; and where each image that a crash could leave before has a map, so
-- has each one at every moment since.
pub record Follows {D : Type 0} (g : Ghosts D) (old new : D) : Type 0 where
  pub goes : Goes g.moment g.may_have_left_since old new
  pub maps : g.tells → ((c : Image) → g.now_may_leave old c → HasSome c) → Through g.moment g.may_have_left_since old new (λ m. HasSome m.image)

-- a log whose records stand has a map over any pages
pub some_map : (c : Image) (records : List Record) → Stands records c.log → HasSome c
some_map c records stands =
    let all : PageMap = λ n. laid_all (piece c.pages n) n records in
    (cut (count_in (all 0)) all, record { all = all; pages = record { records = records; counted = stands; are = λ n. refl }; are = λ n. refl })

-- where page 0 is the header anyway, no layer is needed for it
pub committed_zero : (header : List ℕ) (above below : PageMap) → over (above 0) (below 0) ≡ Some header → (n : ℕ) → over (committed_in header above n) (below n) ≡ over (above n) (below n)
committed_zero header above below first n = grind (arith, common_steps, first)

-- a header names its count
pub count_named : (header : List ℕ) (count : ℕ) → HasCount header count → count ≤ 2 ^ 50 → count_in (Some header) ≡ count
count_named header count has most = ap of64 has ∙ of64-le64 count (omega (arith, most))

-- as read the disk holds the committed pages
pub sound_pages : {D : Type 0} (g : Ghosts D) (disk : D) (front : ℕ) (header : List ℕ) (overlay : PageMap) → IsSound g disk front header overlay
    → HasPages (g.told disk) (map_over (committed_in header overlay) (pieces (g.told disk)))
sound_pages g disk front header overlay sound = record {
  records = sound.records;
  counted = sound.stands;
  are = λ n. committed_zero header overlay (pieces (g.told disk)) sound.zero n ∙ sym (sound.laid (piece (g.told disk).pages n) n);
}

-- pages over which page 0 has this count make this map
pub map_of_pages : (image : Image) (header : List ℕ) (count : ℕ) (all : PageMap) → all 0 ≡ Some header → HasCount header count → count ≤ 2 ^ 50 → HasPages image all → HasMap image (cut count all)
map_of_pages image header count all zero has most pages = record {
  all = all;
  pages = pages;
  are = λ n. ap (λ (k : ℕ). cut k all n) (sym (ap count_in zero ∙ count_named header count has most));
}

-- what is committed a crash may leave
pub committed_left : {D : Type 0} {g : Ghosts D} (disk : D) (front : ℕ) (header : List ℕ) (overlay : PageMap) (count : ℕ) → g.tells → g.now_may_leave disk (g.told disk)
    → HasCount header count → count ≤ 2 ^ 50 → ∥ IsSound g disk front header overlay ∥₁
    → MapLeft g disk (cut count (map_over (committed_in header overlay) (pieces (g.told disk))))
committed_left {g = g} disk front header overlay count tells left has most sound = (
  tells,
  (
    g.told disk,
    left,
    map_of_pages (g.told disk) header count (map_over (committed_in header overlay) (pieces (g.told disk))) refl has most
        (sound_pages g disk front header overlay (sound_of g disk front header overlay sound)),
  ),
)

cut_some : (b : Bool) (o : Option (List ℕ)) (P : List ℕ → Type 0) → IfSome o P → IfSome (cond b o None) P
cut_some true o P has = has
cut_some false o P has = tt

-- page 0 has the count
pub counted_zero : (unit : Option (List ℕ)) (header : List ℕ) (below : Option (List ℕ)) (count some : ℕ) → HasCount (header_over unit header) count
    → IfSome (cond (nat_lt 0 some) (over (over unit (Some header)) below) None) (λ h. HasCount h count)
counted_zero None header below count some has = cut_some (nat_lt 0 some) (Some header) (λ h. HasCount h count) has
counted_zero (Some page) header below count some has = cut_some (nat_lt 0 some) (Some page) (λ h. HasCount h count) has

pub counted_committed : (header : List ℕ) (below : Option (List ℕ)) (count some : ℕ) → HasCount header count → IfSome (cond (nat_lt 0 some) (over (Some header) below) None) (λ h. HasCount h count)
counted_committed header below count some has = cut_some (nat_lt 0 some) (Some header) (λ h. HasCount h count) has

-- a map that is cut has no page above
pub cut_ends : (count : ℕ) (map : PageMap) (n : ℕ) → count ≤ n → cut count map n ≡ None
cut_ends count map n le = grind (arith, common_steps)

module _ {D : Type 0} {g : Ghosts D} where
  pub follows_same : (disk : D) → Follows g disk disk
  follows_same disk = record {
    goes = record { later = omega arith; keeps = λ t m le past. past };
    maps = λ tells all. record { later = omega arith; each = λ t m le left. inl left; keeps = λ t m le past. past };
  }

  pub follows_join : ((d : D) (t : ℕ) (c : Image) → t ≤ g.moment d → g.now_may_leave d c → g.may_have_left_since d t (record { image = c; bytes = (g.said d).bytes }))
      → ((d : D) (m : Moment Image) → g.may_have_left_since d (g.moment d) m → Now (g.now_may_leave d) (g.said d).bytes m)
      → (old mid new : D) → Follows g old mid → Follows g mid new → Follows g old new
  follows_join counts only old mid new first second = record {
    goes = record {
      later = omega (arith, first.goes.later, second.goes.later);
      keeps = λ t m le past. second.goes.keeps t m (omega (arith, le, first.goes.later)) (first.goes.keeps t m le past);
    };
    maps = λ tells all.
        let one = first.maps tells all in
        let here : (c : Image) → g.now_may_leave mid c → HasSome c = λ c left.
        ⊎_elim (λ past. all c (only old (record { image = c; bytes = (g.said mid).bytes }) past).0) (λ now. now.0)
        (one.each (g.moment old) (record { image = c; bytes = (g.said mid).bytes }) (omega arith) (counts mid (g.moment old) c one.later left)) in
        let two = second.maps tells here in
        record {
          later = omega (arith, one.later, two.later);
          each = λ t m le left.
              ⊎_elim
              (λ past. ⊎_elim (λ before. inl before) (λ then. inr (then.0, λ u l. two.keeps u m (on u l one.later) (then.1 u l))) (one.each t m le past))
              (λ now. inr (now.0, λ u l. now.1 u (on u l one.later)))
              (two.each t m (on t le one.later) left);
          keeps = λ t m le past. two.keeps t m (on t le one.later) (one.keeps t m le past);
        };
  }
    where
      on : (u : ℕ) → u ≤ g.moment old → g.moment old ≤ g.moment mid → u ≤ g.moment mid
      on u a b = omega (arith, a, b)
