-- A record of the unit's pages was added: each image has the committed map of before, or that of now.
use Rattle.std.proofs.Common.{◌≡◌, ◌⊎◌, inl, inr, ⊎_elim, ℕ, ◌+◌, ◌^◌, ◌<◌, ◌≤◌, is_some, true, List, [], ◌∷◌, ◌++◌, length, Option, Some, None, Box, refl, sym, ◌∙◌, ap, subst, arith}
use Rattle.std.specs.declared.alloc.Global.{Global}
use Rattle.std.specs.BTreeMap.{is_at}
use Rattle.std.specs.Map.{lookup, keys_of}
use Rattle.std.specs.Ordering.{nat_cmp}
use Rattle.std.specs.List.Sorted.{IsStrictlySortedBy}
use Rattle.gx_words.proofs.Runs.{through_weaker}
use Rattle.gx_words.specs.Image.{Image}
use Rattle.gx_words.specs.Moments.{Moment, Elapses, Goes}
use Rattle.gx_words.specs.PageMap.{PageMap}
use Rattle.gx_disk.specs.declared.disk.Disk.{Ghosts}
use Rattle.gx_log.specs.Disks.{IsAtRest, BeforeOrAfter, Leaves}
use Rattle.gx_log.specs.Records.{Record, Stands, HasPages, HasMap, count_in, entries_in, laid_all, piece, page_in, record_of}
use Rattle.gx_log.proofs.Bodies.{stands_same, entries_in-push, length-record_of}
use Rattle.gx_pages.specs.Frees.{HasCount}
use Rattle.gx_pager.specs.Known.{IsSound}
use Rattle.gx_pager.specs.Layers.{over, pieces, map_over, header_over, committed_in}
use Rattle.gx_pager.specs.Left.{MapLeft, MapSince, Follows, HasSome, committed_zero, count_named, some_map, map_of_pages}
use Rattle.gx_pager.specs.Maps.{cut}
use Rattle.gx_pager.proofs.Maps.{over_over}
use Rattle.gx_pager.proofs.Moments.{CountsNow, OnlyNow, ToldStays}
use Rattle.gx_pager.proofs.Records.{laid_more}

-- the pages that records make, seen as those below an overlay
image_pages : (c : Image) (pages : List ℕ) (records : List Record) (overlay m : PageMap) → c.pages ≡ pages → Stands records c.log
    → ((before : Option (List ℕ)) (n : ℕ) → laid_all before n records ≡ over (overlay n) before)
    → HasPages c m → (n : ℕ) → m n ≡ over (overlay n) (piece pages n)
image_pages c pages records overlay m same stands laid h n =
    h.are n
    ∙ ap (λ (r : List Record). laid_all (piece c.pages n) n r) (stands_same h.records records c.log h.counted stands)
    ∙ laid (piece c.pages n) n
    ∙ ap (λ (l : List ℕ). over (overlay n) (piece l n)) same

-- such an image has these pages
pub has_pages : (c : Image) (pages : List ℕ) (records : List Record) (overlay m : PageMap) → c.pages ≡ pages → Stands records c.log
    → ((before : Option (List ℕ)) (n : ℕ) → laid_all before n records ≡ over (overlay n) before)
    → ((n : ℕ) → m n ≡ over (overlay n) (piece pages n)) → HasPages c m
has_pages c pages records overlay m same stands laid is = record {
  records = records;
  counted = stands;
  are = λ n. is n ∙ ap (λ (l : List ℕ). over (overlay n) (piece l n)) (sym same) ∙ sym (laid (piece c.pages n) n);
}

-- an image has one map
pub same_map : (c : Image) (a b : PageMap) → HasMap c a → HasMap c b → a ≡ b
same_map c a b x y = (λ i n. x.are n i) ∙ ap (λ (all : PageMap). cut (count_in (all 0)) all) whole ∙ sym (λ i n. y.are n i)
  where
    each : (n : ℕ) → x.all n ≡ y.all n
    each n = x.pages.are n ∙ ap (λ (r : List Record). laid_all (piece c.pages n) n r) (stands_same x.pages.records y.pages.records c.log x.pages.counted y.pages.counted) ∙ sym (y.pages.are n)

    whole : x.all ≡ y.all
    whole = λ i n. each n i

-- the one map of such an image
pub image_map : (c : Image) (pages : List ℕ) (records : List Record) (overlay m all : PageMap) (header : List ℕ) (count : ℕ) → c.pages ≡ pages → Stands records c.log
    → ((before : Option (List ℕ)) (n : ℕ) → laid_all before n records ≡ over (overlay n) before)
    → ((n : ℕ) → all n ≡ over (overlay n) (piece pages n)) → all 0 ≡ Some header → HasCount header count → count ≤ 2 ^ 50 → HasMap c m → m ≡ cut count all
image_map c pages records overlay m all header count same stands laid is zero has most h =
    (λ i n. h.are n i) ∙ ap (λ (a : PageMap). cut (count_in (a 0)) a) whole ∙ ap (λ (k : ℕ). cut k all) (ap count_in zero ∙ count_named header count has most)
  where
    each : (n : ℕ) → h.all n ≡ all n
    each n = image_pages c pages records overlay h.all same stands laid h.pages n ∙ sym (is n)

    whole : h.all ≡ all
    whole = λ i n. each n i

module _ (header : List ℕ) (unit overlay : PageMap) (pages : List ℕ) (zero : over (overlay 0) (piece pages 0) ≡ Some header) where
  abbrev pub Before : PageMap
  Before = map_over (committed_in header overlay) (λ n. piece pages n)

  abbrev pub After : PageMap
  After = map_over (map_over unit (committed_in header overlay)) (λ n. piece pages n)

  pub before_is : (n : ℕ) → Before n ≡ over (overlay n) (piece pages n)
  before_is n = committed_zero header overlay (λ k. piece pages k) zero n

  pub after_is : (n : ℕ) → After n ≡ over (map_over unit overlay n) (piece pages n)
  after_is n =
      over_over (unit n) (committed_in header overlay n) (piece pages n) ∙ ap (λ (o : Option (List ℕ)). over (unit n) o) (before_is n)
      ∙ sym (over_over (unit n) (overlay n) (piece pages n))

  -- page 0 after the commit
  pub zero_after : over (map_over unit overlay 0) (piece pages 0) ≡ Some (header_over (unit 0) header)
  zero_after = over_over (unit 0) (overlay 0) (piece pages 0) ∙ ap (λ (o : Option (List ℕ)). over (unit 0) o) zero ∙ at_zero (unit 0) header
    where
      at_zero : (u : Option (List ℕ)) (h : List ℕ) → over u (Some h) ≡ Some (header_over u h)
      at_zero None h = refl
      at_zero (Some page) h = refl

-- where nothing is pending each image has the committed map
pub only_committed : {D : Type 0} (g : Ghosts D) (disk : D) (front : ℕ) (header : List ℕ) (overlay : PageMap) (count : ℕ) → HasCount header count → count ≤ 2 ^ 50
    → IsSound g disk front header overlay → (c : Image) → g.now_may_leave disk c → (m : PageMap) → HasMap c m → m ≡ cut count (map_over (committed_in header overlay) (pieces (g.told disk)))
only_committed g disk front header overlay count has most s c left m h =
    image_map c (g.told disk).pages s.records overlay m (map_over (committed_in header overlay) (pieces (g.told disk))) header count (s.pages c left)
    (subst (λ (l : List ℕ). Stands s.records l) (sym (s.log c left)) s.stands) s.laid (before_is header overlay overlay (g.told disk).pages s.zero) refl has most h

-- and each image has it
pub sound_map : {D : Type 0} (g : Ghosts D) (disk : D) (front : ℕ) (header : List ℕ) (overlay : PageMap) (count : ℕ) → HasCount header count → count ≤ 2 ^ 50
    → IsSound g disk front header overlay → (c : Image) → g.now_may_leave disk c → HasMap c (cut count (map_over (committed_in header overlay) (pieces (g.told disk))))
sound_map g disk front header overlay count has most s c left =
    map_of_pages c header count (map_over (committed_in header overlay) (pieces (g.told disk))) refl has most
    (has_pages c (g.told disk).pages s.records overlay (map_over (committed_in header overlay) (pieces (g.told disk))) (s.pages c left)
    (subst (λ (l : List ℕ). Stands s.records l) (sym (s.log c left)) s.stands) s.laid (before_is header overlay overlay (g.told disk).pages s.zero))

-- the maps that an append leaves
module _ {D : Type 0} (g : Ghosts D) (counts : CountsNow g) (only : OnlyNow g) (stays : ToldStays g) (old new : D) (front : ℕ) (header : List ℕ) (overlay : PageMap)
    (entries : List (ℕ × Box (List ℕ) Global)) (count : ℕ) (sorted : IsStrictlySortedBy nat_cmp (keys_of entries)) (low : (n : ℕ) → is_some (lookup (is_at (nat_cmp n)) entries) ≡ true → n < 2 ^ 50)
    (has : HasCount (header_over (page_in (lookup (is_at (nat_cmp 0)) entries)) header) count) (most : count ≤ 2 ^ 50)
    (goes : Goes g.moment g.may_have_left_since old new)
    (run : g.tells → (records : List Record) → IsAtRest g front old records → Leaves g (BeforeOrAfter g old records (records ++ record_of entries ∷ [])) old new)
  where
    abbrev pub Unit' : PageMap
    Unit' = λ n. page_in (lookup (is_at (nat_cmp n)) entries)

    at_rest : (s : IsSound g old front header overlay) → IsAtRest g front old s.records
    at_rest s = record { stands = s.stands; at_front = s.at_front; settled = s.log }

    laid_after : (s : IsSound g old front header overlay) (before : Option (List ℕ)) (n : ℕ) → laid_all before n (s.records ++ record_of entries ∷ []) ≡ over (map_over Unit' overlay n) before
    laid_after s = laid_more s.records entries overlay sorted low s.laid

    abbrev pub NewMap : PageMap
    NewMap = cut count (map_over (map_over Unit' (committed_in header overlay)) (pieces (g.told old)))

    -- an image of the call
    abbrev Here : IsSound g old front header overlay → Image → Type 0
    Here s c = BeforeOrAfter g old s.records (s.records ++ record_of entries ∷ []) c

    pages_same : (s : IsSound g old front header overlay) (c : Image) → Here s c → c.pages ≡ (g.told old).pages
    pages_same s c here = here.0.2 ∙ s.pages here.0.0 here.0.1

    -- the map of an image with the records of before is one of what was read
    before_left : g.tells → (s : IsSound g old front header overlay) (c : Image) (m : PageMap) → c.pages ≡ (g.told old).pages → Stands s.records c.log → HasMap c m → MapLeft g old m
    before_left tells s c m same before h = (
      tells,
      (
        g.told old,
        stays old tells,
        record {
          all = h.all;
          pages = has_pages (g.told old) (g.told old).pages s.records overlay h.all refl s.stands s.laid (image_pages c (g.told old).pages s.records overlay h.all same before s.laid h.pages);
          are = h.are;
        },
      ),
    )

    left_either : g.tells → (s : IsSound g old front header overlay) (c : Image) (m : PageMap) → Here s c → HasMap c m → MapLeft g old m ⊎ (m ≡ NewMap)
    left_either tells s c m here h =
        ⊎_elim
        (λ before. inl (before_left tells s c m (pages_same s c here) before h))
        (λ after. inr (image_map c (g.told old).pages (s.records ++ record_of entries ∷ []) (map_over Unit' overlay) m (map_over (map_over Unit' (committed_in header overlay)) (pieces (g.told old)))
        (header_over (Unit' 0) header) count (pages_same s c here) after (laid_after s) (after_is header Unit' overlay (g.told old).pages s.zero)
        (after_is header Unit' overlay (g.told old).pages s.zero 0 ∙ zero_after header Unit' overlay (g.told old).pages s.zero) has most h))
        here.1

    pub commit_time : (g.tells → IsSound g old front header overlay)
        → Elapses (g.moment old) (g.moment new) (MapSince g old) (MapSince g new) (λ m. (MapLeft g old m.image ⊎ (m.image ≡ NewMap)) × (m.bytes ≡ (g.said old).bytes))
    commit_time sound = record {
      later = goes.later;
      nothing_else = λ t m le left.
          let s = sound left.0 in
          let i : Moment Image = record { image = left.1.0; bytes = m.bytes } in
          ⊎_elim (λ past. inl (left.0, (left.1.0, past, left.1.2))) (λ here. inr ((left_either left.0 s left.1.0 m.image here.0.0 left.1.2, here.0.1), (λ u l. (left.0, (left.1.0, here.1 u l, left.1.2)))))
          ((run left.0 s.records (at_rest s)).each t i le left.1.1);
      keeps = λ t m le past. (past.0, (past.1.0, goes.keeps t (record { image = past.1.0; bytes = m.bytes }) le past.1.1, past.1.2));
    }

    pub commit_follows : (g.tells → IsSound g old front header overlay) → Follows g old new
    commit_follows sound = record {
      goes = goes;
      maps = λ tells all.
          let s = sound tells in
          through_weaker g.moment g.may_have_left_since old new (λ m. Here s m.image × (m.bytes ≡ (g.said old).bytes)) (λ m. HasSome m.image)
          (λ m here. ⊎_elim (λ before. some_map m.image s.records before) (λ after. some_map m.image (s.records ++ record_of entries ∷ []) after) here.0.1)
          (run tells s.records (at_rest s));
    }

    -- after an Ok
    pub commit_sound : (later : ℕ) → (g.told new).pages ≡ (g.told old).pages
        → (g.tells → (records : List Record) → IsAtRest g front old records → IsAtRest g later new (records ++ record_of entries ∷ []))
        → g.tells → IsSound g old front header overlay → IsSound g new later (header_over (Unit' 0) header) (map_over Unit' overlay)
    commit_sound later same added tells s =
        let rest = added tells s.records (at_rest s) in
        record {
          records = s.records ++ record_of entries ∷ [];
          stands = rest.stands;
          at_front = rest.at_front;
          laid = laid_after s;
          zero = ap (λ (l : List ℕ). over (map_over Unit' overlay 0) (piece l 0)) same ∙ zero_after header Unit' overlay (g.told old).pages s.zero;
          pages = λ c left.
              ⊎_elim (λ past. s.pages c (only old (record { image = c; bytes = (g.said new).bytes }) past).0) (λ here. pages_same s c here.0.0)
              ((run tells s.records (at_rest s)).each (g.moment old) (record { image = c; bytes = (g.said new).bytes }) (omega arith)
              (counts new (g.moment old) c goes.later left))
              ∙ sym same;
          log = rest.settled;
        }

    pub commit_entries : (later : ℕ) → (g.tells → (records : List Record) → IsAtRest g front old records → IsAtRest g later new (records ++ record_of entries ∷ []))
        → g.tells → (s : IsSound g old front header overlay) (records : List Record) → Stands records (g.told new).log → entries_in records ≡ entries_in s.records + length entries
    commit_entries later added tells s records stands =
        ap entries_in (stands_same records (s.records ++ record_of entries ∷ []) (g.told new).log stands (added tells s.records (at_rest s)).stands)
        ∙ entries_in-push s.records (record_of entries) ∙ ap (λ (n : ℕ). entries_in s.records + n) (length-record_of entries)
