-- What follows from the spelling of records: lengths, and that one log has one list of counted records.
use Rattle.std.proofs.Common.{◌≡◌, ◌≢◌, ℕ, ◌+◌, ◌*◌, ◌≤◌, List, [], ◌∷◌, ◌++◌, length, take, drop, refl, sym, ◌∙◌, ap, arith, length-append, append_assoc}
use Rattle.std.specs.Prelude.{Box}
use Rattle.std.specs.declared.alloc.Global.{Global}
use Rattle.std.specs.List.{flat_map, AllByRecursion}
use Rattle.std.proofs.lemmas.List.{take_at, drop_at, append-nil, length-map}
use Rattle.gx_bytes.specs.Fields.{le64, length-le64, le64-same}
use Rattle.gx_log.specs.Records.{Record, IsEntry, IsRecord, entry_bytes, body, opened, Stands, entries_in, record_of}

-- two fronts of one length
pub fronts_split : (a b x y : List ℕ) → length a ≡ length b → a ++ x ≡ b ++ y → (a ≡ b) × (x ≡ y)
fronts_split a b x y size same = (
  sym (take_at a x (length a) refl) ∙ ap (λ (l : List ℕ). take (length a) l) same ∙ take_at b y (length a) (sym size),
  sym (drop_at a x (length a) refl) ∙ ap (λ (l : List ℕ). drop (length a) l) same ∙ drop_at b y (length a) (sym size),
)

abbrev pub entries_bytes : Record → List ℕ
entries_bytes entries = flat_map entry_bytes entries

pub length-entries : (entries : Record) → AllByRecursion IsEntry entries → length (entries_bytes entries) ≡ 8200 * length entries
length-entries [] whole = refl
length-entries (entry ∷ entries) whole =
    omega (arith, length-append (entry_bytes entry) (entries_bytes entries), length-append entry.0 entry.1, whole.0.0, whole.0.1, length-entries entries whole.1)

pub length-body : (entries : Record) → AllByRecursion IsEntry entries → length (body entries) ≡ 8 + 8200 * length entries
unfolding body
length-body entries whole =
    omega (arith, length-append (le64 (length entries)) (entries_bytes entries), length-le64 (length entries), length-entries entries whole)

entries_same : (a b : Record) (x y : List ℕ) → AllByRecursion IsEntry a → AllByRecursion IsEntry b → length a ≡ length b
    → entries_bytes a ++ x ≡ entries_bytes b ++ y → (a ≡ b) × (x ≡ y)
entries_same [] [] x y left right size same = (refl, same)
entries_same [] (f ∷ b) x y left right size same = absurd (omega (arith, size))
entries_same (e ∷ a) [] x y left right size same = absurd (omega (arith, size))
entries_same (e ∷ a) (f ∷ b) x y left right size same =
    let whole : e.0 ++ (e.1 ++ (entries_bytes a ++ x)) ≡ f.0 ++ (f.1 ++ (entries_bytes b ++ y)) =
    sym (regrouped e.0 e.1 (entries_bytes a) x) ∙ same ∙ regrouped f.0 f.1 (entries_bytes b) y in
    let numbers = fronts_split e.0 f.0 (e.1 ++ (entries_bytes a ++ x)) (f.1 ++ (entries_bytes b ++ y)) (left.0.0 ∙ sym right.0.0) whole in
    let pages = fronts_split e.1 f.1 (entries_bytes a ++ x) (entries_bytes b ++ y) (left.0.1 ∙ sym right.0.1) numbers.1 in
    let rest = entries_same a b x y left.1 right.1 (omega (arith, size)) pages.1 in
    let heads : e ≡ f = λ i. (numbers.0 i, pages.0 i) in
    ((λ i. heads i ∷ rest.0 i), rest.1)
  where
    regrouped : (p q r s : List ℕ) → p ++ q ++ r ++ s ≡ p ++ (q ++ (r ++ s))
    regrouped p q r s = simp append_assoc

pub body_same : (a b : Record) (x y : List ℕ) → IsRecord a → IsRecord b → body a ++ x ≡ body b ++ y → (a ≡ b) × (x ≡ y)
unfolding body
body_same a b x y left right same =
    let whole : le64 (length a) ++ (entries_bytes a ++ x) ≡ le64 (length b) ++ (entries_bytes b ++ y) =
    sym (append_assoc (le64 (length a)) (entries_bytes a) x) ∙ same ∙ append_assoc (le64 (length b)) (entries_bytes b) y in
    let counts = fronts_split (le64 (length a)) (le64 (length b)) (entries_bytes a ++ x) (entries_bytes b ++ y) (length-le64 (length a) ∙ sym (length-le64 (length b))) whole in
    entries_same a b x y left.whole right.whole (le64-same (length a) (length b) left.count right.count counts.0) counts.1

-- open records at the front of a log that stands: the others stand behind them
pub record Behind (first all : List Record) (rest : List ℕ) (gate : ℕ) (tail : List ℕ) : Type 0 where
  pub more : List Record
  pub are : all ≡ first ++ more
  pub bytes : rest ≡ opened more ++ gate ∷ tail
  pub sound : AllByRecursion IsRecord more

pub behind : (first all : List Record) (rest : List ℕ) (gate : ℕ) (tail : List ℕ) → AllByRecursion IsRecord first → AllByRecursion IsRecord all → gate ≢ 1
    → opened first ++ rest ≡ opened all ++ gate ∷ tail → Behind first all rest gate tail
behind [] all rest gate tail left right shut same = record { more = all; are = refl; bytes = same; sound = right }
behind (a ∷ first) [] rest gate tail left right shut same = let heads : 1 ≡ gate = cc in absurd (shut (sym heads))
behind (a ∷ first) (b ∷ all) rest gate tail left right shut same =
    let inner : body a ++ opened first ++ rest ≡ body b ++ opened all ++ gate ∷ tail = ap (λ (l : List ℕ). drop 1 l) same in
    let whole : body a ++ (opened first ++ rest) ≡ body b ++ (opened all ++ gate ∷ tail) =
    sym (append_assoc (body a) (opened first) rest) ∙ inner ∙ append_assoc (body b) (opened all) (gate ∷ tail) in
    let bodies = body_same a b (opened first ++ rest) (opened all ++ gate ∷ tail) left.0 right.0 whole in
    let others = behind first all rest gate tail left.1 right.1 shut bodies.1 in
    record { more = others.more; are = λ i. sym bodies.0 i ∷ others.are i; bytes = others.bytes; sound = others.sound }

-- one log has one list of counted records
pub stands_same : (records others : List Record) (log : List ℕ) → Stands records log → Stands others log → records ≡ others
stands_same records others log left right =
    let parts = behind records others (left.gate ∷ left.rest) right.gate right.rest left.sound right.sound right.shut (sym left.bytes ∙ right.bytes) in
    none records others left.gate left.rest right.gate right.rest parts.more parts.are parts.bytes left.shut
  where
    append-none : (l : List Record) → l ++ [] ≡ l
    append-none [] = refl
    append-none (x ∷ l) = ap (λ (k : List Record). x ∷ k) (append-none l)

    none : (records others : List Record) (gate : ℕ) (rest : List ℕ) (g : ℕ) (t : List ℕ) (more : List Record) → others ≡ records ++ more
        → gate ∷ rest ≡ opened more ++ g ∷ t → gate ≢ 1 → records ≡ others
    none records others gate rest g t [] are bytes shut = sym (are ∙ append-none records)
    none records others gate rest g t (m ∷ more) are bytes shut = let heads : gate ≡ 1 = cc in absurd (shut heads)

pub opened-push : (records : List Record) (entries : Record) → opened (records ++ entries ∷ []) ≡ opened records ++ 1 ∷ body entries
opened-push [] entries = let nil : (l : List ℕ) → l ++ [] ≡ l = append-nil in ap (λ (l : List ℕ). 1 ∷ l) (nil (body entries))
opened-push (a ∷ records) entries =
    ap (λ (l : List ℕ). 1 ∷ body a ++ l) (opened-push records entries) ∙ ap (λ (l : List ℕ). 1 ∷ l) (sym (append_assoc (body a) (opened records) (1 ∷ body entries)))

pub sound_push : (records : List Record) (entries : Record) → AllByRecursion IsRecord records → IsRecord entries → AllByRecursion IsRecord (records ++ entries ∷ [])
sound_push [] entries sound is = (is, tt)
sound_push (a ∷ records) entries sound is = (sound.0, sound_push records entries sound.1 is)

pub whole_push : (done : List (ℕ × Box (List ℕ) Global)) (image : ℕ × Box (List ℕ) Global) → AllByRecursion IsEntry (record_of done) → length image.1.value ≡ 8192 → AllByRecursion IsEntry (record_of (done ++ image ∷ []))
whole_push [] image whole size = ((length-le64 image.0, size), tt)
whole_push (a ∷ done) image whole size = (whole.0, whole_push done image whole.1 size)

pub entries_push : (done : List (ℕ × Box (List ℕ) Global)) (image : ℕ × Box (List ℕ) Global) → entries_bytes (record_of (done ++ image ∷ [])) ≡ entries_bytes (record_of done) ++ (le64 image.0 ++ image.1.value)
entries_push [] image = append-nil (le64 image.0 ++ image.1.value)
entries_push (a ∷ done) image =
    ap (λ (l : List ℕ). le64 a.0 ++ a.1.value ++ l) (entries_push done image) ∙ sym (append_assoc (le64 a.0 ++ a.1.value) (entries_bytes (record_of done)) (le64 image.0 ++ image.1.value))

pub length-record_of : (images : List (ℕ × Box (List ℕ) Global)) → length (record_of images) ≡ length images
length-record_of images = length-map images (λ (image : ℕ × Box (List ℕ) Global). (le64 image.0, image.1.value))

pub body_of : (images : List (ℕ × Box (List ℕ) Global)) → body (record_of images) ≡ le64 (length images) ++ entries_bytes (record_of images)
unfolding body
body_of images = ap (λ (n : ℕ). le64 n ++ entries_bytes (record_of images)) (length-record_of images)

pub entries_in-push : (records : List Record) (entries : Record) → entries_in (records ++ entries ∷ []) ≡ entries_in records + length entries
entries_in-push [] entries = omega arith
entries_in-push (a ∷ records) entries = omega (arith, entries_in-push records entries)

-- records have so many entries at most as their bytes have room for
pub entries_in-opened : (records : List Record) → AllByRecursion IsRecord records → 8200 * entries_in records ≤ length (opened records)
entries_in-opened [] sound = omega arith
entries_in-opened (a ∷ records) sound =
    omega (arith, length-append (body a) (opened records), length-body a sound.0.whole, entries_in-opened records sound.1)

-- how many bytes the count and the entries so far take
pub length_so_far : (n : ℕ) (done : List (ℕ × Box (List ℕ) Global)) → AllByRecursion IsEntry (record_of done) → length (le64 n ++ entries_bytes (record_of done)) ≡ 8 + 8200 * length done
length_so_far n done whole =
    omega (arith, length-append (le64 n) (entries_bytes (record_of done)), length-le64 n, length-entries (record_of done) whole, length-record_of done)
