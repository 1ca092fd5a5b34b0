-- What bytes of keys spell.
use Rattle.std.proofs.Common.{◌≡◌, ◌≢◌, ℕ, ◌≤◌, Bool, true, false, List, [], ◌∷◌, ◌++◌, length, take, drop, refl, sym, ap, ap₂, ◌∙◌, subst, arith, take-append-drop, true≢false, nat_le}
use Rattle.std.specs.Ordering.{is_le, is_gt}
use Rattle.std.specs.declared.cmp.Ordering.{Ordering}
use Rattle.std.specs.declared.cmp.Ordering.TheVariants as ordering
use Rattle.std.proofs.lemmas.Bool.Decides.{nat_tests}
use Rattle.gx_bytes.specs.Varints.{IsField, field_bytes}
use Rattle.gx_bytes.proofs.Spellings.{field_only, field_there, part_again}
use Rattle.gx_ltree.specs.Text.{printed, SpellsPath}
use Rattle.gx_ltree.proofs.TextLemmas.{one_path}
use Rattle.gx_sig.specs.BitSets.{IsSignature}
use Rattle.gx_class_ltree.specs.declared.key.Part.{Part}
use Rattle.gx_class_ltree.specs.declared.key.LtreeKey.{LtreeKey}
use Rattle.gx_class_ltree.specs.Keys.{room_of, part_cmp, IsPart, IsKey}
use Rattle.gx_class_ltree.specs.Spellings.{flag, spelled, texts_bytes, spelled_texts, one_text, one_part}

-- A text with its flag at the front.
abbrev pub NoText : List ℕ → Type 0
NoText bytes = (text rest : List ℕ) (cut : Bool) → bytes ≡ field_bytes text ++ flag cut ∷ rest → ⊥

pub no_field : (bytes : List ℕ) → ((p : List ℕ) (len : ℕ) → IsField (take len bytes) p → ⊥) → NoText bytes
no_field bytes none text rest cut e = field_there bytes text (flag cut ∷ rest) e none

pub text_is : (bytes behind text rest : List ℕ) (len : ℕ) (cut : Bool) → IsField (take len bytes) text → behind ≡ drop len bytes → behind ≡ flag cut ∷ rest → bytes ≡ field_bytes text ++ flag cut ∷ rest
text_is bytes behind text rest len cut f e g =
    sym (take-append-drop len bytes) ∙ ap₂ (λ (x y : List ℕ). x ++ y) (field_only (take len bytes) text f) (sym e ∙ g)

drop_front : (a b : List ℕ) → drop (length a) (a ++ b) ≡ b
drop_front [] b = refl
drop_front (x ∷ a) b = drop_front a b

pub no_flag : (bytes behind found : List ℕ) (len : ℕ) → len ≤ length bytes → IsField (take len bytes) found → behind ≡ drop len bytes → ((cut : Bool) (rest : List ℕ) → behind ≡ flag cut ∷ rest → ⊥) → NoText bytes
no_flag bytes behind found len within f e none text rest cut g =
    let again = part_again bytes text (flag cut ∷ rest) found len g within f in
    none cut rest (e ∙ ap₂ (λ (n : ℕ) (x : List ℕ). drop n x) again.1 g ∙ drop_front (field_bytes text) (flag cut ∷ rest))

-- Both texts with their flags, and what follows.
abbrev pub NoTexts : List ℕ → Type 0
NoTexts bytes = (low high sig : List ℕ) (low_cut high_cut : Bool) → bytes ≡ texts_bytes low low_cut high high_cut sig → ⊥

pub no_first : (bytes : List ℕ) → NoText bytes → NoTexts bytes
no_first bytes none low high sig low_cut high_cut e = none low (field_bytes high ++ flag high_cut ∷ sig) low_cut e

pub no_second : (bytes behind first : List ℕ) (cut : Bool) → bytes ≡ field_bytes first ++ flag cut ∷ behind → NoText behind → NoTexts bytes
no_second bytes behind first cut e none low high sig low_cut high_cut f =
    let same = one_text first low behind (field_bytes high ++ flag high_cut ∷ sig) cut low_cut (sym e ∙ f) in
    none high sig high_cut same.2

pub texts_are : (bytes behind low high sig : List ℕ) (low_cut high_cut : Bool) → bytes ≡ field_bytes low ++ flag low_cut ∷ behind → behind ≡ field_bytes high ++ flag high_cut ∷ sig
    → bytes ≡ texts_bytes low low_cut high high_cut sig
texts_are bytes behind low high sig low_cut high_cut e f = e ∙ ap (λ (x : List ℕ). field_bytes low ++ flag low_cut ∷ x) f

-- A part with a text.
abbrev pub NoPart : List ℕ → Type 0
NoPart text = (p : Part) → IsPart p → text ≡ printed p.path → ⊥

pub no_path : (text : List ℕ) → ((path : List (List ℕ)) → SpellsPath text path → ⊥) → NoPart text
no_path text none p v e = none p.path (record { valid = v.valid; is = e })

fits : (k : ℕ) → nat_le k 600 ≡ false → k ≤ 600 → ⊥
fits k e h = true≢false (grind (arith, nat_tests, e, h))

pub too_long : (text : List ℕ) (path : List (List ℕ)) → SpellsPath text path → nat_le (room_of path) 600 ≡ false → NoPart text
too_long text path s long p v e =
    let same = one_path text path p.path s (record { valid = v.valid; is = e }) in
    fits (room_of path) long (subst (λ (x : List (List ℕ)). room_of x ≤ 600) (sym same) v.short)

pub part_is : (text : List ℕ) (path : List (List ℕ)) (cut : Bool) → SpellsPath text path → nat_le (room_of path) 600 ≡ true → IsPart (record { path = path; cut = cut }) × (cut ≡ cut) × (text ≡ printed path)
part_is text path cut s short = (record { valid = s.valid; short = grind (arith, nat_tests, short) }, refl, s.is)

-- A key with these texts.
pub record HasTexts {n : ℕ} (key : LtreeKey n) (low : List ℕ) (low_cut : Bool) (high : List ℕ) (high_cut : Bool) (sig : List ℕ) : Type 0 where
  pub low_is : low ≡ printed key.low.path
  pub low_cut_is : low_cut ≡ key.low.cut
  pub high_is : high ≡ printed key.high.path
  pub high_cut_is : high_cut ≡ key.high.cut
  pub sig_is : sig ≡ key.sig

pub texts_of : (n : ℕ) (bytes low high sig : List ℕ) (low_cut high_cut : Bool) (key : LtreeKey n) → bytes ≡ texts_bytes low low_cut high high_cut sig → bytes ≡ spelled key → HasTexts key low low_cut high high_cut sig
texts_of n bytes low high sig low_cut high_cut key e f =
    let first = one_text low (printed key.low.path) (field_bytes high ++ flag high_cut ∷ sig) (field_bytes (printed key.high.path) ++ flag key.high.cut ∷ key.sig) low_cut key.low.cut (sym e ∙ f ∙ spelled_texts key) in
    let second = one_text high (printed key.high.path) sig key.sig high_cut key.high.cut first.2 in
    record { low_is = first.0; low_cut_is = first.1; high_is = second.0; high_cut_is = second.1; sig_is = second.2 }

pub no_key : (n : ℕ) (bytes : List ℕ) → NoTexts bytes → (key : LtreeKey n) → IsKey n key → bytes ≢ spelled key
no_key n bytes none key p e = none (printed key.low.path) (printed key.high.path) key.sig key.low.cut key.high.cut (e ∙ spelled_texts key)

-- The parts that were read are those of a key with the bytes.
pub record Read (p : Part) (text : List ℕ) (cut : Bool) : Type 0 where
  pub valid : IsPart p
  pub cut_is : p.cut ≡ cut
  pub is : text ≡ printed p.path

pub same_part : (n : ℕ) (p q : Part) (text : List ℕ) (cut : Bool) → Read p text cut → IsPart q → text ≡ printed q.path → cut ≡ q.cut → p ≡ q
same_part n p q text cut r v e f = one_part p q r.valid v (sym r.is ∙ e) (r.cut_is ∙ f)

not_both : (o : Ordering) → is_gt o ≡ true → is_le o ≡ true → ⊥
not_both ordering.Less e f = true≢false (sym e)
not_both ordering.Equal e f = true≢false (sym e)
not_both ordering.Greater e f = true≢false (sym f)

pub no_sig : (n : ℕ) (bytes low high sig : List ℕ) (low_cut high_cut : Bool) → bytes ≡ texts_bytes low low_cut high high_cut sig → length sig ≢ n → (key : LtreeKey n) → IsKey n key → bytes ≢ spelled key
no_sig n bytes low high sig low_cut high_cut e none key v f = none (ap length (texts_of n bytes low high sig low_cut high_cut key e f).sig_is ∙ v.sig.long)

pub no_low : (n : ℕ) (bytes low high sig : List ℕ) (low_cut high_cut : Bool) → bytes ≡ texts_bytes low low_cut high high_cut sig → NoPart low → (key : LtreeKey n) → IsKey n key → bytes ≢ spelled key
no_low n bytes low high sig low_cut high_cut e none key v f = none key.low v.low (texts_of n bytes low high sig low_cut high_cut key e f).low_is

pub no_high : (n : ℕ) (bytes low high sig : List ℕ) (low_cut high_cut : Bool) → bytes ≡ texts_bytes low low_cut high high_cut sig → NoPart high → (key : LtreeKey n) → IsKey n key → bytes ≢ spelled key
no_high n bytes low high sig low_cut high_cut e none key v f = none key.high v.high (texts_of n bytes low high sig low_cut high_cut key e f).high_is

pub read_of : (p : Part) (text : List ℕ) (cut : Bool) → IsPart p × (p.cut ≡ cut) × (text ≡ printed p.path) → Read p text cut
read_of p text cut t = record { valid = t.0; cut_is = t.1; is = t.2 }

pub crossed : (n : ℕ) (bytes low high sig : List ℕ) (low_cut high_cut : Bool) (p q : Part) → bytes ≡ texts_bytes low low_cut high high_cut sig → Read p low low_cut → Read q high high_cut → is_gt (part_cmp p q) ≡ true
    → (key : LtreeKey n) → IsKey n key → bytes ≢ spelled key
crossed n bytes low high sig low_cut high_cut p q e r s gt key v f =
    let t = texts_of n bytes low high sig low_cut high_cut key e f in
    let first = same_part n p key.low low low_cut r v.low t.low_is t.low_cut_is in
    let second = same_part n q key.high high high_cut s v.high t.high_is t.high_cut_is in
    not_both (part_cmp p q) gt (ap₂ (λ (a b : Part). is_le (part_cmp a b)) first second ∙ v.rise)

not_gt_le : (o : Ordering) → is_gt o ≡ false → is_le o ≡ true
not_gt_le ordering.Less e = refl
not_gt_le ordering.Equal e = refl
not_gt_le ordering.Greater e = sym e

pub key_is : (n : ℕ) (bytes low high bits sig : List ℕ) (low_cut high_cut : Bool) (p q : Part) → bytes ≡ texts_bytes low low_cut high high_cut bits → Read p low low_cut → Read q high high_cut → is_gt (part_cmp p q) ≡ false
    → IsSignature n sig × (sig ≡ bits) → IsKey n (record { low = p; high = q; sig = sig }) × (bytes ≡ spelled {n = n} (record { low = p; high = q; sig = sig }))
key_is n bytes low high bits sig low_cut high_cut p q e r s le v =
    let key : LtreeKey n = record { low = p; high = q; sig = sig } in (
      record { low = r.valid; high = s.valid; rise = not_gt_le (part_cmp p q) le; sig = v.0 },
      e
          ∙ ap (texts_bytes low low_cut high high_cut) (sym v.1)
          ∙ ap₂ (λ (a b : List ℕ). texts_bytes a low_cut b high_cut sig) r.is s.is
          ∙ ap₂ (λ (a b : Bool). texts_bytes (printed p.path) a (printed q.path) b sig) (sym r.cut_is) (sym s.cut_is)
          ∙ sym (spelled_texts key),
    )
