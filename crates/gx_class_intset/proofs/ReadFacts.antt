-- What bytes of keys spell.
use Rattle.std.proofs.Common.{◌≡◌, ◌≢◌, ℕ, ◌<◌, ◌≤◌, Bool, true, List, [], ◌∷◌, ◌++◌, length, take, drop, refl, sym, ap, ap₂, ◌∙◌, subst, arith, append_assoc, append-nil, length-append, take-append-drop}
use Rattle.gx_bytes.specs.Varints.{IsVarint, varint_bytes}
use Rattle.gx_bytes.proofs.Spellings.{varint_is, varint_only, varints_same}
use Rattle.gx_intarr.specs.Arrays.{least, IsInt4}
use Rattle.gx_class_intset.specs.declared.interval.Interval.{Interval}
use Rattle.gx_class_intset.specs.declared.interval.IntKey.{IntKey}
use Rattle.gx_class_intset.specs.Intervals.{rises}
use Rattle.gx_class_intset.specs.Keys.{IsLimit, IsKey}
use Rattle.gx_class_intset.specs.Spellings.{interval_bytes, pieces, listed, flag, spelled, AreInt4s, key_int4s, rises_to, rises_from, length-pieces, one_list}

-- the intervals read so far, and the rest
pub record HasPieces (bytes : List ℕ) (list : List Interval) (rest : List ℕ) : Type 0 where
  pub valid : AreInt4s list
  pub parts : bytes ≡ pieces list ++ rest

int4s-push : (is : List Interval) (i : Interval) → AreInt4s is → IsInt4 i.least × IsInt4 i.greatest → AreInt4s (is ++ i ∷ [])
int4s-push [] i p q = (q, tt)
int4s-push (j ∷ is) i p q = (p.0, int4s-push is i p.1 q)

pieces-push : (is : List Interval) (i : Interval) (rest : List ℕ) → pieces (is ++ i ∷ []) ++ rest ≡ pieces is ++ (interval_bytes i ++ rest)
pieces-push [] i rest = ap (λ (x : List ℕ). x ++ rest) (append-nil (interval_bytes i))
pieces-push (j ∷ is) i rest =
    append_assoc (interval_bytes j) (pieces (is ++ i ∷ [])) rest ∙ ap (λ (x : List ℕ). interval_bytes j ++ x) (pieces-push is i rest) ∙ sym (append_assoc (interval_bytes j) (pieces is) (interval_bytes i ++ rest))

pub piece_more : (bytes rest after : List ℕ) (list more : List Interval) (i : Interval) → HasPieces bytes list rest → IsInt4 i.least × IsInt4 i.greatest → rest ≡ interval_bytes i ++ after → more ≡ list ++ i ∷ [] → HasPieces bytes more after
piece_more bytes rest after list more i h fits e f =
    let made : HasPieces bytes (list ++ i ∷ []) after = record {
      valid = int4s-push list i h.valid fits;
      parts = h.parts ∙ ap (λ (x : List ℕ). pieces list ++ x) e ∙ sym (pieces-push list i after);
    } in
    subst (λ (l : List Interval). HasPieces bytes l after) (sym f) made

-- where one to seven bytes are left, the bytes are no intervals
pub pieces_left : (bytes rest : List ℕ) (list : List Interval) → HasPieces bytes list rest → 0 < length rest → length rest < 8 → (others : List Interval) → bytes ≡ pieces others → ⊥
pieces_left bytes rest list h some few others e =
    omega (arith, ap length h.parts, ap length e, length-append (pieces list) rest, length-pieces list, length-pieces others)

-- what stands behind the count
drop_front : (a b : List ℕ) → drop (length a) (a ++ b) ≡ b
drop_front [] b = refl
drop_front (x ∷ a) b = drop_front a b

pub behind : (bytes rest : List ℕ) (len : ℕ) (is : List Interval) → bytes ≡ listed is → len ≡ length (varint_bytes (length is)) → rest ≡ drop len bytes → rest ≡ pieces is
behind bytes rest len is e f g = g ∙ ap₂ (λ (n : ℕ) (x : List ℕ). drop n x) f e ∙ drop_front (varint_bytes (length is)) (pieces is)

pub other_count : (bytes rest : List ℕ) (n len : ℕ) (list is : List Interval) → AreInt4s list → AreInt4s is → bytes ≡ listed is → len ≡ length (varint_bytes (length is)) → rest ≡ drop len bytes → rest ≡ pieces list → n ≡ length is → length list ≡ n
other_count bytes rest n len list is p q e f g h m =
    let same = one_list list is p q (sym h ∙ behind bytes rest len is e f g) in
    ap length same ∙ sym m

pub listed_is : (bytes rest : List ℕ) (n len : ℕ) (list : List Interval) → IsVarint (take len bytes) n → rest ≡ drop len bytes → rest ≡ pieces list → length list ≡ n → bytes ≡ listed list
listed_is bytes rest n len list v e f m =
    sym (take-append-drop len bytes) ∙ ap₂ (λ (x y : List ℕ). x ++ y) (varint_only (take len bytes) n v ∙ ap varint_bytes (sym m)) (sym e ∙ f)

-- Where no key has the bytes.
pub no_flag : (r : ℕ) (bytes : List ℕ) → ((exact : Bool) (rest : List ℕ) → bytes ≡ flag exact ∷ rest → ⊥) → (key : IntKey) → IsKey r key → bytes ≢ spelled key
no_flag r bytes none key p e = none key.exact (listed key.intervals) e

same_rest : (bytes rest : List ℕ) (a b : ℕ) (x : List ℕ) → bytes ≡ a ∷ rest → bytes ≡ b ∷ x → rest ≡ x
same_rest bytes rest a b x e f = let g : a ∷ rest ≡ b ∷ x = sym e ∙ f in cc g

pub no_list : (r : ℕ) (bytes rest : List ℕ) (exact : Bool) → IsLimit r → bytes ≡ flag exact ∷ rest → ((is : List Interval) → AreInt4s is → length is ≤ 200 → rest ≡ listed is → ⊥) → (key : IntKey) → IsKey r key → bytes ≢ spelled key
no_list r bytes rest exact limit e none key p f =
    let few = p.few in
    none key.intervals (key_int4s key.intervals p.rise) (omega (arith, few, limit.1)) (same_rest bytes rest (flag exact) (flag key.exact) (listed key.intervals) e f)

one_listed : (a b : List Interval) → AreInt4s a → AreInt4s b → listed a ≡ listed b → a ≡ b
one_listed a b p q e = one_list a b p q (varints_same (varint_bytes (length a)) (varint_bytes (length b)) (pieces a) (pieces b) (length a) (length b) (varint_is (length a)) (varint_is (length b)) e).2

pub other_list : (r : ℕ) (bytes rest : List ℕ) (exact : Bool) (list : List Interval) → bytes ≡ flag exact ∷ rest → AreInt4s list → rest ≡ listed list → (length list ≤ r → rises least list ≡ true → ⊥) → (key : IntKey) → IsKey r key → bytes ≢ spelled key
other_list r bytes rest exact list e p f wrong key q g =
    let same : list ≡ key.intervals =
    one_listed list key.intervals p (key_int4s key.intervals q.rise) (sym f ∙ same_rest bytes rest (flag exact) (flag key.exact) (listed key.intervals) e g) in
    wrong (subst (λ (l : List Interval). length l ≤ r) (sym same) q.few) (subst (λ (l : List Interval). rises least l ≡ true) (sym same) (rises_to key.intervals least q.rise))

pub key_is : (r : ℕ) (list : List Interval) (exact : Bool) → AreInt4s list → length list ≤ r → rises least list ≡ true → IsKey r (record { exact = exact; intervals = list })
key_is r list exact p few e = record { rise = rises_from list least p e; few = few }

pub key_read : (r : ℕ) (bytes rest : List ℕ) (exact : Bool) (list made : List Interval) → made ≡ list → bytes ≡ flag exact ∷ rest → AreInt4s list → rest ≡ listed list → length list ≤ r → rises least list ≡ true
    → IsKey r (record { exact = exact; intervals = made }) × (bytes ≡ spelled (record { exact = exact; intervals = made }))
key_read r bytes rest exact list made same e p f few up =
    let whole : bytes ≡ flag exact ∷ listed list = e ∙ ap (λ (x : List ℕ). flag exact ∷ x) f in
    subst (λ (l : List Interval). IsKey r (record { exact = exact; intervals = l }) × (bytes ≡ flag exact ∷ listed l)) (sym same) (key_is r list exact p few up, whole)
