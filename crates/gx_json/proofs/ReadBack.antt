-- The bytes of a document are read as that document.
use Rattle.std.proofs.Common.{◌≡◌, ℕ, suc, ◌≤◌, max, pos, negsuc, Bool, true, false, List, [], ◌∷◌, ◌++◌, Option, None, Some, option_map, option_and_then, nat_cmp, Greater, IsUtf8, decimal, refl, sym, ap, ap₂, ◌∙◌, subst, arith, append-nil}
use Rattle.std.specs.Cmp.Lexicographic.{slice_cmp}
use Rattle.std.specs.Ordering.{ordering_reverse}
use Rattle.std.specs.Fmt.{signed_decimal}
use Rattle.std.proofs.lemmas.Cmp.{nat_list_cmp_total}
use Rattle.std.proofs.lemmas.Str.{IsUtf8-append, IsUtf8-nil, IsUtf8-from_ascii}
use Rattle.std.proofs.lemmas.Fmt.{IsAscii-decimal, IsAscii-signed}
use Rattle.json.specs.Token.{Token}
use Rattle.json.specs.Lex.{tokens}
use Rattle.json.specs.Print.{quoted, IsNumber}
use Rattle.json.specs.Json as json
use Rattle.json.specs.Tree as tree
use Rattle.json.proofs.Printed.Tokens.{tokens-print}
use Rattle.json.proofs.Printed.Trees.{ArePrintable-json_tokens, value-json_tokens}
use Rattle.json.proofs.Printed.Utf8.{IsUtf8-quoted, IsUtf8-boolean, IsUtf8-are_ascii}
use Rattle.json.proofs.Printed.Decimals.{IsNumber-decimal, IsNumber-signed_decimal}
use Rattle.serde_json.specs.Data.{Num, unsigned, negative, float, Data, null, boolean, number, string, array, object, Items, no_items, item, Members, no_members, member, put, depth, items_depth, members_depth}
use Rattle.serde_json.specs.Read.{read, number_of, of_json, of_items, of_members, max_depth}
use Rattle.serde_json.specs.Written.{number_text, outline, items_outline, members_outline, compact_text, items_text, members_text, comma_if}
use Rattle.serde_json.proofs.Numbers.{number_of-decimal, number_of-negative}
use Rattle.serde_json.proofs.Texts.{print-outline}
use Rattle.gx_json.specs.Valid.{IsWholeNumber, IsBelowAll, IsRising, IsStored, AreStored, MembersStored, IsDocument}
use Rattle.gx_json.specs.Steps.{joined, AreBelow}
use Rattle.gx_json.proofs.OperatorLemmas.{below_more, joined-assoc}

pub number_reads : (n : Num) → IsWholeNumber n → number_of (number_text n) ≡ Some n
number_reads (unsigned n) h = number_of-decimal n (omega arith)
number_reads (negative (pos n)) h = absurd h
number_reads (negative (negsuc n)) h = number_of-negative n h
number_reads (float x) h = absurd h

-- ---- members that come in order

abbrev pub Precede : Members → Members → Type 0
Precede es no_members = Unit {0}
Precede es (member k d ms) = AreBelow es k × Precede es ms

pub precede_none : (ms : Members) → Precede no_members ms
precede_none no_members = tt
precede_none (member k d ms) = (tt, precede_none ms)

pub precede_last : (es : Members) (k : List ℕ) (d : Data) (ms : Members) → Precede es ms → IsBelowAll k ms → Precede (joined es (member k d no_members)) ms
precede_last es k d no_members p r = tt
precede_last es k d (member l e ms) p r = (below_more es l k d p.0 r.0, precede_last es k d ms p.1 r.1)

pub put_last : (es : Members) (k : List ℕ) (d : Data) → AreBelow es k → put k d es ≡ joined es (member k d no_members)
put_last no_members k d h = refl
put_last (member l e es) k d h =
    let above : slice_cmp nat_cmp k l ≡ Greater = nat_list_cmp_total.antisymm k l ∙ ap ordering_reverse h.0 in
    rw above (ap (member l e) (put_last es k d h.1))

pub joined_none : (es : Members) → joined es no_members ≡ es
joined_none no_members = refl
joined_none (member k d es) = ap (member k d) (joined_none es)

mutual
  outline_reads : (d : Data) → IsStored d → of_json (outline d) ≡ Some d
  outline_reads null h = refl
  outline_reads (boolean b) h = refl
  outline_reads (number n) h = ap (option_map number) (number_reads n h)
  outline_reads (string s) h = refl
  outline_reads (array ds) h = ap (option_map array) (items_read ds h)
  outline_reads (object ms) h = ap (option_map object) (members_read no_members ms (precede_none ms) h.0 h.1)

  items_read : (ds : Items) → AreStored ds → of_items (items_outline ds) ≡ Some ds
  items_read no_items h = refl
  items_read (item d ds) h =
      ap (option_and_then (λ e. option_map (item e) (of_items (items_outline ds)))) (outline_reads d h.0)
      ∙ ap (option_map (item d)) (items_read ds h.1)

  members_read : (es ms : Members) → Precede es ms → IsRising ms → MembersStored ms → of_members (members_outline ms) es ≡ Some (joined es ms)
  members_read es no_members p r h = ap Some (sym (joined_none es))
  members_read es (member k d ms) p r h =
      ap (option_and_then (λ e. of_members (members_outline ms) (put k e es))) (outline_reads d h.0.1)
      ∙ ap (of_members (members_outline ms)) (put_last es k d p.0)
      ∙ members_read (joined es (member k d no_members)) ms (precede_last es k d ms p.1 r.0) r.1 h.1
      ∙ ap Some (joined-assoc es (member k d no_members) ms)

mutual
  outline_depth : (d : Data) → tree.depth (outline d) ≡ depth d
  outline_depth null = refl
  outline_depth (boolean b) = refl
  outline_depth (number n) = refl
  outline_depth (string s) = refl
  outline_depth (array ds) = ap suc (items_outline_depth ds)
  outline_depth (object ms) = ap suc (members_outline_depth ms)

  items_outline_depth : (ds : Items) → tree.items_depth (items_outline ds) ≡ items_depth ds
  items_outline_depth no_items = refl
  items_outline_depth (item d ds) = ap₂ max (outline_depth d) (items_outline_depth ds)

  members_outline_depth : (ms : Members) → tree.members_depth (members_outline ms) ≡ members_depth ms
  members_outline_depth no_members = refl
  members_outline_depth (member k d ms) = ap₂ max (outline_depth d) (members_outline_depth ms)

pub number_is : (n : Num) → IsWholeNumber n → IsNumber (number_text n)
number_is (unsigned n) h = IsNumber-decimal n (omega arith)
number_is (negative (pos n)) h = absurd h
number_is (negative (negsuc n)) h = IsNumber-signed_decimal (negsuc n) h
number_is (float x) h = absurd h

mutual
  outline_numbers : (d : Data) → IsStored d → tree.HasNumbers (outline d)
  outline_numbers null h = tt
  outline_numbers (boolean b) h = tt
  outline_numbers (number n) h = number_is n h
  outline_numbers (string s) h = tt
  outline_numbers (array ds) h = items_numbers ds h
  outline_numbers (object ms) h = members_numbers ms h.1

  items_numbers : (ds : Items) → AreStored ds → tree.ItemsHaveNumbers (items_outline ds)
  items_numbers no_items h = tt
  items_numbers (item d ds) h = (outline_numbers d h.0, items_numbers ds h.1)

  members_numbers : (ms : Members) → MembersStored ms → tree.MembersHaveNumbers (members_outline ms)
  members_numbers no_members h = tt
  members_numbers (member k d ms) h = (outline_numbers d h.0.1, members_numbers ms h.1)

-- the end of `read`
abbrev pub whole : Option (json.Json × List Token) → Option Data
whole o = option_and_then of_json (option_and_then (λ p. json.if_last p.0 p.1) o)

pub compact_reads : (d : Data) → IsStored d → depth d ≤ max_depth → read (compact_text d) ≡ Some d
compact_reads d h shallow =
    let js = outline d in
    let same : tokens (compact_text d) ≡ tree.json_tokens js =
    ap tokens (sym (print-outline d)) ∙ tokens-print (tree.json_tokens js) (ArePrintable-json_tokens js (outline_numbers d h)) in
    ap whole (ap (json.value max_depth) (same ∙ sym (append-nil (tree.json_tokens js))) ∙ value-json_tokens js max_depth [] (omega (arith, outline_depth d))) ∙ outline_reads d h

-- ---- the bytes are UTF-8

number_utf8 : (n : Num) → IsWholeNumber n → IsUtf8 (number_text n)
number_utf8 (unsigned n) h = IsUtf8-from_ascii (decimal n) (IsAscii-decimal n (omega arith))
number_utf8 (negative (pos n)) h = absurd h
number_utf8 (negative (negsuc n)) h = IsUtf8-from_ascii (signed_decimal (negsuc n)) (IsAscii-signed (negsuc n) h)
number_utf8 (float x) h = absurd h

comma_utf8 : (later : Bool) → IsUtf8 (comma_if later)
comma_utf8 true = IsUtf8-are_ascii (44 ∷ []) refl
comma_utf8 false = IsUtf8-nil

sign_then : (x : ℕ) (s : List ℕ) → IsUtf8 (x ∷ []) → IsUtf8 s → IsUtf8 (x ∷ s)
sign_then x s a b = IsUtf8-append (x ∷ []) s a b

mutual
  compact_utf8 : (d : Data) → IsStored d → IsUtf8 (compact_text d)
  compact_utf8 null h = IsUtf8-are_ascii (compact_text null) refl
  compact_utf8 (boolean b) h = IsUtf8-boolean b
  compact_utf8 (number n) h = number_utf8 n h
  compact_utf8 (string s) h = IsUtf8-quoted s h
  compact_utf8 (array ds) h = sign_then 91 (items_text false ds) (IsUtf8-are_ascii (91 ∷ []) refl) (items_utf8 false ds h)
  compact_utf8 (object ms) h = sign_then 123 (members_text false ms) (IsUtf8-are_ascii (123 ∷ []) refl) (members_utf8 false ms h.1)

  items_utf8 : (later : Bool) (ds : Items) → AreStored ds → IsUtf8 (items_text later ds)
  items_utf8 later no_items h = IsUtf8-are_ascii (93 ∷ []) refl
  items_utf8 later (item d ds) h = IsUtf8-append (comma_if later) (compact_text d ++ items_text true ds) (comma_utf8 later) (IsUtf8-append (compact_text d) (items_text true ds) (compact_utf8 d h.0) (items_utf8 true ds h.1))

  members_utf8 : (later : Bool) (ms : Members) → MembersStored ms → IsUtf8 (members_text later ms)
  members_utf8 later no_members h = IsUtf8-are_ascii (125 ∷ []) refl
  members_utf8 later (member k d ms) h =
      let value = IsUtf8-append (compact_text d) (members_text true ms) (compact_utf8 d h.0.1) (members_utf8 true ms h.1) in
      let rest = sign_then 58 (compact_text d ++ members_text true ms) (IsUtf8-are_ascii (58 ∷ []) refl) value in
      IsUtf8-append (comma_if later) (quoted k ++ 58 ∷ (compact_text d ++ members_text true ms)) (comma_utf8 later) (IsUtf8-append (quoted k) (58 ∷ (compact_text d ++ members_text true ms)) (IsUtf8-quoted k h.0.0) rest)

-- ---- what is decoded

pub read_again : (d : Data) → IsDocument d → read (compact_text d) ≡ Some d
read_again d h = compact_reads d h.stored (omega (arith, h.shallow))

pub one_encoding : (a b : Data) → IsDocument a → IsDocument b → compact_text a ≡ compact_text b → a ≡ b
one_encoding a b p q e = let same : Some a ≡ Some b = sym (read_again a p) ∙ ap read e ∙ read_again b q in cc

pub read_only : (bytes : List ℕ) (d e : Data) → read bytes ≡ Some e → IsDocument d → bytes ≡ compact_text d → d ≡ e
read_only bytes d e r h is = let same : Some d ≡ Some e = sym (read_again d h) ∙ sym (ap read is) ∙ r in cc

pub nothing_read : (bytes : List ℕ) → (IsUtf8 bytes → read bytes ≡ None) → (d : Data) → IsDocument d → bytes ≡ compact_text d → ⊥
nothing_read bytes none d h is =
    let text : IsUtf8 bytes = subst IsUtf8 (sym is) (compact_utf8 d h.stored) in
    let same : Some d ≡ None = sym (read_again d h) ∙ sym (ap read is) ∙ none text in
    cc

pub no_document : (bytes : List ℕ) (e : Data) → read bytes ≡ Some e → (IsDocument e → ⊥) → (d : Data) → IsDocument d → bytes ≡ compact_text d → ⊥
no_document bytes e r never d h is = never (subst IsDocument (read_only bytes d e r h is) h)

pub other_bytes : (bytes text : List ℕ) (e : Data) → read bytes ≡ Some e → text ≡ compact_text e → (text ≡ bytes → ⊥) → (d : Data) → IsDocument d → bytes ≡ compact_text d → ⊥
other_bytes bytes text e r is other d h same = other (is ∙ ap compact_text (sym (read_only bytes d e r h same)) ∙ sym same)
