-- The tokens of a printed text are those of its tree.
use Rattle.std.proofs.Common.{◌≡◌, ℕ, ◌≤◌, Bool, true, false, cond, List, [], ◌∷◌, ◌++◌, map, Some, refl, sym, ap, ap₂, ◌∙◌, inl, subst, arith, append_assoc, append-nil}
use Rattle.std.proofs.lemmas.List.{map-append}
use Rattle.json.specs.Token.{Token}
use Rattle.json.specs.Lex.{tokens}
use Rattle.json.specs.Print.{quoted, IsNumber, ArePrintable}
use Rattle.json.specs.Spaced.{IsGap, AreGaps, print_spaced}
use Rattle.json.specs.Json as json
use Rattle.json.specs.Tree as tree
use Rattle.json.proofs.Printed.Tokens.{tokens-print_spaced}
use Rattle.json.proofs.Printed.Trees.{ArePrintable-json_tokens, value-json_tokens}
use Rattle.serde_json.specs.Data.{Data, depth}
use Rattle.serde_json.specs.Read.{read, max_depth}
use Rattle.gx_json.specs.Valid.{IsStored}
use Rattle.gx_json.specs.Print.{separator, printed}
use Rattle.gx_json.proofs.ReadBack.{whole, number_is}
use Rattle.gx_json.proofs.PrintedTrees.{reorder, tree_text, items_text, members_text, printed_tree, reorder_depth, reorder_reads, reorder_numbers, EachNumber, EachOfItems, EachOfMembers}

-- a token, with the blank bytes before it
abbrev Spaced : Type 0
Spaced = List ℕ × Token

-- a space before what comes later
abbrev gap : Bool → List ℕ
gap later = cond later (32 ∷ []) []

abbrev mutual
  spaced : List ℕ → json.Json → List Spaced
  spaced g json.null = (g, Token.null) ∷ []
  spaced g (json.boolean b) = (g, Token.boolean b) ∷ []
  spaced g (json.number s) = (g, Token.number s) ∷ []
  spaced g (json.string s) = (g, Token.string s) ∷ []
  spaced g (json.array js) = (g, Token.begin_array) ∷ spaced_items false js
  spaced g (json.object ms) = (g, Token.begin_object) ∷ spaced_members false ms

  spaced_items : Bool → json.Items → List Spaced
  spaced_items later json.no_items = ([], Token.end_array) ∷ []
  spaced_items later (json.item j js) = spaced (gap later) j ++ spaced_items true js

  spaced_members : Bool → json.Members → List Spaced
  spaced_members later json.no_members = ([], Token.end_object) ∷ []
  spaced_members later (json.member k j ms) = (gap later, Token.key k) ∷ (spaced (32 ∷ []) j ++ spaced_members true ms)

abbrev bare : List Spaced → List Token
bare ps = map (λ p. p.1) ps

mutual
  bare_tokens : (g : List ℕ) (j : json.Json) → bare (spaced g j) ≡ tree.json_tokens j
  bare_tokens g json.null = refl
  bare_tokens g (json.boolean b) = refl
  bare_tokens g (json.number s) = refl
  bare_tokens g (json.string s) = refl
  bare_tokens g (json.array js) = ap (λ (t : List Token). Token.begin_array ∷ t) (bare_items false js)
  bare_tokens g (json.object ms) = ap (λ (t : List Token). Token.begin_object ∷ t) (bare_members false ms)

  bare_items : (later : Bool) (js : json.Items) → bare (spaced_items later js) ≡ tree.items_tokens js
  bare_items later json.no_items = refl
  bare_items later (json.item j js) =
      map-append (λ p. p.1) (spaced (gap later) j) (spaced_items true js) ∙ ap₂ (λ (a b : List Token). a ++ b) (bare_tokens (gap later) j) (bare_items true js)

  bare_members : (later : Bool) (ms : json.Members) → bare (spaced_members later ms) ≡ tree.members_tokens ms
  bare_members later json.no_members = refl
  bare_members later (json.member k j ms) =
      ap (λ (t : List Token). Token.key k ∷ t)
      (map-append (λ p. p.1) (spaced (32 ∷ []) j) (spaced_members true ms) ∙ ap₂ (λ (a b : List Token). a ++ b) (bare_tokens (32 ∷ []) j) (bare_members true ms))

gaps-append : (ps qs : List Spaced) → AreGaps ps → AreGaps qs → AreGaps (ps ++ qs)
gaps-append [] qs h g = g
gaps-append (p ∷ ps) qs h g = (h.0, gaps-append ps qs h.1 g)

is_gap : (later : Bool) → IsGap (gap later)
is_gap true = (inl refl, tt)
is_gap false = tt

mutual
  are_gaps : (g : List ℕ) (j : json.Json) → IsGap g → AreGaps (spaced g j)
  are_gaps g json.null h = (h, tt)
  are_gaps g (json.boolean b) h = (h, tt)
  are_gaps g (json.number s) h = (h, tt)
  are_gaps g (json.string s) h = (h, tt)
  are_gaps g (json.array js) h = (h, items_gaps false js)
  are_gaps g (json.object ms) h = (h, members_gaps false ms)

  items_gaps : (later : Bool) (js : json.Items) → AreGaps (spaced_items later js)
  items_gaps later json.no_items = (tt, tt)
  items_gaps later (json.item j js) = gaps-append (spaced (gap later) j) (spaced_items true js) (are_gaps (gap later) j (is_gap later)) (items_gaps true js)

  members_gaps : (later : Bool) (ms : json.Members) → AreGaps (spaced_members later ms)
  members_gaps later json.no_members = (tt, tt)
  members_gaps later (json.member k j ms) =
      (is_gap later, gaps-append (spaced (32 ∷ []) j) (spaced_members true ms) (are_gaps (32 ∷ []) j (inl refl, tt)) (members_gaps true ms))

-- ---- what is printed for them

comma : Bool → List ℕ
comma later = cond later (44 ∷ []) []

comma_space : (later : Bool) (t : List ℕ) → separator later ++ t ≡ comma later ++ (gap later ++ t)
unfolding comma
comma_space true t = refl
comma_space false t = refl

four : (a b c d e : List ℕ) → a ++ (b ++ ((c ++ d) ++ e)) ≡ ((a ++ (b ++ c)) ++ d) ++ e
four a b c d e = simp append_assoc

six : (q t m r : List ℕ) → (q ++ 58 ∷ []) ++ 32 ∷ (t ++ ((m ++ 125 ∷ []) ++ r)) ≡ ((q ++ 58 ∷ 32 ∷ (t ++ m)) ++ 125 ∷ []) ++ r
six q t m r = simp append_assoc

mutual
  unfolding print_spaced comma

  value_printed : (c : Bool) (g : List ℕ) (j : json.Json) (rest : List Spaced) → print_spaced c (spaced g j ++ rest) ≡ comma c ++ (g ++ (tree_text j ++ print_spaced true rest))
  value_printed true g json.null rest = refl
  value_printed false g json.null rest = refl
  value_printed true g (json.boolean b) rest = refl
  value_printed false g (json.boolean b) rest = refl
  value_printed true g (json.number s) rest = refl
  value_printed false g (json.number s) rest = refl
  value_printed true g (json.string s) rest = refl
  value_printed false g (json.string s) rest = refl
  value_printed true g (json.array js) rest = ap (λ (t : List ℕ). 44 ∷ (g ++ 91 ∷ t)) (items_printed false js rest)
  value_printed false g (json.array js) rest = ap (λ (t : List ℕ). g ++ 91 ∷ t) (items_printed false js rest)
  value_printed true g (json.object ms) rest = ap (λ (t : List ℕ). 44 ∷ (g ++ 123 ∷ t)) (members_printed false ms rest)
  value_printed false g (json.object ms) rest = ap (λ (t : List ℕ). g ++ 123 ∷ t) (members_printed false ms rest)

  items_printed : (later : Bool) (js : json.Items) (rest : List Spaced) → print_spaced later (spaced_items later js ++ rest) ≡ (items_text later js ++ 93 ∷ []) ++ print_spaced true rest
  items_printed true json.no_items rest = refl
  items_printed false json.no_items rest = refl
  items_printed later (json.item j js) rest =
      ap (print_spaced later) (append_assoc (spaced (gap later) j) (spaced_items true js) rest)
      ∙ value_printed later (gap later) j (spaced_items true js ++ rest)
      ∙ sym (comma_space later (tree_text j ++ print_spaced true (spaced_items true js ++ rest)))
      ∙ ap (λ (t : List ℕ). separator later ++ (tree_text j ++ t)) (items_printed true js rest)
      ∙ four (separator later) (tree_text j) (items_text true js) (93 ∷ []) (print_spaced true rest)

  members_printed : (later : Bool) (ms : json.Members) (rest : List Spaced) → print_spaced later (spaced_members later ms ++ rest) ≡ (members_text later ms ++ 125 ∷ []) ++ print_spaced true rest
  members_printed true json.no_members rest = refl
  members_printed false json.no_members rest = refl
  members_printed true (json.member k j ms) rest =
      ap (λ (t : List ℕ). 44 ∷ 32 ∷ ((quoted k ++ 58 ∷ []) ++ t))
      (ap (print_spaced false) (append_assoc (spaced (32 ∷ []) j) (spaced_members true ms) rest)
      ∙ value_printed false (32 ∷ []) j (spaced_members true ms ++ rest)
      ∙ ap (λ (t : List ℕ). 32 ∷ (tree_text j ++ t)) (members_printed true ms rest))
      ∙ ap (λ (t : List ℕ). 44 ∷ 32 ∷ t) (six (quoted k) (tree_text j) (members_text true ms) (print_spaced true rest))
  members_printed false (json.member k j ms) rest =
      ap (λ (t : List ℕ). (quoted k ++ 58 ∷ []) ++ t)
      (ap (print_spaced false) (append_assoc (spaced (32 ∷ []) j) (spaced_members true ms) rest)
      ∙ value_printed false (32 ∷ []) j (spaced_members true ms ++ rest)
      ∙ ap (λ (t : List ℕ). 32 ∷ (tree_text j ++ t)) (members_printed true ms rest))
      ∙ six (quoted k) (tree_text j) (members_text true ms) (print_spaced true rest)

mutual
  has_numbers : (j : json.Json) → EachNumber IsNumber j → tree.HasNumbers j
  has_numbers json.null h = tt
  has_numbers (json.boolean b) h = tt
  has_numbers (json.number s) h = h
  has_numbers (json.string s) h = tt
  has_numbers (json.array js) h = items_have_numbers js h
  has_numbers (json.object ms) h = members_have_numbers ms h

  items_have_numbers : (js : json.Items) → EachOfItems IsNumber js → tree.ItemsHaveNumbers js
  items_have_numbers json.no_items h = tt
  items_have_numbers (json.item j js) h = (has_numbers j h.0, items_have_numbers js h.1)

  members_have_numbers : (ms : json.Members) → EachOfMembers IsNumber ms → tree.MembersHaveNumbers ms
  members_have_numbers json.no_members h = tt
  members_have_numbers (json.member k j ms) h = (has_numbers j h.0, members_have_numbers ms h.1)

text_spaced : (j : json.Json) → print_spaced false (spaced [] j) ≡ tree_text j
unfolding print_spaced comma
text_spaced j = ap (print_spaced false) (sym (append-nil (spaced [] j))) ∙ value_printed false [] j [] ∙ append-nil (tree_text j)

tokens_printed : (d : Data) → IsStored d → tokens (printed d) ≡ tree.json_tokens (reorder d)
tokens_printed d h =
    let j = reorder d in
    let printable = ArePrintable-json_tokens j (has_numbers j (reorder_numbers IsNumber number_is d h)) in
    ap tokens (sym (printed_tree d) ∙ sym (text_spaced j))
    ∙ tokens-print_spaced (spaced [] j) (are_gaps [] j tt) (subst ArePrintable (sym (bare_tokens [] j)) printable)
    ∙ bare_tokens [] j

-- the printed text is read as the document
pub printed_reads : (d : Data) → IsStored d → depth d ≤ max_depth → read (printed d) ≡ Some d
printed_reads d h shallow =
    let ts = tree.json_tokens (reorder d) in
    ap whole (ap (json.value max_depth) (tokens_printed d h ∙ sym (append-nil ts)) ∙ value-json_tokens (reorder d) max_depth [] (omega (arith, shallow, reorder_depth d)))
    ∙ reorder_reads d h
