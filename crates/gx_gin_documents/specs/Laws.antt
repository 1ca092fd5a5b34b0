-- What the laws of both classes stand on.
use Rattle.std.specs.Prelude.{◌≡◌, ◌≤◌, ℕ, true, List, [], ◌∷◌, length, map, All, Any, Contains, refl}
use Rattle.std.proofs.Common.{subst, arith}
use Rattle.std.proofs.lemmas.List.Elements.{All-nil, All-cons, All-contains, All-head}
use Rattle.gx_gin.specs.Reach.{flags, InReach}
use Rattle.gx_gin.specs.Rising.{IsRising, rising_of}
use Rattle.gx_gin.proofs.RisingFacts.{rises, same_strings}
use Rattle.gx_gin.specs.declared.wanted.Mode.TheVariants as mode
use Rattle.gx_kleene.specs.Laws.{IsRight}
use Rattle.serde_json.specs.Data.{Data}
use Rattle.gx_json.specs.Operators.{HasKey, ContainsDocument}
use Rattle.gx_json.specs.Tree.{data_of}
use Rattle.gx_gin_items.specs.Items.{shortened}
use Rattle.gx_gin_items.specs.Tests.{all_found, some_found, unless_empty}
use Rattle.gx_gin_items.specs.ListLaws.{here, in_map, of_map}
use Rattle.gx_gin_items.specs.FlagLaws.{all_are, some_is, meets, maybe_right}
use Rattle.gx_gin_items.specs.ShortLaws.{short_length}
use Rattle.gx_gin_documents.specs.declared.json_query.JsonQuery.{JsonQuery}
use Rattle.gx_gin_documents.specs.declared.json_query.JsonQuery.TheVariants as query
use Rattle.gx_gin_documents.specs.Items.{key_item, document_items, items}
use Rattle.gx_gin_documents.specs.Paths.{document_paths, path_item}
use Rattle.gx_gin_documents.specs.Paths as paths
use Rattle.gx_gin_documents.specs.Tests as tests
use Rattle.gx_gin_documents.specs.Tests.{Holds, IsPathQuery, sought, wanted, answer, path_wanted, path_mode, path_answer}
use Rattle.gx_gin_documents.specs.ItemLaws.{contained, key_there}
use Rattle.gx_gin_documents.specs.PathLaws as path_laws

-- ---- jsonb_ops

pub items_rise : (d : Data) → IsRising (items d)
items_rise d = rises (map shortened (document_items d))

pub wanted_rise : (q : JsonQuery) → IsRising (wanted q)
wanted_rise q = rises (map shortened (sought q))

pub items_are_short : (d : Data) (item : List ℕ) → Contains (items d) item → length item ≤ 1900
items_are_short d item c =
    let made = of_map shortened (document_items d) item ((same_strings (map shortened (document_items d)) item).0 c) in
    subst (λ (x : List ℕ). length x ≤ 1900) made.is (short_length made.from)

-- the short items of what is asked for are those of a document that has what is asked for
each_short : (f : List ℕ → List ℕ) (want have : List (List ℕ)) → ((z : List ℕ) → Contains want z → Contains have z) → (z : List ℕ) → Contains (map f want) z → Contains (map f have) z
each_short f want have each z c = let made = of_map f want z c in subst (λ (x : List ℕ). Contains (map f have) x) made.is (in_map f have made.from (each made.from made.in'))

-- where each item that is asked for is there, the document is in reach
reach_all : (f : List ℕ → List ℕ) (want have : List (List ℕ)) → ((z : List ℕ) → Contains want z → Contains have z) → InReach (unless_empty mode.All want) (rising_of (map f want)) (rising_of (map f have))
reach_all f [] have each = refl
reach_all f (z ∷ want) have each =
    meets (map f (z ∷ want)) (map f have) (f z) (in_map f (z ∷ want) z (here z want)) (in_map f have z (each z (here z want)))

short_key : (keys : List (List ℕ)) (key : List ℕ) → Contains keys key → Contains (map shortened (map key_item keys)) (shortened (key_item key))
short_key keys key c = in_map shortened (map key_item keys) (key_item key) (in_map key_item keys key c)

has_short : (d : Data) (key : List ℕ) → HasKey key d → Contains (map shortened (document_items d)) (shortened (key_item key))
has_short d key has = in_map shortened (document_items d) (key_item key) (key_there key d has)

meet_key : (d : Data) (keys : List (List ℕ)) (key : List ℕ) → Contains keys key → HasKey key d → InReach mode.Default (rising_of (map shortened (map key_item keys))) (items d)
meet_key d keys key c has = meets (map shortened (map key_item keys)) (map shortened (document_items d)) (shortened (key_item key)) (short_key keys key c) (has_short d key has)

-- Where a query holds of a document, the document is in reach.
pub reach_sees : (d : Data) (q : JsonQuery) → Holds q d → InReach (tests.mode q) (wanted q) (items d)
reach_sees d (query.Contains other) holds = reach_all shortened (document_items (data_of other)) (document_items d) (contained (data_of other) d holds)
reach_sees d (query.Has key) has = meet_key d (key ∷ []) key (here key []) has
reach_sees d (query.HasAll []) each = refl
reach_sees d (query.HasAll (key ∷ keys)) each = meet_key d (key ∷ keys) key (here key keys) (All-head (λ k. HasKey k d) key keys each)
reach_sees d (query.HasAny keys) any = meet_key d keys any.1 (any.0, any.2, any.3) any.4

keys_found : (d : Data) (keys : List (List ℕ)) → All (λ key. HasKey key d) keys → all_found (flags (rising_of (map shortened (map key_item keys))) (items d)) ≡ true
keys_found d keys each =
    all_are (map shortened (map key_item keys)) (map shortened (document_items d))
    (each_short shortened (map key_item keys) (document_items d) (λ z c. let key = of_map key_item keys z c in
    subst (λ (x : List ℕ). Contains (document_items d) x) key.is (key_there key.from d (All-contains (λ k. HasKey k d) keys key.from each key.in'))))

-- Flags rule a query out only where it doesn't hold; they are never sure.
pub passes_are_right : (d : Data) (q : JsonQuery) → IsRight (answer q (flags (wanted q) (items d))) (Holds q d)
passes_are_right d (query.Contains other) =
    maybe_right (all_found (flags (wanted (query.Contains other)) (items d))) (ContainsDocument d (data_of other))
    (λ holds. all_are (map shortened (document_items (data_of other))) (map shortened (document_items d))
    (each_short shortened (document_items (data_of other)) (document_items d) (contained (data_of other) d holds)))
passes_are_right d (query.Has key) =
    maybe_right (all_found (flags (wanted (query.Has key)) (items d))) (HasKey key d) (λ has. keys_found d (key ∷ []) (All-cons (λ k. HasKey k d) key [] has (All-nil (λ k. HasKey k d))))
passes_are_right d (query.HasAll keys) = maybe_right (all_found (flags (wanted (query.HasAll keys)) (items d))) (All (λ key. HasKey key d) keys) (keys_found d keys)
passes_are_right d (query.HasAny keys) =
    maybe_right (some_found (flags (wanted (query.HasAny keys)) (items d))) (Any (λ key. HasKey key d) keys)
    (λ any. some_is (map shortened (map key_item keys)) (map shortened (document_items d)) (shortened (key_item any.1)) (short_key keys any.1 (any.0, any.2, any.3)) (has_short d any.1 any.4))

-- ---- jsonb_path_ops

pub paths_rise : (d : Data) → IsRising (paths.items d)
paths_rise d = rises (map path_item (document_paths d))

pub path_wanted_rise : (q : JsonQuery) → IsPathQuery q → IsRising (path_wanted q)
path_wanted_rise (query.Contains other) valid = paths_rise (data_of other)
path_wanted_rise (query.Has key) valid = absurd valid
path_wanted_rise (query.HasAll keys) valid = absurd valid
path_wanted_rise (query.HasAny keys) valid = absurd valid

four_bytes : (path : List ℕ) → length (path_item path) ≤ 1900
four_bytes path = omega arith

pub paths_are_short : (d : Data) (item : List ℕ) → Contains (paths.items d) item → length item ≤ 1900
paths_are_short d item c =
    let made = of_map path_item (document_paths d) item ((same_strings (map path_item (document_paths d)) item).0 c) in
    subst (λ (x : List ℕ). length x ≤ 1900) made.is (four_bytes made.from)

pub path_reach_sees : (d : Data) (q : JsonQuery) → IsPathQuery q → Holds q d → InReach (path_mode q) (path_wanted q) (paths.items d)
path_reach_sees d (query.Contains other) valid holds = reach_all path_item (document_paths (data_of other)) (document_paths d) (path_laws.contained (data_of other) d holds)
path_reach_sees d (query.Has key) valid holds = absurd valid
path_reach_sees d (query.HasAll keys) valid holds = absurd valid
path_reach_sees d (query.HasAny keys) valid holds = absurd valid

pub paths_are_right : (d : Data) (q : JsonQuery) → IsPathQuery q → IsRight (path_answer q (flags (path_wanted q) (paths.items d))) (Holds q d)
paths_are_right d (query.Contains other) valid =
    maybe_right (all_found (flags (path_wanted (query.Contains other)) (paths.items d))) (ContainsDocument d (data_of other))
    (λ holds. all_are (map path_item (document_paths (data_of other))) (map path_item (document_paths d))
    (each_short path_item (document_paths (data_of other)) (document_paths d) (path_laws.contained (data_of other) d holds)))
paths_are_right d (query.Has key) valid = absurd valid
paths_are_right d (query.HasAll keys) valid = absurd valid
paths_are_right d (query.HasAny keys) valid = absurd valid
