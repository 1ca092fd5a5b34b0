-- The classes jsonb_ops and jsonb_path_ops.
use Rattle.std.specs.Prelude.{ℕ, Bool, List, [], ◌∷◌, map}
use Rattle.gx_gin.specs.Rising.{rising_of}
use Rattle.gx_gin.specs.declared.wanted.Mode.{Mode}
use Rattle.gx_gin.specs.declared.wanted.Mode.TheVariants.{Default, All}
use Rattle.gx_gist.specs.declared.test.Test.{Test}
use Rattle.gx_gist.specs.declared.test.Test.TheVariants.{No}
use Rattle.serde_json.specs.Data.{Data}
use Rattle.gx_json.specs.Operators as documents
use Rattle.gx_json.specs.Tree.{data_of}
use Rattle.gx_json.specs.Valid.{IsDocument}
use Rattle.gx_gin_items.specs.Items.{shortened}
use Rattle.gx_gin_items.specs.Tests.{all_found, some_found, maybe, unless_empty}
use Rattle.gx_gin_documents.specs.Items.{key_item, document_items}
use Rattle.gx_gin_documents.specs.Paths.{document_paths, path_item}
use Rattle.gx_gin_documents.specs.declared.json_query.JsonQuery.{JsonQuery}
use Rattle.gx_gin_documents.specs.declared.json_query.JsonQuery.TheVariants as query

-- The operator holds of the document and its operand.
abbrev pub Holds : JsonQuery → Data → Type 0
Holds (query.Contains other) d = documents.Holds (documents.Contains (data_of other)) d
Holds (query.Has key) d = documents.Holds (documents.Has key) d
Holds (query.HasAll keys) d = documents.Holds (documents.HasAll keys) d
Holds (query.HasAny keys) d = documents.Holds (documents.HasAny keys) d

-- The operand is a valid document.
abbrev pub IsQuery : JsonQuery → Type 0
IsQuery (query.Contains other) = IsDocument (data_of other)
IsQuery (query.Has key) = Unit {0}
IsQuery (query.HasAll keys) = Unit {0}
IsQuery (query.HasAny keys) = Unit {0}

-- The operator is `@>`, the only one of jsonb_path_ops.
abbrev pub IsPathQuery : JsonQuery → Type 0
IsPathQuery (query.Contains other) = IsDocument (data_of other)
IsPathQuery (query.Has key) = ⊥
IsPathQuery (query.HasAll keys) = ⊥
IsPathQuery (query.HasAny keys) = ⊥

-- jsonb_ops: what a query asks for
abbrev pub sought : JsonQuery → List (List ℕ)
sought (query.Contains other) = document_items (data_of other)
sought (query.Has key) = map key_item (key ∷ [])
sought (query.HasAll keys) = map key_item keys
sought (query.HasAny keys) = map key_item keys

-- the items that a query wants
abbrev pub wanted : JsonQuery → List (List ℕ)
wanted q = rising_of (map shortened (sought q))

-- the rows that a query looks at
abbrev pub mode : JsonQuery → Mode
mode (query.Contains other) = unless_empty All (document_items (data_of other))
mode (query.Has key) = Default
mode (query.HasAll keys) = unless_empty All keys
mode (query.HasAny keys) = Default

-- what the query asks for was found: some of it for `?|`, else all
abbrev pub is_met : JsonQuery → List Bool → Bool
is_met (query.Contains other) found = all_found found
is_met (query.Has key) found = all_found found
is_met (query.HasAll keys) found = all_found found
is_met (query.HasAny keys) found = some_found found

-- what flags of the wanted items say of a query: a document may have them at another place, so it is never sure
abbrev pub answer : JsonQuery → List Bool → Test
answer q found = maybe (is_met q found)

-- jsonb_path_ops: the same of `@>`; the class has no other operator
abbrev pub path_wanted : JsonQuery → List (List ℕ)
path_wanted (query.Contains other) = rising_of (map path_item (document_paths (data_of other)))
path_wanted (query.Has key) = []
path_wanted (query.HasAll keys) = []
path_wanted (query.HasAny keys) = []

abbrev pub path_mode : JsonQuery → Mode
path_mode (query.Contains other) = unless_empty All (document_paths (data_of other))
path_mode (query.Has key) = Default
path_mode (query.HasAll keys) = Default
path_mode (query.HasAny keys) = Default

abbrev pub path_answer : JsonQuery → List Bool → Test
path_answer (query.Contains other) found = maybe (all_found found)
path_answer (query.Has key) found = No
path_answer (query.HasAll keys) found = No
path_answer (query.HasAny keys) found = No
