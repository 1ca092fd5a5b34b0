-- What a search reads of an index, and what it makes of it.
use Rattle.std.specs.Prelude.{ℕ, ◌+◌, ◌==◌, Bool, List, [], ◌∷◌, ◌++◌, length, map, filter}
use Rattle.std.specs.List.{list_any}
use Rattle.gx_words.specs.PageMap.{PageMap}
use Rattle.gx_pages.specs.declared.row.RowRef.{RowRef}
use Rattle.gx_gist.specs.declared.test.Test.{Test}
use Rattle.gx_gin.specs.declared.wanted.Mode.{Mode}
use Rattle.gx_gin.specs.declared.wanted.Mode.TheVariants.{Default, IncludeEmpty, All}
use Rattle.gx_gin_scan.specs.Gins.{HoldsLists, pages_under}
use Rattle.gx_gin_scan.specs.Lists.{Lists, isnt_no, rows_under}

-- one of the rows has this number
abbrev pub has : List RowRef → ℕ → Bool
has rows number = list_any (λ row. row.number == number) rows

-- the keys of items, and the placeholder, under which rows without items stand
abbrev pub item_key : List ℕ → List ℕ
item_key item = 1 ∷ item

abbrev pub placeholder : List ℕ
placeholder = 0 ∷ []

-- the rows of each item
abbrev pub lists_of : Lists → List (List ℕ) → List (List RowRef)
lists_of lists items = map (λ item. rows_under lists (item_key item)) items

-- lists one behind another
abbrev pub joined : List (List RowRef) → List RowRef
joined [] = []
joined (rows ∷ more) = rows ++ joined more

-- the rows of all keys
abbrev pub all_rows : Lists → List RowRef
all_rows [] = []
all_rows (list ∷ lists) = list.1 ++ all_rows lists

-- the rows that a query in this mode looks at, where these are the lists of its items
abbrev pub looked_at : Lists → Mode → List (List RowRef) → List RowRef
looked_at lists Default found = joined found
looked_at lists IncludeEmpty found = joined found ++ rows_under lists placeholder
looked_at lists All found = all_rows lists

-- for each list, whether the row of this number is in it
abbrev pub marks : List (List RowRef) → ℕ → List Bool
marks lists number = map (λ rows. has rows number) lists

-- the rows whose marks don't rule them out
abbrev pub picked : (List Bool → Test) → List (List RowRef) → List RowRef → List RowRef
picked passes lists rows = filter (λ row. isnt_no (passes (marks lists row.number))) rows

-- the keys that a query reads one by one: those of its items, and the placeholder
abbrev pub more_keys : Mode → List (List ℕ)
more_keys Default = []
more_keys IncludeEmpty = placeholder ∷ []
more_keys All = []

abbrev pub keys_read : Mode → List (List ℕ) → List (List ℕ)
keys_read mode wanted = map item_key wanted ++ more_keys mode

-- how many pages it takes to read the rows of keys one by one: for each key a page of each level of the entry tree, and the pages that the key's list takes outside of its entry
abbrev pub pages_read : (map_of : PageMap) (count root : ℕ) (lists : Lists) (feet : List ℕ) → HoldsLists map_of count root lists feet → List (List ℕ) → ℕ
pages_read map_of count root lists feet held [] = 0
pages_read map_of count root lists feet held (key ∷ keys) =
    held.held.tree.0 + 1 + length (pages_under map_of count held.entries lists held.trees held.are key) + pages_read map_of count root lists feet held keys
