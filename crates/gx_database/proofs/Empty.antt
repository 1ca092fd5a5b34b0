-- The pages of an empty database stand for it.
use Rattle.std.proofs.Common.{◌≡◌, ℕ, ◌+◌, ◌-◌, ◌^◌, ◌<◌, ◌≤◌, List, [], ◌∷◌, ◌++◌, take, drop, replicate, Some, refl, sym, ◌∙◌, ap, append-nil, arith}
use Rattle.std.proofs.lemmas.List.Sorted.{IsPermutation-refl}
use Rattle.gx_bytes.specs.Fields.{le16, le32, le64}
use Rattle.gx_pages.specs.Databases.{header_of, catalog_page, empty_pages}
use Rattle.gx_pages.specs.Frees.{HasCount}
use Rattle.gx_pages.proofs.Emptiness.{empty_header, empty_catalog, empty_above, none_free}
use Rattle.gx_slot.specs.Slots.{spelling, taken}
use Rattle.gx_chain.specs.Chains.{IsLink, slots}
use Rattle.gx_catalog.specs.Catalogs.{Stores}
use Rattle.gx_catalog.specs.Validity.{AreCatalog}
use Rattle.gx_model.specs.Database.{IsValid, empty, most_tables, most_indexes}
use Rattle.gx_database.specs.Standing.{HasHeader, StandsFor}

empty_page : catalog_page ≡ spelling (slots 3 0 [])
unfolding catalog_page spelling le64 le16
empty_page = ap (λ (zs : List ℕ). 3 ∷ 0 ∷ le16 0 ++ le16 8192 ++ le16 0 ++ le64 0 ++ zs) (sym (append-nil (replicate 8176 0)))

first_link : IsLink empty_pages 3 0 (1, [])
first_link = record {
  some = λ e. omega arith;
  is = empty_catalog ∙ ap (λ (page : List ℕ). Some page) empty_page;
  fits = record { kind = lit_kind; level = lit_level; next = lit_next; room = lit_room };
}
  where
    lit_kind : 3 < 2 ^ 8
    lit_kind = omega arith

    lit_level : 0 < 2 ^ 8
    lit_level = omega arith

    lit_next : 0 < 2 ^ 64
    lit_next = omega arith

    lit_room : taken [] ≤ 8176
    lit_room = omega arith

empty_valid : IsValid empty
empty_valid =
    let few : 0 ≤ most_tables = omega arith in
    let few_indexes : 0 ≤ most_indexes = omega arith in
    record { tables = tt; names = tt; few = few; indexes = tt; index_names = tt; few_indexes = λ name. few_indexes; no_index = refl }

empty_catalog_valid : AreCatalog [] []
empty_catalog_valid =
    let few : 0 ≤ 256 = omega arith in
    record { each_table = tt; few = few; names = tt; numbers = tt; each_index = tt; index_names = tt; few_on_each = tt }

empty_stored : Stores empty_pages 2 [] [] (1 ∷ [])
empty_stored =
    let below : 1 < 2 = omega arith in
    record {
      links = (1, []) ∷ [];
      linked = (first_link, tt);
      first = refl;
      below = (below, tt);
      stand = refl;
      spelled = record { items = []; fit = tt; spelled = refl; in_tables = refl; in_indexes = refl };
      valid = empty_catalog_valid;
    }

empty_mark : take 8 (header_of 2) ≡ le32 1481197392 ++ le32 2
unfolding header_of le32
empty_mark = refl

empty_counted : HasCount (header_of 2) 2
unfolding header_of le32 le64
empty_counted = refl

empty_rest : drop 24 (header_of 2) ≡ le64 1 ++ replicate 8160 0
unfolding header_of le32 le64
empty_rest = refl

empty_has_header : HasHeader empty_pages 2
empty_has_header =
    let least : 2 ≤ 2 = omega arith in
    let most : 2 ≤ 2 ^ 50 = omega arith in
    record { header = header_of 2; at_zero = empty_header; mark = empty_mark; counted = empty_counted; rest = empty_rest; least = least; most = most }

pub empty_stands : StandsFor empty_pages empty
empty_stands = record {
  valid = empty_valid;
  count = 2;
  header = empty_has_header;
  ends = empty_above;
  infos = [];
  feet = 1 ∷ [];
  stored = [];
  free = [];
  parts = record { catalog = empty_stored; stored = tt; frees = none_free; once = IsPermutation-refl (0 ∷ 1 ∷ []) };
  tables = (refl, refl);
}
