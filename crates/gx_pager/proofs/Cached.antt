-- A cache whose pages are those of a map keeps to it.
use Rattle.std.proofs.Common.{◌≡◌, inl, inr, ℕ, List, Some, Box, Result, Ok, Err, OnOk, OnErr, Contains, nat_eq, eqb-true, sym, ◌∙◌, ap, subst}
use Rattle.std.specs.declared.alloc.Global.{Global}
use Rattle.std.specs.Map.{lookup}
use Rattle.lru.specs.LruCache.{LruCache, lru_cache, promoted, put_entries}
use Rattle.lru.proofs.CallerLemmas.{Contains-lookup, Contains-promoted, Contains-put_entries}
use Rattle.gx_words.specs.PageMap.{PageMap}
use Rattle.gx_pager.specs.Cached.{Agrees}

abbrev pub Cached : Type 0
Cached = List (ℕ × Box (List ℕ) Global)

pub found_agrees : (map : PageMap) (entries : Cached) (page : ℕ) (kept : Box (List ℕ) Global) → lookup (nat_eq page) entries ≡ Some kept → Agrees map entries → map page ≡ Some kept.value
found_agrees map entries page kept there agrees =
    let at = Contains-lookup (nat_eq page) entries kept there in
    ap map (eqb-true page at.0 at.2) ∙ agrees at.0 kept at.1

pub promoted_agrees : (map : PageMap) (entries now : Cached) (page : ℕ) → now ≡ promoted (nat_eq page) entries → Agrees map entries → Agrees map now
promoted_agrees map entries now page is agrees k kept there =
    agrees k kept (Contains-promoted (nat_eq page) entries (k, kept) (subst (λ (l : Cached). Contains l (k, kept)) is there))

put_there : (map : PageMap) (old : LruCache ℕ (Box (List ℕ) Global)) (page : ℕ) (kept : Box (List ℕ) Global) → map page ≡ Some kept.value → Agrees map old.entries
    → Agrees map (put_entries nat_eq old page kept)
put_there map old page kept here agrees k other there = elim (Contains-put_entries nat_eq old page kept (k, other) there) [
  | inl was ↦ agrees k other was
  | inr put ↦
      let at : k ≡ page = elim put.1 [ inl same ↦ same | inr equal ↦ sym (eqb-true page k equal.2) ] in
      ap map at ∙ here ∙ ap (λ (b : Box (List ℕ) Global). Some b.value) (sym put.0)
]

pub put_agrees : {X E : Type 0} (result : Result X E) (old new : LruCache ℕ (Box (List ℕ) Global)) (map : PageMap) (page : ℕ) (kept : Box (List ℕ) Global)
    → OnOk result (new ≡ lru_cache (put_entries nat_eq old page kept) old.cap) → OnErr result (new ≡ old) → map page ≡ Some kept.value → Agrees map old.entries → Agrees map new.entries
put_agrees (Ok x) old new map page kept done same here agrees k other there =
    put_there map old page kept here agrees k other (subst (λ (c : LruCache ℕ (Box (List ℕ) Global)). Contains c.entries (k, other)) done there)
put_agrees (Err e) old new map page kept done same here agrees k other there =
    agrees k other (subst (λ (c : LruCache ℕ (Box (List ℕ) Global)). Contains c.entries (k, other)) same there)
