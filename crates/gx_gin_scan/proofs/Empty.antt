-- An index without rows.
use Rattle.std.proofs.Common.{ℕ, List, [], ◌∷◌, refl}
use Rattle.gx_pages.specs.declared.store.Pages.{Ghosts}
use Rattle.gx_gin_entry.specs.EntryTrees.{HoldsEntries}
use Rattle.gx_gin_scan.specs.Gins.{HoldsGin}
use Rattle.gx_gin_scan.specs.Lists.{IsIndexOf}

pub no_lists : {P : Type 0} (g : Ghosts P) (new : P) (root : ℕ) (rest : List ℕ) → HoldsEntries g new root [] (root ∷ []) rest → HoldsGin g new root [] (root ∷ []) rest
no_lists g new root rest held = record {
  held = record { entries = []; keys = root ∷ []; trees = []; held = held.held; are = refl; stand = refl };
  frees = held.frees;
  apart = held.apart;
}

pub no_rows : {V : Type 0} (items_of : V → List (List ℕ)) → IsIndexOf items_of [] []
no_rows items_of = record { keys = tt; some = tt; rising = tt; under = λ key. refl }
