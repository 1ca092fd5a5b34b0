-- The map of a new database.
use Rattle.std.proofs.Common.{◌≡◌, ℕ, zero, suc, nat_lt, Bool, false, cond, List, [], ◌∷◌, Some, None, refl, sym, ◌∙◌, ap, arith}
use Rattle.std.proofs.lemmas.Bool.Decides.{nat_tests}
use Rattle.gx_words.proofs.Runs.{one_call}
use Rattle.gx_words.specs.Image.{Image}
use Rattle.gx_words.specs.Moments.{Now, Elapses}
use Rattle.gx_disk.specs.declared.disk.Disk.{Ghosts}
use Rattle.gx_log.specs.Disks.{Leaves}
use Rattle.gx_log.specs.Records.{Stands, HasMap, count_in, piece}
use Rattle.gx_pages.specs.Contents.{below, given}
use Rattle.gx_pages.specs.Frees.{HasCount}
use Rattle.gx_pager.specs.Layers.{pieces}
use Rattle.gx_pager.specs.Left.{count_named}
use Rattle.gx_pager.specs.Maps.{cut}
use Rattle.gx_pager.proofs.Moments.{leaves_then}

two_pages : (a b : List ℕ) (image : Image) → piece image.pages 0 ≡ Some a → piece image.pages 1 ≡ Some b → (n : ℕ) → below 2 (given (a ∷ b ∷ [])) n ≡ cut 2 (pieces image) n
two_pages a b image first second zero = sym first
two_pages a b image first second (suc zero) = sym second
two_pages a b image first second (suc (suc n)) =
    let test : nat_lt (suc (suc n)) 2 ≡ false = grind (arith, nat_tests) in
    ap (λ (t : Bool). cond t (Some (given (a ∷ b ∷ []) (suc (suc n)))) None) test ∙ sym (ap (λ (t : Bool). cond t (piece image.pages (suc (suc n))) None) test)

-- an image with two pages and no records
pub two_map : (a b : List ℕ) (image : Image) → Stands [] image.log → piece image.pages 0 ≡ Some a → piece image.pages 1 ≡ Some b → HasCount a 2 → HasMap image (below 2 (given (a ∷ b ∷ [])))
two_map a b image stands first second counted = record {
  all = pieces image;
  pages = record { records = []; counted = stands; are = λ n. refl };
  are = λ n. two_pages a b image first second n ∙ ap (λ (k : ℕ). cut k (pieces image) n) (sym (ap count_in first ∙ count_named a 2 counted (omega arith)));
}

-- calls at whose moments nothing more is answered
module _ {D : Type 0} (g : Ghosts D) where
  abbrev pub Silent : D → D → Type 0
  Silent old new = Leaves g (λ _. Unit {0}) old new

  pub silent_call : (old new : D) (images : Image → Type 0) → Elapses (g.moment old) (g.moment new) (g.may_have_left_since old) (g.may_have_left_since new) (Now images (g.said old).bytes) → Silent old new
  silent_call old new images time = one_call g.moment g.may_have_left_since old new (Now images (g.said old).bytes) (λ m. Unit {0} × (m.bytes ≡ (g.said old).bytes)) time (λ m here. (tt, here.1))

  pub silent_then : (old mid new : D) → g.said mid ≡ g.said old → Silent old mid → Silent mid new → Silent old new
  silent_then = leaves_then g (λ _. Unit {0})
