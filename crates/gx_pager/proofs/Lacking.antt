-- A page that isn't in memory stands in no counted record.
use Rattle.std.proofs.Common.{◌≡◌, ℕ, ◌==◌, Bool, true, false, cond, List, Option, Some, None, refl, ◌∙◌, ap}
use Rattle.gx_words.specs.PageMap.{PageMap}
use Rattle.gx_disk.specs.declared.disk.Disk.{Ghosts}
use Rattle.gx_log.specs.Records.{Record, Stands, laid_all}
use Rattle.gx_log.proofs.Bodies.{stands_same}
use Rattle.gx_pager.specs.Known.{IsSound}
use Rattle.gx_pager.specs.Layers.{over, map_over, committed_in}

some_none : (page : List ℕ) → Some page ≡ None → ⊥
some_none page same = cc

lacks : (unit : Option (List ℕ)) (zero : Bool) (header : List ℕ) (above : Option (List ℕ)) → over unit (cond zero (Some header) above) ≡ None → above ≡ None
lacks (Some page) zero header above none = absurd (some_none page none)
lacks None true header above none = absurd (some_none header none)
lacks None false header above none = none

pub uncounted : {D : Type 0} (g : Ghosts D) (disk : D) (front : ℕ) (header : List ℕ) (unit overlay : PageMap) (page : ℕ) → map_over unit (committed_in header overlay) page ≡ None
    → IsSound g disk front header overlay → (records : List Record) → Stands records (g.told disk).log → laid_all None page records ≡ None
uncounted g disk front header unit overlay page none sound records stands =
    ap (λ (r : List Record). laid_all None page r) (stands_same records sound.records (g.told disk).log stands sound.stands)
    ∙ sound.laid None page
    ∙ ap (λ (o : Option (List ℕ)). over o None) (lacks (unit page) (page == 0) header (overlay page) none)
