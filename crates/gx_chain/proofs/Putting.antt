-- A page of a chain is put with other items.
use Rattle.std.proofs.Common.{◌≡◌, ◌≢◌, ℕ, ◌<◌, List, ◌∷◌, ◌++◌, Option, Some, refl, sym, ◌∙◌, ap, subst, append_assoc, append-nil, length-append, arith}
use Rattle.std.specs.List.{AllByRecursion}
use Rattle.gx_words.specs.PageMap.{PageMap, with_page}
use Rattle.gx_pages.specs.declared.store.Pages.{Ghosts}
use Rattle.gx_pages.specs.Frees.{IsApart, IsFreeList}
use Rattle.gx_pages.specs.Footprints.{IsOutside, ChangesOnly, KeepsPages, grown}
use Rattle.gx_pages.proofs.Footprints as feet
use Rattle.gx_slot.specs.Slots.{Slots, Fits, spelling}
use Rattle.gx_chain.specs.declared.chain.Chain.{Chain}
use Rattle.gx_chain.specs.Chains.{Link, IsLink, AreLinked, Holds, HoldsBeside, first_of, pages_of, slots}
use Rattle.gx_chain.proofs.Links.{pages_mid, first_same, last_mid, linked_mid, linked_same, linked_stays}

module _ {P : Type 0} (g : Ghosts P) (old new : P) (page : ℕ) (from : Slots) (bytes : List ℕ) (spelled : bytes ≡ spelling from) (fits : Fits from)
    (put : g.map new ≡ with_page (g.map old) page bytes) (count : g.count new ≡ g.count old) where
  module _ (chain : Chain) (front back : List Link) (items : List (Option (List ℕ))) (free : List ℕ) (held : HoldsBeside g old from.kind chain (front ++ (page, items) ∷ back) free)
      (is : from ≡ slots from.kind (first_of back) from.items) where
    abbrev before : List Link
    before = front ++ (page, items) ∷ back

    abbrev after : List Link
    after = front ++ (page, from.items) ∷ back

    same_feet : pages_of after ≡ pages_of before
    same_feet = pages_mid front (page, from.items) back ∙ sym (pages_mid front (page, items) back)

    linked : AreLinked (g.map old) from.kind ((page, items) ∷ back)
    linked = linked_mid (g.map old) from.kind front (page, items) back held.held.linked

    apart_mid : IsApart (pages_of front ++ page ∷ (pages_of back ++ free))
    apart_mid = subst (λ (l : List ℕ). IsApart l) (ap (λ (l : List ℕ). l ++ free) (pages_mid front (page, items) back) ∙ append_assoc (pages_of front) (page ∷ pages_of back) free) held.apart

    behind : IsOutside page (pages_of back ++ free)
    behind = feet.apart_behind (pages_of front) page (pages_of back ++ free) apart_mid

    same : (pages : List ℕ) → IsOutside page pages → AllByRecursion (λ n. g.map new n ≡ g.map old n) pages
    same pages outside = subst (λ (m : PageMap). AllByRecursion (λ (n : ℕ). m n ≡ g.map old n) pages) (sym put) (feet.put_same (g.map old) page bytes pages outside)

    new_link : IsLink (g.map new) from.kind (first_of back) (page, from.items)
    new_link = record {
      some = linked.0.some;
      is = ap (λ (m : PageMap). m page) put ∙ feet.with_same (g.map old) page bytes ∙ ap (λ (l : List ℕ). Some l) (spelled ∙ ap (λ (s : Slots). spelling s) is);
      fits = subst (λ (s : Slots). Fits s) is fits;
    }

    new_holds : Holds (g.map new) (g.count new) from.kind chain after
    new_holds = record {
      linked = linked_same (g.map old) (g.map new) from.kind front (page, items) (page, from.items) back back refl (same (pages_of front) (feet.apart_before (pages_of front) page (pages_of back ++ free) apart_mid))
          held.held.linked (new_link, linked_stays (g.map old) (g.map new) from.kind 0 back (same (pages_of back) (feet.all_left (λ (n : ℕ). page ≢ n) (pages_of back) free behind)) linked.1);
      apart = subst (λ (l : List ℕ). IsApart l) (sym same_feet) held.held.apart;
      below = subst (λ (n : ℕ). AllByRecursion (λ (p : ℕ). p < n) (pages_of after)) (sym count)
          (subst (λ (l : List ℕ). AllByRecursion (λ (p : ℕ). p < g.count old) l) (sym same_feet) held.held.below);
      some = omega (arith, length-append front ((page, from.items) ∷ back));
      first = held.held.first ∙ first_same front (page, items) (page, from.items) back back refl;
      last = held.held.last ∙ last_mid 0 front (page, items) back ∙ sym (last_mid 0 front (page, from.items) back);
      bound = (let bound = held.held.bound in omega (arith, bound, length-append front ((page, items) ∷ back), length-append front ((page, from.items) ∷ back)));
    }

    new_frees : IsFreeList (g.map new) (g.count new) free
    new_frees =
        subst (λ (m : PageMap). IsFreeList m (g.count new) free) (sym put)
        (subst (λ (n : ℕ). IsFreeList (with_page (g.map old) page bytes) n free) (sym count)
        (feet.free_list_put (g.map old) (g.count old) page bytes free linked.0.some (feet.all_right (λ (n : ℕ). page ≢ n) (pages_of back) free behind) held.frees))

    only : ChangesOnly (g.map old) (g.map new) (pages_of before ++ pages_of after)
    only n some outside =
        let mid : IsOutside n (pages_of front ++ page ∷ pages_of back) =
        subst (λ (l : List ℕ). IsOutside n l) (pages_mid front (page, items) back) (feet.all_left (λ (other : ℕ). n ≢ other) (pages_of before) (pages_of after) outside) in
        ap (λ (m : PageMap). m n) put ∙ feet.with_other (g.map old) page bytes n (feet.all_right (λ (other : ℕ). n ≢ other) (pages_of front) (page ∷ pages_of back) mid).0

    pub put_held : HoldsBeside g new from.kind chain after free × KeepsPages g old new (pages_of before) free (pages_of after) free
    put_held = (
      record { held = new_holds; frees = new_frees; apart = subst (λ (l : List ℕ). IsApart (l ++ free)) (sym same_feet) held.apart },
      feet.keeps_of g old new (pages_of before) free (pages_of after) free (omega (arith, count)) only
          (feet.header_same (g.map old) (g.map old) (g.map new) (feet.header_none (g.map old)) (ap (λ (m : PageMap). m 0) put ∙ feet.with_other (g.map old) page bytes 0 (λ same. linked.0.some (sym same))))
          new_frees
          (feet.same_pages (pages_of before ++ free ++ grown (g.count old) (g.count new)) (pages_of after ++ free)
          (ap (λ (l : List ℕ). pages_of before ++ free ++ l) (feet.same_count (g.count old) (g.count new) (sym count)) ∙ append-nil (pages_of before ++ free)
          ∙ ap (λ (l : List ℕ). l ++ free) (sym same_feet))),
    )
