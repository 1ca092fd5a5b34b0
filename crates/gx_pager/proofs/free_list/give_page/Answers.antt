use Rattle.std.proofs.Common.{◌≡◌, ◌∙◌, ℕ, List, Some, sym, ap, subst, arith}
use Rattle.gx_bytes.specs.Fields.{le64, paste}
use Rattle.gx_words.specs.PageMap.{PageMap, with_page}
use Rattle.gx_pages.specs.Databases.{chained}
use Rattle.gx_pages.specs.Frees.{KeepsHeader, Given, free_page_of}
use Rattle.gx_pages.proofs.Headers.{first_stays}
use Rattle.gx_pages.proofs.Taking.{at_others, keeps_header, chained_given}
use Rattle.gx_pager.specs.Layers.{map_over, pieces}
use Rattle.gx_pager.specs.Maps.{cut}
use Rattle.gx_pager.specs.Memory.{memory, now_map}
use Rattle.gx_pager.proofs.Maps.{cut_two, zero_there}
use Rattle.gx_pager.proofs.free_list.give_page.Goals as goal

pub returns-clause-others : goal.returns-clause-others
returns-clause-others c = λ image n nonzero other.
    let l = c.args.layers.now in
    let page = c.args.page in
    let map = now_map l image in
    let h = c.copy.new.into in
    let first = c.first_free.result in
    let is : now_map c.write_both.new.self image ≡ chained map h page first =
    ap (λ (k : ℕ). cut k (map_over (memory c.write_both.new.self) (pieces image))) c.in-Ok.ensures.count
    ∙ ap (λ (m : PageMap). cut l.count (map_over m (pieces image))) c.in-Ok.ensures.written
    ∙ cut_two l.count (memory l) (pieces image) page c.set_first_free.new.header c.free_page-free.result l.some c.requires.below
    ∙ ap (λ (k : List ℕ). with_page (with_page map 0 k) page c.free_page-free.result) c.set_first_free.ensures.field
    ∙ ap (λ (k : List ℕ). with_page (with_page map 0 (paste h 16 (le64 page))) page k) c.free_page-free.ensures in
    (λ i. is i n) ∙ at_others map page (paste h 16 (le64 page)) (free_page_of first) n nonzero other

pub returns-clause-given : goal.returns-clause-given
returns-clause-given c = λ image pages list apart.
    let l = c.args.layers.now in
    let page = c.args.page in
    let map = now_map l image in
    let h = c.copy.new.into in
    let first = c.first_free.result in
    let there : map 0 ≡ Some h = zero_there l image ∙ ap Some (sym (c.copy.ensures ∙ c.header_page.ensures)) in
    let is : now_map c.write_both.new.self image ≡ chained map h page first =
    ap (λ (k : ℕ). cut k (map_over (memory c.write_both.new.self) (pieces image))) c.in-Ok.ensures.count
    ∙ ap (λ (m : PageMap). cut l.count (map_over m (pieces image))) c.in-Ok.ensures.written
    ∙ cut_two l.count (memory l) (pieces image) page c.set_first_free.new.header c.free_page-free.result l.some c.requires.below
    ∙ ap (λ (k : List ℕ). with_page (with_page map 0 k) page c.free_page-free.result) c.set_first_free.ensures.field
    ∙ ap (λ (k : List ℕ). with_page (with_page map 0 (paste h 16 (le64 page))) page k) c.free_page-free.ensures in
    subst (λ (m : PageMap). Given map m l.count page pages) (sym is)
    (chained_given map l.count h first there c.first_free.ensures.first c.first_free.ensures.fits page c.requires.nonzero c.requires.below (omega (arith, c.requires.below, l.bounded)) c.first_free.ensures.len pages list apart)

pub returns-clause-header : goal.returns-clause-header
returns-clause-header c = λ image.
    let l = c.args.layers.now in
    let page = c.args.page in
    let map = now_map l image in
    let h = c.copy.new.into in
    let first = c.first_free.result in
    let there : map 0 ≡ Some h = zero_there l image ∙ ap Some (sym (c.copy.ensures ∙ c.header_page.ensures)) in
    let is : now_map c.write_both.new.self image ≡ chained map h page first =
    ap (λ (k : ℕ). cut k (map_over (memory c.write_both.new.self) (pieces image))) c.in-Ok.ensures.count
    ∙ ap (λ (m : PageMap). cut l.count (map_over m (pieces image))) c.in-Ok.ensures.written
    ∙ cut_two l.count (memory l) (pieces image) page c.set_first_free.new.header c.free_page-free.result l.some c.requires.below
    ∙ ap (λ (k : List ℕ). with_page (with_page map 0 k) page c.free_page-free.result) c.set_first_free.ensures.field
    ∙ ap (λ (k : List ℕ). with_page (with_page map 0 (paste h 16 (le64 page))) page k) c.free_page-free.ensures in
    subst (λ (m : PageMap). KeepsHeader map m) (sym is)
    (keeps_header map page h (paste h 16 (le64 page)) (free_page_of first) there c.requires.nonzero (first_stays h page c.first_free.ensures.len))
