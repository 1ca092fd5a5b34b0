use Rattle.std.proofs.Common.{rules, ◌≡◌, ℕ, List, [], ◌∷◌, ◌++◌, Option, Some, Box, refl, sym, ◌∙◌, ap, subst, arith, append_assoc}
use Rattle.std.proofs.lemmas.List.{append-nil}
use Rattle.std.proofs.lemmas.Map.Iter.{rest_more, rest_all}
use Rattle.std.specs.declared.alloc.Global.{Global}
use Rattle.std.specs.BTreeMap.{is_at}
use Rattle.std.specs.List.Sorted.{IsStrictlySortedBy}
use Rattle.std.specs.Map.{lookup, keys_of}
use Rattle.std.specs.Map.Iter.{deref_pair}
use Rattle.std.specs.Ordering.{nat_cmp}
use Rattle.gx_words.proofs.Runs.{no_call}
use Rattle.gx_log.specs.Records.{page_in}
use Rattle.gx_pager.specs.Layers.{shown}
use Rattle.gx_pager.specs.Maps.{cut}
use Rattle.gx_pager.specs.Placed.{IsPlaced, due}
use Rattle.gx_pager.proofs.Moments.{leaves_then, goes_then}
use Rattle.gx_pager.proofs.Placing.{Places, placed_start, all_found, all_stay, all_push}
use Rattle.gx_pager.proofs.Records.{found_at}
use Rattle.gx_pager.proofs.checkpoint.write_pages.Goals as goal

pub loop-page-init : goal.loop-page-init
loop-page-init g c =
    let D = g.D.Disk in
    let overlay = due c.args.count c.args.kept.now in
    let disk = c.args.disk.now in
    record {
      done = [];
      split = search rules;
      images = λ ready image left. placed_start overlay (D.told disk) image (ready.pages image left) (ready.log image left);
      time = λ ready. no_call D.moment D.may_have_left_since disk (λ m. IsPlaced overlay (D.told disk) m.image × (m.bytes ≡ (D.said disk).bytes));
      told = λ tells. placed_start overlay (D.told disk) (D.told disk) refl refl;
      written = λ tells. tt;
      said = refl;
      goes = record { later = omega arith; keeps = λ t m le past. past };
      faults = omega arith;
    }

-- the place of this step is the page's
there : (entries done rest : Places) (page count : ℕ) (place : Option (Box (List ℕ) Global)) → entries ≡ done ++ (page, place) ∷ rest
    → lookup (is_at (nat_cmp page)) (done ++ (page, place) ∷ rest) ≡ Some place
    → cut count (λ n. shown (lookup (is_at (nat_cmp n)) entries)) page ≡ cut count (λ n. page_in place) page
there entries done rest page count place split found =
    ap (λ (o : Option (List ℕ)). cut count (λ n. o) page) (ap (λ (es : Places). shown (lookup (is_at (nat_cmp page)) es)) split ∙ ap shown found)

pub loop-page-preserved : goal.loop-page-preserved
loop-page-preserved g c =
    let D = g.D.Disk in
    let i = c.loop-page.invariant in
    let page = c.in-Some.page.now in
    let place = c.in-Some.place.now in
    let more : c.loop-page.page-iterator ≡ (page, place) ∷ c.next.new.self =
    rest_more deref_pair c.loop-page.page-iterator c.next.new.self c.next.result (c.in-Some.page, c.in-Some.place) c.in-Some.is c.next.ensures.steps in
    let here : c.args.kept.now.entries ≡ i.done ++ (page, place) ∷ c.next.new.self = i.split ∙ ap (λ (l : Places). i.done ++ l) more in
    let sorted = subst (λ (es : Places). IsStrictlySortedBy nat_cmp (keys_of es)) here c.len-count.ensures.ordered in
    let found = found_at i.done c.next.new.self page place sorted in
    let overlay = due c.args.count c.args.kept.now in
    let is = there c.args.kept.now.entries i.done c.next.new.self page c.args.count place here found.0 in
    let start = D.told c.args.disk.now in
    record {
      done = i.done ++ (page, place) ∷ [];
      split = here ∙ sym (append_assoc i.done ((page, place) ∷ []) c.next.new.self);
      images = λ ready. c.write_place.ensures.images overlay start is (i.images ready);
      time = λ ready. leaves_then D (IsPlaced overlay start) c.args.disk.now c.loop-page.disk c.write_place.new.disk i.said (i.time ready)
          (c.write_place.ensures.time overlay start is (i.images ready));
      told = λ tells. c.write_place.ensures.told tells overlay start is (i.told tells);
      written = λ tells.
          all_push (D.told c.write_place.new.disk).pages c.args.count i.done (page, place)
          (all_stay (D.told c.loop-page.disk).pages (D.told c.write_place.new.disk).pages c.args.count page (c.write_place.ensures.others tells) i.done found.1 (i.written tells))
          (c.in-Ok.ensures.written tells);
      said = c.write_place.ensures.said ∙ i.said;
      goes = goes_then D c.args.disk.now c.loop-page.disk c.write_place.new.disk i.goes c.write_place.ensures.goes;
      faults = omega (arith, i.faults, c.write_place.ensures.cause.later);
    }

pub returns-in-Err-clause-images : goal.returns-in-Err-clause-images
returns-in-Err-clause-images g c = λ ready.
    let D = g.D.Disk in
    let i = c.loop-page.invariant in
    let page = c.in-Some.page.now in
    let place = c.in-Some.place.now in
    let more : c.loop-page.page-iterator ≡ (page, place) ∷ c.next.new.self =
    rest_more deref_pair c.loop-page.page-iterator c.next.new.self c.next.result (c.in-Some.page, c.in-Some.place) c.in-Some.is c.next.ensures.steps in
    let here : c.args.kept.now.entries ≡ i.done ++ (page, place) ∷ c.next.new.self = i.split ∙ ap (λ (l : Places). i.done ++ l) more in
    let sorted = subst (λ (es : Places). IsStrictlySortedBy nat_cmp (keys_of es)) here c.len-count.ensures.ordered in
    let found = found_at i.done c.next.new.self page place sorted in
    let is = there c.args.kept.now.entries i.done c.next.new.self page c.args.count place here found.0 in
    c.write_place.ensures.images (due c.args.count c.args.kept.now) (D.told c.args.disk.now) is (i.images ready)

pub returns-in-Err-clause-told : goal.returns-in-Err-clause-told
returns-in-Err-clause-told g c = λ tells.
    let D = g.D.Disk in
    let i = c.loop-page.invariant in
    let page = c.in-Some.page.now in
    let place = c.in-Some.place.now in
    let more : c.loop-page.page-iterator ≡ (page, place) ∷ c.next.new.self =
    rest_more deref_pair c.loop-page.page-iterator c.next.new.self c.next.result (c.in-Some.page, c.in-Some.place) c.in-Some.is c.next.ensures.steps in
    let here : c.args.kept.now.entries ≡ i.done ++ (page, place) ∷ c.next.new.self = i.split ∙ ap (λ (l : Places). i.done ++ l) more in
    let sorted = subst (λ (es : Places). IsStrictlySortedBy nat_cmp (keys_of es)) here c.len-count.ensures.ordered in
    let found = found_at i.done c.next.new.self page place sorted in
    let is = there c.args.kept.now.entries i.done c.next.new.self page c.args.count place here found.0 in
    c.write_place.ensures.told tells (due c.args.count c.args.kept.now) (D.told c.args.disk.now) is (i.told tells)

pub returns-in-Err-clause-time : goal.returns-in-Err-clause-time
returns-in-Err-clause-time g c = λ ready.
    let D = g.D.Disk in
    let i = c.loop-page.invariant in
    let page = c.in-Some.page.now in
    let place = c.in-Some.place.now in
    let more : c.loop-page.page-iterator ≡ (page, place) ∷ c.next.new.self =
    rest_more deref_pair c.loop-page.page-iterator c.next.new.self c.next.result (c.in-Some.page, c.in-Some.place) c.in-Some.is c.next.ensures.steps in
    let here : c.args.kept.now.entries ≡ i.done ++ (page, place) ∷ c.next.new.self = i.split ∙ ap (λ (l : Places). i.done ++ l) more in
    let sorted = subst (λ (es : Places). IsStrictlySortedBy nat_cmp (keys_of es)) here c.len-count.ensures.ordered in
    let found = found_at i.done c.next.new.self page place sorted in
    let overlay = due c.args.count c.args.kept.now in
    let is = there c.args.kept.now.entries i.done c.next.new.self page c.args.count place here found.0 in
    let start = D.told c.args.disk.now in
    leaves_then D (IsPlaced overlay start) c.args.disk.now c.loop-page.disk c.write_place.new.disk i.said (i.time ready) (c.write_place.ensures.time overlay start is (i.images ready))

pub returns-clause-written : goal.returns-clause-written
returns-clause-written g c = λ tells n bytes small is.
    let i = c.loop-page.invariant in
    let none : c.loop-page.page-iterator ≡ [] = rest_all deref_pair c.loop-page.page-iterator c.next.new.self c.next.result c.in-None.is c.next.ensures.steps in
    let all : c.args.kept.now.entries ≡ i.done = i.split ∙ ap (λ (l : Places). i.done ++ l) none ∙ append-nil i.done in
    all_found (g.D.Disk.told c.loop-page.disk).pages c.args.count i.done (i.written tells) n bytes small
    (ap (λ (es : Places). shown (lookup (is_at (nat_cmp n)) es)) (sym all) ∙ is)
