use Rattle.std.proofs.Common.{◌<◌, ℕ, List, sym, subst}
use Rattle.std.specs.List.{AllByRecursion}
use Rattle.gx_pages.proofs.Footprints.{all_join}
use Rattle.gx_index.specs.Indexed.{valued, nulls_of}
use Rattle.gx_index.proofs.IndexFacts.{index_stays, nulls_lie, values_in}
use Rattle.gx_index.proofs.indexed.Indexed.stays.Goals as goal

pub returns-clause-stays : goal.returns-clause-stays
returns-clause-stays g c old new rows feet before free after rest h keeps apart low =
    let Holds = g.M.Kept.holds c.args.self.now.kept in
    let nulls = c.args.self.now.nulls in
    let count = g.P.Pages.count old in
    let below = subst (λ (f : List ℕ). AllByRecursion (λ (page : ℕ). page < count) f) (sym h.held.stand)
    (all_join (λ (page : ℕ). page < count) h.held.values h.held.others (c.stays.ensures.below (valued rows) (g.P.Pages.map old) count h.held.values h.held.kept)
    (nulls_lie (g.P.Pages.map old) count nulls (nulls_of rows) h.held.others h.held.null)) in
    index_stays g.P.Pages Holds h new before after rest keeps apart low below
    (λ lies. c.stays.ensures.stays old new (valued rows) h.held.values before free after rest (values_in g.P.Pages Holds h) keeps lies low)
    (λ lies. c.nulls_stay.ensures.stays old new nulls (nulls_of rows) h.held.others before free after rest h.held.null keeps lies)
