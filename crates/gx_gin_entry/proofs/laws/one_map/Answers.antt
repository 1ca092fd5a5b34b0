use Rattle.std.proofs.Common.{◌≡◌, ◌≤◌, ◌^◌, ℕ, List, arith}
use Rattle.gx_gin_entry.proofs.Once.{map_once}
use Rattle.gx_gin_entry.proofs.laws.one_map.Goals as goal

pub returns : goal.returns
returns g c = λ pages root list other feet more first second.
    map_once (g.P.Pages.map pages) (g.P.Pages.count pages) root list other feet more (let few = g.met.P.Pages.bounded pages in omega (arith, few)) first second
