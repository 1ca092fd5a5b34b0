use Rattle.std.proofs.Common.{ℕ, List, ◌∙◌, ap}
use Rattle.std.specs.BTreeMap.{get}
use Rattle.std.specs.Ordering.{nat_cmp}
use Rattle.gx_words.specs.PageMap.{with_page}
use Rattle.gx_pager.specs.Memory.{memory, committed_memory}
use Rattle.gx_pager.proofs.Maps.{unit_written}
use Rattle.gx_pager.proofs.layers.Layers.overwrite.Goals as goal

pub returns-clause-written : goal.returns-clause-written
returns-clause-written c =
    unit_written (λ n. get nat_cmp c.args.self.now.unit n) (λ n. get nat_cmp (c.get_mut.follows.lender c.copy_in.new.into) n) (committed_memory c.args.self.now) c.args.page c.copy_in.new.into
    ((c.get_mut.follows.holds c.copy_in.new.into).3 c.requires.open).0
    ∙ ap (λ (b : List ℕ). with_page (memory c.args.self.now) c.args.page b) c.copy_in.ensures
