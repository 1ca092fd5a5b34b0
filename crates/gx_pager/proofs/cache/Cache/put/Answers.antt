use Rattle.std.proofs.Common.{Some, sym, ◌∙◌, ap}
use Rattle.gx_pager.proofs.Cached.{put_agrees}
use Rattle.gx_pager.proofs.cache.Cache.put.Goals as goal

pub returns : goal.returns
returns c = λ map here agrees.
    put_agrees c.put.result c.args.self.now.pages c.put.new.self map c.args.page c.in-Ok.copied c.put.ensures.entries c.put.ensures.err (here ∙ ap Some (sym c.in-Ok.ensures)) agrees
