use Rattle.std.proofs.Common.{refl}
use Rattle.gx_parse.specs.Said.{DropIndex}
use Rattle.gx_change.proofs.Indexes.{no_index_found}
use Rattle.gx_change.proofs.Refused.{all_refused}
use Rattle.gx_change.proofs.index.drop_index.Goals as goal

pub returns-clause-done : goal.returns-clause-done
returns-clause-done g c =
    all_refused g.P.Pages c.args.pages.now c.args.pages.now (DropIndex c.args.name.now) 12 c.refused.result refl refl (λ tells db s. no_index_found db c.args.name.now s.valid.no_index) c.refused.ensures.reply
