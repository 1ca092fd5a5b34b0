-- Equal keys are the same.
use Rattle.std.proofs.Common.{◌∙◌, sym}
use Rattle.gx_class_intset.specs.Laws.{keys_same}
use Rattle.gx_class_intset.proofs.class.IntClassGistClass.same.Goals as goal

pub returns : goal.returns
returns c = let told = keys_same c.args.a.now c.args.b.now in (λ e. told.0 (sym c.same_keys.ensures ∙ e), λ e. c.same_keys.ensures ∙ told.1 e)
