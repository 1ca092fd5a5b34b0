use Rattle.std.proofs.Common.{refl}
use Rattle.gx_value.proofs.TableLemmas.{type_again, class_again, one_class}
use Rattle.gx_value.proofs.laws.tables.Goals as goal

pub returns : goal.returns
returns c = record { types = type_again; classes = class_again; names = one_class; defaults = refl }
