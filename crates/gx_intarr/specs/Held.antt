-- The texts that a list holds.
use Rattle.std.specs.Prelude.{ℕ, List, option_to_list}
use Rattle.gx_intarr.specs.declared.texts.Held.{Held}
use Rattle.gx_intarr.specs.declared.texts.Held.TheVariants as held

abbrev pub texts_of : Held → List (List ℕ)
texts_of (held.Few text) = option_to_list text
texts_of (held.Many texts) = texts.items
