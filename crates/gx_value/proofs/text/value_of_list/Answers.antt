use Rattle.gx_value.proofs.NumberLemmas.{are_int4}
use Rattle.gx_value.proofs.text.value_of_list.Goals as goal

pub returns-in_ok-from_texts-in-IntArray-clause-valid : goal.returns-in_ok-from_texts-in-IntArray-clause-valid
returns-in_ok-from_texts-in-IntArray-clause-valid c =
    rw c.in-IntArray.is (are_int4 c.args.texts.now c.in_ok-from_texts-in-IntArray.field-0 c.in_ok-from_texts-in-IntArray.ensures)
