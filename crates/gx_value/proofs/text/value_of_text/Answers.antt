use Rattle.gx_value.proofs.NumberLemmas.{are_int4}
use Rattle.gx_value.proofs.text.value_of_text.Goals as goal

pub returns-in_ok-read-in-IntArray-clause-valid : goal.returns-in_ok-read-in-IntArray-clause-valid
returns-in_ok-read-in-IntArray-clause-valid c =
    let spelled = c.in_ok-read-in-IntArray.ensures in
    rw c.in-IntArray.is (are_int4 spelled.texts c.in_ok-read-in-IntArray.field-0 spelled.numbers)
