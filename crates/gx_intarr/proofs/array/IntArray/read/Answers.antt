-- The elements, and then their numbers.
use Rattle.std.proofs.lemmas.Result.{err_from_is_err_and}
use Rattle.gx_intarr.proofs.NumberLemmas.{answers_array, no_array}
use Rattle.gx_intarr.proofs.array.IntArray.read.Goals as goal

pub returns-in_err-texts : goal.returns-in_err-texts
returns-in_err-texts c =
    let p = err_from_is_err_and c.from_residual.result c.from_residual.ensures.1 in
    rw (p.1, p.2) (no_array c.args.text.now c.in_err-texts.field-0.0 c.in_err-texts.ensures)

pub returns : goal.returns
returns c = answers_array c.args.text.now c.in_ok-texts.texts c.from_texts.result c.in_ok-texts.ensures c.from_texts.ensures
