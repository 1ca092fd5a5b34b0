use Rattle.std.proofs.Common.{Err, refl}
use Rattle.gx_pages.specs.declared.error.PageError.TheVariants as error
use Rattle.gx_pager.proofs.Opening.{err_same}
use Rattle.gx_pager.proofs.pager.Pager.open.Goals as goal

pub returns-in-Err-clause-stands : goal.returns-in-Err-clause-stands
returns-in-Err-clause-stands g c = λ tells map has is at expected found same.
    let e = c.in-Err.error in
    let broken = err_same e (error.Broken at expected found) (Err e) refl same in
    c.in-Err.ensures.stands tells map has is at expected found (λ i. Err (broken i))

pub returns-in-Err-clause-refused : goal.returns-in-Err-clause-refused
returns-in-Err-clause-refused g c = (c.read_file.new.disk, c.read_file.ensures.opening, c.in-Err.ensures.cause)
