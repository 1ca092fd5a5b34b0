use Rattle.gx_bytes.proofs.Spellings.{varint_front, none_weaker, number_again}
use Rattle.gx_bytes.proofs.varints.varint.Goals as goal

pub returns-clause-none : goal.returns-clause-none
returns-clause-none c =
    none_weaker c.varint_within.result
    (λ none n len fits spelled. let front = varint_front c.args.bytes.now n len c.min.result fits c.min.ensures spelled in none n front.0 fits front.1) c.varint_within.ensures.none

pub returns-clause-again : goal.returns-clause-again
returns-clause-again c = λ n rest fits is.
    number_again c.args.bytes.now rest n c.min.result c.varint_within.result fits c.min.ensures is c.varint_within.ensures.length c.varint_within.ensures.found c.varint_within.ensures.none
