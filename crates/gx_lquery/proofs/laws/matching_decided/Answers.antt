use Rattle.gx_lquery.proofs.TestLemmas.{variant_decided, path_decided, queries_decided}
use Rattle.gx_lquery.proofs.laws.matching_decided.Goals as goal

pub returns : goal.returns
returns c = record { variant = variant_decided; path = path_decided; any = queries_decided }
