-- One map to its bytes, and one list of bytes to a map.
use Rattle.gx_hstore.proofs.EncodingLemmas.{one_map_encoded, one_bytes}
use Rattle.gx_hstore.proofs.laws.one_encoding.Goals as goal

pub returns-clause-maps : goal.returns-clause-maps
returns-clause-maps c = one_map_encoded

pub returns-clause-bytes : goal.returns-clause-bytes
returns-clause-bytes c = one_bytes
