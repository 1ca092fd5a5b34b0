-- Where no key or no value comes, there is no entry.
use Rattle.gx_hstore.proofs.EncodingLemmas.{no_entry_key, no_entry_value}
use Rattle.gx_hstore.proofs.encoding.take_entry.Goals as goal

pub returns-in_default : goal.returns-in_default
returns-in_default c = no_entry_key c.args.bytes.now c.in_default.ensures

pub returns-in_default-take_value : goal.returns-in_default-take_value
returns-in_default-take_value c = no_entry_value c.args.bytes.now c.in-Some.key.now c.in-Some.behind_key.now c.in-Some.ensures c.in_default-take_value.ensures
