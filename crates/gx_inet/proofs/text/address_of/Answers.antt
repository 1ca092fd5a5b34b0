-- A text that std reads as no address spells none.
use Rattle.gx_inet.proofs.TextLemmas.{no_address}
use Rattle.gx_inet.proofs.text.address_of.Goals as goal

pub returns-in-Err : goal.returns-in-Err
returns-in-Err c = no_address c.args.text.now (rw c.as_bytes.ensures.value at c.in-Err.ensures)
