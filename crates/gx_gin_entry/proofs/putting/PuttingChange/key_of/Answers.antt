use Rattle.std.proofs.Common.{◌≡◌, ◌<◌, ◌≤◌, ℕ, List, length, arith}
use Rattle.gx_gin_entry.proofs.Edits.{item_entry, own_key}
use Rattle.gx_gin_entry.proofs.putting.PuttingChange.key_of.Goals as goal

pub returns-in_default : goal.returns-in_default
returns-in_default c = λ least end front back have. let found = item_entry least end front back c.args.item.now have in c.in_default.ensures found.0 found.1 found.2

pub returns-then-key-gt1901 : goal.returns-then-key-gt1901
returns-then-key-gt1901 c = λ least end front back have.
    let found = item_entry least end front back c.args.item.now have in
    let fits = own_key c.args.item.now c.in-Some.key.now c.in-Some.field-0-1.now found.0 found.1 found.2 c.in-Some.ensures.0 c.in-Some.ensures.1 in
    let short = fits.key in
    let long = c.if-key-gt1901.true in
    omega (arith, short, long)

pub returns : goal.returns
returns c = λ least end front back have.
    let found = item_entry least end front back c.args.item.now have in
    record {
      entry = (c.in-Some.key.now, c.in-Some.field-0-1.now);
      fits = own_key c.args.item.now c.in-Some.key.now c.in-Some.field-0-1.now found.0 found.1 found.2 c.in-Some.ensures.0 c.in-Some.ensures.1;
      spells = c.in-Some.ensures.0;
      is = c.in_ok-own.ensures;
    }
