-- Each end of the decoder, and one entry more.
use Rattle.std.proofs.Common.{sym, ◌∙◌}
use Rattle.gx_hstore.specs.Encoding.{IsEncoded}
use Rattle.gx_hstore.proofs.Progress.{step, ended, refused}
use Rattle.gx_hstore.proofs.PairLemmas.{no_length, some_length}
use Rattle.gx_hstore.proofs.EncodingLemmas.{entry_found, entry_only, no_entries}
use Rattle.gx_hstore.proofs.encoding.entries_of.Goals as goal

pub returns-in_default : goal.returns-in_default
returns-in_default c =
    let none = rw c.in_default.is at c.in_ok-pair.ensures in
    refused IsEncoded c.args.bytes.now c.entries.rest.now c.entries.pairs.items c.entries.invariant (no_entries c.entries.rest.now (some_length c.entries.rest.now (sym c.entries-test.true ∙ c.is_empty.ensures)) none)

pub entries-preserved : goal.entries-preserved
entries-preserved c =
    let taken = rw c.in-Some.is at c.in_ok-pair.ensures in
    rw c.in_ok-push.ensures.items (
    step IsEncoded c.args.bytes.now c.entries.rest.now c.in-Some.after.now c.entries.pairs.items c.in-Some.pair c.entries.invariant
    (entry_found c.entries.rest.now c.in-Some.after.now c.in-Some.pair taken)
    (entry_only c.entries.rest.now c.in-Some.after.now c.in-Some.pair taken)
    )

pub returns : goal.returns
returns c =
    ended IsEncoded c.args.bytes.now c.entries.rest.now c.entries.pairs.items c.entries.invariant (no_length c.entries.rest.now (sym c.entries-test.false ∙ c.is_empty.ensures))
