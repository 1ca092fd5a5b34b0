-- Bytes of pairs that are no valid map are the bytes of none.
use Rattle.std.proofs.Common.{sym, subst, true≢false}
use Rattle.gx_hstore.specs.Map.{IsHstore}
use Rattle.gx_hstore.proofs.EncodingLemmas.{not_valid}
use Rattle.gx_hstore.proofs.hstore.Hstore.decode.Goals as goal

pub returns-then-not-is_hstore : goal.returns-then-not-is_hstore
returns-then-not-is_hstore c =
    let encoded = rw c.in-Some.is at c.in_ok-pairs.ensures in
    not_valid c.args.bytes.now c.in-Some.pairs.items encoded
    (λ valid. true≢false (sym (c.if-not-is_hstore.ensures.1 (subst IsHstore (sym c.as_slice.ensures.value) valid))))
