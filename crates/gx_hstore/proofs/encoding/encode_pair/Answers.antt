-- The key with a value, and the key with NULL.
use Rattle.std.proofs.Common.{sym, ap, ◌∙◌, Some}
use Rattle.std.proofs.lemmas.Result.{on_ok_weaker}
use Rattle.gx_hstore.proofs.EncodingLemmas.{null_appended, value_appended}
use Rattle.gx_hstore.proofs.encoding.encode_pair.Goals as goal

pub returns-in_ok-push-in-Some : goal.returns-in_ok-push-in-Some
returns-in_ok-push-in-Some c =
    on_ok_weaker c.push_field-in-Some.result
    (value_appended c.args.to.now c.push_field.new.to c.push.new.self c.push_field-in-Some.new.to c.as_slice.result.now c.as_slice-in-Some.result.now c.args.pair.now (c.in-Some.is ∙ ap Some (sym c.as_slice-in-Some.ensures)) c.as_slice.ensures c.in_ok-push_field.ensures.ok c.in_ok-push-in-Some.ensures.ok)
    c.push_field-in-Some.ensures.ok

pub returns-in-None : goal.returns-in-None
returns-in-None c =
    on_ok_weaker c.push-in-None.result
    (null_appended c.args.to.now c.push_field.new.to c.push-in-None.new.self c.as_slice.result.now c.args.pair.now c.in-None.is c.as_slice.ensures c.in_ok-push_field.ensures.ok)
    c.push-in-None.ensures.ok
