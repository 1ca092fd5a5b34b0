use Rattle.std.proofs.Common.{◌≡◌, sym, ◌∙◌, ap₂, List, ℕ, ◌++◌, take, drop, take-append-drop}
use Rattle.gx_bytes.specs.Varints.{varint_bytes}
use Rattle.gx_bytes.proofs.Spellings.{varint_only}
use Rattle.gx_posting.proofs.read.take_number.Goals as goal

pub returns : goal.returns
returns c =
    let spelled : take c.in_ok-number.length c.args.bytes.now ≡ varint_bytes c.in_ok-number.number = varint_only _ c.in_ok-number.number c.in_ok-number.ensures.found in
    let back : drop c.in_ok-number.length c.args.bytes.now ≡ c.split_at.result.1.now = sym c.split_at.ensures.back in (
      c.in_ok-number.ensures.fits,
      sym (take-append-drop c.in_ok-number.length c.args.bytes.now) ∙ ap₂ (λ (a b : List ℕ). a ++ b) spelled back,
    )
