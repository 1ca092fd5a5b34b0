use Rattle.std.proofs.Common.{◌*◌, ℕ, Some, ◌∙◌, ap, subst}
use Rattle.gx_words.specs.Image.{Image, Torn}
use Rattle.gx_log.specs.Records.{piece}
use Rattle.gx_pager.proofs.Pieces.{written_piece}
use Rattle.gx_pager.proofs.places.write_page.Goals as goal

pub returns-clause-written : goal.returns-clause-written
returns-clause-written g c = λ tells.
    let old = (g.D.Disk.told c.args.disk.now).pages in
    ap (λ (i : Image). piece i.pages c.args.page) (c.in-Ok.ensures.written tells)
    ∙ written_piece old c.bytes.result.now c.args.page c.bytes.ensures.len ∙ ap Some c.bytes.ensures.value

pub returns-in-Err-clause-images : goal.returns-in-Err-clause-images
returns-in-Err-clause-images g c = λ image left.
    let d = c.write_at.ensures.images image left in
    (d.0, d.1, subst (λ (n : ℕ). Torn (c.args.page * 8192) n d.0.pages image.pages) c.bytes.ensures.len d.2.0, d.2.1)
