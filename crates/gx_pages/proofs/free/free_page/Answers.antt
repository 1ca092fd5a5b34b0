use Rattle.std.proofs.Common.{refl, ◌∙◌}
use Rattle.gx_pages.proofs.FreePages.{free_made}
use Rattle.gx_pages.proofs.free.free_page.Goals as goal

pub returns : goal.returns
returns c =
    free_made c.bytes_mut-bytes.result.now _ c.put_u16.new.into c.put_u64.new.into c.args.next (c.bytes_mut-bytes.ensures.value ∙ c.zero-page.ensures) refl c.put_u16.ensures c.put_u64.ensures
