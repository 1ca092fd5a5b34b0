use Rattle.std.proofs.Common.{refl, ◌∙◌}
use Rattle.gx_pages.proofs.Spelling.{catalog_made}
use Rattle.gx_pages.proofs.header.empty_catalog.Goals as goal

pub returns : goal.returns
returns c = catalog_made c.bytes_mut-bytes.result.now _ c.put_u16.new.into (c.bytes_mut-bytes.ensures.value ∙ c.zero-page.ensures) refl c.put_u16.ensures
