use Rattle.std.proofs.Common.{◌≡◌, ℕ, List, sym, ◌∙◌, subst}
use Rattle.gx_pages.specs.Frees.{HasCount}
use Rattle.gx_pages.specs.Databases.{header_of}
use Rattle.gx_pages.proofs.Spelling.{header_made, header_counted}
use Rattle.gx_pages.proofs.header.header_page.Goals as goal

pub returns : goal.returns
returns c =
    let made : c.put_u64-2.new.into ≡ header_of c.args.count = header_made c.bytes_mut-bytes.result.now c.put_u32.new.into c.put_u32-2.new.into c.put_u64.new.into c.put_u64-2.new.into c.args.count
    (c.bytes_mut-bytes.ensures.value ∙ c.zero-page.ensures) c.put_u32.ensures c.put_u32-2.ensures c.put_u64.ensures c.put_u64-2.ensures in
    record { bytes = made; counted = subst (λ (h : List ℕ). HasCount h c.args.count) (sym made) (header_counted c.args.count) }
