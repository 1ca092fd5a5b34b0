use Rattle.std.proofs.Common.{ℕ, List, take, drop, sym, ◌∙◌, ap, arith}
use Rattle.gx_bytes.specs.Fields.{le64-same}
use Rattle.gx_pager.specs.Memory.{header_now}
use Rattle.gx_pager.proofs.Maps.{zero_there, some_same}
use Rattle.gx_pager.proofs.pager.Pager.header.Goals as goal

pub returns-clause-count : goal.returns-clause-count
returns-clause-count g c =
    let l = c.args.self.now.layers in
    le64-same c.fields_of.result.count l.count c.fields_of.ensures.fits (omega (arith, l.bounded)) (sym c.fields_of.ensures.count ∙ ap (λ (h : List ℕ). take 8 (drop 8 h)) c.header_page.ensures ∙ l.counted)

pub returns-clause-fields : goal.returns-clause-fields
returns-clause-fields g c = λ header there.
    let l = c.args.self.now.layers in
    let f = c.fields_of.ensures in
    let same = some_same header (header_now l) (sym there ∙ zero_there l (g.H.Disk.told c.args.self.now.host.now)) ∙ sym c.header_page.ensures in
    (ap (λ (h : List ℕ). take 4 (drop 4 h)) same ∙ f.format, ap (λ (h : List ℕ). take 8 (drop 8 h)) same ∙ f.count, ap (λ (h : List ℕ). take 8 (drop 16 h)) same ∙ f.free, ap (λ (h : List ℕ). take 8 (drop 24 h)) same ∙ f.catalog)
