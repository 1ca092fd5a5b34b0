use Rattle.std.proofs.Common.{◌≡◌, ℕ, List, [], ◌∷◌, sym, ◌∙◌, ap, subst, arith}
use Rattle.gx_words.specs.Image.{Image}
use Rattle.gx_log.specs.Records.{Stands, HasMap, piece}
use Rattle.gx_pages.specs.Contents.{below, given}
use Rattle.gx_pages.specs.Databases.{catalog_page}
use Rattle.gx_pager.proofs.Formatting.{two_map, silent_call, silent_then}
use Rattle.gx_pager.proofs.Placing.{other_stays}
use Rattle.gx_pager.proofs.format.format.Goals as goal

pub returns-clause-empty : goal.returns-clause-empty
returns-clause-empty g c = λ tells image left.
    let D = g.D.Disk in
    let three = c.write_page-2.new.disk in
    let header = c.header_page.result in
    let catalog = c.empty_catalog.result in
    let x = c.in-Ok-sync.ensures.images tells image left in
    let y = c.write_page-2.ensures.images x.0 x.1 in
    let z = c.write_page.ensures.images y.0 y.1 in
    let same_log : image.log ≡ (D.told c.shut_log.new.disk).log = ap (λ (i : Image). i.log) x.2 ∙ y.3 ∙ z.3 ∙ c.in-Ok.ensures.settled tells z.0 z.1 in
    let same_pages : image.pages ≡ (D.told three).pages = ap (λ (i : Image). i.pages) x.2 in
    let first = ap (λ (l : List ℕ). piece l 0) same_pages
    ∙ other_stays (D.told c.write_page.new.disk).pages (D.told three).pages header 1 0 (c.write_page-2.ensures.torn tells) (λ same. omega (arith, same)) (c.in-Ok-write_page.ensures.written tells) in
    let second = ap (λ (l : List ℕ). piece l 1) same_pages ∙ c.in-Ok-write_page-2.ensures.written tells in
    let stands = subst (λ (l : List ℕ). Stands [] l) (sym same_log) (c.in-Ok.ensures.shut tells) in
    let map = two_map header catalog image stands first second c.header_page.ensures.counted in
    subst (λ (h : List ℕ). HasMap image (below 2 (given (h ∷ catalog_page ∷ [])))) c.header_page.ensures.bytes
    (subst (λ (k : List ℕ). HasMap image (below 2 (given (header ∷ k ∷ [])))) c.empty_catalog.ensures map)

pub returns-in-Err-write_page-clause-silent : goal.returns-in-Err-write_page-clause-silent
returns-in-Err-write_page-clause-silent g c =
    let D = g.D.Disk in
    let one = c.shut_log.new.disk in
    let two = c.write_page.new.disk in
    let first = silent_then D c.args.disk.now one two c.shut_log.ensures.said c.shut_log.ensures.silent (silent_call D one two _ c.write_page.ensures.time) in
    first

pub returns-in-Err-write_page-2-clause-silent : goal.returns-in-Err-write_page-2-clause-silent
returns-in-Err-write_page-2-clause-silent g c =
    let D = g.D.Disk in
    let one = c.shut_log.new.disk in
    let two = c.write_page.new.disk in
    let first = silent_then D c.args.disk.now one two c.shut_log.ensures.said c.shut_log.ensures.silent (silent_call D one two _ c.write_page.ensures.time) in
    let three = c.write_page-2.new.disk in
    let second = silent_then D c.args.disk.now two three (c.write_page.ensures.said ∙ c.shut_log.ensures.said) first (silent_call D two three _ c.write_page-2.ensures.time) in
    second

pub returns-in-Err-sync-clause-silent : goal.returns-in-Err-sync-clause-silent
returns-in-Err-sync-clause-silent g c =
    let D = g.D.Disk in
    let one = c.shut_log.new.disk in
    let two = c.write_page.new.disk in
    let first = silent_then D c.args.disk.now one two c.shut_log.ensures.said c.shut_log.ensures.silent (silent_call D one two _ c.write_page.ensures.time) in
    let three = c.write_page-2.new.disk in
    let second = silent_then D c.args.disk.now two three (c.write_page.ensures.said ∙ c.shut_log.ensures.said) first (silent_call D two three _ c.write_page-2.ensures.time) in
    silent_then D c.args.disk.now three c.sync.new.self (c.write_page-2.ensures.said ∙ c.write_page.ensures.said ∙ c.shut_log.ensures.said) second (silent_call D three c.sync.new.self _ c.sync.ensures.time)

pub returns-clause-silent : goal.returns-clause-silent
returns-clause-silent g c =
    let D = g.D.Disk in
    let one = c.shut_log.new.disk in
    let two = c.write_page.new.disk in
    let first = silent_then D c.args.disk.now one two c.shut_log.ensures.said c.shut_log.ensures.silent (silent_call D one two _ c.write_page.ensures.time) in
    let three = c.write_page-2.new.disk in
    let second = silent_then D c.args.disk.now two three (c.write_page.ensures.said ∙ c.shut_log.ensures.said) first (silent_call D two three _ c.write_page-2.ensures.time) in
    silent_then D c.args.disk.now three c.sync.new.self (c.write_page-2.ensures.said ∙ c.write_page.ensures.said ∙ c.shut_log.ensures.said) second (silent_call D three c.sync.new.self _ c.sync.ensures.time)
