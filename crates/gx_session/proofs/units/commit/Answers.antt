use Rattle.std.proofs.Common.{◌≡◌, inl, inr, false, refl, sym, ◌∙◌, arith}
use Rattle.std.proofs.lemmas.Bool.{false≢true}
use Rattle.std.proofs.lemmas.Result.{err_from_is_err_and}
use Rattle.gx_pages.proofs.Footprints.{cause_weaker}
use Rattle.gx_pages.specs.declared.error.PageError.TheVariants.{Memory}
use Rattle.gx_engine.proofs.Gaps.{no_gap}
use Rattle.gx_session.proofs.Moving as moving
use Rattle.gx_session.proofs.Results as results
use Rattle.gx_session.proofs.units.commit.Goals as goal

pub returns-in_err-reserve-clause-disk : goal.returns-in_err-reserve-clause-disk
returns-in_err-reserve-clause-disk g c = λ err tells session db keeps stands.
    let r = c.in_err-reserve.ensures in
    let gap = no_gap (g.P.Pages.committed c.args.store.now) session.committed keeps.committed in
    moving.unmoved g.P.Pages c.args.store.now c.reserve.new.self db (record { committed = λ told. r.committed.0 (told, gap); left = r.images gap; time = r.time gap })

pub returns-in_err-reserve-clause-memory : goal.returns-in_err-reserve-clause-memory
returns-in_err-reserve-clause-memory g c = λ err tells session keeps.
    let r = c.in_err-reserve.ensures in
    let gap = no_gap (g.P.Pages.committed c.args.store.now) session.committed keeps.committed in
    record { committed = λ told. r.committed.0 (told, gap); left = r.images gap; time = r.time gap }

pub returns-in_err-commit-clause-disk : goal.returns-in_err-commit-clause-disk
returns-in_err-commit-clause-disk g c = λ err tells session db keeps stands.
    let r = c.in_ok-reserve.ensures in
    let gap = no_gap (g.P.Pages.committed c.args.store.now) session.committed keeps.committed in
    let time = moving.commit_time g.P.Pages c.args.store.now c.reserve.new.self c.commit.new.self db r.same.said (record { committed = λ told. r.committed.0 (told, gap); left = r.images gap; time = r.time gap }) (r.map tells gap) stands
    c.in_err-commit.ensures.time in
    moving.may_have_moved g.P.Pages c.args.store.now c.commit.new.self db
    (moving.left_by_time g.P.Pages g.met.P.Pages.counts_now g.met.P.Pages.only_now c.args.store.now c.commit.new.self db time) time

pub returns-in_err-commit-clause-memory : goal.returns-in_err-commit-clause-memory
returns-in_err-commit-clause-memory g c = λ err tells session keeps.
    let p = err_from_is_err_and c.from_residual-in_err-commit.result c.from_residual-in_err-commit.ensures.1 in
    absurd (false≢true (sym (results.no_memory_by c.in_err-commit.field-0.0 (g.P.Pages.faults c.reserve.new.self) (g.P.Pages.faults c.commit.new.self) (λ _ _ _. ⊥) (λ _. ⊥) (g.P.Store.reserved c.reserve.new.self ≡ false)
    (sym p.2 ∙ results.error_of _ p.0 Memory (sym p.1 ∙ err)) c.in_err-commit.ensures.cause) ∙ c.in_ok-reserve.ensures.reserved))

pub returns-in_err-commit-clause-cause : goal.returns-in_err-commit-clause-cause
returns-in_err-commit-clause-cause g c =
    let p = err_from_is_err_and c.from_residual-in_err-commit.result c.from_residual-in_err-commit.ensures.1 in
    rw (p.1, p.2)
    (cause_weaker c.in_err-commit.field-0.0 (g.P.Pages.faults c.args.store.now) (g.P.Pages.faults c.reserve.new.self) (g.P.Pages.faults c.commit.new.self) (g.P.Pages.faults c.commit.new.self)
    (λ _ _ _. ⊥) (λ _ _ _. ⊥) (λ _. ⊥) (λ _. ⊥) (g.P.Store.reserved c.reserve.new.self ≡ false) (Unit {0})
    c.in_ok-reserve.ensures.same.faults (omega arith) (λ p x y h. h) (λ n h. h) (λ m. tt {0}) c.in_err-commit.ensures.cause)

pub returns-in_err-commit-clause-beside : goal.returns-in_err-commit-clause-beside
returns-in_err-commit-clause-beside g c =
    moving.beside_then g.P.Pages g.met.P.Pages.follows_on c.args.store.now c.reserve.new.self c.commit.new.self c.in_ok-reserve.ensures.same c.in_err-commit.ensures.same

pub returns-clause-moved : goal.returns-clause-moved
returns-clause-moved g c = λ tells session db keeps stands.
    let r = c.in_ok-reserve.ensures in
    let k = c.in_ok-commit.ensures in
    let gap = no_gap (g.P.Pages.committed c.args.store.now) session.committed keeps.committed in
    moving.committed_by g.P.Pages c.args.store.now c.reserve.new.self c.commit.new.self db (r.map tells gap) r.count stands
    (k.committed.0 tells) k.committed.1 (k.map tells) k.count (k.only tells)
    (moving.commit_time g.P.Pages c.args.store.now c.reserve.new.self c.commit.new.self db r.same.said (record { committed = λ told. r.committed.0 (told, gap); left = r.images gap; time = r.time gap }) (r.map tells gap) stands k.time)

pub returns-clause-beside : goal.returns-clause-beside
returns-clause-beside g c =
    moving.beside_then g.P.Pages g.met.P.Pages.follows_on c.args.store.now c.reserve.new.self c.commit.new.self c.in_ok-reserve.ensures.same c.in_ok-commit.ensures.same

pub returns-clause-settled : goal.returns-clause-settled
returns-clause-settled g c = λ tells session keeps.
    let k = c.in_ok-commit.ensures in
    moving.settled_commit g.P.Pages c.reserve.new.self c.commit.new.self (k.committed.0 tells) k.committed.1 (k.map tells) k.count

pub returns-clause-map : goal.returns-clause-map
returns-clause-map g c = λ tells session keeps.
    let gap = no_gap (g.P.Pages.committed c.args.store.now) session.committed keeps.committed in
    c.in_ok-commit.ensures.map tells ∙ c.in_ok-reserve.ensures.map tells gap

-- How many pages there are.

pub returns-in_err-reserve-clause-grows : goal.returns-in_err-reserve-clause-grows
returns-in_err-reserve-clause-grows g c = moving.never_same g.P.Pages c.args.store.now c.reserve.new.self c.in_err-reserve.ensures.count c.in_err-reserve.ensures.committed.1

pub returns-in_err-commit-clause-grows : goal.returns-in_err-commit-clause-grows
returns-in_err-commit-clause-grows g c =
    let r = c.in_ok-reserve.ensures in
    let k = c.in_err-commit.ensures in
    elim k.either [
      | inl old ↦ moving.never_same g.P.Pages c.args.store.now c.commit.new.self (k.count ∙ r.count) (old.1 ∙ r.committed.1)
      | inr made ↦ moving.never_more g.P.Pages c.args.store.now c.commit.new.self (g.P.Pages.count c.args.store.now) (k.count ∙ r.count) (made.1 ∙ r.count) (inl refl)
    ]

pub returns-clause-grows : goal.returns-clause-grows
returns-clause-grows g c =
    let r = c.in_ok-reserve.ensures in
    let k = c.in_ok-commit.ensures in
    moving.never_more g.P.Pages c.args.store.now c.commit.new.self (g.P.Pages.count c.args.store.now) (k.count ∙ r.count) (k.committed.1 ∙ r.count) (inl refl)
