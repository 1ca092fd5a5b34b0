use Rattle.std.proofs.Common.{◌≡◌, ◌≤◌, ◌+◌, ◌-◌, ◌*◌, ℕ, length, take, drop, replicate, sym, ◌∙◌, ap, IsTrue, false, arith}
use Rattle.std.proofs.lemmas.List.{length-take, length-drop}
use Rattle.gx_bytes.specs.Fields.{le64}
use Rattle.gx_slot.proofs.TableFacts as facts
use Rattle.gx_slot.proofs.checking.is_spelled.Goals as goal
use Rattle.gx_slot.proofs.checking.is_spelled.Goals.{then-field_at-start-via-then-field_at-start, then-field_at-start-via-else-field_at-start+then-field_at-ne0, then-field_at-start-via-else-field_at-start+else-field_at-ne0+then-start-table}

nothing : IsTrue false → ⊥
nothing never = cc

pub returns-then-field_at-start : goal.returns-then-field_at-start
returns-then-field_at-start c =
    let page = c.args.page.now in
    elim c.then-field_at-start.branch [
      | then-field_at-start-via-then-field_at-start w ↦
          (λ no. absurd (nothing no), λ spelled. absurd (facts.start_spelled page c.read_count-count.result c.in-Some.start c.requires.len c.read_count-count.ensures.count c.in-Some.ensures.some c.field_at.result spelled c.field_at.ensures.field w.if-field_at-start.true))
      | then-field_at-start-via-else-field_at-start+then-field_at-ne0 w ↦ (
        λ no. absurd (nothing no),
        λ spelled. absurd (facts.zero_spelled page c.read_count-count.result c.in-Some.start c.requires.len c.read_count-count.ensures.count c.in-Some.ensures.some w.field_at-else-field_at-start.result spelled
            w.field_at-else-field_at-start.ensures.small w.field_at-else-field_at-start.ensures.bytes w.if-field_at-ne0.true),
      )
      | then-field_at-start-via-else-field_at-start+else-field_at-ne0+then-start-table w ↦
          (λ no. absurd (nothing no), λ spelled. absurd (facts.room_spelled page c.read_count-count.result c.in-Some.start c.requires.len c.read_count-count.ensures.count c.in-Some.ensures.some spelled w.if-start-table.true))
    ]

pub returns : goal.returns
returns c =
    let page = c.args.page.now in
    let count = c.read_count-count.result in
    let start = c.in-Some.start in
    let table = c.in-Some.ensures.some in
    let room : 16 + 4 * count ≤ start = (let test = c.if-start-table.false in omega arith) in
    let size : length (take (start - (16 + 4 * count)) (drop (16 + 4 * count) page)) ≡ start - (16 + 4 * count) =
    (let at_most = table.size in let len = c.requires.len in omega (arith, at_most, len, room, length-take (start - (16 + 4 * count)) (drop (16 + 4 * count) page), length-drop (16 + 4 * count) page)) in (
      λ yes.
          facts.spelled_from page count start c.requires.len c.read_count-count.ensures.count table c.field_at.result c.field_at-else-field_at-start.result
          c.read_count-count.ensures.bytes c.field_at.ensures.bytes c.if-field_at-start.false c.field_at-else-field_at-start.ensures.bytes c.if-field_at-ne0.false
          (c.next_of-next.ensures.bytes ∙ ap (λ (n : ℕ). le64 n) c.next_of-next.ensures.next) (let next = c.next_of-next.ensures.next in omega arith) room
          (c.are_zeros.ensures.0 yes ∙ ap (λ (n : ℕ). replicate n 0) size) (let fits = c.type_inv.page 0 in omega arith) (let fits = c.type_inv.page 1 in omega arith),
      λ spelled.
          c.are_zeros.ensures.1
          (facts.gap_spelled page count start c.requires.len c.read_count-count.ensures.count table spelled room ∙ ap (λ (n : ℕ). replicate n 0) (sym size)),
    )
