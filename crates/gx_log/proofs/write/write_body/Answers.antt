use Rattle.std.proofs.Common.{rules, ◌≡◌, ℕ, ◌+◌, ◌*◌, List, [], ◌∷◌, ◌++◌, length, refl, sym, ◌∙◌, ap, arith, length-append, append_assoc}
use Rattle.std.specs.Prelude.{Box}
use Rattle.std.specs.declared.alloc.Global.{Global}
use Rattle.std.proofs.lemmas.List.{append-nil}
use Rattle.std.proofs.lemmas.Map.Iter.{rest_more, rest_all}
use Rattle.std.specs.Map.Iter.{deref_pair}
use Rattle.gx_bytes.specs.Fields.{le64, length-le64}
use Rattle.gx_log.specs.Records.{body, record_of}
use Rattle.gx_log.proofs.Bodies.{entries_bytes, whole_push, entries_push, body_of, length_so_far}
use Rattle.gx_log.proofs.Moves.{writes_none, writes_two, writes_wider, done_two, poured_more, written_none, length_written}
use Rattle.gx_log.proofs.write.write_body.Goals as goal

pub loop-number-init : goal.loop-number-init
loop-number-init g c =
    let entries = c.args.images.now.entries in
    let count : c.add.new.self ≡ le64 (length entries) = c.add.ensures ∙ ap (λ (l : List ℕ). l ++ c.field_of.result) c.new-part.ensures ∙ c.field_of.ensures ∙ ap le64 c.len.ensures.len in
    record {
      done = [];
      front = [];
      split = search rules;
      whole = tt;
      bytes = count ∙ sym (append-nil (le64 (length entries)));
      room = omega (arith, ap length count, length-le64 (length entries));
      place = omega arith;
      writes = writes_none g.D.Disk c.args.disk.now c.args.at;
      told = λ tells within. sym (written_none (g.D.Disk.told c.args.disk.now).log c.args.at within);
    }

pub make_room-requires : goal.make_room-requires
make_room-requires g c =
    let i = c.loop-number.invariant in
    let all : length c.args.images.now.entries ≡ length i.done + length c.loop-number.number-iterator = ap length i.split ∙ length-append i.done c.loop-number.number-iterator in
    let size : length i.front + length c.loop-number.part ≡ 8 + 8200 * length i.done =
    sym (length-append i.front c.loop-number.part) ∙ ap length i.bytes ∙ length_so_far (length c.args.images.now.entries) i.done i.whole in
    omega (arith, all, size, i.place, c.requires)

pub returns-in_err-place-clause-writes : goal.returns-in_err-place-clause-writes
returns-in_err-place-clause-writes g c =
    let i = c.loop-number.invariant in
    let all : length c.args.images.now.entries ≡ length i.done + length c.loop-number.number-iterator = ap length i.split ∙ length-append i.done c.loop-number.number-iterator in
    let size : length i.front + length c.loop-number.part ≡ 8 + 8200 * length i.done =
    sym (length-append i.front c.loop-number.part) ∙ ap length i.bytes ∙ length_so_far (length c.args.images.now.entries) i.done i.whole in
    writes_wider g.D.Disk c.args.disk.now c.make_room.new.disk c.args.at (length i.front + length c.loop-number.part) (9 + 8200 * length c.args.images.now.entries) (omega (arith, all, size))
    (writes_two g.D.Disk c.args.disk.now c.loop-number.disk c.make_room.new.disk c.args.at c.loop-number.place (length i.front) (length c.loop-number.part) (length i.front + length c.loop-number.part)
    i.place refl i.writes c.in_err-place.ensures.writes)

pub loop-number-preserved : goal.loop-number-preserved
loop-number-preserved g c =
    let i = c.loop-number.invariant in
    let p = c.in_ok-place.ensures.poured in
    let image : ℕ × Box (List ℕ) Global = (c.in-Some.number.now, c.in-Some.page.now) in
    let more : c.loop-number.number-iterator ≡ image ∷ c.next.new.self =
    rest_more deref_pair c.loop-number.number-iterator c.next.new.self c.next.result (c.in-Some.number, c.in-Some.page) c.in-Some.is c.next.ensures.steps in
    let entries = c.args.images.now.entries in
    let first = (g.D.Disk.told c.args.disk.now).log in
    let mid = (g.D.Disk.told c.loop-number.disk).log in
    let added : c.add_entry.new.part ≡ c.make_room.new.part ++ (le64 image.0 ++ image.1.value) =
    c.add_entry.ensures.added ∙ ap (λ (l : List ℕ). c.make_room.new.part ++ (le64 image.0 ++ l)) c.deref.ensures in
    let page : length image.1.value ≡ 8192 = ap length (sym c.deref.ensures) ∙ c.add_entry.ensures.length in
    record {
      done = i.done ++ image ∷ [];
      front = i.front ++ p.front;
      split = i.split ∙ ap (λ (l : List (ℕ × Box (List ℕ) Global)). i.done ++ l) more ∙ sym (append_assoc i.done (image ∷ []) c.next.new.self);
      whole = whole_push i.done image i.whole page;
      bytes =
          ap (λ (l : List ℕ). i.front ++ p.front ++ l) added
          ∙ poured_more i.front p.front c.make_room.new.part c.loop-number.part (le64 image.0 ++ image.1.value) (le64 (length entries) ++ entries_bytes (record_of i.done)) p.split i.bytes
          ∙ append_assoc (le64 (length entries)) (entries_bytes (record_of i.done)) (le64 image.0 ++ image.1.value)
          ∙ ap (λ (l : List ℕ). le64 (length entries) ++ l) (sym (entries_push i.done image));
      room = omega (arith, ap length added, length-append c.make_room.new.part (le64 image.0 ++ image.1.value), length-append (le64 image.0) image.1.value, length-le64 image.0, c.in_ok-place.ensures.room, page);
      place = omega (arith, i.place, p.goes_on, length-append i.front p.front);
      writes = writes_two g.D.Disk c.args.disk.now c.loop-number.disk c.make_room.new.disk c.args.at c.loop-number.place (length i.front) (length p.front) (length (i.front ++ p.front))
          i.place (sym (length-append i.front p.front)) i.writes p.writes;
      told = λ tells within.
          let so_far = i.told tells within in
          done_two first mid (g.D.Disk.told c.make_room.new.disk).log i.front p.front (i.front ++ p.front) c.args.at c.loop-number.place within so_far
          (p.told tells (omega (arith, i.place, length_written first i.front mid c.args.at so_far))) i.place refl;
    }

pub write_part-requires : goal.write_part-requires
write_part-requires g c =
    let i = c.loop-number.invariant in
    let all : length c.args.images.now.entries ≡ length i.done + length c.loop-number.number-iterator = ap length i.split ∙ length-append i.done c.loop-number.number-iterator in
    let size : length i.front + length c.loop-number.part ≡ 8 + 8200 * length i.done =
    sym (length-append i.front c.loop-number.part) ∙ ap length i.bytes ∙ length_so_far (length c.args.images.now.entries) i.done i.whole in
    let last : length c.bytes-bytes.result.now ≡ length c.loop-number.part + 1 = ap length (c.bytes-bytes.ensures ∙ c.add-2.ensures) ∙ length-append c.loop-number.part (0 ∷ []) in
    let none : c.loop-number.number-iterator ≡ [] = rest_all deref_pair c.loop-number.number-iterator c.next.new.self c.next.result c.in-None.is c.next.ensures.steps in
    let nothing : length c.loop-number.number-iterator ≡ 0 = ap length none in
    omega (arith, all, size, last, nothing, i.place, c.requires)

pub returns-in_err-write_part-clause-writes : goal.returns-in_err-write_part-clause-writes
returns-in_err-write_part-clause-writes g c =
    let i = c.loop-number.invariant in
    let all : length c.args.images.now.entries ≡ length i.done + length c.loop-number.number-iterator = ap length i.split ∙ length-append i.done c.loop-number.number-iterator in
    let size : length i.front + length c.loop-number.part ≡ 8 + 8200 * length i.done =
    sym (length-append i.front c.loop-number.part) ∙ ap length i.bytes ∙ length_so_far (length c.args.images.now.entries) i.done i.whole in
    let last : length c.bytes-bytes.result.now ≡ length c.loop-number.part + 1 = ap length (c.bytes-bytes.ensures ∙ c.add-2.ensures) ∙ length-append c.loop-number.part (0 ∷ []) in
    let none : c.loop-number.number-iterator ≡ [] = rest_all deref_pair c.loop-number.number-iterator c.next.new.self c.next.result c.in-None.is c.next.ensures.steps in
    let nothing : length c.loop-number.number-iterator ≡ 0 = ap length none in
    writes_two g.D.Disk c.args.disk.now c.loop-number.disk c.write_part.new.disk c.args.at c.loop-number.place (length i.front) (length c.bytes-bytes.result.now) (9 + 8200 * length c.args.images.now.entries)
    i.place (omega (arith, all, size, last, nothing)) i.writes c.in_err-write_part.ensures.writes

pub returns-clause-writes : goal.returns-clause-writes
returns-clause-writes g c =
    let i = c.loop-number.invariant in
    let all : length c.args.images.now.entries ≡ length i.done + length c.loop-number.number-iterator = ap length i.split ∙ length-append i.done c.loop-number.number-iterator in
    let size : length i.front + length c.loop-number.part ≡ 8 + 8200 * length i.done =
    sym (length-append i.front c.loop-number.part) ∙ ap length i.bytes ∙ length_so_far (length c.args.images.now.entries) i.done i.whole in
    let last : length c.bytes-bytes.result.now ≡ length c.loop-number.part + 1 = ap length (c.bytes-bytes.ensures ∙ c.add-2.ensures) ∙ length-append c.loop-number.part (0 ∷ []) in
    let none : c.loop-number.number-iterator ≡ [] = rest_all deref_pair c.loop-number.number-iterator c.next.new.self c.next.result c.in-None.is c.next.ensures.steps in
    let nothing : length c.loop-number.number-iterator ≡ 0 = ap length none in
    writes_two g.D.Disk c.args.disk.now c.loop-number.disk c.write_part.new.disk c.args.at c.loop-number.place (length i.front) (length c.bytes-bytes.result.now) (9 + 8200 * length c.args.images.now.entries)
    i.place (omega (arith, all, size, last, nothing)) i.writes c.in_ok-write_part.ensures.writes

pub overflow_add-result : goal.overflow_add-result
overflow_add-result g c =
    let i = c.loop-number.invariant in
    let all : length c.args.images.now.entries ≡ length i.done + length c.loop-number.number-iterator = ap length i.split ∙ length-append i.done c.loop-number.number-iterator in
    let size : length i.front + length c.loop-number.part ≡ 8 + 8200 * length i.done =
    sym (length-append i.front c.loop-number.part) ∙ ap length i.bytes ∙ length_so_far (length c.args.images.now.entries) i.done i.whole in
    let last : length c.bytes-bytes.result.now ≡ length c.loop-number.part + 1 = ap length (c.bytes-bytes.ensures ∙ c.add-2.ensures) ∙ length-append c.loop-number.part (0 ∷ []) in
    let none : c.loop-number.number-iterator ≡ [] = rest_all deref_pair c.loop-number.number-iterator c.next.new.self c.next.result c.in-None.is c.next.ensures.steps in
    let nothing : length c.loop-number.number-iterator ≡ 0 = ap length none in
    omega (arith, all, size, last, nothing, i.place, c.requires)

pub returns-clause-end : goal.returns-clause-end
returns-clause-end g c =
    let i = c.loop-number.invariant in
    let all : length c.args.images.now.entries ≡ length i.done + length c.loop-number.number-iterator = ap length i.split ∙ length-append i.done c.loop-number.number-iterator in
    let size : length i.front + length c.loop-number.part ≡ 8 + 8200 * length i.done =
    sym (length-append i.front c.loop-number.part) ∙ ap length i.bytes ∙ length_so_far (length c.args.images.now.entries) i.done i.whole in
    let last : length c.bytes-bytes.result.now ≡ length c.loop-number.part + 1 = ap length (c.bytes-bytes.ensures ∙ c.add-2.ensures) ∙ length-append c.loop-number.part (0 ∷ []) in
    let none : c.loop-number.number-iterator ≡ [] = rest_all deref_pair c.loop-number.number-iterator c.next.new.self c.next.result c.in-None.is c.next.ensures.steps in
    let nothing : length c.loop-number.number-iterator ≡ 0 = ap length none in
    omega (arith, all, size, last, nothing, i.place)

pub returns-clause-done : goal.returns-clause-done
returns-clause-done g c = λ tells within.
    let i = c.loop-number.invariant in
    let none : c.loop-number.number-iterator ≡ [] = rest_all deref_pair c.loop-number.number-iterator c.next.new.self c.next.result c.in-None.is c.next.ensures.steps in
    let entries = c.args.images.now.entries in
    let all : entries ≡ i.done = i.split ∙ ap (λ (l : List (ℕ × Box (List ℕ) Global)). i.done ++ l) none ∙ append-nil i.done in
    let whole : i.front ++ c.loop-number.part ≡ body (record_of entries) =
    i.bytes ∙ ap (λ (l : List (ℕ × Box (List ℕ) Global)). le64 (length entries) ++ entries_bytes (record_of l)) (sym all) ∙ sym (body_of entries) in
    let bytes : i.front ++ c.bytes-bytes.result.now ≡ body (record_of entries) ++ 0 ∷ [] =
    ap (λ (l : List ℕ). i.front ++ l) (c.bytes-bytes.ensures ∙ c.add-2.ensures) ∙ sym (append_assoc i.front c.loop-number.part (0 ∷ [])) ∙ ap (λ (l : List ℕ). l ++ 0 ∷ []) whole in
    done_two (g.D.Disk.told c.args.disk.now).log (g.D.Disk.told c.loop-number.disk).log (g.D.Disk.told c.write_part.new.disk).log i.front c.bytes-bytes.result.now (body (record_of entries) ++ 0 ∷ [])
    c.args.at c.loop-number.place within (i.told tells within) (c.in_ok-write_part.ensures.done tells) i.place bytes
