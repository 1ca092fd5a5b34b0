use Rattle.gx_catalog.proofs.Fronts.{heap_none1, heap_none2, heap_none3, heap_read}
use Rattle.gx_catalog.proofs.reading.take_heap.Goals as goal

pub returns-in_err-next : goal.returns-in_err-next
returns-in_err-next c = rw c.from_residual.ensures (heap_none1 c.args.bytes.now c.in_err-next.ensures)

pub returns-in_err-first : goal.returns-in_err-first
returns-in_err-first c =
    rw c.from_residual-in_err-first.ensures (heap_none2 c.args.bytes.now c.in_ok-next.behind.now c.in_ok-next.next c.in_ok-next.ensures.0 c.in_ok-next.ensures.1 c.in_err-first.ensures)

pub returns-in_err-last : goal.returns-in_err-last
returns-in_err-last c =
    rw c.from_residual-in_err-last.ensures
    (heap_none3 c.args.bytes.now c.in_ok-next.behind.now c.in_ok-first.more.now c.in_ok-next.next c.in_ok-first.first c.in_ok-next.ensures.0 c.in_ok-next.ensures.1 c.in_ok-first.ensures.0 c.in_ok-first.ensures.1
    c.in_err-last.ensures)

pub returns : goal.returns
returns c = (
  record { next = c.in_ok-next.ensures.0; first = c.in_ok-first.ensures.0; last = c.in_ok-last.ensures.0 },
  heap_read c.args.bytes.now c.in_ok-next.behind.now c.in_ok-first.more.now c.in_ok-last.rest.now c.in_ok-next.next c.in_ok-first.first c.in_ok-last.last c.in_ok-next.ensures.1 c.in_ok-first.ensures.1
      c.in_ok-last.ensures.1,
)
