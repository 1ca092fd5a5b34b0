use Rattle.gx_session.proofs.working.try_step.Goals as goal

pub returns-in-Err-PageSpace-clause-full : goal.returns-in-Err-PageSpace-clause-full
returns-in-Err-PageSpace-clause-full g c = λ full tells db stands.
    let space = rw c.in-Err-PageSpace.field-0-is at c.in-Err-PageSpace.ensures.cause in
    space tells db stands

pub returns-in-Err-PageSpace-clause-least : goal.returns-in-Err-PageSpace-clause-least
returns-in-Err-PageSpace-clause-least g c = λ sound.
    let least = rw c.in-Err-PageSpace.field-0-is at c.in-Err-PageSpace.ensures.least in
    least tt

pub returns-in-Err-DiskFault-clause-least : goal.returns-in-Err-DiskFault-clause-least
returns-in-Err-DiskFault-clause-least g c = λ sound.
    let least = rw c.in-Err-DiskFault.field-0-is at c.in-Err-DiskFault.ensures.least in
    least tt

pub returns-in-Err-DiskFault-clause-cause : goal.returns-in-Err-DiskFault-clause-cause
returns-in-Err-DiskFault-clause-cause g c = rw c.in-Err-DiskFault.field-0-is at c.in-Err-DiskFault.ensures.cause

pub returns-in-Err-Memory-clause-least : goal.returns-in-Err-Memory-clause-least
returns-in-Err-Memory-clause-least g c = λ sound.
    let least = rw c.in-Err-Memory.field-0-is at c.in-Err-Memory.ensures.least in
    least tt

pub returns-in-Err-Memory-clause-cause : goal.returns-in-Err-Memory-clause-cause
returns-in-Err-Memory-clause-cause g c = rw c.in-Err-Memory.field-0-is at c.in-Err-Memory.ensures.cause

pub returns-in-Err-Broken-clause-cause : goal.returns-in-Err-Broken-clause-cause
returns-in-Err-Broken-clause-cause g c = rw c.in-Err-Broken.field-0-is at c.in-Err-Broken.ensures.cause
