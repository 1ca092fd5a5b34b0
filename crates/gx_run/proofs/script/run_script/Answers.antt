use Rattle.std.proofs.Common.{rules, ℕ, ◌+◌, ◌<◌, ◌≤◌, List, [], ◌++◌, length, take, drop, refl, sym, ◌∙◌, ap, arith}
use Rattle.std.proofs.lemmas.Grind.{common_steps}
use Rattle.gx_run.specs.declared.script.TheConstants.{LIMIT}
use Rattle.gx_run.proofs.RunFacts as facts
use Rattle.gx_run.proofs.ScriptFacts as scripts
use Rattle.gx_run.proofs.script.run_script.Goals as goal

pub loop-taken-init : goal.loop-taken-init
loop-taken-init g c = record {
  ready = c.requires;
  sound = c.new-cutter.ensures.spoiled;
  follows = g.met.D.Desk.stays c.args.desk.now;
  counted = omega arith;
  disk = omega arith;
  answers = omega arith;
  within = omega arith;
  fed = (
    [],
    c.new-cutter.ensures.fed,
    λ told. refl,
    refl,
    λ tells from at.
        let d = g.D.Desk in
        facts.ran_empty d.moment d.may_have_left_since d.may_leave d.said d.is_at d.emptied c.args.desk.now from
        (λ map l. g.met.D.Desk.left tells c.args.desk.now from at map l) at,
  );
}

pub returns-in-Ok-run_rest-clause-headline : goal.returns-in-Ok-run_rest-clause-headline
returns-in-Ok-run_rest-clause-headline g c = λ tells from at.
    let d = g.D.Desk in
    let i = c.loop-taken.invariant.fed in
    let first = i.4 tells from at in (
      tt,
      λ told script is.
          let e = sym is ∙ i.2 told in
          let mr = c.min-room.ensures in
          let lt = c.loop-taken-test.true in
          let some : 0 < length (take c.min-room.result c.loop-taken.buffer) = first_of (grind (arith, common_steps), search (rules, common_steps)) in
          let none = scripts.ends _ _ _ _ _ (c.in-Ok-eq0.ensures.front told) some c.in-Ok-eq0.field-0-test (c.in-Ok-eq0.ensures.taken told) in (
            scripts.rest_ran d.moment d.may_have_left_since d.may_leave d.said d.is_at d.emptied c.args.desk.now c.loop-taken.desk c.run_rest.new.desk from i.0 c.loop-taken.refused first
                script _ c.in-Ok-run_rest.one c.either.result e none.0 c.either.ensures (c.in-Ok-run_rest.ensures.headline tells _ i.0 first.at.1 i.1),
            none.1,
            scripts.fits script i.0 _ c.loop-taken.taken LIMIT e none.0 i.3 c.loop-taken.invariant.within,
          ),
    )

pub returns-in-Err-run_rest-clause-headline : goal.returns-in-Err-run_rest-clause-headline
returns-in-Err-run_rest-clause-headline g c = λ tells from at.
    let d = g.D.Desk in
    let i = c.loop-taken.invariant.fed in
    let first = i.4 tells from at in (
      scripts.without d.moment d.may_have_left_since d.may_leave d.said d.is_at d.emptied c.loop-taken.desk c.run_rest.new.desk _ _ c.in-Err-run_rest.stop (c.in-Err-run_rest.ensures.headline tells _ i.0 first.at.1 i.1),
      λ told script is.
          let e = sym is ∙ i.2 told in
          let mr = c.min-room.ensures in
          let lt = c.loop-taken-test.true in
          let some : 0 < length (take c.min-room.result c.loop-taken.buffer) = first_of (grind (arith, common_steps), search (rules, common_steps)) in
          let none = scripts.ends _ _ _ _ _ (c.in-Ok-eq0.ensures.front told) some c.in-Ok-eq0.field-0-test (c.in-Ok-eq0.ensures.taken told) in
          let fits = scripts.fits script i.0 _ c.loop-taken.taken LIMIT e none.0 i.3 c.loop-taken.invariant.within in (
            scripts.rest_stopped d.moment d.may_have_left_since d.may_leave d.said d.is_at d.emptied c.args.desk.now c.loop-taken.desk c.run_rest.new.desk from i.0 c.loop-taken.refused first
                script _ c.in-Err-run_rest.stop e none.0 (c.in-Err-run_rest.ensures.headline tells _ i.0 first.at.1 i.1),
            omega (arith, fits),
          ),
    )

pub returns-in-Err-run_part-clause-headline : goal.returns-in-Err-run_part-clause-headline
returns-in-Err-run_part-clause-headline g c = λ tells from at.
    let d = g.D.Desk in
    let i = c.loop-taken.invariant.fed in
    let first = i.4 tells from at in (
      let more = c.in-Err-run_part.ensures.headline tells (scripts.next d.moment d.may_have_left_since d.may_leave d.said d.is_at d.emptied c.args.desk.now c.loop-taken.desk c.run_part.new.desk from i.0 c.loop-taken.refused first) i.0 first.at.1 i.1 in
          scripts.without d.moment d.may_have_left_since d.may_leave d.said d.is_at d.emptied c.loop-taken.desk c.run_part.new.desk (scripts.next d.moment d.may_have_left_since d.may_leave d.said d.is_at d.emptied c.args.desk.now c.loop-taken.desk c.run_part.new.desk from i.0 c.loop-taken.refused first) more.0 c.in-Err-run_part.stop more.2,
      λ told script is.
          let e = sym is ∙ i.2 told in
          let read = scripts.reads script i.0 _ c.read.new.into (drop c.min-room.result c.loop-taken.buffer) _ c.loop-taken.taken c.in-Ok.n _ e i.3 (c.in-Ok.ensures.taken told) (c.in-Ok.ensures.front told) in
          let within : c.loop-taken.taken + c.in-Ok.n ≤ LIMIT =
          let rm = c.in-Ok.ensures.room in let mr = c.min-room.ensures in let lt = c.loop-taken-test.true in first_of (grind (arith, common_steps), search (rules, common_steps)) in
          let count = read.count in (
            scripts.part_stopped d.moment d.may_have_left_since d.may_leave d.said d.is_at d.emptied c.args.desk.now c.loop-taken.desk c.run_part.new.desk from i.0 c.loop-taken.refused first
                script _ _ c.in-Err-run_part.stop read.whole (c.in-Err-run_part.ensures.headline tells _ i.0 first.at.1 i.1),
            scripts.took script (i.0 ++ take c.in-Ok.n (c.read.new.into ++ drop c.min-room.result c.loop-taken.buffer)) (g.S.Source.told c.read.new.self) LIMIT read.whole (omega (arith, count, within)),
          ),
    )

pub loop-taken-preserved : goal.loop-taken-preserved
loop-taken-preserved g c =
    let d = g.D.Desk in
    let i = c.loop-taken.invariant in
    let h = c.in-Ok-run_part.ensures in
    record {
      ready = h.ready;
      sound = h.sound;
      follows = g.met.D.Desk.goes_on c.args.desk.now c.loop-taken.desk c.run_part.new.desk i.follows h.follows;
      counted = let a = i.counted in let b = c.in-Ok.ensures.cause.later in omega (arith, a, b);
      disk = let a = i.disk in let b = h.counted in omega (arith, a, b.0);
      answers = let a = i.answers in let b = h.counted in omega (arith, a, b.1);
      within = let rm = c.in-Ok.ensures.room in let mr = c.min-room.ensures in let lt = c.loop-taken-test.true in first_of (grind (arith, common_steps), search (rules, common_steps));
      fed =
          let k = i.fed in (
            _,
            h.fed k.0 k.1,
            λ told. (scripts.reads (g.S.Source.told c.args.source.now) k.0 _ c.read.new.into (drop c.min-room.result c.loop-taken.buffer) _ c.loop-taken.taken c.in-Ok.n _ (k.2 told) k.3
                (c.in-Ok.ensures.taken told) (c.in-Ok.ensures.front told)).whole,
            scripts.longer k.0 c.read.new.into (drop c.min-room.result c.loop-taken.buffer) c.loop-taken.taken c.in-Ok.n k.3
                (let same = c.read.auto.into in let room = c.in-Ok.ensures.room in first_of (omega (arith, same, room), grind (arith, common_steps))),
            λ tells from at.
                let first = k.4 tells from at in
                scripts.part_ran d.moment d.may_have_left_since d.may_leave d.said d.is_at d.emptied c.args.desk.now c.loop-taken.desk c.run_part.new.desk from k.0 c.loop-taken.refused first
                _ c.in-Ok-run_part.one c.either-refused.result c.either-refused.ensures (h.headline tells _ k.0 first.at.1 k.1),
          );
    }

pub returns-in-Ok-run_rest-2-clause-headline : goal.returns-in-Ok-run_rest-2-clause-headline
returns-in-Ok-run_rest-2-clause-headline g c = λ tells from at.
    let d = g.D.Desk in
    let i = c.loop-taken.invariant.fed in
    let first = i.4 tells from at in (
      tt,
      λ told script is.
          let e = sym is ∙ i.2 told in
          let none = scripts.ends _ _ _ _ _ (c.in-Ok-eq0-read.ensures.front told) (omega arith) c.in-Ok-eq0-read.field-0-test (c.in-Ok-eq0-read.ensures.taken told) in (
            scripts.rest_ran d.moment d.may_have_left_since d.may_leave d.said d.is_at d.emptied c.args.desk.now c.loop-taken.desk c.run_rest-in-Ok-eq0-read.new.desk from i.0 c.loop-taken.refused first
                script _ c.in-Ok-run_rest-2.one c.either-in-Ok-run_rest-2.result e none.0 c.either-in-Ok-run_rest-2.ensures (c.in-Ok-run_rest-2.ensures.headline tells _ i.0 first.at.1 i.1),
            none.1,
            scripts.fits script i.0 _ c.loop-taken.taken LIMIT e none.0 i.3 c.loop-taken.invariant.within,
          ),
    )

pub returns-in-Err-run_rest-2-clause-headline : goal.returns-in-Err-run_rest-2-clause-headline
returns-in-Err-run_rest-2-clause-headline g c = λ tells from at.
    let d = g.D.Desk in
    let i = c.loop-taken.invariant.fed in
    let first = i.4 tells from at in (
      scripts.without d.moment d.may_have_left_since d.may_leave d.said d.is_at d.emptied c.loop-taken.desk c.run_rest-in-Ok-eq0-read.new.desk _ _ c.in-Err-run_rest-2.stop (c.in-Err-run_rest-2.ensures.headline tells _ i.0 first.at.1 i.1),
      λ told script is.
          let e = sym is ∙ i.2 told in
          let none = scripts.ends _ _ _ _ _ (c.in-Ok-eq0-read.ensures.front told) (omega arith) c.in-Ok-eq0-read.field-0-test (c.in-Ok-eq0-read.ensures.taken told) in
          let fits = scripts.fits script i.0 _ c.loop-taken.taken LIMIT e none.0 i.3 c.loop-taken.invariant.within in (
            scripts.rest_stopped d.moment d.may_have_left_since d.may_leave d.said d.is_at d.emptied c.args.desk.now c.loop-taken.desk c.run_rest-in-Ok-eq0-read.new.desk from i.0 c.loop-taken.refused first
                script _ c.in-Err-run_rest-2.stop e none.0 (c.in-Err-run_rest-2.ensures.headline tells _ i.0 first.at.1 i.1),
            omega (arith, fits),
          ),
    )

pub returns-in-Ok-read-clause-headline : goal.returns-in-Ok-read-clause-headline
returns-in-Ok-read-clause-headline g c = λ tells from at.
    let d = g.D.Desk in
    let i = c.loop-taken.invariant.fed in
    let first = i.4 tells from at in (
      tt,
      λ told script is.
          let e = sym is ∙ i.2 told in
          let lt = c.loop-taken-test.false in
          let low : LIMIT ≤ c.loop-taken.taken = first_of (grind arith, search rules) in
          let k = scripts.full script i.0 _ _ _ c.loop-taken.taken _ _ LIMIT e i.3 low c.loop-taken.invariant.within (c.in-Ok-read.ensures.front told) (c.in-Ok-read.ensures.taken told) c.in-Ok-read.field-0-test.1 in
          (k.0, scripts.front_ran d.moment d.may_have_left_since d.may_leave d.said d.is_at d.emptied c.args.desk.now c.loop-taken.desk from i.0 (take LIMIT script) c.loop-taken.refused k.1 first),
    )

pub returns-in-Err-clause-headline : goal.returns-in-Err-clause-headline
returns-in-Err-clause-headline g c = λ tells from at.
    let i = c.loop-taken.invariant.fed in
    let first = i.4 tells from at in (
      tt,
      λ told script is.
          let count = i.3 in
          let within = c.loop-taken.invariant.within in
          (i.0, sym is ∙ i.2 told ∙ ap (λ (l : List ℕ). i.0 ++ l) (sym (c.in-Err.ensures.kept told)), omega (arith, count, within), (c.loop-taken.refused, first)),
    )

pub returns-in-Err-read-clause-headline : goal.returns-in-Err-read-clause-headline
returns-in-Err-read-clause-headline g c = λ tells from at.
    let i = c.loop-taken.invariant.fed in
    let first = i.4 tells from at in (
      tt,
      λ told script is.
          let count = i.3 in
          let within = c.loop-taken.invariant.within in
          (i.0, sym is ∙ i.2 told ∙ ap (λ (l : List ℕ). i.0 ++ l) (sym (c.in-Err-read.ensures.kept told)), omega (arith, count, within), (c.loop-taken.refused, first)),
    )

pub returns-in-Ok-run_rest-clause-length : goal.returns-in-Ok-run_rest-clause-length
returns-in-Ok-run_rest-clause-length g c = λ told.
    let i = c.loop-taken.invariant.fed in
    let within = c.loop-taken.invariant.within in
    let none = c.in-Ok-eq0.field-0-test in
    scripts.took_more _ i.0 _ _ c.loop-taken.taken _ LIMIT (i.2 told) i.3 (c.in-Ok-eq0.ensures.taken told) (omega (arith, within, none))

pub returns-in-Err-run_rest-clause-length : goal.returns-in-Err-run_rest-clause-length
returns-in-Err-run_rest-clause-length g c = λ told.
    let i = c.loop-taken.invariant.fed in
    let within = c.loop-taken.invariant.within in
    let none = c.in-Ok-eq0.field-0-test in
    scripts.took_more _ i.0 _ _ c.loop-taken.taken _ LIMIT (i.2 told) i.3 (c.in-Ok-eq0.ensures.taken told) (omega (arith, within, none))

pub returns-in-Err-run_part-clause-length : goal.returns-in-Err-run_part-clause-length
returns-in-Err-run_part-clause-length g c = λ told.
    let i = c.loop-taken.invariant.fed in
    let within : c.loop-taken.taken + c.in-Ok.n ≤ LIMIT =
    let rm = c.in-Ok.ensures.room in let mr = c.min-room.ensures in let lt = c.loop-taken-test.true in first_of (grind (arith, common_steps), search (rules, common_steps)) in
    scripts.took_more _ i.0 _ _ c.loop-taken.taken c.in-Ok.n LIMIT (i.2 told) i.3 (c.in-Ok.ensures.taken told) within

pub returns-in-Ok-run_rest-2-clause-length : goal.returns-in-Ok-run_rest-2-clause-length
returns-in-Ok-run_rest-2-clause-length g c = λ told.
    let i = c.loop-taken.invariant.fed in
    let within = c.loop-taken.invariant.within in
    let none = c.in-Ok-eq0-read.field-0-test in
    scripts.took_more _ i.0 _ _ c.loop-taken.taken _ LIMIT (i.2 told) i.3 (c.in-Ok-eq0-read.ensures.taken told) (omega (arith, within, none))

pub returns-in-Err-run_rest-2-clause-length : goal.returns-in-Err-run_rest-2-clause-length
returns-in-Err-run_rest-2-clause-length g c = λ told.
    let i = c.loop-taken.invariant.fed in
    let within = c.loop-taken.invariant.within in
    let none = c.in-Ok-eq0-read.field-0-test in
    scripts.took_more _ i.0 _ _ c.loop-taken.taken _ LIMIT (i.2 told) i.3 (c.in-Ok-eq0-read.ensures.taken told) (omega (arith, within, none))

pub returns-in-Ok-read-clause-length : goal.returns-in-Ok-read-clause-length
returns-in-Ok-read-clause-length g c = λ told.
    let i = c.loop-taken.invariant.fed in
    let lt = c.loop-taken-test.false in
    let low : LIMIT ≤ c.loop-taken.taken = first_of (grind arith, search rules) in
    (scripts.full _ i.0 _ _ _ c.loop-taken.taken _ _ LIMIT (i.2 told) i.3 low c.loop-taken.invariant.within (c.in-Ok-read.ensures.front told) (c.in-Ok-read.ensures.taken told) c.in-Ok-read.field-0-test.1).0

pub returns-in-Err-clause-length : goal.returns-in-Err-clause-length
returns-in-Err-clause-length g c = λ told.
    let i = c.loop-taken.invariant.fed in
    let count = i.3 in
    let within = c.loop-taken.invariant.within in
    scripts.took _ i.0 _ LIMIT (i.2 told ∙ ap (λ (l : List ℕ). i.0 ++ l) (sym (c.in-Err.ensures.kept told))) (omega (arith, count, within))

pub returns-in-Err-read-clause-length : goal.returns-in-Err-read-clause-length
returns-in-Err-read-clause-length g c = λ told.
    let i = c.loop-taken.invariant.fed in
    let count = i.3 in
    let within = c.loop-taken.invariant.within in
    scripts.took _ i.0 _ LIMIT (i.2 told ∙ ap (λ (l : List ℕ). i.0 ++ l) (sym (c.in-Err-read.ensures.kept told))) (omega (arith, count, within))
