use Rattle.std.proofs.Common.{ℕ, List, ◌++◌, codes, ◌∙◌, ap}
use Rattle.gx_model.specs.Plans.{plan_text}
use Rattle.gx_plan.specs.Plans.{indexes_in, plan_of}
use Rattle.gx_query.proofs.Planned.{told}
use Rattle.gx_query.proofs.explanation.explained.Goals as goal

pub returns-clause-reply : goal.returns-clause-reply
returns-clause-reply c =
    told c.push.new.to c.push_plan.new.to c.push-2.new.to c.push-3.new.to c.push-4.new.to c.push-5.new.to c.push-6.new.to
    (plan_text (plan_of (indexes_in c.args.catalog.now) c.args.plan.now)) c.args.counts.rows c.args.counts.selected
    (c.in_ok-push.ensures.bytes ∙ ap (λ (l : List ℕ). l ++ codes "PLAN ") c.new-bytes.ensures) c.in_ok-push_plan.ensures.bytes c.in_ok-push-2.ensures.bytes
    (c.in_ok-push-3.ensures.bytes ∙ ap (λ (l : List ℕ). c.push-2.new.to ++ l) c.format.ensures.text) c.in_ok-push-4.ensures.bytes
    (c.in_ok-push-5.ensures.bytes ∙ ap (λ (l : List ℕ). c.push-4.new.to ++ l) c.format-2.ensures.text) c.in_ok-push-6.ensures.bytes
