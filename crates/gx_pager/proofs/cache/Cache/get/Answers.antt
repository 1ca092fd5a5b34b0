use Rattle.std.proofs.Common.{Some, sym, ◌∙◌, ap}
use Rattle.gx_log.specs.Records.{page_in}
use Rattle.gx_pager.proofs.Cached.{found_agrees, promoted_agrees}
use Rattle.gx_pager.proofs.cache.Cache.get.Goals as goal

pub returns-in-Some-clause-found : goal.returns-in-Some-clause-found
returns-in-Some-clause-found c = λ hit. ap page_in (sym c.in-Some.ensures.value) ∙ ap Some (sym (c.copy.ensures ∙ c.deref.ensures))

pub returns-in-Some-clause-hit : goal.returns-in-Some-clause-hit
returns-in-Some-clause-hit c = λ hit map agrees.
    found_agrees map c.args.self.now.pages.entries c.args.page _ (sym c.in-Some.ensures.value) agrees ∙ ap Some (sym (c.copy.ensures ∙ c.deref.ensures))

pub returns-in-Some-clause-kept : goal.returns-in-Some-clause-kept
returns-in-Some-clause-kept c = λ map agrees. promoted_agrees map c.args.self.now.pages.entries _ c.args.page (ap (λ r. r.entries) c.get.follows.holds-at-none) agrees

pub returns-in-None-clause-kept : goal.returns-in-None-clause-kept
returns-in-None-clause-kept c = λ map agrees. promoted_agrees map c.args.self.now.pages.entries _ c.args.page (ap (λ r. r.entries) c.get.follows.holds-at-none) agrees
