use Rattle.std.proofs.Common.{◌≡◌, Option, Some, map, refl, sym, ◌∙◌, ap, subst}
use Rattle.std.specs.String.{string_bytes}
use Rattle.gx_database.proofs.Empty.{empty_stands}
use Rattle.gx_pages.specs.Databases.{empty_pages}
use Rattle.gx_run.proofs.OpenFacts.{empty_count}
use Rattle.gx_run.specs.Outcomes.{Outcome}
use Rattle.gx_run.specs.Words.{command_of}
use Rattle.gx_run.specs.declared.words.Command.{Command}
use Rattle.gx_run.specs.declared.words.Command.TheVariants.{Init}
use Rattle.gx_run.proofs.program.run.Goals as goal

pub returns-in-Init-clause-outcome : goal.returns-in-Init-clause-outcome
returns-in-Init-clause-outcome g c =
    let i = c.init.ensures in
    let e : Some (Init c.in-Init.overwrite) ≡ command_of (map string_bytes c.args.words.now) = ap (λ (k : Command). Some k) (sym c.in-Init.is) ∙ sym c.in-Some.is ∙ c.read_words.ensures in
    let P : Option Command → Type 0 = λ k.
    Outcome g.S.Source g.H.Disk k c.args.steps.now c.args.steps.now c.args.source.now c.args.source.now c.args.host.now c.init.new.host c.init.result in
    subst P e (record { made = λ zero tells. (λ image left. record { map = empty_pages; pages = (i.made zero tells).0 image left; stands = empty_stands; count = empty_count }, (i.made zero tells).1); kept = i.kept; kinds = i.kinds; size = i.size; complete = i.complete; refused = i.refused }, refl, refl)
