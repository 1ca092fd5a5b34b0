use Rattle.std.proofs.Common.{◌≡◌, inr, ℕ, List, [], refl, sym, ◌∙◌, ap, subst, codes}
use Rattle.std.specs.Prelude.{option_copied, option_map}
use Rattle.gx_engine.specs.Engines.{reply_of}
use Rattle.gx_model.specs.Replies.{accepted, line}
use Rattle.gx_model.specs.Steps.{Costs, Steps}
use Rattle.gx_parse.specs.Said as said
use Rattle.gx_parse.specs.Said.{Said, said_of, query_of}
use Rattle.gx_parse.specs.Trees.{tree_of}
use Rattle.gx_statement.proofs.Doing as doing
use Rattle.gx_statement.proofs.stepping.step.Goals as goal

pub returns-in-Nothing-clause-done : goal.returns-in-Nothing-clause-done
returns-in-Nothing-clause-done g c = λ tells db stands.
    doing.done_still g.P.Pages c.args.pages.now (said_of c.args.statement.now) said.Nothing db (accepted []) _ (ap said_of c.in-Nothing.is) (inr (refl, refl))
    (ap (λ (b : List ℕ). accepted b) (sym c.new.ensures)) stands tt

pub returns-in-Checkpoint-clause-done : goal.returns-in-Checkpoint-clause-done
returns-in-Checkpoint-clause-done g c = doing.if_ok_then c.told.result _ _
    (λ reply is tells db stands.
    doing.done_still g.P.Pages c.args.pages.now (said_of c.args.statement.now) said.Checkpoint db (accepted (line (codes "CHECKPOINT"))) (reply_of reply) (ap said_of c.in-Checkpoint.is) (inr (refl, refl)) (sym is) stands tt)
    c.told.ensures.reply

pub returns-in-Begin-clause-done : goal.returns-in-Begin-clause-done
returns-in-Begin-clause-done g c = doing.if_ok_then c.told-in-Begin.result _ _
    (λ reply is tells db stands.
    doing.done_still g.P.Pages c.args.pages.now (said_of c.args.statement.now) said.Begin db (accepted (line (codes "BEGIN"))) (reply_of reply) (ap said_of c.in-Begin.is) (inr (refl, refl)) (sym is) stands tt)
    c.told-in-Begin.ensures.reply

pub returns-in-Commit-clause-done : goal.returns-in-Commit-clause-done
returns-in-Commit-clause-done g c = doing.if_ok_then c.told-in-Commit.result _ _
    (λ reply is tells db stands.
    doing.done_still g.P.Pages c.args.pages.now (said_of c.args.statement.now) said.Commit db (accepted (line (codes "COMMIT"))) (reply_of reply) (ap said_of c.in-Commit.is) (inr (refl, refl)) (sym is) stands tt)
    c.told-in-Commit.ensures.reply

pub returns-in-Rollback-clause-done : goal.returns-in-Rollback-clause-done
returns-in-Rollback-clause-done g c = doing.if_ok_then c.told-in-Rollback.result _ _
    (λ reply is tells db stands.
    doing.done_still g.P.Pages c.args.pages.now (said_of c.args.statement.now) said.Rollback db (accepted (line (codes "ROLLBACK"))) (reply_of reply) (ap said_of c.in-Rollback.is) (inr (refl, refl)) (sym is) stands tt)
    c.told-in-Rollback.ensures.reply

pub returns-in-CreateTable-clause-most : goal.returns-in-CreateTable-clause-most
returns-in-CreateTable-clause-most g c = λ tells db stands n cost.
    let At : Said → Type 0 = λ s. Costs db s n in
    let same : said_of c.args.statement.now ≡ said.CreateTable c.as_slice.result.now c.in-CreateTable.columns = cc (ap said_of c.in-CreateTable.is, c.as_slice.ensures) in
    c.create_table.ensures.most tells db stands n (subst At same cost)

pub returns-in-DropTable-clause-most : goal.returns-in-DropTable-clause-most
returns-in-DropTable-clause-most g c = λ tells db stands n cost.
    let At : Said → Type 0 = λ s. Costs db s n in
    let same : said_of c.args.statement.now ≡ said.DropTable c.as_slice-in-DropTable.result.now = cc (ap said_of c.in-DropTable.is, c.as_slice-in-DropTable.ensures) in
    c.drop_table.ensures.most tells db stands n (subst At same cost)

pub returns-in-CreateIndex-clause-most : goal.returns-in-CreateIndex-clause-most
returns-in-CreateIndex-clause-most g c = λ tells db stands n cost.
    let At : Said → Type 0 = λ s. Costs db s n in
    let same : said_of c.args.statement.now ≡ said.CreateIndex c.as_slice-in-CreateIndex.result.now c.as_slice-in-CreateIndex-2.result.now c.as_slice-in-CreateIndex-3.result.now c.as_slice-in-CreateIndex-4.result.now (option_copied c.as_ref.result) (option_copied c.as_ref-in-CreateIndex.result) = cc (ap said_of c.in-CreateIndex.is, c.as_slice-in-CreateIndex.ensures, c.as_slice-in-CreateIndex-2.ensures, c.as_slice-in-CreateIndex-3.ensures, c.as_slice-in-CreateIndex-4.ensures, c.as_ref.ensures.value, c.as_ref-in-CreateIndex.ensures.value) in
    c.create_index.ensures.most tells db stands n (subst At same cost)

pub returns-in-DropIndex-clause-most : goal.returns-in-DropIndex-clause-most
returns-in-DropIndex-clause-most g c = λ tells db stands n cost.
    let At : Said → Type 0 = λ s. Costs db s n in
    let same : said_of c.args.statement.now ≡ said.DropIndex c.as_slice-in-DropIndex.result.now = cc (ap said_of c.in-DropIndex.is, c.as_slice-in-DropIndex.ensures) in
    c.drop_index.ensures.most tells db stands n (subst At same cost)

pub returns-in-Insert-clause-most : goal.returns-in-Insert-clause-most
returns-in-Insert-clause-most g c = λ tells db stands n cost.
    let At : Said → Type 0 = λ s. Costs db s n in
    let same : said_of c.args.statement.now ≡ said.Insert c.as_slice-in-Insert.result.now (option_copied c.as_ref-in-Insert.result) c.in-Insert.rows = cc (ap said_of c.in-Insert.is, c.as_slice-in-Insert.ensures, c.as_ref-in-Insert.ensures.value) in
    c.insert.ensures.most tells db stands n (subst At same cost)

pub returns-in-Delete-clause-most : goal.returns-in-Delete-clause-most
returns-in-Delete-clause-most g c = λ tells db stands n cost.
    let At : Said → Type 0 = λ s. Costs db s n in
    let same : said_of c.args.statement.now ≡ said.Delete c.as_slice-in-Delete.result.now (option_map tree_of (option_copied c.as_ref-in-Delete.result)) = cc (ap said_of c.in-Delete.is, c.as_slice-in-Delete.ensures, c.as_ref-in-Delete.ensures.value) in
    c.delete.ensures.most tells db stands n (subst At same cost)

pub returns-in-Select-clause-most : goal.returns-in-Select-clause-most
returns-in-Select-clause-most g c = λ tells db stands n cost.
    let At : Said → Type 0 = λ s. Costs db s n in
    let same : said_of c.args.statement.now ≡ said.Select (query_of c.in-Select.query) = ap said_of c.in-Select.is in
    c.select.ensures.most tells db stands n (subst At same cost)

pub returns-in-Explain-clause-most : goal.returns-in-Explain-clause-most
returns-in-Explain-clause-most g c = λ tells db stands n cost.
    let At : Said → Type 0 = λ s. Costs db s n in
    let same : said_of c.args.statement.now ≡ said.Explain (query_of c.in-Explain.query) = ap said_of c.in-Explain.is in
    c.explain.ensures.most tells db stands n (subst At same cost)

pub returns-in-Vacuum-clause-most : goal.returns-in-Vacuum-clause-most
returns-in-Vacuum-clause-most g c = λ tells db stands n cost.
    let At : Said → Type 0 = λ s. Costs db s n in
    let same : said_of c.args.statement.now ≡ said.Vacuum c.as_slice-in-Vacuum.result.now = cc (ap said_of c.in-Vacuum.is, c.as_slice-in-Vacuum.ensures) in
    c.vacuum.ensures.most tells db stands n (subst At same cost)

pub returns-in-CreateTable-clause-grows : goal.returns-in-CreateTable-clause-grows
returns-in-CreateTable-clause-grows g c =
    let same : said_of c.args.statement.now ≡ said.CreateTable c.as_slice.result.now c.in-CreateTable.columns = cc (ap said_of c.in-CreateTable.is, c.as_slice.ensures) in
    doing.grows_as g.P.Pages c.args.pages.now c.create_table.new.pages _ _ (sym same) c.create_table.ensures.grows

pub returns-in-Insert-clause-grows : goal.returns-in-Insert-clause-grows
returns-in-Insert-clause-grows g c =
    let same : said_of c.args.statement.now ≡ said.Insert c.as_slice-in-Insert.result.now (option_copied c.as_ref-in-Insert.result) c.in-Insert.rows = cc (ap said_of c.in-Insert.is, c.as_slice-in-Insert.ensures, c.as_ref-in-Insert.ensures.value) in
    doing.grows_as g.P.Pages c.args.pages.now c.insert.new.pages _ _ (sym same) c.insert.ensures.grows
