-- The plan of a query without indexes.
use Rattle.std.proofs.Common.{◌≡◌, ◌≢◌, ℕ, false, List, [], ◌∷◌, ◌++◌, length, codes, Option, None, Some, refl, sym, ◌∙◌, ap, subst, append_assoc}
use Rattle.std.specs.Fmt.{decimal}
use Rattle.gx_catalog.specs.Catalogs.{Directory}
use Rattle.gx_catalog.specs.Validity.{table_numbered}
use Rattle.gx_catalog.specs.declared.info.IndexInfo.{IndexInfo}
use Rattle.gx_catalog.specs.declared.info.TableInfo.{TableInfo}
use Rattle.gx_model.specs.Database.{Index}
use Rattle.gx_model.specs.Plans as model
use Rattle.gx_model.specs.Plans.{plan_text}
use Rattle.gx_model.specs.Replies.{Reply, line}
use Rattle.gx_model.specs.Steps.{explanation}
use Rattle.gx_model.specs.Truth.{Bound}
use Rattle.gx_plan.specs.Indexes.{indexes_of}
use Rattle.gx_plan.specs.Plans.{plan_of, plan_on, indexes_in, is_table, IsWithin}
use Rattle.gx_plan.specs.declared.plan.Plan.{Plan}
use Rattle.gx_plan.proofs.PlanLemmas.{not_whole}
use Rattle.gx_query.specs.Answers.{explained_reply}
use Rattle.gx_query.specs.Planned.{IsChosenWhere}
use Rattle.gx_model.proofs.WholePlans.{whole_plan}

whole_on : (indexes : List Index) → indexes ≡ [] → (o : Option TableInfo) (b : Bound) → plan_on indexes o b ≡ model.Whole
whole_on indexes none None b = refl
whole_on indexes none (Some t) b = ap (λ (l : List Index). model.plan l t.name b) none ∙ whole_plan t.name b

none_in : (catalog : Directory) → catalog.indexes ≡ [] → indexes_in catalog ≡ []
none_in catalog bare = ap (λ (l : List IndexInfo). indexes_of catalog.tables l) bare

chosen_whole : (catalog : Directory) (table : ℕ) (condition : Option Bound) (chosen : Plan) → catalog.indexes ≡ [] → IsChosenWhere catalog table condition chosen → plan_of (indexes_in catalog) chosen ≡ model.Whole
chosen_whole catalog table None chosen bare is = ap (λ (p : Plan). plan_of (indexes_in catalog) p) is
chosen_whole catalog table (Some b) chosen bare is = is.is ∙ whole_on (indexes_in catalog) (none_in catalog bare) (table_numbered table catalog.tables) b

pub whole_text : (catalog : Directory) (table : ℕ) (condition : Option Bound) (chosen : Plan) → catalog.indexes ≡ [] → IsChosenWhere catalog table condition chosen
    → plan_text (plan_of (indexes_in catalog) chosen) ≡ codes "*"
whole_text catalog table condition chosen bare is = ap (λ (p : model.Plan). plan_text p) (chosen_whole catalog table condition chosen bare is)

pub within_where : (catalog : Directory) (table : ℕ) (condition : Option Bound) (chosen : Plan) → IsChosenWhere catalog table condition chosen → IsWithin (length catalog.indexes) chosen
within_where catalog table None chosen is = subst (λ (p : Plan). IsWithin (length catalog.indexes) p) (sym is) tt
within_where catalog table (Some b) chosen is = is.within

-- a plan by indexes has some
within_all : (catalog : Directory) (chosen : Plan) → catalog.indexes ≡ [] → IsWithin (length catalog.indexes) chosen → IsWithin (length (indexes_in catalog)) chosen
within_all catalog chosen bare within =
    let same : length catalog.indexes ≡ length (indexes_in catalog) = ap (λ (l : List IndexInfo). length l) bare ∙ sym (ap (λ (l : List Index). length l) (none_in catalog bare)) in
    subst (λ (n : ℕ). IsWithin n chosen) same within

pub has_index : (catalog : Directory) (table : ℕ) (condition : Option Bound) (chosen : Plan) → is_table chosen ≡ false → IsChosenWhere catalog table condition chosen → catalog.indexes ≢ []
has_index catalog table condition chosen other is = λ bare.
    not_whole (indexes_in catalog) chosen other (within_all catalog chosen bare (within_where catalog table condition chosen is)) (chosen_whole catalog table condition chosen bare is)

none_long : (l : List IndexInfo) → 0 ≡ length l → l ≡ []
none_long [] zero = refl
none_long (i ∷ l) zero = cc

pub some_indexes : (catalog : Directory) (table : ℕ) (condition : Option Bound) (chosen : Plan) → is_table chosen ≡ false → IsChosenWhere catalog table condition chosen → 0 ≢ length catalog.indexes
some_indexes catalog table condition chosen other is = λ zero. has_index catalog table condition chosen other is (none_long catalog.indexes zero)

-- What is pushed one after another is the explanation.
told_text : (a b c d e f g by : List ℕ) (rows selected : ℕ) → a ≡ codes "PLAN " → b ≡ a ++ by → c ≡ b ++ codes " CANDIDATES " → d ≡ c ++ decimal rows → e ≡ d ++ codes " ROWS " → f ≡ e ++ decimal selected
    → g ≡ f ++ codes "\nEXPLAIN\n" → g ≡ explanation by rows selected
told_text a b c d e f g by rows selected ea eb ec ed ee ef eg =
    let front : f ≡ codes "PLAN " ++ by ++ codes " CANDIDATES " ++ decimal rows ++ codes " ROWS " ++ decimal selected =
    ef ∙ ap (λ (l : List ℕ). l ++ decimal selected) (ee ∙ ap (λ (l : List ℕ). l ++ codes " ROWS ") (ed ∙ ap (λ (l : List ℕ). l ++ decimal rows) (ec ∙ ap (λ (l : List ℕ). l ++ codes " CANDIDATES ") (eb ∙ ap (λ (l : List ℕ). l ++ by) ea)))) in
    eg ∙ ap (λ (l : List ℕ). l ++ codes "\nEXPLAIN\n") front
    ∙ sym (append_assoc (codes "PLAN " ++ by ++ codes " CANDIDATES " ++ decimal rows ++ codes " ROWS " ++ decimal selected) (10 ∷ []) (line (codes "EXPLAIN")))

abbrev pub told_bytes : List ℕ → Reply
told_bytes bytes = record { bytes = bytes; fault = None }

pub told : (a b c d e f g by : List ℕ) (rows selected : ℕ) → a ≡ codes "PLAN " → b ≡ a ++ by → c ≡ b ++ codes " CANDIDATES " → d ≡ c ++ decimal rows → e ≡ d ++ codes " ROWS " → f ≡ e ++ decimal selected
    → g ≡ f ++ codes "\nEXPLAIN\n" → told_bytes g ≡ explained_reply by rows selected
unfolding explained_reply
told a b c d e f g by rows selected ea eb ec ed ee ef eg = λ i. record { bytes = told_text a b c d e f g by rows selected ea eb ec ed ee ef eg i; fault = None }
