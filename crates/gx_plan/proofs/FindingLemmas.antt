-- The column of a name, and its place.
use Rattle.std.proofs.Common.{◌≡◌, ℕ, ◌+◌, ◌<◌, suc, Bool, true, false, not, cond, List, [], ◌∷◌, length, nat_lt, Option, Some, None, is_some, option_map, slice_get, slice_index_or, refl, sym, ◌∙◌, ap, arith}
use Rattle.std.specs.List.{find, position_or_len}
use Rattle.std.proofs.lemmas.List.Folds.{find_at}
use Rattle.std.proofs.lemmas.Option.{cond_some, slice_get-map, slice_get-get_or}
use Rattle.std.proofs.lemmas.Bool.Decides.{nat_tests}
use Rattle.gx_value.specs.declared.fields.Column.{Column}
use Rattle.gx_model.specs.Database.{is_column, column_named, place_of}
use Rattle.gx_plan.specs.Bindings.{IsFound}

there_step : (b : Bool) (c : Column) (o : Option Column) (n k : ℕ) → nat_lt n k ≡ is_some o → nat_lt (cond (not b) (1 + n) 0) (suc k) ≡ is_some (cond b (Some c) o)
there_step true c o n k h = grind (arith, nat_tests)
there_step false c o n k h = let e : nat_lt (1 + n) (suc k) ≡ nat_lt n k = grind (arith, nat_tests) in e ∙ h

there : (p : Column → Bool) (cs : List Column) → nat_lt (position_or_len p cs) (length cs) ≡ is_some (find p cs)
there p [] = refl
there p (c ∷ cs) = there_step (p c) c (find p cs) (position_or_len p cs) (length cs) (there p cs)

not_there : (b : Bool) (n : ℕ) (o : Option Column) → b ≡ is_some o → None ≡ cond b (Some n) None → o ≡ None
not_there true n o e h = cc
not_there false n None e h = refl
not_there false n (Some c) e h = cc

pub no_column : (columns : List Column) (name : List ℕ) → None ≡ place_of columns name → column_named columns name ≡ None
no_column columns name e =
    let p = is_column name in
    not_there (nat_lt (position_or_len p columns) (length columns)) (position_or_len p columns) (find p columns) (there p columns) e

pub at_place : (columns : List Column) (name : List ℕ) (place : ℕ) → Some place ≡ place_of columns name → column_named columns name ≡ slice_get columns place
at_place columns name place e =
    let p = is_column name in
    let h = cond_some (nat_lt (position_or_len p columns) (length columns)) (position_or_len p columns) place (sym e) in
    find_at p columns ∙ ap (λ k. slice_get columns k) h.1

pub standing : (columns : List Column) (place : ℕ) (column : Column) → place < length columns → column ≡ slice_index_or columns place column → Some column ≡ slice_get columns place
standing columns place column within is = ap (λ (c : Column). Some c) is ∙ sym (slice_get-get_or columns place column within)

pub is_found : (columns : List Column) (name : List ℕ) (place : ℕ) (column : Column) → Some place ≡ place_of columns name → Some column ≡ slice_get columns place → IsFound columns name place column
is_found columns name place column e s = record {
  place_is = sym e;
  column_is = at_place columns name place e ∙ sym s;
  kind_is = slice_get-map (λ (c : Column). c.kind) columns place ∙ ap (λ o. option_map (λ (c : Column). c.kind) o) (sym s);
}
