use Rattle.std.proofs.Common.{◌≡◌, ℕ, List, ◌++◌, Option, None, Some, MatchOption, IsUtf8, true≢false, sym, ap, ◌∙◌, subst}
use Rattle.std.proofs.lemmas.Slice.Eq.{bytes_eq-Decides}
use Rattle.serde_json.specs.Data.{Data}
use Rattle.serde_json.specs.Read.{read}
use Rattle.serde_json.specs.View.{view}
use Rattle.serde_json.specs.Written.{compact_text}
use Rattle.serde_json.specs.declared.value.Value.{Value}
use Rattle.gx_json.specs.declared.document.Json.{Json}
use Rattle.gx_json.specs.Tree.{data_of}
use Rattle.gx_json.specs.Valid.{IsDocument}
use Rattle.gx_json.proofs.ReadBack.{nothing_read, no_document, other_bytes}
use Rattle.gx_json.proofs.document.Json.decode.Goals as goal

abbrev Parsed : List ℕ → Option Value → Type 0
Parsed bytes o = MatchOption o (IsUtf8 bytes → read bytes ≡ None) (λ v. read bytes ≡ Some (view v))

abbrev Valid : Data → Option Json → Type 0
Valid d o = MatchOption o (IsDocument d → ⊥) (λ j. (data_of j ≡ d) × IsDocument (data_of j))

pub returns-in_default : goal.returns-in_default
returns-in_default c = nothing_read c.args.bytes.now (subst (Parsed c.args.bytes.now) c.in_default.is c.in_ok-value.ensures)

pub returns-in_default-2 : goal.returns-in_default-2
returns-in_default-2 c =
    let d = view c.in-Some.value in
    no_document c.args.bytes.now d (subst (Parsed c.args.bytes.now) c.in-Some.is c.in_ok-value.ensures) (subst (Valid d) c.in_default-2.is c.in_ok-json.ensures)

pub returns : goal.returns
returns c =
    let bytes = c.args.bytes.now in
    let d = view c.in-Some.value in
    let parsed : read bytes ≡ Some d = subst (Parsed bytes) c.in-Some.is c.in_ok-value.ensures in
    let valid : Valid d (Some c.in-Some-2.json) = subst (Valid d) c.in-Some-2.is c.in_ok-json.ensures in
    let text : c.as_slice.result.now ≡ compact_text d = c.as_slice.ensures ∙ c.in_ok-encode.ensures ∙ ap (λ (t : List ℕ). t ++ compact_text (data_of c.in-Some-2.json)) c.new-text.ensures ∙ ap compact_text valid.0 in
    other_bytes bytes c.as_slice.result.now d parsed text (λ same. true≢false (sym ((bytes_eq-Decides c.as_slice.result.now bytes).1 same) ∙ sym c.if-eq.ensures))
