use Rattle.std.proofs.Common.{◌∙◌, sym, ap, List, ℕ, ◌∷◌, []}
use Rattle.std.specs.String.{string_bytes}
use Rattle.gx_run.specs.Words.{command_of}
use Rattle.gx_run.proofs.WordFacts.{one_word, two_words, three_words}
use Rattle.gx_run.proofs.words.read_words.Goals as goal

pub returns-in-len1 : goal.returns-in-len1
returns-in-len1 c =
    c.read_one.ensures ∙ ap (λ (t : List ℕ). command_of (t ∷ [])) c.as_str.ensures.value
    ∙ ap command_of (sym (one_word c.args.words.now c.word-item.result c.in-len1.len_at_least c.in-len1.len_below c.word-item.is))

pub returns-in-len2 : goal.returns-in-len2
returns-in-len2 c =
    let k = two_words c.args.words.now c.first-item.result c.in-len2.len_at_least c.in-len2.len_below c.first-item.is in
    c.read_two.ensures k.0 ∙ ap (λ (t : List ℕ). command_of (t ∷ k.0 ∷ [])) c.as_str-verb.ensures.value ∙ ap command_of (sym k.1)

pub returns-in-len3 : goal.returns-in-len3
returns-in-len3 c =
    let k = three_words c.args.words.now c.start-item.result c.last-item.result c.in-len3.len_at_least c.in-len3.len_below c.start-item.is c.last-item.is in
    c.read_three.ensures k.0 ∙ ap (λ (t : List ℕ). command_of (t ∷ k.0 ∷ c.as_str-option.result.now ∷ [])) c.as_str-action.ensures.value
    ∙ ap (λ (t : List ℕ). command_of (string_bytes c.start-item.result ∷ k.0 ∷ t ∷ [])) c.as_str-option.ensures.value ∙ ap command_of (sym k.1)
