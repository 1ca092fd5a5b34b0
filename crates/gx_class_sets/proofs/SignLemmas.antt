-- Signatures number by number.
use Rattle.std.proofs.Common.{◌≡◌, ℕ, ◌+◌, ◌<◌, List, length, take, get_or, replicate, map, ℤ, sym, ap, ◌∙◌}
use Rattle.std.specs.List.{fold}
use Rattle.std.proofs.lemmas.List.Sums.{fold_more}
use Rattle.std.proofs.lemmas.List.Folds.{fold-map}
use Rattle.gx_class_sets.specs.Signatures.{hash_of, with_hash, sign}

abbrev pub signed_from : ℕ → List ℤ → List ℕ
signed_from n numbers = fold (λ key number. with_hash n key (hash_of number)) (replicate n 0) numbers

pub one_more : (n : ℕ) (numbers : List ℤ) (i : ℕ) (d : ℤ) → i < length numbers
    → signed_from n (take (i + 1) numbers) ≡ with_hash n (signed_from n (take i numbers)) (hash_of (get_or numbers i d))
one_more n numbers i d h = fold_more (λ (key : List ℕ) (number : ℤ). with_hash n key (hash_of number)) (replicate n 0) numbers i d h

pub all_signed : (n : ℕ) (numbers : List ℤ) → signed_from n numbers ≡ sign n (map hash_of numbers)
all_signed n numbers = sym (fold-map (with_hash n) hash_of (replicate n 0) numbers)
