-- One row is taken off two lists.
use Rattle.std.proofs.Common.{◌≡◌, ⊎_elim, ◌+◌, ◌<◌, Bool, true, false, List, [], ◌∷◌, ◌++◌, length, sym, ◌∙◌, ap, subst, append_assoc, arith}
use Rattle.std.specs.List.Sorted.{IsPermutation}
use Rattle.std.proofs.lemmas.List.Sorted.{IsPermutation-refl, IsPermutation-sym, IsPermutation-middle, IsPermutation-append_right}
use Rattle.gx_pages.specs.declared.row.RowRef.{RowRef}
use Rattle.gx_pages.specs.Rows.{AreBelow, IsRising}
use Rattle.gx_bitmap.specs.Merges.{AreAbove, Takes}
use Rattle.gx_bitmap.proofs.Rising.{above_more, below_mid, common, common_both, common_left, common_right, new_both, new_left, new_ones, new_right, rising_put, rising_right, rising_tail}

-- what is in both lists
pub record And (rows left right : List RowRef) (row : RowRef) (both : Bool) (left_then right_then : List RowRef) : Type 0 where
  pub below : both ≡ true → AreBelow rows row.number
  pub kept : both ≡ true → (rows ++ row ∷ []) ++ common right_then left_then ≡ rows ++ common right left
  pub passed : both ≡ false → rows ++ common right_then left_then ≡ rows ++ common right left
  pub rising_kept : both ≡ true → IsRising ((rows ++ row ∷ []) ++ left_then)
  pub rising_passed : both ≡ false → IsRising (rows ++ left_then)
  pub right_rises : IsRising right_then
  pub less : length left_then + length right_then < length left + length right

-- what is in one of them
pub record Or (rows left right : List RowRef) (row : RowRef) (left_then right_then : List RowRef) : Type 0 where
  pub below : AreBelow rows row.number
  pub all : IsPermutation ((rows ++ row ∷ []) ++ (left_then ++ new_ones left_then right_then)) (rows ++ (left ++ new_ones left right))
  pub left_rises : IsRising ((rows ++ row ∷ []) ++ left_then)
  pub right_rises : IsRising ((rows ++ row ∷ []) ++ right_then)
  pub less : length left_then + length right_then < length left + length right

never : {A : Type 0} (b : Bool) → b ≡ true → b ≡ false → A
never b holds fails = absurd (let both : true ≡ false = sym holds ∙ fails in cc)

same_all : (xs ys : List RowRef) → xs ≡ ys → IsPermutation xs ys
same_all xs ys same = subst (λ (l : List RowRef). IsPermutation xs l) same (IsPermutation-refl xs)

module _ (rows left right : List RowRef) (row : RowRef) (both : Bool) (left_then right_then : List RowRef) where
  abbrev longer : List RowRef
  longer = rows ++ row ∷ []

  regroup : (more : List RowRef) → longer ++ more ≡ rows ++ row ∷ more
  regroup more = append_assoc rows (row ∷ []) more

  pub and_taken : Takes left right row both left_then right_then → IsRising (rows ++ left) → IsRising right → And rows left right row both left_then right_then
  and_taken takes rising rising_r =
      ⊎_elim
      (λ one.
      let cut = one.1 in
      let same = one.2 in
      let rises = subst (λ (l : List RowRef). IsRising (rows ++ l)) cut rising in
      let long = ap (λ (l : List RowRef). length l) cut in
      let also = ap (λ (l : List RowRef). length l) same in
      record {
        below = λ holds. never both holds one.0;
        kept = λ holds. never both holds one.0;
        passed = λ fails.
            ap (λ (r : List RowRef). rows ++ common r left_then) (sym same) ∙ ap (λ (l : List RowRef). rows ++ l) (sym (common_left row right left_then one.3))
            ∙ ap (λ (l : List RowRef). rows ++ common right l) (sym cut);
        rising_kept = λ holds. never both holds one.0;
        rising_passed = λ fails. rising_tail rows row left_then rises;
        right_rises = subst (λ (l : List RowRef). IsRising l) same rising_r;
        less = omega (arith, long, also);
      })
      (λ more.
      ⊎_elim
      (λ two.
      let cut = two.1 in
      let other = two.2.0 in
      let cut_right = two.2.1 in
      let rises = subst (λ (l : List RowRef). IsRising (rows ++ l)) cut rising in
      let rises_right = subst (λ (l : List RowRef). IsRising l) cut_right rising_r in
      let long = ap (λ (l : List RowRef). length l) cut in
      let also = ap (λ (l : List RowRef). length l) cut_right in
      record {
        below = λ holds. below_mid rows row left_then rises;
        kept = λ holds.
            regroup (common right_then left_then)
            ∙ ap (λ (l : List RowRef). rows ++ l) (sym (common_both row other right_then left_then two.2.2 (rising_right rows (row ∷ left_then) rises).0))
            ∙ ap (λ (r : List RowRef). rows ++ common r (row ∷ left_then)) (sym cut_right) ∙ ap (λ (l : List RowRef). rows ++ common right l) (sym cut);
        passed = λ fails. never both two.0 fails;
        rising_kept = λ holds. subst (λ (l : List RowRef). IsRising l) (sym (regroup left_then)) rises;
        rising_passed = λ fails. never both two.0 fails;
        right_rises = rises_right.1;
        less = omega (arith, long, also);
      })
      (λ three.
      let same = three.1 in
      let cut_right = three.2 in
      let rises_right = subst (λ (l : List RowRef). IsRising l) cut_right rising_r in
      let long = ap (λ (l : List RowRef). length l) same in
      let also = ap (λ (l : List RowRef). length l) cut_right in
      record {
        below = λ holds. never both holds three.0;
        kept = λ holds. never both holds three.0;
        passed = λ fails.
            ap (λ (l : List RowRef). rows ++ common right_then l) (sym same) ∙ ap (λ (l : List RowRef). rows ++ l) (sym (common_right row right_then left three.3))
            ∙ ap (λ (r : List RowRef). rows ++ common r left) (sym cut_right);
        rising_kept = λ holds. never both holds three.0;
        rising_passed = λ fails. subst (λ (l : List RowRef). IsRising (rows ++ l)) same rising;
        right_rises = rises_right.1;
        less = omega (arith, long, also);
      })
      more)
      takes

  pub or_taken : Takes left right row both left_then right_then → IsRising (rows ++ left) → IsRising (rows ++ right) → Or rows left right row left_then right_then
  or_taken takes rising rising_r =
      ⊎_elim
      (λ one.
      let cut = one.1 in
      let same = one.2 in
      let rises = subst (λ (l : List RowRef). IsRising (rows ++ l)) cut rising in
      let below = below_mid rows row left_then rises in
      let long = ap (λ (l : List RowRef). length l) cut in
      let also = ap (λ (l : List RowRef). length l) same in
      record {
        below = below;
        all = same_all (longer ++ (left_then ++ new_ones left_then right_then)) (rows ++ (left ++ new_ones left right))
            (regroup (left_then ++ new_ones left_then right_then) ∙ ap (λ (r : List RowRef). rows ++ row ∷ (left_then ++ new_ones left_then r)) (sym same)
            ∙ ap (λ (l : List RowRef). rows ++ row ∷ (left_then ++ l)) (sym (new_left row left_then right one.3)) ∙ ap (λ (l : List RowRef). rows ++ (l ++ new_ones l right)) (sym cut));
        left_rises = subst (λ (l : List RowRef). IsRising l) (sym (regroup left_then)) rises;
        right_rises = subst (λ (l : List RowRef). IsRising (longer ++ l)) same (subst (λ (l : List RowRef). IsRising l) (sym (regroup right)) (rising_put rows row right rising_r below one.3));
        less = omega (arith, long, also);
      })
      (λ more.
      ⊎_elim
      (λ two.
      let cut = two.1 in
      let other = two.2.0 in
      let cut_right = two.2.1 in
      let rises = subst (λ (l : List RowRef). IsRising (rows ++ l)) cut rising in
      let rises_right = subst (λ (l : List RowRef). IsRising (rows ++ l)) cut_right rising_r in
      let below = below_mid rows row left_then rises in
      let above : AreAbove other right_then = (rising_right rows (other ∷ right_then) rises_right).0 in
      let same = two.2.2 in
      let long = ap (λ (l : List RowRef). length l) cut in
      let also = ap (λ (l : List RowRef). length l) cut_right in
      record {
        below = below;
        all = same_all (longer ++ (left_then ++ new_ones left_then right_then)) (rows ++ (left ++ new_ones left right))
            (regroup (left_then ++ new_ones left_then right_then) ∙ ap (λ (l : List RowRef). rows ++ row ∷ (left_then ++ l)) (sym (new_both row other left_then right_then same above))
            ∙ ap (λ (r : List RowRef). rows ++ row ∷ (left_then ++ new_ones (row ∷ left_then) r)) (sym cut_right) ∙ ap (λ (l : List RowRef). rows ++ (l ++ new_ones l right)) (sym cut));
        left_rises = subst (λ (l : List RowRef). IsRising l) (sym (regroup left_then)) rises;
        right_rises = subst (λ (l : List RowRef). IsRising l) (sym (regroup right_then))
            (rising_put rows row right_then (rising_tail rows other right_then rises_right) below (above_more row other right_then (omega (arith, same)) above));
        less = omega (arith, long, also);
      })
      (λ three.
      let same = three.1 in
      let cut_right = three.2 in
      let rises_right = subst (λ (l : List RowRef). IsRising (rows ++ l)) cut_right rising_r in
      let below = below_mid rows row right_then rises_right in
      let long = ap (λ (l : List RowRef). length l) same in
      let also = ap (λ (l : List RowRef). length l) cut_right in
      let moved : IsPermutation (rows ++ row ∷ (left ++ new_ones left right_then)) (rows ++ (left ++ row ∷ new_ones left right_then)) =
      IsPermutation-append_right rows (row ∷ (left ++ new_ones left right_then)) (left ++ row ∷ new_ones left right_then)
      (IsPermutation-sym (left ++ row ∷ new_ones left right_then) (row ∷ (left ++ new_ones left right_then)) (IsPermutation-middle left row (new_ones left right_then))) in
      let is : rows ++ (left ++ row ∷ new_ones left right_then) ≡ rows ++ (left ++ new_ones left right) =
      ap (λ (l : List RowRef). rows ++ (left ++ l)) (sym (new_right row left right_then three.3)) ∙ ap (λ (r : List RowRef). rows ++ (left ++ new_ones left r)) (sym cut_right) in
      let was : rows ++ row ∷ (left ++ new_ones left right_then) ≡ longer ++ (left_then ++ new_ones left_then right_then) =
      sym (regroup (left ++ new_ones left right_then)) ∙ ap (λ (l : List RowRef). longer ++ (l ++ new_ones l right_then)) same in
      record {
        below = below;
        all = subst (λ (l : List RowRef). IsPermutation l (rows ++ (left ++ new_ones left right))) was
            (subst (λ (l : List RowRef). IsPermutation (rows ++ row ∷ (left ++ new_ones left right_then)) l) is moved);
        left_rises = subst (λ (l : List RowRef). IsRising (longer ++ l)) same (subst (λ (l : List RowRef). IsRising l) (sym (regroup left)) (rising_put rows row left rising below three.3));
        right_rises = subst (λ (l : List RowRef). IsRising l) (sym (regroup right_then)) rises_right;
        less = omega (arith, long, also);
      })
      more)
      takes
