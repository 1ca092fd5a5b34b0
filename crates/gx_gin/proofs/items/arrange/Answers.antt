use Rattle.std.proofs.Common.{ℕ, ◌≡◌, map, rules}
use Rattle.std.specs.Ordering.{nat_cmp, is_lt}
use Rattle.std.specs.Cmp.Lexicographic.{slice_cmp}
use Rattle.std.proofs.lemmas.Cmp.{nat_list_cmp_total}
use Rattle.std.proofs.lemmas.Fn.{always_returns_same, dedup_same}
use Rattle.std.proofs.lemmas.List.Sorted.{ranks_by}
use Rattle.gx_gin.specs.declared.strings.Part.{Part}
use Rattle.gx_gin.specs.Parts.{cut}
use Rattle.gx_gin.proofs.Cuts.{same_part, made}
use Rattle.gx_gin.proofs.items.arrange.Goals as goal

pub returns : goal.returns
returns c =
    let bytes = c.args.bytes.now in
    let up = c.in_ok-sort_by.ensures.sorted (λ p q. is_lt (slice_cmp nat_cmp (cut bytes p) (cut bytes q))) (ranks_by nat_list_cmp_total (cut bytes))
    (always_returns_same _ (λ a r. is_lt r ≡ is_lt (slice_cmp nat_cmp (cut bytes a.0.now) (cut bytes a.1.0.now))) _ (λ a r q k. search rules)) in
    let once = dedup_same _ (same_part bytes) _ (λ x y b f' x' y' k. search rules) _ _ c.dedup_by.ensures.filtered in
    let all = made bytes c.args.parts.now.items c.sort_by.new.self.items c.dedup_by.new.self.items c.in_ok-sort_by.ensures.permutation up once in
    record { rising = all.0; value = all.1 }
