use Rattle.std.proofs.Common.{rules}
use Rattle.std.proofs.lemmas.Fn.{dedup_same}
use Rattle.std.proofs.lemmas.List.Sorted.{IsNonDecreasingBy-from_sort_by_key, IsPermutation-sym}
use Rattle.vlm_locks.proofs.InOrder.{each_is_kept, left_was_there, permuted_in, rise_once, same_number}
use Rattle.vlm_locks.proofs.touched.Touched.in_order.Goals as goal

pub returns-clause-rising : goal.returns-clause-rising
returns-clause-rising c =
    rw (dedup_same _ same_number _ (λ x y b f' x' y' k. search rules) _ _ c.dedup_by_key.ensures.filtered)
    (rise_once _ (IsNonDecreasingBy-from_sort_by_key (λ t. t.number) _ c.sort_unstable_by_key.ensures.sorted (λ a r q k. search rules)))

pub returns-clause-within : goal.returns-clause-within
returns-clause-within c t there =
    rw (← c.self.view_is)
    (permuted_in _ _ c.sort_unstable_by_key.ensures.permutation t
    (left_was_there _ t (rw (dedup_same _ same_number _ (λ x y b f' x' y' k. search rules) _ _ c.dedup_by_key.ensures.filtered) at there)))

pub returns-clause-each : goal.returns-clause-each
returns-clause-each c t there =
    rw (dedup_same _ same_number _ (λ x y b f' x' y' k. search rules) _ _ c.dedup_by_key.ensures.filtered)
    (each_is_kept _ t (permuted_in _ _ (IsPermutation-sym _ _ c.sort_unstable_by_key.ensures.permutation) t (rw (← c.self.view_is) at there)))
