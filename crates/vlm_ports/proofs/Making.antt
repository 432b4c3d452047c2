-- Ports that are made have the rings that they were made with.
use Rattle.std.proofs.Common.{◌≡◌, ◌∙◌, ◌+◌, ◌-◌, ◌<◌, ℕ, zero, suc, List, [], ◌∷◌, ◌++◌, Some, ap, arith, get_or, length, map, sym, subst}
use Rattle.std.specs.Prelude.{All}
use Rattle.std.specs.List.{slice_get}
use Rattle.std.specs.Option.{option_map}
use Rattle.std.proofs.lemmas.Option.{slice_get-get_or, slice_get-map}
use Rattle.vlm_ports.specs.declared.port.Port.{Port}
use Rattle.vlm_ports.specs.Ports.{AreNew, identity}
use Rattle.vlm_ports.specs.Rings.{RingName}

pub each_of_rings : (rings : List (ℕ × RingName × RingName)) (ports : List Port) → AreNew ports → map identity ports ≡ rings
    → All (λ port. (0 < port.node) × (slice_get rings (port.node - 1) ≡ Some (identity port))) ports
each_of_rings rings ports new same = λ k d lt.
    let node : (get_or ports k d).node ≡ k + 1 = (new k d lt).0 in
    let before : (get_or ports k d).node - 1 ≡ k = omega (arith, node) in
    let at : slice_get (map identity ports) k ≡ Some (identity (get_or ports k d)) =
    slice_get-map identity ports k ∙ ap (option_map identity) (slice_get-get_or ports k d lt) in (
      omega (arith, node),
      subst (λ n. slice_get rings n ≡ Some (identity (get_or ports k d))) (sym before)
          (subst (λ rs. slice_get rs k ≡ Some (identity (get_or ports k d))) same at),
    )

-- what holds of each of a list by its place, and of one more behind them, holds of each of all
pub pushed_each : {X : Type 0} (P : ℕ → X → Type 0) (xs : List X) (x : X) → ((k : ℕ) (d : X) → k < length xs → P k (get_or xs k d)) → P (length xs) x
    → (k : ℕ) (d : X) → k < length (xs ++ x ∷ []) → P k (get_or (xs ++ x ∷ []) k d)
pushed_each P [] x each last zero d lt = last
pushed_each P [] x each last (suc k) d lt = absurd (omega (arith, lt))
pushed_each P (y ∷ xs) x each last zero d lt = each zero d (omega arith)
pushed_each P (y ∷ xs) x each last (suc k) d lt =
    pushed_each (λ j. P (suc j)) xs x (λ j e l. each (suc j) e (omega (arith, l))) last k d (omega (arith, lt))
