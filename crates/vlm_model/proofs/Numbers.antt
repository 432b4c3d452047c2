-- After every run a step takes the numbers of what it makes, and no other.
use Rattle.std.proofs.Common.{◌≡◌, ◌<◌, ◌&&◌, ◌||◌, ℕ, Bool, true, false, not, cond, List, [], ◌∷◌, filter, Option}
use Rattle.std.proofs.Common.{None, Some, inl, inr, refl, sym, subst, arith}
use Rattle.std.specs.Prelude.{◌==◌, nat_lt}
use Rattle.std.specs.List.{list_any}
use Rattle.std.proofs.lemmas.Bool.{and_parts, cond_both, eq-eqb, eqb-true, or_cases, or_right}
use Rattle.std.proofs.lemmas.Bool.Decides.{nat_tests}
use Rattle.std.proofs.lemmas.List.Folds.{Any-from_list_any}
use Rattle.vlm_words.specs.declared.conditions.Cond.{Cond}
use Rattle.vlm_words.specs.declared.locks.LockState.{LockState}
use Rattle.vlm_words.specs.declared.resources.Site.{Site}
use Rattle.vlm_words.specs.declared.resources.ValueBlock.{ValueBlock}
use Rattle.vlm_words.specs.declared.steps.Answer.TheVariants.{Plain}
use Rattle.vlm_words.specs.declared.steps.NewRequest.{NewRequest}
use Rattle.vlm_words.specs.declared.steps.Step.TheVariants.{Declare, SetValue, Enq, Convert, Deq, Rundown, Leave, Search, Take}
use Rattle.vlm_words.specs.declared.steps.Step.{Step}
use Rattle.vlm_words.specs.State.{Process, Resource, State}
use Rattle.vlm_model.specs.Sweeps.{blocks_after_service, is_vacant, resource_after_service, resources_after_service}
use Rattle.vlm_model.specs.Sweeps.{resources_after_sweep, state_after_sweep, served_with}
use Rattle.vlm_model.specs.Effects.{with_value_block}
use Rattle.vlm_model.specs.Grants.{grant_endings, service}
use Rattle.vlm_words.specs.Resources.{is_at, new_resource}
use Rattle.vlm_model.specs.Trees.{enq_site}
use Rattle.vlm_model.specs.Declare.{declare_change}
use Rattle.vlm_model.specs.SetValue.{set_change}
use Rattle.vlm_model.specs.Take.{take_change}
use Rattle.vlm_model.specs.Enqueue.{enq_at_once, enq_change, enq_key, enq_row, has_resource, resource_after_entry, resources_after_entry}
use Rattle.vlm_model.specs.Convert.{ConversionAdmission, convert_change}
use Rattle.vlm_model.specs.Dequeue.{deq_change}
use Rattle.vlm_model.specs.Stepped.{IsChoice, Stepped, conversion_change, refused_or, step_change, step_refusal, stepped, stepped_after_sweep}
use Rattle.vlm_model.specs.Runs.{History, Run, next}
use Rattle.vlm_model.specs.Numbers.{HasSerial, NumbersAreGivenOnce, TakesNumbers, TakesSerial}
use Rattle.vlm_model.proofs.Each.{each_weaker, no_Any}
use Rattle.vlm_model.proofs.Always.{admission_of}
use Rattle.vlm_model.proofs.Sums.{sum_of_zero}
use Rattle.vlm_model.proofs.Weights.{entered_weighs, served_weighs, vacant_weighs_nothing, weigh, warned_weighs}
use Rattle.vlm_model.proofs.LastingSums.{IsByName, entered_named, grant_keeps}
use Rattle.vlm_model.proofs.IdsApart.{Apart, apart_always, stands}
use Rattle.vlm_model.proofs.Keys.{Placed, WasGiven, entry_keeps_place, placed_always, service_keeps_place}
use Rattle.vlm_model.specs.Rundown.{is_ended_by, nodes_after_departure, state_after_rundown}
use Rattle.vlm_words.specs.Steps.{is_of_node}
use Rattle.vlm_model.specs.Search.{search_change}

-- a row counts one
abbrev one : LockState → ℕ
one row = 1

-- whatever it holds and wants
one_named : IsByName one
one_named row held want armed = refl

-- a resource of this serial, on which some lock is left
abbrev is_kept : ℕ → Resource → Bool
is_kept serial r = (r.serial == serial) && nat_lt 0 (weigh one r)

-- it is not vacant
kept_not_vacant : (r : Resource) → 0 < weigh one r → is_vacant r ≡ false
kept_not_vacant r some = of_test (is_vacant r) refl
  where
    of_test : (b : Bool) → is_vacant r ≡ b → b ≡ false
    of_test true vacant = absurd (omega (arith, some, vacant_weighs_nothing one r vacant))
    of_test false occupied = refl

-- service keeps it so
served_kept : (serial : ℕ) (block : ValueBlock) (r : Resource) → is_kept serial r ≡ true
    → is_kept serial (served_with block r) ≡ true
served_kept serial block r kept =
    let parts = and_parts (r.serial == serial) (nat_lt 0 (weigh one r)) kept in
    let weight : weigh one (served_with block r) ≡ weigh one r =
    omega (
      arith,
      warned_weighs one (λ row armed. refl) (with_value_block block (service r).resource),
      served_weighs one (λ ending. 0) (grant_keeps one one_named) r,
      sum_of_zero (service r).endings,
    ) in
    rw ((service_keeps_place block r).serial, weight) (rw parts.0 parts.1)

-- and so it is still there after a sweep
kept_swept : (serial : ℕ) (processes : List Process) (resources : List Resource) → list_any (is_kept serial) resources ≡ true
    → list_any (is_kept serial) (resources_after_sweep processes resources) ≡ true
unfolding resources_after_sweep
kept_swept serial processes [] kept = kept
kept_swept serial processes (r ∷ rest) kept =
    let after : Resource = resource_after_service processes r in
    let others : List Resource = filter (λ x. not (is_vacant x)) (resources_after_service (blocks_after_service processes r).processes rest) in
    elim (or_cases (is_kept serial r) (list_any (is_kept serial) rest) kept) [
      | inl here ↦ (let stays : is_kept serial after ≡ true = served_kept serial (blocks_after_service processes r).value_block r here in
          let weight : nat_lt 0 (weigh one after) ≡ true = (and_parts (after.serial == serial) (nat_lt 0 (weigh one after)) stays).1 in
          let occupied : is_vacant after ≡ false = kept_not_vacant after (grind (arith, nat_tests, weight)) in
          rw occupied (rw stays refl))
      | inr later ↦ behind after others (kept_swept serial (blocks_after_service processes r).processes rest later)
    ]
  where
    behind : (after : Resource) (others : List Resource) → list_any (is_kept serial) others ≡ true
        → list_any (is_kept serial) (cond (not (is_vacant after)) (after ∷ others) others) ≡ true
    behind after others there =
        cond_both (not (is_vacant after)) (after ∷ others) others (λ left. list_any (is_kept serial) left ≡ true)
        (λ _. or_right (is_kept serial after) (list_any (is_kept serial) others) there) (λ _. there)

-- where no resource stands under the key, the entry makes one, which has the serial
made_kept : (serial : ℕ) (site : Site) (row : LockState) (at_once : Bool) (resources : List Resource) → has_resource site.key resources ≡ false
    → list_any (is_kept serial) (resources_after_entry serial site row at_once resources) ≡ true
made_kept serial site row at_once [] none =
    let fresh : Resource = new_resource serial site in
    let weight : weigh one (resource_after_entry row at_once fresh) ≡ 1 =
    omega (
      arith,
      entered_weighs one (λ ending. 0) (grant_keeps one one_named) row at_once fresh,
      sum_of_zero (cond at_once (grant_endings true row) []),
    ) in
    rw ((entry_keeps_place row at_once fresh).serial, weight) (rw (eq-eqb serial serial refl) refl)
made_kept serial site row at_once (r ∷ rest) none =
    of_test (is_at site.key r) refl none (λ elsewhere. made_kept serial site row at_once rest elsewhere)
  where
    of_test : (b : Bool) → is_at site.key r ≡ b → (b || has_resource site.key rest) ≡ false
        → (has_resource site.key rest ≡ false → list_any (is_kept serial) (resources_after_entry serial site row at_once rest) ≡ true)
        → list_any (is_kept serial) (cond b (resource_after_entry row at_once r ∷ rest) (r ∷ resources_after_entry serial site row at_once rest)) ≡ true
    of_test true at none behind = cc
    of_test false at none behind =
        or_right (is_kept serial r) (list_any (is_kept serial) (resources_after_entry serial site row at_once rest)) (behind none)

-- a resource that is kept is there
kept_there : (serial : ℕ) (s : State) → list_any (is_kept serial) s.resources ≡ true → HasSerial serial s
kept_there serial s kept =
    let any = Any-from_list_any (is_kept serial) s.resources kept in
    (any.0, any.1, any.2, any.3, eqb-true any.1.serial serial (and_parts (any.1.serial == serial) (nat_lt 0 (weigh one any.1)) any.4).0)

-- where no serial is taken, none that is to come has a resource
none_made : (s t : State) → Placed t → t.next_serial ≡ s.next_serial → TakesSerial s t
none_made s t placed same =
    inr (
      same,
      no_Any (λ r. r.serial ≡ s.next_serial) t.resources
          (each_weaker (WasGiven t.next_serial) (λ r. r.serial ≡ s.next_serial → ⊥) (λ r given is. omega (arith, given.1, is, same)) t.resources placed.given),
    )

-- a new request takes a serial where it makes a resource
entry_takes_serial : (s : State) (e : NewRequest) → Placed (state_after_sweep (enq_change s e)) → TakesSerial s (state_after_sweep (enq_change s e))
unfolding enq_change
entry_takes_serial s e placed = of_test (has_resource (enq_key s e) s.resources) refl
  where
    of_test : (b : Bool) → has_resource (enq_key s e) s.resources ≡ b → TakesSerial s (state_after_sweep (enq_change s e))
    of_test true there = none_made s (state_after_sweep (enq_change s e)) placed (rw there refl)
    of_test false none =
        inl (
          rw none refl,
          kept_there s.next_serial (state_after_sweep (enq_change s e))
              (kept_swept s.next_serial (enq_change s e).processes (enq_change s e).resources
              (made_kept s.next_serial (enq_site s e) (enq_row s e) (enq_at_once s e) s.resources none)),
        )

-- a refusal takes no number
refusal_takes_none : (s : State) (step : Step) (refusal : Cond) → TakesNumbers s s step (Plain refusal)
refusal_takes_none s (Declare d) refusal = record { next_lkid = refl; next_request = refl }
refusal_takes_none s (SetValue v) refusal = record { next_lkid = refl; next_request = refl }
refusal_takes_none s (Enq e) refusal = record { next_lkid = refl; next_request = refl }
refusal_takes_none s (Convert c) refusal = record { next_lkid = refl; next_request = refl }
refusal_takes_none s (Deq d) refusal = record { next_lkid = refl; next_request = refl }
refusal_takes_none s (Rundown pid) refusal = record { next_lkid = refl; next_request = refl }
refusal_takes_none s (Leave node) refusal = record { next_lkid = refl; next_request = refl }
refusal_takes_none s (Search node) refusal = record { next_lkid = refl; next_request = refl }
refusal_takes_none s (Take pid) refusal = record { next_lkid = refl; next_request = refl }

-- what is said of the numbers before and after a step
record Taken (s : State) (step : Step) (made : Stepped) : Type 0 where
  requests : TakesNumbers s made.state step made.answer
  serials : TakesSerial s made.state

-- an accepted step takes the numbers of what it makes
accepted_takes : (s : State) → Apart s → (step : Step) (choice : Option LockState) → step_refusal s step ≡ None
    → Placed (stepped_after_sweep (step_change s step choice)).state → Taken s step (stepped_after_sweep (step_change s step choice))
unfolding declare_change set_change take_change enq_change convert_change deq_change search_change state_after_rundown
accepted_takes s apart (Declare d) choice passed placed = record {
  requests = record { next_lkid = refl; next_request = refl };
  serials = none_made s (state_after_sweep (declare_change s d)) placed refl;
}
accepted_takes s apart (SetValue v) choice passed placed = record {
  requests = record { next_lkid = refl; next_request = refl };
  serials = none_made s (state_after_sweep (set_change s v)) placed refl;
}
accepted_takes s apart (Enq e) choice passed placed = record {
  requests = record {
    answered = refl;
    stands = grind (arith, nat_tests, entered_named (stands s.next_lkid) (λ row held want armed. refl) s e, apart.none_to_come s.next_lkid);
    next_lkid = refl;
    next_request = refl;
  };
  serials = entry_takes_serial s e placed;
}
accepted_takes s apart (Convert c) choice passed placed =
    let admitted = admission_of s c passed in
    subst (λ (a : Option ConversionAdmission). Placed (stepped_after_sweep (conversion_change s c a)).state
    → Taken s (Convert c) (stepped_after_sweep (conversion_change s c a)))
    (sym admitted.1)
    (λ there. record {
      requests = record { answered = refl; next_lkid = refl; next_request = refl };
      serials = none_made s (state_after_sweep (convert_change s c admitted.0)) there refl;
    })
    placed
accepted_takes s apart (Deq d) choice passed placed = record {
  requests = record { next_lkid = refl; next_request = refl };
  serials = none_made s (state_after_sweep (deq_change s d)) placed refl;
}
accepted_takes s apart (Rundown pid) choice passed placed = record {
  requests = record { next_lkid = refl; next_request = refl };
  serials = none_made s (state_after_sweep (state_after_rundown (is_ended_by pid) s.nodes s)) placed refl;
}
accepted_takes s apart (Leave node) choice passed placed = record {
  requests = record { next_lkid = refl; next_request = refl };
  serials = none_made s (state_after_sweep (state_after_rundown (is_of_node node) (nodes_after_departure s.nodes node) s)) placed refl;
}
accepted_takes s apart (Search node) choice passed placed = record {
  requests = record { next_lkid = refl; next_request = refl };
  serials = none_made s (state_after_sweep (search_change s choice)) placed refl;
}
accepted_takes s apart (Take pid) choice passed placed = record {
  requests = record { next_lkid = refl; next_request = refl };
  serials = none_made s (state_after_sweep (take_change s pid)) placed refl;
}

-- and so does each step
step_takes : (s : State) → Apart s → (step : Step) (choice : Option LockState) (refusal : Option Cond) → step_refusal s step ≡ refusal
    → Placed (refused_or refusal s (step_change s step choice)).state → Taken s step (refused_or refusal s (step_change s step choice))
step_takes s apart step choice None passed placed = accepted_takes s apart step choice passed placed
step_takes s apart step choice (Some refusal) is placed = record { requests = refusal_takes_none s step refusal; serials = none_made s s placed refl }

-- after every run a step takes the numbers of what it makes
pub numbers_always : (history : History) (old : State) → Run history old
    → (step : Step) (choice : Option LockState) → IsChoice old step choice → NumbersAreGivenOnce old step choice
numbers_always history old run step choice chosen =
    let placed : Placed (stepped old step choice).state =
    placed_always _ (stepped old step choice).state
    (next run (inl (record { choice = choice; chosen = chosen; state = refl; answered = refl }))) in
    let taken : Taken old step (stepped old step choice) =
    step_takes old (apart_always history old run) step choice (step_refusal old step) refl placed in
    record { requests = taken.requests; serials = taken.serials }
