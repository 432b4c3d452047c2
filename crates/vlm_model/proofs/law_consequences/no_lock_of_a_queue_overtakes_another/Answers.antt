use Rattle.std.proofs.Common.{◌≡◌, ◌≢◌, inl, inr, ℕ, Bool, true, false, List, [], ◌∷◌, ◌++◌, Option, ◌∙◌, subst, sym, refl}
use Rattle.std.specs.List.{AllZip}
use Rattle.std.specs.Prelude.{◌==◌}
use Rattle.std.proofs.lemmas.Bool.Decides.{eqb_tells}
use Rattle.vlm_words.specs.declared.locks.LockState.{LockState}
use Rattle.vlm_words.specs.declared.steps.Step.{Step}
use Rattle.vlm_words.specs.declared.steps.Step.TheVariants.{Enq, Take}
use Rattle.vlm_words.specs.State.{Resource, State}
use Rattle.vlm_model.specs.Consequences.{changed}
use Rattle.vlm_model.specs.Joining.{ChangesKeepOrder, JoinsBehind, KeepsOrder, is_own_lock, nobody_joins, one_joins, row_leaves, row_stays}
use Rattle.vlm_model.proofs.law_consequences.no_lock_of_a_queue_overtakes_another.Goals as goal

-- the one resource that is kept is the one after the change
kept_one : (R : Resource → Resource → Type 0) (r after : Resource) (kept made : List Resource) → AllZip R (r ∷ []) kept
    → after ∷ [] ≡ kept ++ made → R r after
kept_one R r after [] made order joined = absurd order
kept_one R r after (first ∷ []) made order joined = let same : first ≡ after = cc in subst (R r) same order.0
kept_one R r after (first ∷ second ∷ rest) made order joined = absurd order.1

-- what the law says of the one resource
of_one : (old : State) (step : Step) (choice : Option LockState) (r after : Resource) → ChangesKeepOrder old step choice
    → old.resources ≡ r ∷ [] → changed old step choice ≡ after ∷ [] → KeepsOrder (is_own_lock old step choice) r after
of_one old step choice r after law first second =
    let order : AllZip (KeepsOrder (is_own_lock old step choice)) (r ∷ []) law.kept =
    subst (λ (rs : List Resource). AllZip (KeepsOrder (is_own_lock old step choice)) rs law.kept) first law.order in
    let joined : after ∷ [] ≡ law.kept ++ law.made = sym second ∙ law.resources in
    kept_one (KeepsOrder (is_own_lock old step choice)) r after law.kept law.made order joined

-- the first lock stays first if it is not an own lock
stays_first : {own : ℕ → Bool} {before after : List LockState} (first : LockState) (others : List LockState) → before ≡ first ∷ others
    → own first.lkid ≡ false → JoinsBehind own before after → (left : List LockState) × (after ≡ first ∷ left)
stays_first first others are other nobody_joins = cc
stays_first first others are other (one_joins is) = cc
stays_first first others are other (row_stays {row} {before} {after} rest) = (after, cc)
stays_first {own} first others are other (row_leaves {row} {before} {after} is rest) =
    let same : row ≡ first = cc in
    let its : own first.lkid ≡ true = subst (λ (row : LockState). own row.lkid ≡ true) same is in
    cc

-- nobody joins an empty queue where there is no own lock
nobody : {own : ℕ → Bool} {before after : List LockState} → before ≡ [] → ((lkid : ℕ) → own lkid ≡ false) → JoinsBehind own before after
    → after ≡ []
nobody none others nobody_joins = refl
nobody {own} none others (one_joins {row} is) = let other : own row.lkid ≡ false = others row.lkid in cc
nobody none others (row_stays rest) = cc
nobody none others (row_leaves is rest) = cc

-- a queue of one stays where there is no own lock
stays_alone : {own : ℕ → Bool} {before after : List LockState} (lone : LockState) → before ≡ lone ∷ [] → ((lkid : ℕ) → own lkid ≡ false)
    → JoinsBehind own before after → after ≡ lone ∷ []
stays_alone lone is others nobody_joins = cc
stays_alone lone is others (one_joins own) = cc
stays_alone lone is others (row_stays {row} {before} {after} rest) =
    let rest_none : before ≡ [] = cc in
    let none : after ≡ [] = nobody rest_none others rest in
    cc
stays_alone {own} lone is others (row_leaves {row} {before} {after} its rest) =
    let other : own row.lkid ≡ false = others row.lkid in cc

-- two numbers that differ are not the same
differ : (a b : ℕ) → a ≢ b → (a == b) ≡ false
differ a b apart =
    elim (eqb_tells a b) [
      | inl same ↦ absurd (apart same.1)
      | inr other ↦ other.0
    ]

pub returns-clause-reversed : goal.returns-clause-reversed
returns-clause-reversed c = λ old e choice r after row next law first second waits one two reversed.
    let stays = stays_first row (next ∷ []) waits (differ row.lkid old.next_lkid one) (of_one old (Enq e) choice r after law first second).waiting in
    let is : after.waiting ≡ row ∷ stays.0 = stays.1 in
    cc

pub returns-clause-ahead : goal.returns-clause-ahead
returns-clause-ahead c = λ old e choice r after row new law first second waits one ahead.
    let stays = stays_first row [] waits (differ row.lkid old.next_lkid one) (of_one old (Enq e) choice r after law first second).waiting in
    let is : after.waiting ≡ row ∷ stays.0 = stays.1 in
    cc

pub returns-clause-gone : goal.returns-clause-gone
returns-clause-gone c = λ old pid choice r after row law first second converts.
    stays_alone row converts (λ lkid. refl) (of_one old (Take pid) choice r after law first second).converting
