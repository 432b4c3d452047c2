use Rattle.std.proofs.Common.{List, ℕ, ◌≡◌, ◌⊎◌, inl, inr, true, false, refl, Some, None}
use Rattle.std.specs.Prelude.{Any, Contains}
use Rattle.vlm_words.specs.declared.locks.LockState.{LockState}
use Rattle.vlm_words.specs.declared.locks.Request.{Request}
use Rattle.vlm_words.specs.declared.modes.Act.TheVariants.{Write}
use Rattle.vlm_words.specs.declared.modes.Mode.{Mode}
use Rattle.vlm_words.specs.declared.modes.Mode.TheVariants.{Ex, Nl, Pw}
use Rattle.vlm_words.specs.Modes.{value_action}
use Rattle.vlm_words.specs.State.{Resource}
use Rattle.vlm_words.specs.declared.steps.Step.TheVariants.{Convert}
use Rattle.std.proofs.lemmas.List.Elements.{All-contains}
use Rattle.vlm_model.specs.Endings.{Ending}
use Rattle.vlm_model.specs.Stepped.{stepped}
use Rattle.vlm_model.specs.Laws.{action_from}
use Rattle.vlm_model.proofs.law_consequences.no_writing_conversion_is_queued.Goals as goal

-- both conversions write
writes : (held want : Mode) → ((held ≡ Pw) × (want ≡ Nl)) ⊎ ((held ≡ Ex) × (want ≡ Ex)) → value_action held want ≡ Write
unfolding value_action
writes held want (inl modes) = rw (modes.0, modes.1)
writes held want (inr modes) = rw (modes.0, modes.1)

-- the lock is granted, and its conversion writes
found : (resources : List Resource) (r : Resource) (row : LockState) (lkid : ℕ) (held : Request) (want : Mode)
    → Contains resources r → Contains r.granted row → row.lkid ≡ lkid → row.held ≡ Some held → value_action held.mode want ≡ Write
    → Any (λ (r : Resource). Any (λ (row : LockState). (row.lkid ≡ lkid) × (action_from row.held want ≡ Write)) r.granted) resources
found resources r row lkid held want in_s in_granted lock holds write =
    let acts : action_from row.held want ≡ Write = rw holds write in
    (in_s.0, r, in_s.1, in_s.2, (in_granted.0, row, in_granted.1, in_granted.2, (lock, acts)))

pub returns : goal.returns
returns c = λ old c' cond lkid r row held law answered in_s in_granted lock holds modes none.
    let granted = law c' None cond lkid refl answered
    (found old.resources r row lkid held c'.mode in_s in_granted lock holds (writes held.mode c'.mode modes)) in
    let endings = (stepped old (Convert c') None).endings in
    let late : granted.1.at_once ≡ false =
    All-contains (λ (ending : Ending). ending.request.number ≡ old.next_request → ending.at_once ≡ false) endings granted.1
    none (granted.0, granted.2, granted.3) granted.4.2 in
    let early : granted.1.at_once ≡ true = granted.4.1 in
    cc
