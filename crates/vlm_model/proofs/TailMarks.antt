-- After every step the tail of a value block is valid only where its value is.
use Rattle.std.proofs.Common.{◌≡◌, ℕ, Bool, true, false, List, [], ◌∷◌, Option, None, Some, refl, sym, subst}
use Rattle.std.specs.Prelude.{not}
use Rattle.std.specs.List.{AllByRecursion, find}
use Rattle.std.proofs.lemmas.Bool.{cond_both}
use Rattle.std.proofs.lemmas.List.Elements.{All-from_recursion}
use Rattle.vlm_words.specs.declared.locks.LockState.{LockState}
use Rattle.vlm_words.specs.declared.modes.Act.TheVariants.{Nothing, Return, Write}
use Rattle.vlm_words.specs.declared.resources.ValueBlock.{ValueBlock}
use Rattle.vlm_words.specs.declared.steps.Conversion.{Conversion}
use Rattle.vlm_words.specs.declared.steps.NewRequest.{NewRequest}
use Rattle.vlm_words.specs.State.{Process, Resource, State}
use Rattle.vlm_model.specs.Endings.{Ending, How}
use Rattle.vlm_model.specs.Endings.How.{by_abort, by_cancel, by_deadlock, by_grant, by_rundown}
use Rattle.vlm_model.specs.Effects.{Blocks, blocks_after, blocks_after_end, blocks_after_ending, blocks_after_return, blocks_after_writing, blocks_with}
use Rattle.vlm_model.specs.Grants.{service}
use Rattle.vlm_words.specs.Rows.{is_lock_of}
use Rattle.vlm_model.specs.Asts.{resource_after_warning}
use Rattle.vlm_model.specs.Sweeps.{blocks_after_service, is_vacant, resource_after_service, resources_after_service, resources_after_sweep}
use Rattle.vlm_model.specs.Declare.{declare_change}
use Rattle.vlm_model.specs.SetValue.{set_change}
use Rattle.vlm_model.specs.Take.{take_change}
use Rattle.vlm_model.specs.Trees.{enq_site}
use Rattle.vlm_model.specs.Enqueue.{enq_at_once, enq_change, enq_row}
use Rattle.vlm_model.specs.Convert.{ConversionAdmission, conversion_endings, convert_admission, convert_blocks}
use Rattle.vlm_model.specs.Convert.{convert_change, convert_lkid, convert_request, resource_after_conversion}
use Rattle.vlm_model.specs.Convert.{resource_after_conversion_of}
use Rattle.vlm_model.specs.Withdrawals.{Withdrawal, is_held_by_writer, resource_after_going, resource_after_withdrawals}
use Rattle.vlm_model.specs.Withdrawals.{resource_after_writer, state_after_withdrawals, value_block_after_gift}
use Rattle.vlm_model.specs.Withdrawals.{value_block_after_writer}
use Rattle.vlm_model.specs.Rundown.{processes_but, rundowns, state_after_rundown}
use Rattle.vlm_model.specs.Runs.{History, Run}
use Rattle.vlm_model.specs.TailMarks.{TailsAreValidWithTheirValues}
use Rattle.vlm_model.proofs.Always.{always, kept_by_stepped}
use Rattle.vlm_model.proofs.Each.{each_filter, each_map, each_there}
use Rattle.vlm_model.proofs.EachResource.{each_entered_among}
use Rattle.vlm_model.proofs.Standing.{admitted_there}
use Rattle.vlm_model.proofs.Withdrawing.{kept_withdrawn}
use Rattle.vlm_model.proofs.Writers.{entry_leaves, going_leaves}

-- its tail is valid only where its value is
abbrev IsRight : ValueBlock → Type 0
IsRight block = block.tail_valid ≡ true → block.valid ≡ true

abbrev HasRight : Resource → Type 0
HasRight r = IsRight r.value_block

-- ---- ends of requests

-- what one end makes of the value block
end_right : (how : How) (ending : Ending) (b : Blocks) → IsRight b.value_block → IsRight (blocks_after_end how ending b).value_block
unfolding blocks_after_return blocks_after_writing
end_right (by_grant Nothing) ending b right = right
end_right (by_grant Return) ending b right = right
end_right (by_grant Write) ending b right = λ _. refl
end_right by_abort ending b right = right
end_right by_cancel ending b right = right
end_right by_deadlock ending b right = right
end_right by_rundown ending b right = right

ends_right : (endings : List Ending) (b : Blocks) → IsRight b.value_block → IsRight (blocks_after endings b).value_block
ends_right [] b right = right
ends_right (ending ∷ endings) b right = ends_right endings (blocks_after_ending ending b) (end_right ending.how ending b right)

-- ---- a sweep

served_right : (processes : List Process) (r : Resource) → HasRight r → HasRight (resource_after_service processes r)
unfolding blocks_after_service resource_after_warning
served_right processes r right = ends_right (service r).endings (blocks_with r.value_block processes) right

each_served_right : (processes : List Process) (resources : List Resource) → AllByRecursion HasRight resources
    → AllByRecursion HasRight (resources_after_service processes resources)
each_served_right processes [] right = tt
each_served_right processes (r ∷ rest) right =
    (served_right processes r right.0, each_served_right (blocks_after_service processes r).processes rest right.1)

swept_right : (processes : List Process) (resources : List Resource) → AllByRecursion HasRight resources
    → AllByRecursion HasRight (resources_after_sweep processes resources)
unfolding resources_after_sweep
swept_right processes resources right =
    each_filter HasRight (λ r. not (is_vacant r)) (resources_after_service processes resources) (each_served_right processes resources right)

-- ---- the changes of steps

request_right : (s : State) (e : NewRequest) → AllByRecursion HasRight s.resources → AllByRecursion HasRight (enq_change s e).resources
unfolding enq_change
request_right s e right =
    each_entered_among HasRight s.next_serial (enq_site s e) (enq_row s e) (enq_at_once s e) (λ _. refl)
    (λ r has. subst IsRight (sym (entry_leaves (enq_row s e) (enq_at_once s e) r)) has) s.resources right

conversion_right : (s : State) (c : Conversion) (a : ConversionAdmission) → convert_admission s c ≡ Some a → AllByRecursion HasRight s.resources
    → AllByRecursion HasRight (convert_change s c a).resources
unfolding convert_change convert_blocks convert_admission resource_after_conversion
conversion_right s c a admitted right =
    each_map HasRight HasRight
    (resource_after_conversion a.request a.at_once c.pid (convert_lkid s c)
    (convert_blocks s c a).value_block) at_each s.resources right
  where
    written : IsRight (convert_blocks s c a).value_block
    written =
        ends_right (conversion_endings a) (blocks_with a.resource.value_block _)
        (each_there HasRight s.resources a.resource right (admitted_there (convert_request s c) c.pid (convert_lkid s c) a s.resources admitted).1)

    at_each : (r : Resource) → HasRight r
        → HasRight (resource_after_conversion a.request a.at_once c.pid (convert_lkid s c)
        (convert_blocks s c a).value_block r)
    at_each r has = of_found (find (is_lock_of c.pid (convert_lkid s c)) r.granted) a.at_once
      where
        of_found : (found : Option LockState) (now : Bool)
            → HasRight (resource_after_conversion_of a.request now (convert_lkid s c) (convert_blocks s c a).value_block r found)
        of_found None now = has
        of_found (Some row) true = written
        of_found (Some row) false = has

-- what a lock leaves
left_right : (w : Withdrawal) (r : Resource) → HasRight r → HasRight (resource_after_writer w r)
left_right w r has =
    cond_both (is_held_by_writer w.lkid r)
    (record r { value_block = value_block_after_writer w r.value_block }) r HasRight (λ _. of_mark w.invalidates)
    (λ _. has)
  where
    given : (value tail : Option (List ℕ)) → IsRight (value_block_after_gift value tail r.value_block)
    given None tail = has
    given (Some value) tail = λ _. refl

    of_mark : (invalidates : Bool) → IsRight (value_block_after_writer (record w { invalidates = invalidates }) r.value_block)
    of_mark true = λ valid. cc
    of_mark false = given w.value w.tail

gone_right : (w : Withdrawal) (r : Resource) → HasRight r → HasRight (resource_after_going w r)
gone_right w r has = subst IsRight (sym (going_leaves w r)) has

withdrawn_right : (withdrawals : List Withdrawal) (r : Resource) → HasRight r → HasRight (resource_after_withdrawals withdrawals r)
withdrawn_right = kept_withdrawn HasRight left_right gone_right

-- ---- every run

right_always : (history : History) (last : State) → Run history last → AllByRecursion HasRight last.resources
unfolding declare_change set_change take_change state_after_rundown
right_always =
    always (λ _ s. AllByRecursion HasRight s.resources) tt
    (λ history s _ right.
    kept_by_stepped (λ _ s. AllByRecursion HasRight s.resources) history.endings s right
    (λ d _. swept_right (declare_change s d).processes s.resources right)
    (λ v _. swept_right (set_change s v).processes s.resources right)
    (λ taker _. swept_right (take_change s taker).processes s.resources right)
    (λ e _. swept_right (enq_change s e).processes (enq_change s e).resources (request_right s e right))
    (λ c a _ admitted. swept_right (convert_change s c a).processes (convert_change s c a).resources (conversion_right s c a admitted right))
    (λ withdrawals _.
    swept_right (state_after_withdrawals withdrawals s).processes (state_after_withdrawals withdrawals s).resources
    (each_map HasRight HasRight (resource_after_withdrawals withdrawals) (withdrawn_right withdrawals) s.resources right))
    (λ is_one nodes _.
    swept_right (processes_but is_one s.processes) (state_after_rundown is_one nodes s).resources
    (each_map HasRight HasRight (resource_after_withdrawals (rundowns is_one s)) (withdrawn_right (rundowns is_one s)) s.resources right)))

pub tails_always : (history : History) (last : State) → Run history last → TailsAreValidWithTheirValues last
tails_always history last run = All-from_recursion HasRight last.resources (right_always history last run)
