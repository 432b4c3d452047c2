use Rattle.std.proofs.Common.{◌≡◌, ◌+◌, IfSome, ap, ◌∙◌, subst, sym}
use Rattle.vlm_words.specs.declared.flags.EnqFlags.{EnqFlags}
use Rattle.vlm_words.specs.declared.locks.Request.{Request}
use Rattle.vlm_words.specs.declared.steps.Conversion.{Conversion}
use Rattle.vlm_words.specs.Flags.{flag_bits}
use Rattle.vlm_words.specs.State.{State}
use Rattle.vlm_model.specs.Convert.{convert_request, converts_at_once}
use Rattle.vlm_store.specs.Plain.{plain_resource}
use Rattle.vlm_machine.specs.Admissions.{IsAdmittedConversion}
use Rattle.vlm_machine.specs.Between.{IsBetweenSteps}
use Rattle.vlm_machine.specs.Machine.{MachineState, kept, plain_state}
use Rattle.vlm_machine.proofs.ConversionsMade.{state_converted}
use Rattle.vlm_machine.proofs.GrantedWantNothing.{wants_nothing}
use Rattle.vlm_machine.proofs.records.Machine.convert_change.Goals as goal

-- what is asked for, with these flags
abbrev asked_with : State → Conversion → EnqFlags → Request
asked_with s e flags = record (convert_request s e) { flags = flags }

-- these are the flags of the conversion
asked_as : (s : State) (e : Conversion) (flags : EnqFlags) → flag_bits flags ≡ e.flags → asked_with s e flags ≡ convert_request s e
asked_as s e flags is = ap (λ bits. record (convert_request s e) { flags = record { 0 = bits } }) is

pub convert-requires-clause-at_once : goal.convert-requires-clause-at_once
convert-requires-clause-at_once c =
    let f = c.args.located.now in
    let admitted = subst (λ (m : MachineState). IsAdmittedConversion m c.args.conversion.now f c.args.at_once) (sym c.self.view_is) c.requires.admitted in
    let request = asked_with (plain_state (kept c.self.inside)) c.args.conversion.now c.args.flags in
    let asked = asked_as (plain_state (kept c.self.inside)) c.args.conversion.now c.args.flags c.requires.flags in
    subst (λ o. IfSome o (λ r. c.args.at_once ≡ converts_at_once request f.row.lkid (plain_resource r))) (sym admitted.located.located.found)
    (admitted.at_once ∙ ap (λ q. converts_at_once q f.row.lkid (plain_resource admitted.located.located.resource)) (sym asked))

-- the lock is granted, so it wants nothing
pub convert-requires-clause-wants_nothing : goal.convert-requires-clause-wants_nothing
convert-requires-clause-wants_nothing c =
    let between = subst (λ (m : MachineState). IsBetweenSteps (plain_state m)) (sym c.self.view_is) c.requires.between in
    let admitted = subst (λ (m : MachineState). IsAdmittedConversion m c.args.conversion.now c.args.located.now
    c.args.at_once) (sym c.self.view_is) c.requires.admitted in
    wants_nothing c.self.inside.store between.rows_fit c.args.located.now admitted.located.located admitted.granted

-- the state is that of the plain machine
pub returns-clause-change : goal.returns-clause-change
returns-clause-change c = λ there found.
    let request = asked_with (plain_state (kept c.self.inside)) c.args.conversion.now c.args.flags in
    let asked = subst (λ (m : MachineState). request ≡ convert_request (plain_state m) c.args.conversion.now) c.self.view_is
    (asked_as (plain_state (kept c.self.inside)) c.args.conversion.now c.args.flags c.requires.flags) in
    ap (λ (m : MachineState). plain_state (record m { records = c.convert.new.store; next_request = m.next_request + 1 })) c.self.view_is
    ∙ state_converted c.args.self.now c.args.conversion.now c.args.located.now c.args.at_once c.requires.admitted
    request asked c.convert.new.store (rw (← c.self.view_is) c.in_ok-convert.ensures.done.converted) there found

-- the other resources stay
pub returns-clause-others : goal.returns-clause-others
returns-clause-others c = rw (← c.self.view_is) c.in_ok-convert.ensures.done.beside.others
