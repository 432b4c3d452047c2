use Rattle.std.proofs.Common.{rules, refl, sym, ap}
use Rattle.vlm_model.specs.Convert.{convert_request}
use Rattle.vlm_machine.specs.Machine.{plain_state}
use Rattle.vlm_machine.proofs.Admitting.{is_admitted, not_admitted}
use Rattle.vlm_machine.proofs.records.Machine.checked_admission.Goals as goal

-- a lock that is not granted is not admitted
pub returns-then-not-is_granted-clause-refusal : goal.returns-then-not-is_granted-clause-refusal
returns-then-not-is_granted-clause-refusal c =
    rw (not_admitted c.args.self.now c.requires.located.located.sound c.args.conversion.now c.args.located.now c.requires.located (search rules)) refl

-- a granted lock is admitted where it stands
pub returns-in_err-check_pair-clause-refusal : goal.returns-in_err-check_pair-clause-refusal
returns-in_err-check_pair-clause-refusal c =
    rw (is_admitted c.args.self.now c.requires.located.located.sound c.args.conversion.now c.args.located.now
    c.requires.located (convert_request (plain_state c.args.self.now) c.args.conversion.now) refl (search rules))
    (search rules)

pub returns-in_err-check_request_numbers-clause-refusal :
    goal.returns-in_err-check_request_numbers-clause-refusal
returns-in_err-check_request_numbers-clause-refusal c =
    rw (is_admitted c.args.self.now c.requires.located.located.sound c.args.conversion.now c.args.located.now
    c.requires.located (convert_request (plain_state c.args.self.now) c.args.conversion.now) refl (search rules))
    (search rules)

pub returns-in_err-check_queue-clause-refusal : goal.returns-in_err-check_queue-clause-refusal
returns-in_err-check_queue-clause-refusal c =
    let asked = convert_request (plain_state c.args.self.now) c.args.conversion.now in
    let flags = sym (ap (λ bits. record { 0 = bits }) c.requires.flags) in
    let found = rw (← c.self.view_is) at c.requires.located.located.found in
    let at_once = c.converts_at_once-at_once.ensures c.requires.located.located.resource asked found flags refl in
    rw (
      is_admitted c.args.self.now c.requires.located.located.sound c.args.conversion.now c.args.located.now
          c.requires.located asked refl (search rules),
      ← at_once,
    ) (search rules)

pub returns-clause-refusal : goal.returns-clause-refusal
returns-clause-refusal c =
    let asked = convert_request (plain_state c.args.self.now) c.args.conversion.now in
    let flags = sym (ap (λ bits. record { 0 = bits }) c.requires.flags) in
    let found = rw (← c.self.view_is) at c.requires.located.located.found in
    let at_once = c.converts_at_once-at_once.ensures c.requires.located.located.resource asked found flags refl in
    rw (
      is_admitted c.args.self.now c.requires.located.located.sound c.args.conversion.now c.args.located.now
          c.requires.located asked refl (search rules),
      ← at_once,
    ) (search rules)

pub returns-clause-admitted : goal.returns-clause-admitted
returns-clause-admitted c =
    let asked = convert_request (plain_state c.args.self.now) c.args.conversion.now in
    let flags = sym (ap (λ bits. record { 0 = bits }) c.requires.flags) in
    let found = rw (← c.self.view_is) at c.requires.located.located.found in
    record {
      located = c.requires.located;
      granted = search rules;
      at_once = c.converts_at_once-at_once.ensures c.requires.located.located.resource asked found flags refl;
      found = is_admitted c.args.self.now c.requires.located.located.sound c.args.conversion.now c.args.located.now
          c.requires.located asked refl (search rules);
      number = search rules;
    }
