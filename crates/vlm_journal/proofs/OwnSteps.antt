-- What the hub asks for by itself is what its events say.
use Rattle.std.proofs.Common.{◌≡◌, ℕ, List, [], ◌∷◌, ◌++◌, refl, ap, ◌∙◌, sym, arith, append_assoc, append-nil, Some}
use Rattle.vlm_words.specs.declared.steps.Answer.TheVariants.{Taken}
use Rattle.vlm_words.specs.declared.steps.Step.TheVariants.{Leave, Take}
use Rattle.vlm_words.specs.declared.steps.Step.{Step}
use Rattle.vlm_journal.specs.declared.entries.Entry.{Entry}
use Rattle.vlm_journal.specs.Told.{asked}
use Rattle.vlm_journal.specs.Worlds.{Event, Happens, Reached, World, begin, deliver, depart, next, own_step, own_steps, post, send, apply, take}
use Rattle.vlm_journal.proofs.Appending.{asks_no_other, asks_step}

-- one event more
own-append : (events : List Event) (event : Event) → own_steps (events ++ event ∷ []) ≡ own_steps events ++ own_step event
own-append [] event = append-nil (own_step event)
own-append (e ∷ events) event =
    ap (λ (steps : List Step). own_step e ++ steps) (own-append events event) ∙ sym (append_assoc (own_step e) (own_steps events) (own_step event))

-- what an event adds
added : (nodes : ℕ) (w : World) (event : Event) (v : World) → Happens nodes w event v → asked 0 v.journal ≡ asked 0 w.journal ++ own_step event
added nodes w (post node step) v h = ap (λ (x : World). asked 0 x.journal) h.becomes ∙ sym (append-nil (asked 0 w.journal))
added nodes w (apply node) v h =
    let e : Entry = record { sender = node; step = h.step; answer = h.answer } in
    ap (λ (x : World). asked 0 x.journal) h.becomes
    ∙ asks_no_other 0 w.journal e (λ is. omega (arith, is, h.node_is.0))
    ∙ sym (append-nil (asked 0 w.journal))
added nodes w (deliver pid) v h =
    let e : Entry = record { sender = 0; step = Take pid; answer = Taken (Some h.ast) } in
    ap (λ (x : World). asked 0 x.journal) h.becomes ∙ asks_step w.journal e
added nodes w (depart node) v h =
    let e : Entry = record { sender = 0; step = Leave node; answer = h.answer } in
    ap (λ (x : World). asked 0 x.journal) h.becomes ∙ asks_step w.journal e
added nodes w (send node) v h = ap (λ (x : World). asked 0 x.journal) h.becomes ∙ sym (append-nil (asked 0 w.journal))
added nodes w (take node) v h = ap (λ (x : World). asked 0 x.journal) h.becomes ∙ sym (append-nil (asked 0 w.journal))

pub own_from : (nodes : ℕ) {events : List Event} {w : World} → Reached nodes events w → asked 0 w.journal ≡ own_steps events
own_from nodes begin = refl
own_from nodes (next {events = events} {old = w} {new = v} event run happens) =
    added nodes w event v happens ∙ ap (λ (steps : List Step). steps ++ own_step event) (own_from nodes run) ∙ sym (own-append events event)
