-- The lines of steps, one by one, and what a watch comes to, by its end.
use Rattle.std.proofs.Common.{◌≡◌, ◌∙◌, ◌+◌, ◌-◌, ◌<◌, ◌≤◌, ℕ, List, [], ◌∷◌, ◌++◌, Option, Result, Ok, Err, ap}
use Rattle.std.proofs.Common.{append-nil, append_assoc, arith, get_or, inl, inr, length, length-append, refl, subst}
use Rattle.std.proofs.Common.{sym, take}
use Rattle.std.specs.Prelude.{IfSome}
use Rattle.std.specs.Io.KnownBytes.{Appends}
use Rattle.std.proofs.lemmas.List.{take_more}
use Rattle.vlm_words.specs.State.{State, start}
use Rattle.vlm_ports.specs.declared.watch.rows.RootKey.{RootKey}
use Rattle.vlm_script.specs.declared.faults.PlayFault.{PlayFault}
use Rattle.vlm_script.specs.declared.faults.PlayFault.TheVariants.{Line, Memory, Read, Write, Long}
use Rattle.vlm_script.specs.declared.printed.rows.WatchedRow.{WatchedRow}
use Rattle.vlm_script.specs.declared.steps.ScriptStep.{ScriptStep}
use Rattle.vlm_script.specs.Plays.{PassesPart}
use Rattle.vlm_script.specs.Shares.{StopsShares}
use Rattle.vlm_script.specs.Texts.{watch_line}
use Rattle.vlm.specs.declared.monitor.ends.WatchFault.{WatchFault}
use Rattle.vlm.specs.declared.monitor.ends.WatchFault.TheVariants.{NoAnswer, NoSeat, Play}
use Rattle.vlm.specs.Watches.{AreSeen, AreWatched, EndsSteps, EndsWatched, IsWatchText, Makes, PrintsWatch, next_seen, none_seen, row_at, steps_of, watch_text}

-- where there are no rows there are no lines
no_lines : (steps : List ScriptStep) → watch_text steps [] ≡ []
no_lines [] = refl
no_lines (step ∷ steps) = refl

-- one row more is one line more
line_behind : (steps : List ScriptStep) (rows : List WatchedRow) (step : ScriptStep) (row : WatchedRow)
    → length rows < length steps → step ≡ get_or steps (length rows) step
    → watch_text steps (rows ++ row ∷ []) ≡ watch_text steps rows ++ watch_line step.line row
line_behind [] rows step row within is = absurd (omega arith)
line_behind (s ∷ steps) [] step row within is =
    let same : step ≡ s = is in
    rw (no_lines steps, same) (append-nil (watch_line s.line row))
line_behind (s ∷ steps) (r ∷ rows) step row within is =
    let behind : step ≡ get_or steps (length rows) step = is in
    rw (line_behind steps rows step row (omega arith) behind) (sym (append_assoc (watch_line s.line r) (watch_text steps rows) (watch_line step.line row)))

-- the first so many steps were made, and the text is that of their lines, with the rows that were seen
pub record AreMade (key : RootKey) (steps : List ScriptStep) (index : ℕ) (text : List ℕ) (state : State) : Type 0 where
  pub rows : List WatchedRow
  pub count : length rows ≡ index
  pub seen : AreSeen key (take (length rows) steps) rows state
  pub printed : text ≡ watch_text steps rows

-- before the first there are none
pub none_made : (key : RootKey) (steps : List ScriptStep) (text : List ℕ) (state : State) → text ≡ [] → state ≡ start → AreMade key steps 0 text state
none_made key steps text state is begins =
    record {
      rows = [];
      count = refl;
      seen = subst (AreSeen key [] []) (sym begins) none_seen;
      printed = is
          ∙ sym (no_lines steps);
    }

-- one more is made
pub one_made : (key : RootKey) (steps : List ScriptStep) (index : ℕ) (step : ScriptStep) (text next : List ℕ)
    (old new : State) → index < length steps → step ≡ get_or steps index step
    → next ≡ text ++ watch_line step.line (row_at new key) → Makes step.step old new → AreMade key steps index text old → AreMade key steps (index + 1) next new
one_made key steps index step text next old new within here is makes made =
    let row : WatchedRow = row_at new key in
    let within : length made.rows < length steps = omega (arith, made.count) in
    let here : step ≡ get_or steps (length made.rows) step = rw made.count here in
    let count : length (made.rows ++ row ∷ []) ≡ length made.rows + 1 = length-append made.rows (row ∷ []) in
    let taken : take (length (made.rows ++ row ∷ [])) steps ≡ take (length made.rows) steps ++ step ∷ [] =
    ap (λ (n : ℕ). take n steps) count ∙ take_more steps (length made.rows) step within
    ∙ ap (λ (s : ScriptStep). take (length made.rows) steps ++ s ∷ []) (sym here) in record {
      rows = made.rows ++ row ∷ [];
      count = omega (arith, count, made.count);
      seen = subst (λ (ss : List ScriptStep). AreSeen key ss (made.rows ++ row ∷ []) new) (sym taken) (next_seen made.seen step new makes);
      printed = is ∙ ap (λ (t : List ℕ). t ++ watch_line step.line row) made.printed ∙ sym (line_behind steps made.rows step row within here);
    }

-- what comes before the first leaves all
pub ended_before : (key : RootKey) (steps : List ScriptStep) (fault : WatchFault) (text : List ℕ) → EndsSteps fault
    → text ≡ [] → EndsWatched key steps (Err fault) text
ended_before key steps fault text ends is =
    (ends, (length steps, record { rows = []; state = start; count = omega arith; seen = none_seen; printed = is ∙ sym (no_lines steps) }))

-- what ends the steps leaves the others
pub ended_behind : (key : RootKey) (steps : List ScriptStep) (index : ℕ) (fault : WatchFault) (text last : List ℕ)
    (state : State) → index < length steps → EndsSteps fault → last ≡ text
    → AreMade key steps index text state → EndsWatched key steps (Err fault) last
ended_behind key steps index fault text last state within ends same made = (
  ends,
  (
    length steps - index,
    record {
      rows = made.rows;
      state = state;
      count = omega (arith, made.count);
      seen =
          made.seen;
      printed = same ∙ made.printed;
    },
  ),
)

-- behind the last none is left
pub none_left : (key : RootKey) (steps : List ScriptStep) (index : ℕ) (text : List ℕ) (state : State)
    → index ≤ length steps → length steps ≤ index → AreMade key steps index text state
    → AreWatched key steps 0 text
none_left key steps index text state within past made =
    record { rows = made.rows; state = state; count = omega (arith, made.count); seen = made.seen; printed = made.printed }

-- what was made of a script's steps, by what ended them
watched_text : (key : RootKey) (script : Option (List ℕ)) (steps : List ScriptStep) (left : ℕ) (text : List ℕ)
    → IfSome script (λ input. steps_of input ≡ Ok steps)
    → AreWatched key steps left text → IsWatchText key script left text
watched_text key script steps left text read watched = record { steps = steps; read = read; watched = watched }

module _ (key : RootKey) (script old new : Option (List ℕ)) where
  -- the script had a fault, or was not read
  pub prints_nothing : (fault : PlayFault) → IfSome script (λ input. StopsShares input (steps_of input) fault) → ¬ (fault ≡ Write) → new ≡ old
      → PrintsWatch key script (Err (Play fault)) old new
  prints_nothing (Line number fault) stops no_write same = (stops, same)
  prints_nothing Memory stops no_write same = inl same
  prints_nothing Read stops no_write same = (stops, same)
  prints_nothing Write stops no_write same = absurd (no_write refl)
  prints_nothing Long stops no_write same = (stops, same)

  -- the lines are written
  pub prints_lines : (steps : List ScriptStep) (end : Result (Unit {0}) WatchFault) (text : List ℕ) → IfSome script (λ input. steps_of input ≡ Ok steps)
      → EndsWatched key steps end text → Appends old new text → PrintsWatch key script end old new
  prints_lines steps (Ok done) text read made wrote = (text, wrote, watched_text key script steps 0 text read made)
  prints_lines steps (Err NoSeat) text read made wrote = (made.1.0, (text, wrote, watched_text key script steps made.1.0 text read made.1.1))
  prints_lines steps (Err NoAnswer) text read made wrote = (made.1.0, (text, wrote, watched_text key script steps made.1.0 text read made.1.1))
  prints_lines steps (Err (Play Memory)) text read made wrote = inr (made.1.0, (text, wrote, watched_text key script steps made.1.0 text read made.1.1))
  prints_lines steps (Err (Play (Line number fault))) text read made wrote = absurd made.0
  prints_lines steps (Err (Play Read)) text read made wrote = absurd made.0
  prints_lines steps (Err (Play Write)) text read made wrote = absurd made.0
  prints_lines steps (Err (Play Long)) text read made wrote = absurd made.0

  -- only a part of them is written
  pub prints_part : (steps : List ScriptStep) (end : Result (Unit {0}) WatchFault) (text : List ℕ) → IfSome script (λ input. steps_of input ≡ Ok steps)
      → EndsWatched key steps end text → PassesPart old new text → PrintsWatch key script (Err (Play Write)) old new
  prints_part steps (Ok done) text read made part = (0, text, watched_text key script steps 0 text read made, part)
  prints_part steps (Err fault) text read made part = (made.1.0, text, watched_text key script steps made.1.0 text read made.1.1, part)
