-- The steps of the lines so far, before the steps of the lines that are left.
use Rattle.std.proofs.Common.{◌≡◌, ℕ, ◌+◌, All, List, [], ◌∷◌, ◌++◌, length, IfSome, Option, None, Some, Result, Ok}
use Rattle.std.proofs.Common.{Err, append_assoc, append-nil, refl, sym, ap, subst, ◌∙◌}
use Rattle.std.proofs.lemmas.List.Elements.{All-push}
use Rattle.vlm_lines.specs.declared.faults.LineFault.{LineFault}
use Rattle.vlm_lines.specs.Lines.{line_read}
use Rattle.vlm_words.specs.declared.steps.Step.{Step}
use Rattle.vlm_script.specs.Sessions.{stopped_at}
use Rattle.vlm_script.specs.Shares.{Shares, line_shared, then_shares}
use Rattle.vlm_script.specs.Sharing.{StopsShareBytes, StopsShareLines}
use Rattle.vlm_script.specs.Steps.{IsPostable, in_front, numbered, read_step, steps_out}
use Rattle.vlm_script.specs.declared.steps.ScriptStep.{ScriptStep}
use Rattle.vlm_script.specs.declared.stops.Stop.{Stop}
use Rattle.vlm_script.specs.declared.stops.Stop.TheVariants.{Fault, Memory}

-- more steps in front
in_front-more : (got more : List ScriptStep) (r : Result (List ScriptStep) (ℕ × LineFault)) → in_front (got ++ more) r ≡ in_front got (in_front more r)
in_front-more got more (Ok steps) = ap Ok (append_assoc got more steps)
in_front-more got more (Err fault) = refl

-- no line is left
pub all-collected : (got : List ScriptStep) (all : Result (List ScriptStep) (ℕ × LineFault)) → in_front got (Ok []) ≡ all → all ≡ Ok got
all-collected got all is = sym is ∙ ap Ok (append-nil got)

-- what comes of the lines from one on, where that is known of the line itself
from_line : (nodes : ℕ) (s : Shares) (count : ℕ) (bytes : List ℕ) (lines : List (List ℕ))
    (shared : Result Shares LineFault) → line_shared nodes s (line_read bytes) ≡ shared
    → steps_out nodes s count (bytes ∷ lines)
    ≡ then_shares shared (count + 1) (λ more. in_front (numbered (count + 1) (read_step s (line_read bytes))) (steps_out nodes more (count + 1) lines))
from_line nodes s count bytes lines shared is =
    ap (λ r. then_shares r (count + 1) (λ more. in_front (numbered (count + 1) (read_step s (line_read bytes))) (steps_out nodes more (count + 1) lines))) is

module _ (nodes : ℕ) (s : Shares) (count : ℕ) (bytes : List ℕ) (lines : List (List ℕ)) (got : List ScriptStep) where
  -- the line is shared, and its step is collected
  pub collected-more : (more : Shares) → line_shared nodes s (line_read bytes) ≡ Ok more
      → in_front (got ++ numbered (count + 1) (read_step s (line_read bytes)))
      (steps_out nodes more (count + 1) lines) ≡ in_front got (steps_out nodes s count (bytes ∷ lines))
  collected-more more is =
      in_front-more got (numbered (count + 1) (read_step s (line_read bytes))) (steps_out nodes more (count + 1) lines)
      ∙ ap (in_front got) (sym (from_line nodes s count bytes lines (Ok more) is))

  -- the line stops the sharing
  pub stops-at : (stop : Stop) → length s.lists ≡ nodes → StopsShareBytes s bytes stop
      → StopsShareLines (in_front got (steps_out nodes s count (bytes ∷ lines))) (stopped_at (count + 1) stop)
  stops-at (Fault fault) as_many is =
      let here : line_shared nodes s (line_read bytes) ≡ Err fault = subst (λ n. line_shared n s (line_read bytes) ≡ Err fault) as_many is in
      ap (in_front got) (from_line nodes s count bytes lines (Err fault) here)
  stops-at Memory as_many is = tt

-- one step more, if there is one, may be posted like those before it
pub postable-more : (nodes number : ℕ) (step : Option Step) (got : List ScriptStep) → All (λ s. IsPostable nodes s.step) got → IfSome step (IsPostable nodes)
    → All (λ s. IsPostable nodes s.step) (got ++ numbered number step)
postable-more nodes number None got all is = subst (All (λ s. IsPostable nodes s.step)) (sym (append-nil got)) all
postable-more nodes number (Some step) got all is = All-push (λ s. IsPostable nodes s.step) got (record { line = number; step = step }) all is
