-- How far the run of a script has come, and what follows once it stops.
use Rattle.std.proofs.Common.{◌≡◌, ℕ, zero, suc, ◌+◌, ◌≤◌, List, [], ◌∷◌, ◌++◌, length, take, drop, Option, None, Some}
use Rattle.std.proofs.Common.{Result, Ok, Err, IfErr, OnErr, OnOk, refl, sym, ap, ◌∙◌, add-one, append_assoc, ◌^◌, ◌⊎◌}
use Rattle.std.proofs.Common.{inl, inr, IfSome, length-append, length-drop, arith}
use Rattle.std.proofs.lemmas.List.{append-nil, take-append-drop}
use Rattle.std.specs.Io.KnownBytes.{Appends, Consumes}
use Rattle.vlm_lines.specs.Lines.{lines_of}
use Rattle.vlm_script.specs.Scripts.{Session, Played, opening}
use Rattle.vlm_script.specs.Scripts.Played.{opened, more}
use Rattle.vlm_script.specs.declared.faults.PlayFault.TheVariants.{Memory, Read, Write, Long}
use Rattle.vlm_script.specs.declared.faults.PlayFault.{PlayFault}
use Rattle.vlm_script.specs.declared.stops.Stop.{Stop}
use Rattle.vlm_script.specs.declared.stops.Stop.TheVariants.{Fault, Memory as out_of_memory}
use Rattle.vlm_script.specs.Plays.{EndsLines, Passes, PassesPart, Plays, Wrote}
use Rattle.vlm_script.specs.Sessions.{IsPrinted, StopsBytes, stopped_at}

-- the first lines have run; their text is written except the part that still waits
pub record Reached (input : List ℕ) (count : ℕ) (begun now : Option (List ℕ)) (waiting : List ℕ) (last : Session) : Type 0 where
  pub written : List ℕ
  pub kept : Appends begun now written
  pub played : Played (take count (lines_of input)) (written ++ waiting) last

-- the rest is what the lines so far have left
pub record Progress (input rest : List ℕ) (count : ℕ) (begun now : Option (List ℕ)) (waiting : List ℕ) (last : Session) : Type 0 where
  pub left : lines_of rest ≡ drop count (lines_of input)
  pub short : count + length rest ≤ length input
  pub reached : Reached input count begun now waiting last

-- nothing more is written
Appends-nothing : (known : Option (List ℕ)) → Appends known known []
Appends-nothing None = tt
Appends-nothing (Some bytes) = sym (append-nil bytes)

-- one write after another
Appends-append : (a b c : Option (List ℕ)) (xs ys : List ℕ) → Appends a b xs → Appends b c ys → Appends a c (xs ++ ys)
Appends-append None b c xs ys first second = tt
Appends-append (Some a) None c xs ys first second = absurd first
Appends-append (Some a) (Some b) None xs ys first second = absurd second
Appends-append (Some a) (Some b) (Some c) xs ys first second = second ∙ ap (λ t. t ++ ys) first ∙ append_assoc a xs ys

-- the next line joins those that have run
take-next : {X : Type 0} → (xs : List X) (n : ℕ) (x : X) (rest : List X) → drop n xs ≡ x ∷ rest → take (n + 1) xs ≡ take n xs ++ x ∷ []
take-next [] zero x rest h = cc
take-next [] (suc n) x rest h = cc
take-next (y ∷ xs) zero x rest h = cc
take-next (y ∷ xs) (suc n) x rest h = rw add-one (ap (λ t. y ∷ t) (rw add-one at (take-next xs n x rest h)))

-- the lines after the next one are left
pub drop-more : {X : Type 0} → (xs : List X) (n : ℕ) (x : X) (rest : List X) → drop n xs ≡ x ∷ rest → rest ≡ drop (n + 1) xs
drop-more [] zero x rest h = cc
drop-more [] (suc n) x rest h = cc
drop-more (y ∷ xs) zero x rest h = cc
drop-more (y ∷ xs) (suc n) x rest h = rw add-one (rw add-one at (drop-more xs n x rest h))

-- no line is left where nothing is dropped
take-all : {X : Type 0} → (xs : List X) (n : ℕ) → drop n xs ≡ [] → take n xs ≡ xs
take-all [] zero h = refl
take-all [] (suc n) h = refl
take-all (y ∷ xs) zero h = cc
take-all (y ∷ xs) (suc n) h = ap (λ t. y ∷ t) (take-all xs n h)

-- nothing has run
pub reached-start : (input : List ℕ) (known : Option (List ℕ)) → Reached input 0 known known [] opening
reached-start input known = record { written = []; kept = Appends-nothing known; played = opened }

module _ (input : List ℕ) (count : ℕ) (begun now : Option (List ℕ)) where
  -- one more line has run
  pub reached-more : (waiting after : List ℕ) (last new : Session) (line : List ℕ) (rest : List (List ℕ)) → Reached input count begun now waiting last
      → drop count (lines_of input) ≡ line ∷ rest → IsPrinted last line new waiting after → Reached input (count + 1) begun now after new
  reached-more waiting after last new line rest reached next printed = record {
    written = reached.written;
    kept = reached.kept;
    played =
        rw (take-next (lines_of input) count line rest next, printed.run.printed, ← append_assoc)
        (more line printed.line printed.run.text reached.played printed.read printed.run.faultless printed.run.runs);
  }

  -- a part of what waited is written
  pub reached-passed : (later : Option (List ℕ)) (waiting left : List ℕ) (last : Session) → Reached input count begun now waiting last
      → Passes now later waiting left → Reached input count begun later left last
  reached-passed later waiting left last reached passed = record {
    written = reached.written ++ passed.part;
    kept = Appends-append begun now later reached.written passed.part reached.kept passed.wrote;
    played = rw (append_assoc, ← passed.split) reached.played;
  }

  -- all that waited is written
  pub reached-written : (later : Option (List ℕ)) (waiting : List ℕ) (last : Session) → Reached input count begun now waiting last
      → Appends now later waiting → Reached input count begun later [] last
  reached-written later waiting last reached wrote =
      reached-passed later waiting [] last reached (record { part = waiting; wrote = wrote; split = sym (append-nil waiting) })

  -- only a part of what waited is written
  pub stops-writing : (later : Option (List ℕ)) (waiting : List ℕ) (last : Session) (fault : PlayFault) → fault ≡ Write
      → Reached input count begun now waiting last → PassesPart now later waiting → Wrote begun later (Plays input (Err fault))
  stops-writing later waiting last fault is reached part =
      rw is (
        reached.written ++ take part.0 waiting,
        Appends-append begun now later reached.written (take part.0 waiting) reached.kept part.2,
        record {
          count = count;
          rest = drop part.0 waiting;
          missing = omega (arith, part.1, length-drop part.0 waiting);
          text = (last, rw (append_assoc, take-append-drop) reached.played);
        },
      )

  -- a line stops the run once all before it is written
  pub stops-at : (last : Session) (line : List ℕ) (rest : List (List ℕ)) (stop : Stop) → Reached input count begun now [] last
      → drop count (lines_of input) ≡ line ∷ rest → StopsBytes last.names line stop → Wrote begun now (Plays input (Err (stopped_at (count + 1) stop)))
  stops-at last line rest (Fault fault) reached next faulty = (
    reached.written,
    reached.kept,
    record {
      before = count;
      counted = refl;
      last = last;
      played = rw append-nil at reached.played;
      line = line;
      rest = rest;
      here = next;
      faulty = faulty;
    },
  )
  stops-at last line rest out_of_memory reached next faulty = (reached.written, reached.kept, (count, (last, rw append-nil at reached.played)))

  -- no line is left, and what waited is written, or only a part of it
  pub ends : (later : Option (List ℕ)) (waiting : List ℕ) (last : Session) (result : Result (Unit {0}) PlayFault) → Reached input count begun now waiting last
      → drop count (lines_of input) ≡ [] → OnOk result (Appends now later waiting)
      → OnErr result (PassesPart now later waiting) → IfErr result (λ fault. fault ≡ Write)
      → Wrote begun later (Plays input result)
  ends later waiting last (Ok done) reached none whole part is =
      let all = reached-written later waiting last reached whole in
      (all.written, all.kept, (last, rw (take-all (lines_of input) count none, append-nil) at all.played))
  ends later waiting last (Err fault) reached none whole part is = stops-writing later waiting last fault is reached part

-- what was consumed is no longer than what there was
length-consumed : (input : List ℕ) (now : Option (List ℕ)) (bytes : List ℕ) → Consumes (Some input) now bytes → length bytes ≤ length input
length-consumed input None bytes consumed = absurd consumed
length-consumed input (Some rest) bytes consumed = omega (arith, ap length consumed, length-append bytes rest)

-- a fault while the script is read leaves nothing written
pub stops-reading : (known now writer : Option (List ℕ)) (fault : PlayFault) → (fault ≡ Memory) ⊎ (fault ≡ Read) ⊎ (fault ≡ Long)
    → (fault ≡ Long → (bytes : List ℕ) × (length bytes ≡ 2 ^ 24 + 1) × Consumes known now bytes)
    → IfSome known (λ input. Wrote writer writer (Plays input (Err fault)))
stops-reading None now writer fault which long = tt
stops-reading (Some input) now writer fault (inl memory) long = rw memory ([], Appends-nothing writer, (0, (opening, opened)))
stops-reading (Some input) now writer fault (inr (inl read)) long = rw read ([], Appends-nothing writer, refl)
stops-reading (Some input) now writer fault (inr (inr too_long)) long =
    let consumed = long too_long in
    let longer = length-consumed input now consumed.0 consumed.2 in
    rw too_long ([], Appends-nothing writer, (refl, omega (arith, consumed.1, longer)))

-- what stops a line ends the run of lines
pub stop-ends : (number : ℕ) (stop : Stop) → EndsLines (stopped_at number stop)
stop-ends number (Fault fault) = tt
stop-ends number out_of_memory = tt
