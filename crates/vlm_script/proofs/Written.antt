-- Parts of what is written piece by piece.
use Rattle.std.proofs.Common.{ℕ, ◌+◌, ◌<◌, ◌≤◌, List, ◌++◌, length, take, Option, Result, Ok, Err, OnErr, subst, sym, arith, length-append}
use Rattle.std.proofs.KnownBytes.{Appends-trans}
use Rattle.std.proofs.lemmas.List.{take-append-le}
use Rattle.std.proofs.Math.Seq.{take-append-add}
use Rattle.std.specs.Io.KnownBytes.{Appends}
use Rattle.vlm_script.specs.Plays.{PassesPart}

-- a part of the first piece is a part of the whole
pub part_of_first : (old new : Option (List ℕ)) (xs ys : List ℕ) → PassesPart old new xs → PassesPart old new (xs ++ ys)
part_of_first old new xs ys part =
    let within : part.0 ≤ length xs = omega (arith, part.1) in
    let short : part.0 < length (xs ++ ys) = omega (arith, part.1, length-append xs ys) in
    (part.0, short, subst (Appends old new) (sym (take-append-le part.0 xs ys within)) part.2)

-- the first piece and a part of the next are a part of the whole
pub part_after : (old mid new : Option (List ℕ)) (xs ys : List ℕ) → Appends old mid xs → PassesPart mid new ys
    → PassesPart old new (xs ++ ys)
part_after old mid new xs ys first part = (
  length xs + part.0,
  omega (arith, part.1, length-append xs ys),
  subst (Appends old new) (sym (take-append-add xs ys part.0)) (Appends-trans old mid new xs (take part.0 ys) first part.2),
)

-- what holds anyway holds on an error
pub on_err : {T E P : Type 0} (r : Result T E) → P → OnErr r P
on_err (Ok x) p = tt
on_err (Err e) p = p

-- what follows on an error
pub on_err_map : {T E P Q : Type 0} (r : Result T E) → OnErr r P → (P → Q) → OnErr r Q
on_err_map (Ok x) p f = tt
on_err_map (Err e) p f = f p
