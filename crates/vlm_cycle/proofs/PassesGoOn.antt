-- A pass goes on from some locks to the rest.
use Rattle.std.proofs.Common.{◌≡◌, List, [], ◌∷◌, ◌++◌, refl, sym, ◌∙◌, subst}
use Rattle.vlm_words.specs.declared.locks.LockState.{LockState}
use Rattle.vlm_store.specs.Records.{Records}
use Rattle.vlm_cycle.specs.declared.passes.Pass.{Pass}
use Rattle.vlm_cycle.specs.declared.passes.Purpose.TheVariants.{Check, Search}
use Rattle.vlm_cycle.specs.Passing.{MayPass, Passes}
use Rattle.vlm_cycle.specs.Ranks.{Ranks}
use Rattle.vlm_cycle.proofs.BestFound.{improves_both, improves_none}
use Rattle.vlm_cycle.proofs.Ranked.{falls_both}

pub passes_none : (s : Records) (ranks : Ranks) (p : Pass) → Passes s ranks [] p p
passes_none s ranks p = record {
  purpose = refl;
  checks = λ is. record { before = λ falls. falls; falls = λ falls row lock there. absurd there; located = λ located. located };
  searches = λ is. record { falls = refl; improves = improves_none s p.found };
}

pub passes_both : (s : Records) (ranks : Ranks) (xs ys : List LockState) (a b c : Pass) → Passes s ranks xs a b
    → Passes s ranks ys b c → Passes s ranks (xs ++ ys) a c
passes_both s ranks xs ys a b c first second = record {
  purpose = second.purpose ∙ first.purpose;
  checks = λ is.
      let one = first.checks is in let two = second.checks (first.purpose ∙ is) in record {
        before = λ falls. one.before (two.before falls);
        falls = λ falls. falls_both s ranks xs ys (one.falls (two.before falls)) (two.falls falls);
        located = λ located. two.located (one.located located);
      };
  searches = λ is.
      let one = first.searches is in let two = second.searches (first.purpose ∙ is) in record {
        falls = two.falls ∙ one.falls;
        improves = improves_both s xs ys a.found b.found c.found one.improves two.improves;
      };
}

-- what has gone over some rows has gone over none
pub passes_kept : (s : Records) (ranks : Ranks) (rows : List LockState) (a b : Pass) → Passes s ranks rows a b → Passes s ranks [] a b
passes_kept s ranks rows a b passes = record {
  purpose = passes.purpose;
  checks = λ is. (let one = passes.checks is in record { before = one.before; falls = λ falls row lock there. absurd there; located = one.located });
  searches = λ is.
      (let one = passes.searches is in record {
        falls = one.falls;
        improves = record { fit = one.improves.fit; kept = one.improves.kept; covered = λ row there. absurd there };
      });
}

-- a search stays told
pub may_still : (s : Records) (ranks : Ranks) (rows : List LockState) (a b : Pass) → Passes s ranks rows a b → MayPass s ranks a → MayPass s ranks b
may_still s ranks rows a b passes may is falls =
    let was = sym passes.purpose ∙ is in
    may was (sym (passes.searches was).falls ∙ falls)

-- the pass over what is left makes, with the pass so far, the pass over all
abbrev pub PassGoesOn : Records → Ranks → List LockState → List LockState → Pass → Pass → Type 0
PassGoesOn s ranks left all initial now = (final : Pass) → Passes s ranks left now final → Passes s ranks all initial final

pub pass_on : (s : Records) (ranks : Ranks) (row : LockState) (left rest all : List LockState)
    (initial now after : Pass) → left ≡ row ∷ rest → Passes s ranks (row ∷ []) now after
    → PassGoesOn s ranks left all initial now → PassGoesOn s ranks rest all initial after
pass_on s ranks row left rest all initial now after is step goes final last =
    goes final (subst (λ rows. Passes s ranks rows now final) (sym is) (passes_both s ranks (row ∷ []) rest now after final step last))

-- a check is told nothing
pub may_check : (s : Records) (ranks : Ranks) (p : Pass) → p.purpose ≡ Check → MayPass s ranks p
may_check s ranks p is search = absurd (apart (sym is ∙ search))
  where
    apart : Check ≡ Search → ⊥
    apart is = cc
