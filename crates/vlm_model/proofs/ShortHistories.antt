-- What a short history says: what was queued to a process, and which lock was warned.
use Rattle.std.proofs.Common.{◌≡◌, ◌≤◌, ℕ, Bool, true, cond, List, [], ◌∷◌, refl, sym, subst}
use Rattle.std.specs.Prelude.{Contains}
use Rattle.std.specs.List.{count_by, sum_by}
use Rattle.std.proofs.lemmas.Bool.{eq-eqb}
use Rattle.std.proofs.lemmas.List.Sums.{get_or-le-sum_by}
use Rattle.vlm_words.specs.declared.asts.AstKind.TheVariants.{Blocking}
use Rattle.vlm_model.specs.Asts.{Queued}
use Rattle.vlm_model.specs.Taking.{queued_to}
use Rattle.vlm_model.specs.WarnedOnce.{is_warning_of}

-- what is queued to its own process
pub queued_own : (q : Queued) → queued_to q.pid (q ∷ []) ≡ q.ast ∷ []
queued_own q = rw (eq-eqb q.pid q.pid refl)

-- what two ASTs are queued to their own process
pub queued_both : (q again : Queued) → q.pid ≡ again.pid → queued_to q.pid (q ∷ again ∷ []) ≡ q.ast ∷ again.ast ∷ []
queued_both q again one = rw (eq-eqb q.pid q.pid refl, eq-eqb again.pid q.pid (sym one))

-- a blocking AST warns its lock
pub warns_own : (q : Queued) (lkid : ℕ) → q.ast.kind ≡ Blocking → q.ast.lkid ≡ lkid → is_warning_of lkid q ≡ true
warns_own q lkid kind lock = rw (kind, lock, eq-eqb lkid lkid refl)

-- a sum is no less than the term of one element
pub term_of : {X : Type 0} (f : X → ℕ) (xs : List X) (x : X) → Contains xs x → f x ≤ sum_by f xs
term_of {X} f xs x has = subst (λ (y : X). f y ≤ sum_by f xs) has.2 (get_or-le-sum_by f xs has.0 x has.1)

-- what holds of an element is counted
pub counted : {X : Type 0} (p : X → Bool) (xs : List X) (x : X) → Contains xs x → p x ≡ true → 1 ≤ count_by p xs
counted {X} p xs x has test =
    let term : cond (p x) 1 0 ≤ count_by p xs = term_of (λ (y : X). cond (p y) 1 0) xs x has in
    rw test at term
