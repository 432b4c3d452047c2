-- Two conversions that block each other, and a state in which nobody is queued.
use Rattle.std.proofs.Common.{◌≡◌, ◌≢◌, inl, inr, true, List, [], subst, sym, refl}
use Rattle.std.specs.Prelude.{All, Contains}
use Rattle.std.proofs.lemmas.List.Elements.{All-contains}
use Rattle.vlm_words.specs.declared.locks.LockState.{LockState}
use Rattle.vlm_words.specs.declared.modes.Mode.{Mode}
use Rattle.vlm_words.specs.declared.modes.Mode.TheVariants.{Ex, Pr}
use Rattle.vlm_words.specs.Modes.{is_compatible}
use Rattle.vlm_words.specs.State.{Resource, State}
use Rattle.vlm_model.specs.Cycles.{IsBlocked, IsBlockedBy, IsCaught, IsHeldUpBy, IsOneOf, IsWaitedFor}
use Rattle.vlm_model.specs.Consequences.{AreDeadlocked, ConvertsUp}
use Rattle.vlm_model.specs.Laws.{IsBeside}
use Rattle.vlm_model.proofs.OneLock.{none_of_none}

-- EX does not fit beside PR
apart_modes : (want held : Mode) → want ≡ Ex → held ≡ Pr → is_compatible want held ≡ true → ⊥
unfolding is_compatible
apart_modes want held writes reads fits = let no : is_compatible Ex Pr ≡ true = subst (λ (m : Mode). is_compatible Ex m ≡ true) reads
    (subst (λ (m : Mode). is_compatible m held ≡ true) writes fits) in cc

-- a contained row is one of the rows
one_of : (rows : List LockState) (row : LockState) → Contains rows row → IsOneOf rows row
one_of rows row has = (has.0, row, has.1, has.2, refl)

-- a conversion from PR to EX waits for another lock that holds PR
waits_for : (s : State) (r : Resource) (a b : LockState) → Contains s.resources r → Contains r.converting a → Contains r.converting b
    → b.lkid ≢ a.lkid → ConvertsUp a → ConvertsUp b → IsBlocked s a b
waits_for s r a b there first second another up other =
    let keeps : IsBeside up.asked.mode b.held → ⊥ = λ beside.
    apart_modes up.asked.mode other.was.mode up.writes other.reads (subst (IsBeside up.asked.mode) other.held beside) in
    let waited : IsWaitedFor b.held = subst IsWaitedFor (sym other.held) other.blocks in
    let blocked : IsBlockedBy r a b = record {
      queued = inl (one_of r.converting a first);
      request = up.asked;
      wants = up.want;
      waits = up.waits;
      another = another;
      why = inl (inr (one_of r.converting b second), keeps, waited);
    } in
    (there.0, r, there.1, there.2, blocked)

-- the first lock waits for the second
pub first_waits : (s : State) (a b : LockState) → AreDeadlocked s a b → IsHeldUpBy s a.pid b.pid
first_waits s a b two = record {
  row = a;
  lock = b;
  waiter = refl;
  owner = refl;
  blocked = waits_for s two.r a b two.there two.first two.second (λ same. two.another (sym same)) two.one two.other;
}

-- the second lock waits for the first
pub second_waits : (s : State) (a b : LockState) → AreDeadlocked s a b → IsHeldUpBy s b.pid a.pid
second_waits s a b two = record {
  row = b;
  lock = a;
  waiter = refl;
  owner = refl;
  blocked = waits_for s two.r b a two.there two.second two.first two.another two.other two.one;
}

-- the first lock's request is caught
pub first_caught : (s : State) (a b : LockState) → AreDeadlocked s a b → IsCaught s a
first_caught s a b two = record {
  lock = b;
  blocked = waits_for s two.r a b two.there two.first two.second (λ same. two.another (sym same)) two.one two.other;
  back = inr ([], second_waits s a b two);
}

-- no request is caught where nobody is queued
pub nobody_caught : (s : State) (row : LockState) → All (λ (r : Resource). (r.converting ≡ []) × (r.waiting ≡ [])) s.resources
    → IsCaught s row → ⊥
nobody_caught s row nobody caught =
    let at = caught.blocked in
    let none : (at.1.converting ≡ []) × (at.1.waiting ≡ []) =
    All-contains (λ (r : Resource). (r.converting ≡ []) × (r.waiting ≡ [])) s.resources at.1 nobody (at.0, at.2, at.3) in
    elim at.4.queued [
      | inl converting ↦ none_of_none (λ (other : LockState). other ≡ row) at.1.converting none.0 converting
      | inr waiting ↦ none_of_none (λ (other : LockState). other ≡ row) at.1.waiting none.1 waiting
    ]
