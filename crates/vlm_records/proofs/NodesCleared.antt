-- Clearing the marks of every node.
use Rattle.std.proofs.Common.{◌≡◌, ℕ, zero, suc, ◌+◌, ◌<◌, ◌%◌, Bool, false, List, [], length, get_or, set}
use Rattle.std.proofs.Common.{replicate, Option, None, Some, refl, sym, ap, ◌∙◌, inl, inr, arith}
use Rattle.std.proofs.lemmas.Bool.{cases_eq}
use Rattle.std.proofs.lemmas.List.{get_or-set_same, get_or-set_other, length-replicate, length-set}
use Rattle.vlm_records.specs.NodeMarks.{HasRoomFor, HasRoomAt, is_marked, marks_at, place_of}
use Rattle.vlm_records.proofs.NodesMarked.{placed}

-- the first nodes have no marks, and each has the room that it had
pub record AreCleared (count : ℕ) (old new : List (List Bool)) : Type 0 where
  pub many : length new ≡ length old
  pub room : (place : ℕ) → length (get_or new place []) ≡ length (get_or old place [])
  pub none : (place n : ℕ) → place < count → get_or (get_or new place []) n false ≡ false

pub none_cleared : (nodes : List (List Bool)) → AreCleared 0 nodes nodes
none_cleared nodes = record { many = refl; room = λ place. refl; none = λ place n less. absurd (omega (arith, less)) }

-- one node more
pub one_cleared : (count : ℕ) (old new : List (List Bool)) → count < length new → (marks : List Bool) → marks ≡ replicate (length (get_or new count [])) false
    → AreCleared count old new → AreCleared (count + 1) old (set new count marks)
one_cleared count old new within marks is so_far = record {
  many = length-set new count marks ∙ so_far.many;
  room = λ place. elim (cases_eq place count) [
    | inl here ↦
        ap (λ p. length (get_or (set new count marks) p [])) here ∙ ap (λ (m : List Bool). length m) (get_or-set_same new count marks [] within ∙ is)
        ∙ length-replicate (length (get_or new count [])) false ∙ so_far.room count ∙ sym (ap (λ p. length (get_or old p [])) here)
    | inr differs ↦ ap (λ (m : List Bool). length m) (get_or-set_other new count place marks [] differs) ∙ so_far.room place
  ];
  none = λ place n less. elim (cases_eq place count) [
    | inl here ↦
        ap (λ p. get_or (get_or (set new count marks) p []) n false) here
        ∙ ap (λ (m : List Bool). get_or m n false) (get_or-set_same new count marks [] within ∙ is) ∙ blank (length (get_or new count [])) n
    | inr differs ↦ ap (λ (m : List Bool). get_or m n false) (get_or-set_other new count place marks [] differs)
        ∙ so_far.none place n (omega (arith, less, differs))
  ];
}
  where
    blank : (many n : ℕ) → get_or (replicate many false) n false ≡ false
    blank zero n = refl
    blank (suc many) zero = refl
    blank (suc many) (suc n) = blank many n

-- all eight: no process is marked, and each has its room
pub all_cleared : (old new : List (List Bool)) → AreCleared 8 old new → (pid : ℕ) → is_marked new pid ≡ false
unfolding is_marked
all_cleared old new cleared pid = of_place (place_of pid) refl
  where
    of_place : (place : Option ℕ) → place_of pid ≡ place → get_or (marks_at new place) (pid % 65536) false ≡ false
    of_place None is = refl
    of_place (Some place) is = cleared.none place (pid % 65536) (placed pid place is).below

pub room_cleared : (old new : List (List Bool)) → AreCleared 8 old new → (pid : ℕ) → HasRoomFor old pid → HasRoomFor new pid
unfolding HasRoomFor
room_cleared old new cleared pid = of_place (place_of pid)
  where
    of_place : (place : Option ℕ) → HasRoomAt old (pid % 65536) place → HasRoomAt new (pid % 65536) place
    of_place None room = tt
    of_place (Some place) room = omega (arith, room, cleared.room place)

-- a process of no node is not marked
pub unplaced_unmarked : (nodes : List (List Bool)) (pid : ℕ) → place_of pid ≡ None → false ≡ is_marked nodes pid
unfolding is_marked
unplaced_unmarked nodes pid none = sym (ap (λ place. get_or (marks_at nodes place) (pid % 65536) false) none)
