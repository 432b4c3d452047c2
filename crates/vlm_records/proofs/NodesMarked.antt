-- The marks of processes, by those of their nodes.
use Rattle.std.proofs.Common.{◌≡◌, ℕ, ◌+◌, ◌-◌, ◌*◌, ◌/◌, ◌%◌, ◌<◌, ◌≤◌, Bool, true, false, List, [], ◌++◌, length}
use Rattle.std.proofs.Common.{get_or, set, replicate, Option, None, Some, refl, sym, ap, ◌∙◌, subst, inl, inr, arith}
use Rattle.std.proofs.Common.{cond}
use Rattle.std.specs.Prelude.{◌&&◌, nat_le, position}
use Rattle.std.proofs.lemmas.Bool.{and_parts, cases_eq, cases_lt, leb-true}
use Rattle.std.proofs.lemmas.List.{get_or-set_same, get_or-set_other, length-append, length-replicate, length-set}
use Rattle.std.proofs.lemmas.List.Quantifiers.{position-Some}
use Rattle.std.proofs.lemmas.Option.{none-some, same_Some}
use Rattle.vlm_records.specs.NodeMarks.{Grows, HasRoomAt, HasRoomFor, IsFirstMarked, Writes, is_marked, is_node, marks_at, place_of}
use Rattle.vlm_collections.proofs.Cleared.{position-None}
use Rattle.vlm_collections.proofs.Numbers.{get_or-behind, get_or-of_default}

-- what a place tells of the process that has it
pub record IsPlaceOf (pid place : ℕ) : Type 0 where
  pub node : pid / 65536 ≡ place + 1
  pub below : place < 8
  pub named : is_node (pid / 65536) ≡ true

pub placed : (pid place : ℕ) → place_of pid ≡ Some place → IsPlaceOf pid place
unfolding place_of
placed pid place is = by_test (is_node (pid / 65536)) refl is
  where
    by_test : (named : Bool) → is_node (pid / 65536) ≡ named → cond named (Some (pid / 65536 - 1)) None ≡ Some place → IsPlaceOf pid place
    by_test true named is =
        let parts = and_parts (nat_le 1 (pid / 65536)) (nat_le (pid / 65536) 8) named in
        let first = leb-true 1 (pid / 65536) parts.0 in
        let last = leb-true (pid / 65536) 8 parts.1 in
        let same = same_Some (pid / 65536 - 1) place is in
        record { node = omega (arith, first, same); below = omega (arith, first, last, same); named = named }
    by_test false named is = absurd (none-some place is)

-- a process of no node has no place
pub unplaced : (pid : ℕ) → place_of pid ≡ None → is_node (pid / 65536) ≡ false
unfolding place_of
unplaced pid is = by_test (is_node (pid / 65536)) refl is
  where
    by_test : (named : Bool) → is_node (pid / 65536) ≡ named → cond named (Some (pid / 65536 - 1)) None ≡ None → named ≡ false
    by_test true named is = absurd (none-some (pid / 65536 - 1) (sym is))
    by_test false named is = refl

-- processes of one node have one place
pub same_place : (a b : ℕ) → a / 65536 ≡ b / 65536 → place_of a ≡ place_of b
unfolding place_of
same_place a b same = ap (λ node. cond (is_node node) (Some (node - 1)) None) same

-- nothing is marked where no number is
unmarked_at : (place : Option ℕ) → marks_at (replicate 8 []) place ≡ []
unmarked_at None = refl
unmarked_at (Some place) = get_or-of_default 8 place []

pub none_marked : (pid : ℕ) → is_marked (replicate 8 []) pid ≡ false
unfolding is_marked
none_marked pid = ap (λ marks. get_or marks (pid % 65536) false) (unmarked_at (place_of pid))

module _ (nodes : List (List Bool)) (pid place : ℕ) (is : place_of pid ≡ Some place) where
  -- the room of a process is that of its ordinal at its node
  pub room_at : HasRoomFor nodes pid → pid % 65536 < length (get_or nodes place [])
  unfolding HasRoomFor
  room_at room = subst (HasRoomAt nodes (pid % 65536)) is room

  pub at_room : pid % 65536 < length (get_or nodes place []) → HasRoomFor nodes pid
  unfolding HasRoomFor
  at_room room = subst (HasRoomAt nodes (pid % 65536)) (sym is) room

  pub marked_at : is_marked nodes pid ≡ get_or (get_or nodes place []) (pid % 65536) false
  unfolding is_marked
  marked_at = ap (λ p. get_or (marks_at nodes p) (pid % 65536) false) is

-- the marks of one node become others
module _ (nodes : List (List Bool)) (place : ℕ) (within : place < length nodes) (marks : List Bool) where
  -- a mark stays where those of its node have it as it was
  mark_stays : (ordinal : ℕ) (at : Option ℕ) → (at ≡ Some place → get_or marks ordinal false ≡ get_or (get_or nodes place []) ordinal false)
      → get_or (marks_at (set nodes place marks) at) ordinal false ≡ get_or (marks_at nodes at) ordinal false
  mark_stays ordinal None same = refl
  mark_stays ordinal (Some at) same =
      elim (cases_eq at place) [
        | inl here ↦
            ap (λ x. get_or (get_or (set nodes place marks) x []) ordinal false) here
            ∙ ap (λ (m : List Bool). get_or m ordinal false) (get_or-set_same nodes place marks [] within)
            ∙ same (ap Some here)
            ∙ sym (ap (λ x. get_or (get_or nodes x []) ordinal false) here)
        | inr differs ↦ ap (λ (m : List Bool). get_or m ordinal false) (get_or-set_other nodes place at marks [] differs)
      ]

  -- room stays where those of its node are as many or more
  room_stays : length (get_or nodes place []) ≤ length marks → (ordinal : ℕ) (at : Option ℕ)
      → HasRoomAt nodes ordinal at → HasRoomAt (set nodes place marks) ordinal at
  room_stays more ordinal None room = tt
  room_stays more ordinal (Some at) room =
      elim (cases_eq at place) [
        | inl here ↦
            let now = ap (λ x. length (get_or (set nodes place marks) x [])) here
            ∙ ap (λ (m : List Bool). length m) (get_or-set_same nodes place marks [] within) in
            let was = ap (λ x. length (get_or nodes x [])) here in
            omega (arith, room, now, was, more)
        | inr differs ↦
            let now = ap (λ (m : List Bool). length m) (get_or-set_other nodes place at marks [] differs) in
            omega (arith, room, now)
      ]

  pub roomy : (pid : ℕ) → place_of pid ≡ Some place → pid % 65536 < length marks → HasRoomFor (set nodes place marks) pid
  roomy pid is room = at_room (set nodes place marks) pid place is
      (let now = ap (λ (m : List Bool). length m) (get_or-set_same nodes place marks [] within) in
      omega (arith, room, now))

  -- no mark changes where those of the node have only grown
  pub grown : marks ≡ get_or nodes place [] ++ replicate (length marks - length (get_or nodes place [])) false → Grows nodes (set nodes place marks)
  unfolding is_marked HasRoomFor
  grown is =
      let more : ℕ = length marks - length (get_or nodes place []) in
      let len : length (replicate {A = Bool} more false) ≡ more = length-replicate more false in
      record {
        marks = λ pid. mark_stays (pid % 65536) (place_of pid)
            (λ _. ap (λ (m : List Bool). get_or m (pid % 65536) false) is
            ∙ get_or-behind (get_or nodes place []) more (pid % 65536) false);
        room = λ pid. room_stays
            (omega (
              arith,
              ap (λ (m : List Bool). length m) is,
              length-append (get_or nodes place []) (replicate {A = Bool} more false),
              len,
            )) (pid % 65536) (place_of pid);
      }

  -- one mark of the node is written
  pub written : (pid : ℕ) (value : Bool) → place_of pid ≡ Some place → HasRoomFor nodes pid → marks ≡ set (get_or nodes place []) (pid % 65536) value
      → Writes pid value nodes (set nodes place marks)
  unfolding is_marked HasRoomFor
  written pid value is room becomes =
      let at = placed pid place is in
      let many = length-set (get_or nodes place []) (pid % 65536) value in
      record {
        this =
            ap (λ p. get_or (marks_at (set nodes place marks) p) (pid % 65536) false) is
            ∙ ap (λ (m : List Bool). get_or m (pid % 65536) false) (get_or-set_same nodes place marks [] within ∙ becomes)
            ∙ get_or-set_same (get_or nodes place []) (pid % 65536) value false (room_at nodes pid place is room)
            ∙ sym (ap (λ named. named && value) at.named);
        others = λ other differs. mark_stays (other % 65536) (place_of other)
            (λ here.
            let beside = placed other place here in
            ap (λ (m : List Bool). get_or m (other % 65536) false) becomes
            ∙ get_or-set_other (get_or nodes place []) (pid % 65536) (other % 65536) value false (λ same. differs (omega (arith, at.node, beside.node, same))));
        room = λ other. room_stays (omega (arith, ap (λ (m : List Bool). length m) becomes, many)) (other % 65536) (place_of other);
      }

-- a process of no node is marked neither before nor after
pub unwritten : (nodes : List (List Bool)) (pid : ℕ) (value : Bool) → place_of pid ≡ None → Writes pid value nodes nodes
unfolding is_marked
unwritten nodes pid value none =
    record {
      this = ap (λ p. get_or (marks_at nodes p) (pid % 65536) false) none ∙ sym (ap (λ named. named && value) (unplaced pid none));
      others = λ other _. refl;
      room = λ other room. room;
    }

-- ---- the first of a node

-- without a place no process of the node is marked
pub first-unplaced : (nodes : List (List Bool)) (node : ℕ) → place_of (node * 65536) ≡ None → IsFirstMarked nodes node None
unfolding is_marked
first-unplaced nodes node none pid same =
    ap (λ p. get_or (marks_at nodes p) (pid % 65536) false) (same_place pid (node * 65536) (omega arith) ∙ none)

module _ (nodes : List (List Bool)) (node place : ℕ) (is : place_of (node * 65536) ≡ Some place) where
  -- whether a process of the node is marked stands at its ordinal
  of_node : (pid : ℕ) → pid / 65536 ≡ node → is_marked nodes pid ≡ get_or (get_or nodes place []) (pid % 65536) false
  of_node pid same = marked_at nodes pid place (same_place pid (node * 65536) (omega arith) ∙ is)

  pub first-none : position (λ is_marked. is_marked) (get_or nodes place []) ≡ None → IsFirstMarked nodes node None
  first-none none pid same = of_node pid same ∙ position-None (get_or nodes place []) (pid % 65536) none

  pub first-some : (ordinal : ℕ) → ordinal < 65536
      → position (λ is_marked. is_marked) (get_or nodes place []) ≡ Some ordinal
      → IsFirstMarked nodes node (Some (node * 65536 + ordinal))
  first-some ordinal few found =
      let at = position-Some (λ m. m) (get_or nodes place []) ordinal false found in
      let upper : (node * 65536 + ordinal) / 65536 ≡ node = omega arith in
      let lower : (node * 65536 + ordinal) % 65536 ≡ ordinal = omega arith in (
        of_node (node * 65536 + ordinal) upper ∙ ap (λ k. get_or (get_or nodes place []) k false) lower ∙ at.1,
        upper,
        λ pid same marked.
            elim (cases_lt (pid % 65536) ordinal) [
              | inl before ↦ (let never : true ≡ false = sym marked ∙ of_node pid same ∙ at.2 (pid % 65536) before in cc)
              | inr behind ↦ omega (arith, same, behind)
            ],
      )

-- there is room for a process where there is room for one of its node whose ordinal is among the same 64, or later
pub room_beside : (nodes : List (List Bool)) (pid other place : ℕ) → place_of pid ≡ Some place
    → other / 65536 ≡ pid / 65536 → pid / 64 ≤ other / 64 → HasRoomFor nodes other
    → 64 * (pid % 65536 / 64) < length (get_or nodes place [])
room_beside nodes pid other place is same later room =
    omega (arith, room_at nodes other place (same_place other pid same ∙ is) room, same, later)

-- a process of no node wants no room
pub no_room_wanted : (nodes : List (List Bool)) (pid : ℕ) → place_of pid ≡ None → HasRoomFor nodes pid
unfolding HasRoomFor
no_room_wanted nodes pid none = subst (HasRoomAt nodes (pid % 65536)) (sym none) tt
