-- Marks that are made one after another.
use Rattle.std.proofs.Common.{◌≡◌, ◌⊎◌, ℕ, ◌/◌, ◌<◌, ◌≤◌, Bool, true, false, List, refl, sym, ap, ◌∙◌, subst, inl, inr, arith}
use Rattle.std.specs.Prelude.{◌&&◌, nat_le}
use Rattle.std.proofs.lemmas.Bool.{and_parts, cases_eq, leb-true}
use Rattle.vlm_records.specs.NodeMarks.{Writes, is_marked, is_node, place_of}
use Rattle.vlm_store.specs.Records.{IsProcess, Records}
use Rattle.vlm_cycle.specs.Ranks.{Ranks}
use Rattle.vlm_cycle.specs.declared.scratch.Scratch.{Scratch}
use Rattle.vlm_cycle.specs.Marking.{HasRoomInBoth, KeepsRoom, Marks}
use Rattle.vlm_cycle.specs.Waiting.{IsRoomy}

-- a mark is there or not
pub of_mark : (b : Bool) → (b ≡ true) ⊎ (b ≡ false)
of_mark true = inl refl
of_mark false = inr refl

-- none is found
pub marks_none : (P : ℕ → Type 0) (a : Scratch) → ((pid : ℕ) → P pid → ⊥) → Marks P a a
marks_none P a none = record {
  before = λ pid is. (is, refl);
  others = λ pid is. inr ((is, refl), none pid);
  room = λ pid room. room;
  ranks = refl;
}

-- the same ones in other words
pub marks_as : (P Q : ℕ → Type 0) (a b : Scratch) → ((pid : ℕ) → P pid → Q pid) → ((pid : ℕ) → Q pid → P pid) → Marks P a b → Marks Q a b
marks_as P Q a b to from marks = record {
  before = marks.before;
  others = λ pid is. elim (marks.others pid is) [
    | inl found ↦ inl (found.0, to pid found.1)
    | inr not ↦ inr (not.0, λ q. not.1 (from pid q))
  ];
  room = marks.room;
  ranks = marks.ranks;
}

-- these and then those
pub marks_both : (P Q : ℕ → Type 0) (a b c : Scratch) → Marks P a b → Marks Q b c → Marks (λ pid. P pid ⊎ Q pid) a c
marks_both P Q a b c first second = record {
  before = λ pid is.
      let mid = first.before pid is in
      let last = second.before pid mid.0 in
      (last.0, last.1 ∙ mid.1);
  others = λ pid is. elim (first.others pid is) [
    | inl found ↦
        (let last = second.before pid found.0.0 in
        inl ((last.0, last.1 ∙ found.0.1), inl found.1))
    | inr not ↦ elim (second.others pid not.0.0) [
      | inl found ↦ inl (found.0, inr found.1)
      | inr neither ↦ inr ((neither.0.0, neither.0.1 ∙ not.0.1), λ either. elim either [ inl p ↦ not.1 p | inr q ↦ neither.1 q ])
    ]
  ];
  room = λ pid room. second.room pid (first.room pid room);
  ranks = second.ranks ∙ first.ranks;
}

-- what is marked for what is left makes, with what was, the marks for all
abbrev pub GoesOn : {X : Type 0} → (List X → ℕ → Type 0) → List X → List X → Scratch → Scratch → Type 0
GoesOn P left all initial now = (final : Scratch) → Marks (P left) now final → Marks (P all) initial final

-- one more is marked
pub goes_step : {X : Type 0} (P : List X → ℕ → Type 0) (Q : ℕ → Type 0) (left rest all : List X) (initial now after : Scratch)
    → ((pid : ℕ) → Q pid ⊎ P rest pid → P left pid) → ((pid : ℕ) → P left pid → Q pid ⊎ P rest pid)
    → Marks Q now after → GoesOn P left all initial now → GoesOn P rest all initial after
goes_step P Q left rest all initial now after to from marks goes final last =
    goes final (marks_as (λ pid. Q pid ⊎ P rest pid) (P left) now final to from (marks_both Q (P rest) now after final marks last))

-- room stays
pub roomy_still : (s : Records) (a b : Scratch) → KeepsRoom a b → IsRoomy s a → IsRoomy s b
roomy_still s a b keeps roomy p among = let was = roomy p among in (keeps p.process.pid was.0, was.1)

-- ranks are no room
pub other_ranks : (marks : Scratch) (ranks : Ranks) → KeepsRoom marks (record marks { ranks = ranks })
other_ranks marks ranks pid room = record { seen = room.seen; todo = room.todo }

-- the owner of a lock has room
pub owner_room : (s : Records) (marks : Scratch) → IsRoomy s marks → (at pid : ℕ) → IsProcess at pid s
    → HasRoomInBoth marks pid × (is_node (pid / 65536) ≡ true)
owner_room s marks roomy at pid lives = subst (λ n. HasRoomInBoth marks n × (is_node (n / 65536) ≡ true)) lives.1.2 (roomy lives.0 lives.1.0)

-- a process is found that was not
pub marks_one : (pid : ℕ) (ranks : Ranks) (old_seen seen old_todo todo : List (List Bool)) → is_node (pid / 65536) ≡ true → is_marked old_seen pid ≡ false
    → Writes pid true old_seen seen → Writes pid true old_todo todo
    → Marks (λ other. other ≡ pid) (record { seen = old_seen; todo = old_todo; ranks = ranks }) (record { seen = seen; todo = todo; ranks = ranks })
marks_one pid ranks old_seen seen old_todo todo named was writes_seen writes_todo = record {
  before = λ other is.
      let differs : other ≡ pid → ⊥ = λ same. (let never : true ≡ false = sym is ∙ ap (is_marked old_seen) same ∙ was in cc) in
      (writes_seen.others other differs ∙ is, writes_todo.others other differs);
  others = λ other is. elim (cases_eq other pid) [
    | inl same ↦
        inl (
          (
            ap (is_marked seen) same ∙ writes_seen.this ∙ ap (λ b. b && true) named,
            ap (is_marked todo) same
                ∙ writes_todo.this ∙ ap (λ b. b && true) named,
          ),
          same,
        )
    | inr differs ↦ inr ((writes_seen.others other differs ∙ is, writes_todo.others other differs), differs)
  ];
  room = λ other room. record { seen = writes_seen.room other room.seen; todo = writes_todo.room other room.todo };
  ranks = refl;
}

-- one that was found stays so
pub marks_again : (pid : ℕ) (a : Scratch) → is_marked a.seen pid ≡ true → Marks (λ other. other ≡ pid) a a
marks_again pid a was = record {
  before = λ other is. (is, refl);
  others = λ other is. inr ((is, refl), λ same. (let never : true ≡ false = sym was ∙ ap (is_marked a.seen) (sym same) ∙ is in cc));
  room = λ other room. room;
  ranks = refl;
}

-- what is marked is of a node, 1 to 8
not_of_node : (nodes : List (List Bool)) (pid : ℕ) → is_node (pid / 65536) ≡ false → is_marked nodes pid ≡ false
unfolding is_marked place_of
not_of_node nodes pid isnt = rw isnt refl

pub record IsOfNode (pid : ℕ) : Type 0 where
  pub first : 1 ≤ pid / 65536
  pub last : pid / 65536 ≤ 8

pub marked_node : (nodes : List (List Bool)) (pid : ℕ) → is_marked nodes pid ≡ true → IsOfNode pid
marked_node nodes pid is = of_test (is_node (pid / 65536)) refl
  where
    of_test : (b : Bool) → is_node (pid / 65536) ≡ b → IsOfNode pid
    of_test false isnt = let never : true ≡ false = sym is ∙ not_of_node nodes pid isnt in cc
    of_test true named =
        let parts = and_parts (nat_le 1 (pid / 65536)) (nat_le (pid / 65536) 8) named in
        record { first = leb-true 1 (pid / 65536) parts.0; last = leb-true (pid / 65536) 8 parts.1 }

-- so where no process of the nodes is marked, none is
pub none_of_nodes : (nodes : List (List Bool))
    → ((pid : ℕ) → 1 ≤ pid / 65536 → pid / 65536 < 9 → is_marked nodes pid ≡ false) → (pid : ℕ)
    → is_marked nodes pid ≡ false
none_of_nodes nodes none pid = elim (of_mark (is_marked nodes pid)) [
  | inl is ↦ (let node = marked_node nodes pid is in none pid node.first (omega (arith, node.last)))
  | inr not ↦ not
]
