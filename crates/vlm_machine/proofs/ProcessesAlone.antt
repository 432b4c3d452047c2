-- What stays if only processes change.
use Rattle.std.proofs.Common.{◌≡◌, ◌⊎◌, ℕ, true, false, List, [], ◌∷◌, ◌++◌, cond, find, None, Some, refl, sym, ◌∙◌, subst, inl, inr}
use Rattle.std.specs.Prelude.{◌==◌}
use Rattle.std.specs.Option.{option_map_or}
use Rattle.vlm_words.specs.declared.steps.Declaration.{Declaration}
use Rattle.vlm_collections.specs.Lists.{IsIn}
use Rattle.vlm_store.specs.Records.{DuesStay, IsProcess, IsSound, IsUnchanged, Records, Room, SameButNotices}
use Rattle.vlm_store.specs.Records.{StoredProcess, new_stored_process, with_process_room}
use Rattle.vlm_locks.specs.Owing.{IsPaid}
use Rattle.vlm_locks.specs.Rest.{IsAtRest}
use Rattle.vlm_locks.specs.Rising.{HasRisingLocks}
use Rattle.vlm_locks.proofs.ReservedAsts.{due_noticed}
use Rattle.vlm_locks.proofs.SoundRecords.{sound_alike}
use Rattle.vlm_locks.proofs.Rising.{all_rise_still, rises_still, were_stored}
use Rattle.vlm_locks.proofs.FoundByHandle.{process_there}
use Rattle.vlm_machine.specs.declared.processes.Caller.{Caller}
use Rattle.vlm_machine.specs.Admissions.{IsCaller}

-- a process under its handle and its ID makes steps
pub caller_of : (caller : Caller) (s : Records) → IsProcess caller.at caller.pid s → IsCaller caller s
caller_of caller s is = record { lives = is; there = process_there s caller.at caller.pid is }

-- a new process has no locks
among_more : (ps : List StoredProcess) (made p : StoredProcess) → IsIn p (ps ++ made ∷ []) → IsIn p ps ⊎ (made ≡ p)
among_more [] made p among = elim among [ inl here ↦ inr here | inr there ↦ absurd there ]
among_more (x ∷ ps) made p among =
    elim among [ inl here ↦ inl (inl here) | inr there ↦ elim (among_more ps made p there) [ inl was ↦ inl (inr was) | inr new ↦ inr new ] ]

pub rests_declared : (s t : Records) (room : Room) (at pid : ℕ) (d : Declaration)
    → t ≡ with_process_room room (record s { processes = s.processes ++ new_stored_process at pid d ∷ [] }) → IsSound t
    → IsAtRest s → IsAtRest t
rests_declared s t room at pid d is sound rest =
    subst IsAtRest (sym is) (record {
      keyed = rest.keyed;
      rising = λ p among. elim (among_more s.processes (new_stored_process at pid d) p among) [
        | inl was ↦ rises_still s made p p (were_stored s made refl) refl (rest.rising p was)
        | inr new ↦ subst (HasRisingLocks made) new (record { queued = λ own none. absurd none; own = tt; sublocks = λ own none. absurd none })
      ];
      sound = subst IsSound is sound;
    })
  where
    made : Records
    made = with_process_room room (record s { processes = s.processes ++ new_stored_process at pid d ∷ [] })

-- where a call is refused for memory, nothing that holds between two steps is lost
pub rests_refused : (s t : Records) → IsUnchanged s t → IsAtRest s → IsAtRest t
rests_refused s t unchanged rest =
    subst IsAtRest (sym unchanged.same) (record {
      keyed = rest.keyed;
      rising = all_rise_still s (record s { room = t.room }) (were_stored s (record s { room = t.room }) refl) refl rest.rising;
      sound = sound_alike s (record s { room = t.room }) refl refl rest.sound;
    })

-- ---- what is owed

-- a new process is owed nothing, and each other what it was
due_with : (ps : List StoredProcess) (at pid : ℕ) (d : Declaration) (other : ℕ)
    → option_map_or (λ (p : StoredProcess). p.due) (find (λ (p : StoredProcess). p.process.pid == other) (ps ++ new_stored_process at pid d ∷ [])) 0
    ≡ option_map_or (λ (p : StoredProcess). p.due) (find (λ (p : StoredProcess). p.process.pid == other) ps) 0
due_with [] at pid d other =
    elim (pid == other) as (λ b. option_map_or (λ (p : StoredProcess). p.due) (cond b (Some (new_stored_process at pid d)) None) 0 ≡ 0) [
      | true ↦ refl
      | false ↦ refl
    ]
due_with (x ∷ rest) at pid d other =
    elim (x.process.pid == other) as (λ b.
    option_map_or (λ (p : StoredProcess). p.due)
    (cond b (Some x) (find (λ (p : StoredProcess). p.process.pid == other)
    (rest ++ new_stored_process at pid d ∷ []))) 0
    ≡ option_map_or (λ (p : StoredProcess). p.due) (cond b (Some x) (find (λ (p : StoredProcess). p.process.pid == other) rest)) 0) [
      | true ↦ refl
      | false ↦ due_with rest at pid d other
    ]

pub paid_declared : (s t : Records) (room : Room) (at pid : ℕ) (d : Declaration)
    → t ≡ with_process_room room (record s { processes = s.processes ++ new_stored_process at pid d ∷ [] }) → IsPaid s
    → IsPaid t
paid_declared s t room at pid d is paid = subst IsPaid (sym is) (λ other. due_with s.processes at pid d other ∙ paid other)

-- where a call is refused for memory nothing more is owed
pub paid_refused : (s t : Records) → IsUnchanged s t → IsPaid s → IsPaid t
paid_refused s t unchanged paid = subst IsPaid (sym unchanged.same) paid

-- nor where status blocks are written or ASTs taken
pub paid_still : (s t : Records) → SameButNotices s t → DuesStay s t → IsPaid s → IsPaid t
paid_still s t same stay paid pid = stay pid ∙ paid pid ∙ sym (due_noticed s t same pid)
