-- What of the three families of lists stays as locks move, and as they join and leave their processes and
-- parents.
use Rattle.std.proofs.Common.{◌≡◌, ◌≢◌, ◌⊎◌, ℕ, List, Option, None, Some, IsSome, refl, sym, ap, ◌∙◌, subst, inl, inr, Bool, true, false, cond}
use Rattle.std.proofs.lemmas.Bool.{cases_eq}
use Rattle.std.proofs.lemmas.Option.{none-some, same_Some}
use Rattle.std.specs.Option.{option_map}
use Rattle.slab.specs.Slab.{Slab, get, ContainsKey}
use Rattle.vlm_collections.specs.declared.hashers.HashKeys.{HashKeys}
use Rattle.vlm_collections.specs.declared.lists.LinkedList.{LinkedList}
use Rattle.vlm_collections.specs.Lists.{IsIn, IsLinked, Relinks, handles_of, next_in, prev_in}
use Rattle.vlm_collections.proofs.Keeping.{relinked_same}
use Rattle.vlm_collections.proofs.Rings.{kept-handles, kept-linked}
use Rattle.vlm_words.specs.declared.locks.LockState.{LockState}
use Rattle.vlm_records.specs.declared.handles.Place.{Place}
use Rattle.vlm_records.specs.declared.locks.Lock.{Lock}
use Rattle.vlm_records.specs.declared.processes.Process.{Process}
use Rattle.vlm_records.specs.declared.queues.Queues.{Queues}
use Rattle.vlm_records.specs.declared.resources.InOrder.{InOrder}
use Rattle.vlm_store.specs.Records.{IsSameLock, StoredProcess}
use Rattle.vlm_records.specs.Shown.{IsPlaced, IsTallied, SameBut, but_kin, but_queued, handles_at, lkid_of, named_row}
use Rattle.vlm_records.specs.Shown.{noted_in, queue_links, row_in, is_loose_in, loose_in}
use Rattle.vlm_records.specs.Kin.{IsBelow, IsNamed, IsOwned, NamesParent, OwnerFits, ParentFits, below_in}
use Rattle.vlm_records.specs.Kin.{below_handles, below_links, below_list, but_below, but_own, lasting_part, own_handles}
use Rattle.vlm_records.specs.Kin.{own_links, own_list, owner_in, parent_in, pid_of, process_links, with_own_links}
use Rattle.vlm_store.specs.Holdings.{holding, process_face_in, processes_of}
use Rattle.vlm_store.specs.Store.{Beside, Layout, records_of, tables}
use Rattle.vlm_records.specs.Tallies.{weight_of}
use Rattle.vlm_records.proofs.Counting.{shares_same}
use Rattle.vlm_records.proofs.Families.{family-kept, family-handles}
use Rattle.vlm_store.proofs.Members.{processes_same}
use Rattle.vlm_records.proofs.PlacesOnLists.{by_part, kept_handles, kept_placed, lists_same, lkid_told, named-queued, there_through, through}

-- the processes that a caller sees
pub records_processes : (l : Layout) → (records_of l).processes ≡ l.processes
unfolding records_of
records_processes l = refl

pub records_keys : (l : Layout) → (records_of l).keys ≡ l.keys
unfolding records_of
records_keys l = refl

-- the processes change, and nothing else
pub processes_changed : (q : Queues) (order : LinkedList InOrder) (old new : Beside) (changed : List StoredProcess
    → List StoredProcess) → new.processes ≡ changed old.processes
    → new.keys ≡ old.keys
    → records_of (tables q order new) ≡ record (records_of (tables q order old)) {
      processes =
          changed (records_of (tables q order old)).processes;
      room = (records_of (tables q order new)).room;
    }
unfolding records_of
processes_changed q order old new changed is keys =
    ap (λ ps. records_of (tables q order (record { processes = ps; room = new.room; keys = new.keys }))) is
    ∙ ap (λ (h : HashKeys). records_of (tables q order (record { processes = changed old.processes; room = new.room; keys = h }))) keys

-- ---- what does not depend on the queues

pub own_next-queued : (slot : Option Lock) → next_in own_links (option_map but_queued slot) ≡ next_in own_links slot
own_next-queued None = refl
own_next-queued (Some l) = refl

pub own_prev-queued : (slot : Option Lock) → prev_in own_links (option_map but_queued slot) ≡ prev_in own_links slot
own_prev-queued None = refl
own_prev-queued (Some l) = refl

pub owner-queued : (slot : Option Lock) → owner_in (option_map but_queued slot) ≡ owner_in slot
owner-queued None = refl
owner-queued (Some l) = refl

pub below_next-queued : (slot : Option Lock) → next_in below_links (option_map but_queued slot) ≡ next_in below_links slot
below_next-queued None = refl
below_next-queued (Some l) = refl

pub below_prev-queued : (slot : Option Lock) → prev_in below_links (option_map but_queued slot) ≡ prev_in below_links slot
below_prev-queued None = refl
below_prev-queued (Some l) = refl

pub parent-queued : (slot : Option Lock) → parent_in (option_map but_queued slot) ≡ parent_in slot
parent-queued None = refl
parent-queued (Some l) = refl

pub below-queued : (slot : Option Lock) → below_in (option_map but_queued slot) ≡ below_in slot
below-queued None = refl
below-queued (Some l) = refl

pub lkid-queued : (slot : Option Lock) → option_map lkid_of (option_map but_queued slot) ≡ option_map lkid_of slot
lkid-queued None = refl
lkid-queued (Some l) = refl

-- ---- what the row of a lock names

-- what fits one record fits another that tells the same names
pub owner_fits : (processes processes' : Slab Process)
    → ((p : ℕ) → option_map pid_of (get processes' p) ≡ option_map pid_of (get processes p)) → (a b : Option Lock)
    → option_map lasting_part a ≡ option_map lasting_part b
    → OwnerFits processes b → OwnerFits processes' a
owner_fits processes processes' pids None b same fits = tt
owner_fits processes processes' pids (Some l) None same fits = cc
owner_fits processes processes' pids (Some l) (Some l') same fits =
    let is : lasting_part l ≡ lasting_part l' = same_Some (lasting_part l) (lasting_part l') same in
    pids l.owner ∙ ap (λ (x : Lock). option_map pid_of (get processes x.owner)) is ∙ fits ∙ sym (ap (λ (x : Lock). Some x.row.pid) is)

names_parent : (locks locks' : Slab Lock) (parent : Option ℕ) (lkid : ℕ)
    → ((k : ℕ) → parent ≡ Some k → option_map lkid_of (get locks' k) ≡ option_map lkid_of (get locks k))
    → NamesParent locks parent lkid → NamesParent locks' parent lkid
names_parent locks locks' None lkid same names = names
names_parent locks locks' (Some k) lkid same names = same k refl ∙ names

pub parent_fits : (locks locks' : Slab Lock) (a b : Option Lock) → option_map lasting_part a ≡ option_map lasting_part b
    → ((k : ℕ) → parent_in b ≡ Some k → option_map lkid_of (get locks' k) ≡ option_map lkid_of (get locks k))
    → ParentFits locks b → ParentFits locks' a
parent_fits locks locks' None b same lkids fits = tt
parent_fits locks locks' (Some l) None same lkids fits = cc
parent_fits locks locks' (Some l) (Some l') same lkids fits =
    let is : lasting_part l' ≡ lasting_part l = sym (same_Some (lasting_part l) (lasting_part l') same) in
    subst (λ (x : Lock). NamesParent locks' x.parent x.row.parent) is (names_parent locks locks' l'.parent l'.row.parent lkids fits)

pub lkid-named : (slot : Option Lock) → option_map lkid_of (option_map lasting_part slot) ≡ option_map lkid_of slot
lkid-named None = refl
lkid-named (Some l) = refl

pub lkids_named : (locks locks' : Slab Lock) → SameBut lasting_part locks locks' → SameBut lkid_of locks locks'
lkids_named locks locks' same k = by_part lasting_part (option_map lkid_of) lkid-named (get locks' k) (get locks k) (same k)

pub named-kept : (processes processes' : Slab Process) (locks locks' : Slab Lock)
    → ((p : ℕ) → option_map pid_of (get processes' p) ≡ option_map pid_of (get processes p))
    → SameBut lasting_part locks locks'
    → IsNamed processes locks → IsNamed processes' locks'
named-kept processes processes' locks locks' pids same named = record {
  owners = λ at. owner_fits processes processes' pids (get locks' at) (get locks at) (same at) (named.owners at);
  parents = λ at. parent_fits locks locks' (get locks' at) (get locks at) (same at) (λ k _. lkids_named locks locks' same k) (named.parents at);
}

-- a lock comes that names a process and a parent that are there
pub named-added : (processes : Slab Process) (locks locks' : Slab Lock) (at : ℕ) → get locks at ≡ None
    → ((k : ℕ) → k ≢ at → option_map lasting_part (get locks' k) ≡ option_map lasting_part (get locks k))
    → OwnerFits processes (get locks' at) → ParentFits locks' (get locks' at) → IsNamed processes locks → IsNamed processes locks'
named-added processes locks locks' at fresh same owner parent named = record {
  owners = λ k. elim (cases k) [
    | inl is ↦ subst (λ x. OwnerFits processes (get locks' x)) (sym is) owner
    | inr differs ↦ owner_fits processes processes (λ p. refl) (get locks' k) (get locks k) (same k differs) (named.owners k)
  ];
  parents = λ k. elim (cases k) [
    | inl is ↦ subst (λ x. ParentFits locks' (get locks' x)) (sym is) parent
    | inr differs ↦ parent_fits locks locks' (get locks' k) (get locks k) (same k differs)
        (λ up noted. lkid_stays up (was_there (get locks k) up (named.parents k) noted)) (named.parents k)
  ];
}
  where
    cases : (k : ℕ) → (k ≡ at) ⊎ (k ≢ at)
    cases k = cases_eq k at

    was_there : (slot : Option Lock) (up : ℕ) → ParentFits locks slot → parent_in slot ≡ Some up → IsSome (get locks up)
    was_there None up fits noted = absurd (none-some up noted)
    was_there (Some l) up fits noted = (lkid_told (get locks up) l.row.parent (subst (λ p. NamesParent locks p l.row.parent) noted fits)).0

    lkid_stays : (up : ℕ) → IsSome (get locks up) → option_map lkid_of (get locks' up) ≡ option_map lkid_of (get locks up)
    lkid_stays up there =
        by_part lasting_part (option_map lkid_of) lkid-named (get locks' up) (get locks up)
        (same up (λ is. let nothing : IsSome {T = Lock} None = rw (ap (get locks) is ∙ fresh) at there in absurd (cc)))

-- a lock goes below which no other stands
pub named-removed : (processes processes' : Slab Process) (locks locks' : Slab Lock) (at : ℕ) → get locks' at ≡ None
    → ((p : ℕ) → option_map pid_of (get processes' p) ≡ option_map pid_of (get processes p))
    → ((k : ℕ) → k ≢ at → option_map lasting_part (get locks' k) ≡ option_map lasting_part (get locks k))
    → ((k : ℕ) → parent_in (get locks k) ≢ Some at) → IsNamed processes locks → IsNamed processes' locks'
named-removed processes processes' locks locks' at gone pids same childless named = record {
  owners = λ k. elim (cases_eq k at) [
    | inl is ↦ subst (OwnerFits processes') (sym (ap (get locks') is ∙ gone)) tt
    | inr differs ↦ owner_fits processes processes' pids (get locks' k) (get locks k) (same k differs) (named.owners k)
  ];
  parents = λ k. elim (cases_eq k at) [
    | inl is ↦ subst (ParentFits locks') (sym (ap (get locks') is ∙ gone)) tt
    | inr differs ↦
        parent_fits locks locks' (get locks' k) (get locks k) (same k differs)
        (λ up noted. by_part lasting_part (option_map lkid_of) lkid-named (get locks' up) (get locks up)
        (same up (λ is. childless k (noted ∙ ap Some is)))) (named.parents k)
  ];
}

-- ---- the queues change

-- each lock has the list of sublocks that it had
abbrev SublocksStay : Slab Lock → Slab Lock → Type 0
SublocksStay locks locks' = (k : ℕ) → below_list locks' k ≡ below_list locks k

module _ (processes : Slab Process) (locks locks' : Slab Lock) (same : SameBut but_queued locks locks') where
  below_lists : SublocksStay locks locks'
  below_lists = through but_queued below_in below-queued locks locks' same

  module _ (out : Option ℕ) where
    pub queued_owned : IsOwned processes locks out → IsOwned processes locks' out
    queued_owned owned =
        family-kept own_links owner_in locks (own_list processes) out owned locks' (own_list processes) (λ p. refl)
        (λ i k _. through but_queued (next_in own_links) own_next-queued locks locks' same k)
        (λ i k _. through but_queued (prev_in own_links) own_prev-queued locks locks' same k)
        (λ i k _. there_through but_queued locks locks' same k)
        (through but_queued owner_in owner-queued locks locks' same)

    pub queued_below : IsBelow locks out → IsBelow locks' out
    queued_below below =
        family-kept below_links parent_in locks (below_list locks) out below locks' (below_list locks') below_lists
        (λ i k _. through but_queued (next_in below_links) below_next-queued locks locks' same k)
        (λ i k _. through but_queued (prev_in below_links) below_prev-queued locks locks' same k)
        (λ i k _. there_through but_queued locks locks' same k)
        (through but_queued parent_in parent-queued locks locks' same)

    pub queued_own_handles : IsOwned processes locks out → (p : ℕ) → own_handles processes locks' p ≡ own_handles processes locks p
    queued_own_handles owned =
        family-handles own_links owner_in locks (own_list processes) out owned locks' (own_list processes) (λ p. refl)
        (λ i k _. through but_queued (next_in own_links) own_next-queued locks locks' same k)
        (λ i k _. through but_queued (prev_in own_links) own_prev-queued locks locks' same k) (λ i k _. there_through but_queued locks locks' same k)

    pub queued_below_handles : IsBelow locks out → (k : ℕ) → below_handles locks' k ≡ below_handles locks k
    queued_below_handles below =
        family-handles below_links parent_in locks (below_list locks) out below locks' (below_list locks') below_lists
        (λ i k _. through but_queued (next_in below_links) below_next-queued locks locks' same k)
        (λ i k _. through but_queued (prev_in below_links) below_prev-queued locks locks' same k) (λ i k _. there_through but_queued locks locks' same k)

  pub queued_named : IsNamed processes locks → IsNamed processes locks'
  queued_named = named-kept processes processes locks locks' (λ p. refl)
      (λ k. by_part but_queued (option_map lasting_part) named-queued (get locks' k) (get locks k) (same k))

  pub queued_lkids : SameBut lkid_of locks locks'
  queued_lkids = through but_queued (option_map lkid_of) lkid-queued locks locks' same

  -- a caller sees the same of processes
  pub queued_processes : (order : LinkedList InOrder) → ((k : ℕ) → loose_in (get locks' k) ≡ loose_in (get locks k))
      → IsOwned processes locks None → IsBelow locks None
      → processes_of (holding processes locks' order) ≡ processes_of (holding processes locks order)
  queued_processes order loose owned below =
      processes_same (holding processes locks order) (holding processes locks' order)
      (queued_below_handles None below) loose (λ p. refl) (queued_own_handles None owned) refl

-- ---- loose locks

loose_as : (slot : Option Lock) → loose_in slot ≡ cond (is_loose_in slot) (Some (row_in slot)) None
loose_as None = refl
loose_as (Some l) = refl

-- a loose lock stays loose with its row where flags and rows stay
pub loose_still : (new old : Option Lock) → is_loose_in new ≡ is_loose_in old → (is_loose_in old ≡ true → row_in new ≡ row_in old) → loose_in new ≡ loose_in old
loose_still new old flags same =
    loose_as new ∙ ap (λ b. cond b (Some (row_in new)) None) flags ∙ of_flag (is_loose_in old) same ∙ sym (loose_as old)
  where
    of_flag : (b : Bool) → (b ≡ true → row_in new ≡ row_in old) → cond b (Some (row_in new)) None ≡ cond b (Some (row_in old)) None
    of_flag true rows = ap Some (rows refl)
    of_flag false rows = refl

-- a lock that is in a queue is not loose
pub queued_loose : (slot : Option Lock) → is_loose_in slot ≡ false → loose_in slot ≡ None
queued_loose None queued = refl
queued_loose (Some l) queued = rw queued refl

pub noted_not_loose : (slot : Option Lock) (place : Place) → noted_in slot ≡ Some place → is_loose_in slot ≡ false
noted_not_loose None place notes = refl
noted_not_loose (Some l) place notes = of_flag l.loose notes
  where
    of_flag : (b : Bool) → cond b None (Some l.place) ≡ Some place → b ≡ false
    of_flag true is = absurd (none-some place is)
    of_flag false is = refl

-- a loose lock is there, with its row
pub loose_told : (slot : Option Lock) (row : LockState) → loose_in slot ≡ Some row → IsSome slot × (is_loose_in slot ≡ true) × (row_in slot ≡ row)
loose_told None row is = absurd (none-some row is)
loose_told (Some l) row is = of_flag l.loose is
  where
    of_flag : (b : Bool) → cond b (Some l.row) None ≡ Some row → IsSome {T = Lock} (Some l) × (b ≡ true) × (l.row ≡ row)
    of_flag true is = (refl, refl, same_Some l.row row is)
    of_flag false is = absurd (none-some row is)

-- where one lock changes that is not loose
pub loose_but : (old new : Slab Lock) (at : ℕ) → ((k : ℕ) → is_loose_in (get new k) ≡ is_loose_in (get old k))
    → is_loose_in (get old at) ≡ false → ((k : ℕ) → k ≢ at → row_in (get new k) ≡ row_in (get old k))
    → (k : ℕ) → loose_in (get new k) ≡ loose_in (get old k)
loose_but old new at flags queued rows k =
    loose_still (get new k) (get old k) (flags k) (λ loose. rows k (λ same. let clash : true ≡ false = sym loose
    ∙ ap (λ x. is_loose_in (get old x)) same ∙ queued in absurd (cc)))

pub loose_there : (slot : Option Lock) → is_loose_in slot ≡ true → loose_in slot ≡ Some (row_in slot)
loose_there slot loose = loose_as slot ∙ ap (λ b. cond b (Some (row_in slot)) None) loose

-- ---- the kin changes

next-kin : (slot : Option Lock) → next_in queue_links (option_map but_kin slot) ≡ next_in queue_links slot
next-kin None = refl
next-kin (Some l) = refl

prev-kin : (slot : Option Lock) → prev_in queue_links (option_map but_kin slot) ≡ prev_in queue_links slot
prev-kin None = refl
prev-kin (Some l) = refl

noted-kin : (slot : Option Lock) → noted_in (option_map but_kin slot) ≡ noted_in slot
noted-kin None = refl
noted-kin (Some l) = refl

loose-kin : (slot : Option Lock) → loose_in (option_map but_kin slot) ≡ loose_in slot
loose-kin None = refl
loose-kin (Some l) = refl

flag-kin : (slot : Option Lock) → is_loose_in (option_map but_kin slot) ≡ is_loose_in slot
flag-kin None = refl
flag-kin (Some l) = refl

row-kin : (slot : Option Lock) → row_in (option_map but_kin slot) ≡ row_in slot
row-kin None = refl
row-kin (Some l) = refl

module _ (q : Queues) (locks' : Slab Lock) (same : SameBut but_kin q.locks locks') where
  pub kin_rows : (k : ℕ) → row_in (get locks' k) ≡ row_in (get q.locks k)
  kin_rows = through but_kin row_in row-kin q.locks locks' same

  pub kin_loose : (k : ℕ) → loose_in (get locks' k) ≡ loose_in (get q.locks k)
  kin_loose = through but_kin loose_in loose-kin q.locks locks' same

  pub kin_flags : (k : ℕ) → is_loose_in (get locks' k) ≡ is_loose_in (get q.locks k)
  kin_flags = through but_kin is_loose_in flag-kin q.locks locks' same

  pub kin_noted : (k : ℕ) → noted_in (get locks' k) ≡ noted_in (get q.locks k)
  kin_noted = through but_kin noted_in noted-kin q.locks locks' same

  module _ (placed : IsPlaced q None) where
    pub kin_handles : (p : Place) → handles_at (record q { locks = locks' }) p ≡ handles_at q p
    kin_handles =
        kept_handles q None placed (record q { locks = locks' }) (lists_same q (record q { locks = locks' }) refl)
        (through but_kin (next_in queue_links) next-kin q.locks locks' same)
        (through but_kin (prev_in queue_links) prev-kin q.locks locks' same) (there_through but_kin q.locks locks' same)

    pub kin_placed : IsPlaced (record q { locks = locks' }) None
    kin_placed =
        kept_placed q None placed (record q { locks = locks' }) (lists_same q (record q { locks = locks' }) refl)
        (through but_kin (next_in queue_links) next-kin q.locks locks' same)
        (through but_kin (prev_in queue_links) prev-kin q.locks locks' same) (there_through but_kin q.locks locks' same)
        (through but_kin noted_in noted-kin q.locks locks' same)

    pub kin_tallied : IsTallied q None → IsTallied (record q { locks = locks' }) None
    kin_tallied tallied = record {
      counts = λ count r mode. tallied.counts count r mode
          ∙ sym (shares_same q (record q { locks = locks' }) (weight_of count mode) None r kin_handles
          (λ k _. kin_rows k));
    }

-- the locks of a process are relinked
module _ (locks locks' : Slab Lock) (relinks : Relinks with_own_links locks locks') where
  below_next : (k : ℕ) → next_in below_links (get locks' k) ≡ next_in below_links (get locks k)
  below_next = relinked_same with_own_links (next_in below_links) (λ l pair. refl) locks locks' relinks

  below_prev : (k : ℕ) → prev_in below_links (get locks' k) ≡ prev_in below_links (get locks k)
  below_prev = relinked_same with_own_links (prev_in below_links) (λ l pair. refl) locks locks' relinks

  below_heads : SublocksStay locks locks'
  below_heads = relinked_same with_own_links below_in (λ l pair. refl) locks locks' relinks

  pub own_kin : SameBut but_kin locks locks'
  own_kin = relinked_same with_own_links (option_map but_kin) (λ l pair. refl) locks locks' relinks

  pub own_named : SameBut lasting_part locks locks'
  own_named = relinked_same with_own_links (option_map lasting_part) (λ l pair. refl) locks locks' relinks

  module _ (out : Option ℕ) (below : IsBelow locks out) where
    pub own_below : IsBelow locks' out
    own_below =
        family-kept below_links parent_in locks (below_list locks) out below locks' (below_list locks') below_heads
        (λ i k _. below_next k) (λ i k _. below_prev k) (λ i k _. there_through but_kin locks locks' own_kin k)
        (relinked_same with_own_links parent_in (λ l pair. refl) locks locks' relinks)

    pub own_below_handles : (k : ℕ) → below_handles locks' k ≡ below_handles locks k
    own_below_handles =
        family-handles below_links parent_in locks (below_list locks) out below locks' (below_list locks') below_heads
        (λ i k _. below_next k) (λ i k _. below_prev k) (λ i k _. there_through but_kin locks locks' own_kin k)

-- the locks below a parent are relinked
own_next-below : (slot : Option Lock) → next_in own_links (option_map but_below slot) ≡ next_in own_links slot
own_next-below None = refl
own_next-below (Some l) = refl

own_prev-below : (slot : Option Lock) → prev_in own_links (option_map but_below slot) ≡ prev_in own_links slot
own_prev-below None = refl
own_prev-below (Some l) = refl

pub owner-below : (slot : Option Lock) → owner_in (option_map but_below slot) ≡ owner_in slot
owner-below None = refl
owner-below (Some l) = refl

module _ (processes : Slab Process) (locks locks' : Slab Lock) (same : SameBut but_below locks locks') where
  pub below_kin : SameBut but_kin locks locks'
  below_kin k = by_part but_below (option_map but_kin) again (get locks' k) (get locks k) (same k)
    where
      again : (slot : Option Lock) → option_map but_kin (option_map but_below slot) ≡ option_map but_kin slot
      again None = refl
      again (Some l) = refl

  pub below_named : SameBut lasting_part locks locks'
  below_named k = by_part but_below (option_map lasting_part) again (get locks' k) (get locks k) (same k)
    where
      again : (slot : Option Lock) → option_map lasting_part (option_map but_below slot) ≡ option_map lasting_part slot
      again None = refl
      again (Some l) = refl

  module _ (out : Option ℕ) (owned : IsOwned processes locks out) where
    pub below_owned : IsOwned processes locks' out
    below_owned =
        family-kept own_links owner_in locks (own_list processes) out owned locks' (own_list processes) (λ p. refl)
        (λ i k _. through but_below (next_in own_links) own_next-below locks locks' same k)
        (λ i k _. through but_below (prev_in own_links) own_prev-below locks locks' same k)
        (λ i k _. there_through but_below locks locks' same k)
        (through but_below owner_in owner-below locks locks' same)

    pub below_own_handles : (p : ℕ) → own_handles processes locks' p ≡ own_handles processes locks p
    below_own_handles =
        family-handles own_links owner_in locks (own_list processes) out owned locks' (own_list processes) (λ p. refl)
        (λ i k _. through but_below (next_in own_links) own_next-below locks locks' same k)
        (λ i k _. through but_below (prev_in own_links) own_prev-below locks locks' same k) (λ i k _. there_through but_below locks locks' same k)

-- processes keep their order where their locks are written
process_next-own : (slot : Option Process) → next_in process_links (option_map but_own slot) ≡ next_in process_links slot
process_next-own None = refl
process_next-own (Some p) = refl

process_prev-own : (slot : Option Process) → prev_in process_links (option_map but_own slot) ≡ prev_in process_links slot
process_prev-own None = refl
process_prev-own (Some p) = refl

module _ (processes processes' : Slab Process) (same : SameBut but_own processes processes')
    (order : LinkedList InOrder) (linked : IsLinked process_links processes order) where
  pub own_process_handles : handles_of process_links processes' order ≡ handles_of process_links processes order
  own_process_handles =
      kept-handles process_links processes processes' order linked (λ p _. through but_own (next_in process_links) process_next-own processes processes' same p)
      (λ p _. through but_own (prev_in process_links) process_prev-own processes processes' same p) (λ p _. there_through but_own processes processes' same p)

  pub own_process_linked : IsLinked process_links processes' order
  own_process_linked =
      kept-linked process_links processes processes' order linked (λ p _. through but_own (next_in process_links) process_next-own processes processes' same p)
      (λ p _. through but_own (prev_in process_links) process_prev-own processes processes' same p) (λ p _. there_through but_own processes processes' same p)

  pub own_process_whole : ((p : ℕ) → ContainsKey processes p → IsIn p (handles_of process_links processes order))
      → (p : ℕ) → ContainsKey processes' p → IsIn p (handles_of process_links processes' order)
  own_process_whole ordered p there =
      subst (IsIn p) (sym own_process_handles)
      (ordered p (there_through but_own processes' processes (λ k. sym (same k)) p there))

-- what processes tell stays where their locks are written
face-own : (slot : Option Process) → process_face_in (option_map but_own slot) ≡ process_face_in slot
face-own None = refl
face-own (Some p) = refl

pid-own : (slot : Option Process) → option_map pid_of (option_map but_own slot) ≡ option_map pid_of slot
pid-own None = refl
pid-own (Some p) = refl

module _ (processes processes' : Slab Process) (same : SameBut but_own processes processes') where
  pub own_faces : (p : ℕ) → process_face_in (get processes' p) ≡ process_face_in (get processes p)
  own_faces = through but_own process_face_in face-own processes processes' same

  pub own_pids : (p : ℕ) → option_map pid_of (get processes' p) ≡ option_map pid_of (get processes p)
  own_pids = through but_own (option_map pid_of) pid-own processes processes' same

-- two rows of one lock name the same
pub named_same : (a b : LockState) → IsSameLock a b → named_row a ≡ named_row b
named_same a b same = rw (same.lkid, same.pid, same.parent) refl
