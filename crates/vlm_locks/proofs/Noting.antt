-- Locks are noted along a list of handles.
use Rattle.std.proofs.Common.{◌≡◌, ◌≤◌, ◌<◌, ◌+◌, ℕ, List, [], ◌∷◌, ◌++◌, length, Option, None, Some, refl, sym, ap, ◌∙◌, subst, inl, inr, arith}
use Rattle.std.proofs.lemmas.Option.{same_Some}
use Rattle.std.proofs.lemmas.List.{append_assoc, append-nil, length-append, length-map, map-append}
use Rattle.vlm_words.specs.declared.locks.LockState.{LockState}
use Rattle.vlm_collections.specs.Lists.{IsApart, IsIn, first_handle, handle_after}
use Rattle.vlm_collections.proofs.Walks.{handle_after-among}
use Rattle.vlm_store.specs.Records.{Records, Stores}
use Rattle.vlm_locks.specs.declared.touched.Note.{Note}
use Rattle.vlm_locks.specs.GivingUp.{AreOfLocks}
use Rattle.vlm_locks.specs.Touched.{Touches, touched_handles}
use Rattle.vlm_locks.proofs.ChosenLocks.{absent_before, on_from, on_from_first}
use Rattle.vlm_collections.proofs.HandleLists.{in_behind, in_either}

-- the handles up to this spot are noted, behind what was
pub record AreNoted (s : Records) (handles : List ℕ) (was touched : Touches) (next : Option ℕ) : Type 0 where
  pub done : List ℕ
  pub todo : List ℕ
  pub split : handles ≡ done ++ todo
  pub at : next ≡ first_handle todo
  pub noted : touched_handles touched.noted ≡ touched_handles was.noted ++ done
  pub locks : AreOfLocks touched.noted s
  pub room : touched.room ≡ was.room

-- at first none is
pub none_is_noted : (s : Records) (handles : List ℕ) (was : Touches) (next : Option ℕ) → AreOfLocks was.noted s
    → next ≡ first_handle handles → AreNoted s handles was was next
none_is_noted s handles was next locks first = record {
  done = [];
  todo = handles;
  split = refl;
  at = first;
  noted = sym (append-nil (touched_handles was.noted));
  locks = locks;
  room = refl;
}

-- ---- a turn

module _ (s : Records) (handles : List ℕ) (was touched : Touches) (lock : ℕ)
    (so_far : AreNoted s handles was touched (Some lock)) (apart : IsApart handles) where
  -- the handles behind this one
  pub behind : (others : List ℕ) × (so_far.todo ≡ lock ∷ others)
  behind = of_todo so_far.todo refl so_far.at
    where
      of_todo : (todo : List ℕ) → so_far.todo ≡ todo → Some lock ≡ first_handle todo → (others : List ℕ) × (so_far.todo ≡ lock ∷ others)
      of_todo [] is at = cc
      of_todo (x ∷ xs) is at = (xs, is ∙ ap (λ h. h ∷ xs) (sym (same_Some lock x at)))

  abbrev pub others : List ℕ
  others = behind.0

  parted : handles ≡ so_far.done ++ lock ∷ others
  parted = so_far.split ∙ ap (λ hs. so_far.done ++ hs) behind.1

  apart_parted : IsApart (so_far.done ++ lock ∷ others)
  apart_parted = subst IsApart parted apart

  onward : handles ≡ (so_far.done ++ lock ∷ []) ++ others
  onward = parted ∙ sym (append_assoc so_far.done (lock ∷ []) others)

  pub lock_in : IsIn lock handles
  lock_in = subst (IsIn lock) (sym parted) (in_behind lock so_far.done (lock ∷ others) (inl refl))

  -- there is room for it
  pub has_room : length was.noted + length handles ≤ was.room → length touched.noted < touched.room
  has_room room =
      omega (
        arith,
        room,
        so_far.room,
        length-map touched.noted (λ (t : Note). t.at),
        length-map was.noted (λ (t : Note). t.at),
        ap (λ (hs : List ℕ). length hs) so_far.noted,
        length-append (touched_handles was.noted) so_far.done,
        ap (λ (hs : List ℕ). length hs) parted,
        length-append so_far.done (lock ∷ others),
      )

  -- the next is the first of those behind
  pub next_is : (next : Option ℕ) → next ≡ handle_after lock handles → next ≡ first_handle others
  next_is next told =
      told ∙ ap (handle_after lock) parted ∙ handle_after-among so_far.done lock others (absent_before so_far.done lock others apart_parted)

  -- fewer are left
  pub fewer_left : (next : Option ℕ) → next ≡ first_handle others → length (on_from next handles) < length (on_from (Some lock) handles)
  fewer_left next is =
      omega (
        arith,
        ap (λ (hs : List ℕ). length hs)
            (ap (λ n. on_from n handles) is ∙ ap (on_from (first_handle others)) onward
            ∙ on_from_first (so_far.done ++ lock ∷ []) others (subst IsApart (sym (append_assoc so_far.done (lock ∷ []) others)) apart_parted)),
        ap (λ (hs : List ℕ). length hs) (ap (on_from (Some lock)) parted ∙ on_from_first so_far.done (lock ∷ others) apart_parted),
      )

  -- it is noted too
  pub one_more : (t : Note) → t.at ≡ lock → (row : LockState) → Stores s lock row → row.lkid ≡ t.number
      → (noted : Touches) → noted.noted ≡ touched.noted ++ t ∷ []
      → noted.room ≡ touched.room → (next : Option ℕ) → next ≡ first_handle others → AreNoted s handles was noted next
  one_more t its row stored lkid noted notes room next is = record {
    done = so_far.done ++ lock ∷ [];
    todo = others;
    split = onward;
    at = is;
    noted =
        ap touched_handles notes ∙ map-append (λ (x : Note). x.at) touched.noted (t ∷ [])
        ∙ ap (λ hs. hs ++ t.at ∷ []) so_far.noted ∙ ap (λ h. (touched_handles was.noted ++ so_far.done) ++ h ∷ []) its
        ∙ append_assoc (touched_handles was.noted) so_far.done (lock ∷ []);
    locks = λ x there. elim (in_either x touched.noted (t ∷ []) (subst (IsIn x) notes there)) [
      | inl before ↦ so_far.locks x before
      | inr last ↦ elim last [
        | inl here ↦ (row, (subst (λ h. Stores s h row) (sym its ∙ ap (λ (y : Note). y.at) here) stored, lkid ∙ ap (λ (y : Note). y.number) here))
        | inr none ↦ absurd none
      ]
    ];
    room = room ∙ so_far.room;
  }

-- at the end all are noted
pub all_noted : (s : Records) (handles : List ℕ) (was touched : Touches) (next : Option ℕ) → AreNoted s handles was touched next → next ≡ None
    → touched_handles touched.noted ≡ touched_handles was.noted ++ handles
all_noted s handles was touched next so_far none =
    so_far.noted ∙ ap (λ hs. touched_handles was.noted ++ hs)
    (sym (so_far.split ∙ ap (λ hs. so_far.done ++ hs) (none_left so_far.todo so_far.at) ∙ append-nil so_far.done))
  where
    none_left : (todo : List ℕ) → next ≡ first_handle todo → todo ≡ []
    none_left [] at = refl
    none_left (x ∷ xs) at = let never : Some x ≡ None = sym at ∙ none in cc
