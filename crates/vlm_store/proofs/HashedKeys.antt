-- How the index of resources finds by keys alone, and how it stays so.
use Rattle.std.proofs.Common.{◌≡◌, ◌≢◌, ◌⊎◌, ℕ, Bool, true, false, Option, None, Some, IsSome, cond, refl, sym, ap, ◌∙◌, inl, inr, subst}
use Rattle.std.proofs.lemmas.Bool.{cases_eq}
use Rattle.std.proofs.lemmas.Option.{none-some, same_Some}
use Rattle.std.specs.Option.{option_map}
use Rattle.slab.specs.Slab.{Slab, get, ContainsKey}
use Rattle.vlm_store.specs.Index.{hash_key, Indexes}
use Rattle.vlm_collections.specs.declared.hashers.HashKeys.{HashKeys}
use Rattle.vlm_words.specs.declared.resources.Key.{Key}
use Rattle.vlm_records.specs.declared.queues.Queues.{Queues}
use Rattle.vlm_records.specs.declared.resources.Resource.{Resource}
use Rattle.vlm_records.specs.Shown.{Face, face_of}
use Rattle.vlm_store.specs.declared.hashed.HashedKey.{HashedKey}
use Rattle.vlm_store.specs.HashedKeys.{hashed, hashed_at, hashed_in, is_same_hashed, is_same_hashed-Decides}
use Rattle.vlm_store.specs.declared.key_index.KeyIndex.{KeyIndex}
use Rattle.vlm_store.specs.KeyIndexes.{Enters, EntersBy, FindsNothing, IsHashed, IsIndexed, IsSame, Leaves, LeavesBy}
use Rattle.vlm_store.specs.KeyIndexes.{found_by, has_key, if_its, main_of, other_of}
use Rattle.vlm_words.specs.Keys.{is_same_key-Decides}
use Rattle.vlm_store.specs.Store.{key_at}

-- a label with this key has its hash too
label_hashed : (hash : Key → ℕ) (label : Option HashedKey) (key : Key)
    → ((k : HashedKey) → label ≡ Some k → k.hash ≡ hash k.key) → option_map (λ (k : HashedKey). k.key) label ≡ Some key
    → label ≡ Some (hashed hash key)
label_hashed hash None key hashes is = absurd (none-some key is)
label_hashed hash (Some k) key hashes is = ap (λ (n : ℕ). Some (record k { hash = n })) (hashes k refl)
    ∙ ap (λ (x : Key). Some (hashed hash x)) (same_Some k.key key is)

key_labelled : (slot : Option Resource) → option_map (λ (r : Resource). r.key) slot ≡ option_map (λ (k : HashedKey). k.key) (option_map hashed_in slot)
key_labelled None = refl
key_labelled (Some r) = refl

-- with its hash each key finds its resource
module _ (hash : Key → ℕ) (x : KeyIndex) (q : Queues) (kept : IsHashed hash x (hashed_at q)) where
  slot_key : (key : Key) (slot : Option Resource) → has_key key slot ≡ true → option_map (λ (r : Resource). r.key) slot ≡ Some key
  slot_key key None is = cc
  slot_key key (Some r) is = ap Some ((is_same_key-Decides r.key key).0 is)

  key_slot : (key : Key) (slot : Option Resource) → option_map (λ (r : Resource). r.key) slot ≡ Some key → has_key key slot ≡ true
  key_slot key None is = absurd (none-some key is)
  key_slot key (Some r) is = (is_same_key-Decides r.key key).1 (same_Some r.key key is)

  labelled : (key : Key) (at : ℕ) → key_at q at ≡ Some key → hashed_at q at ≡ Some (hashed hash key)
  labelled key at is = label_hashed hash (hashed_at q at) key (kept.hashes at) (sym (key_labelled (get q.resources at)) ∙ is)

  key_found : (key : Key) (at : ℕ) → found_by x q.resources (hashed hash key) ≡ Some at → key_at q at ≡ Some key
  key_found key at told = of_main (main_of x (hash key)) told
    where
      of_other : other_of x (hashed hash key) ≡ Some at → key_at q at ≡ Some key
      of_other is = key_labelled (get q.resources at) ∙ ap (option_map (λ (k : HashedKey). k.key)) (kept.indexed.other_is (hashed hash key) at is).0

      of_test : (first : ℕ) (its : Bool) → has_key key (get q.resources first) ≡ its
          → cond its (Some first) (other_of x (hashed hash key)) ≡ Some at → key_at q at ≡ Some key
      of_test first true its told = ap (key_at q) (sym (same_Some first at told)) ∙ slot_key key (get q.resources first) its
      of_test first false its told = of_other told

      of_main : (main : Option ℕ) → if_its q.resources key main (other_of x (hashed hash key)) ≡ Some at → key_at q at ≡ Some key
      of_main None told = of_other told
      of_main (Some first) told = of_test first (has_key key (get q.resources first)) refl told

  found_key : (key : Key) (at : ℕ) → key_at q at ≡ Some key → found_by x q.resources (hashed hash key) ≡ Some at
  found_key key at is =
      elim (kept.indexed.listed at (hashed hash key) (labelled key at is)) [
        | inl main ↦
            ap (λ l. if_its q.resources key l (other_of x (hashed hash key))) main
            ∙ ap (λ its. cond its (Some at) (other_of x (hashed hash key))) (key_slot key (get q.resources at) is)
        | inr other ↦ of_main other (main_of x (hash key))
      ]
    where
      of_test : other_of x (hashed hash key) ≡ Some at → (first : ℕ) (its : Bool)
          → has_key key (get q.resources first) ≡ its → cond its (Some first) (other_of x (hashed hash key)) ≡ Some at
      of_test other first true its =
          ap Some (kept.indexed.apart first at (hashed hash key)
          (labelled key first (slot_key key (get q.resources first) its)) (labelled key at is))
      of_test other first false its = other

      of_main : other_of x (hashed hash key) ≡ Some at → (main : Option ℕ) → if_its q.resources key main (other_of x (hashed hash key)) ≡ Some at
      of_main other None = other
      of_main other (Some first) = of_test other first (has_key key (get q.resources first)) refl

  pub by_keys : Indexes (λ key. found_by x q.resources (hashed hash key)) (key_at q)
  by_keys = record { sound = key_found; complete = found_key }

-- where no resource is found under a key, none has it with its hash
pub fresh_label : (hash : Key → ℕ) (x : KeyIndex) (q : Queues) → IsHashed hash x (hashed_at q) → (key : Key)
    → found_by x q.resources (hashed hash key) ≡ None → (b : ℕ) → hashed_at q b ≢ Some (hashed hash key)
fresh_label hash x q kept key none b is =
    none-some b (sym none ∙ (by_keys hash x q kept).complete key b (key_labelled (get q.resources b) ∙ ap (option_map (λ (k : HashedKey). k.key)) is))

-- the index leads to resources that are there
pub main_there : (hash : Key → ℕ) (x : KeyIndex) (q : Queues) → IsHashed hash x (hashed_at q) → (n at : ℕ) → main_of x n ≡ Some at → ContainsKey q.resources at
main_there hash x q kept n at is = (let named = kept.indexed.main_is n at is in there (get q.resources at) named.0 named.1.0)
  where
    there : (slot : Option Resource) (k : HashedKey) → option_map hashed_in slot ≡ Some k → IsSome slot
    there None k is = absurd (none-some k is)
    there (Some r) k is = refl

-- and what is found by a hash that is the key's is found by the key
pub found_hashed : (keys : HashKeys) (x : KeyIndex) (resources : Slab Resource) (key : Key) (hash : ℕ) (result : Option ℕ) → hash ≡ hash_key keys key
    → result ≡ found_by x resources (record { key = key; hash = hash }) → result ≡ found_by x resources (hashed (hash_key keys) key)
found_hashed keys x resources key hash result is told = told ∙ ap (λ (n : ℕ). found_by x resources (record { key = key; hash = n })) is

-- what a resource records of its key is told by its face
pub hashed_by_face : (new old : Option Resource) → option_map face_of new ≡ option_map face_of old → option_map hashed_in new ≡ option_map hashed_in old
hashed_by_face None None same = refl
hashed_by_face None (Some r) same = cc
hashed_by_face (Some r) None same = cc
hashed_by_face (Some r) (Some r') same = ap (λ (f : Face). Some (record { key = f.key; hash = f.hash })) (same_Some (face_of r) (face_of r') same)

pub hashed_is : (slot : Option Resource) (face : Face) → option_map face_of slot ≡ Some face
    → option_map hashed_in slot ≡ Some (record { key = face.key; hash = face.hash })
hashed_is None face is = cc
hashed_is (Some r) face is = ap (λ (f : Face). Some (record { key = f.key; hash = f.hash })) (same_Some (face_of r) face is)

-- nothing is indexed yet
pub hashed_empty : (hash : Key → ℕ) (x : KeyIndex) (label : ℕ → Option HashedKey) → FindsNothing x → ((at : ℕ) → label at ≡ None) → IsHashed hash x label
hashed_empty hash x label nothing none = record {
  indexed = record {
    main_is = λ n at is. absurd (none-some at (sym (nothing.no_main n) ∙ is));
    other_is = λ k at is. absurd (none-some at (sym (nothing.no_other k) ∙ is));
    listed = λ at k is. absurd (none-some k (sym (none at) ∙ is));
    apart = λ a b k here there. absurd (none-some k (sym (none a) ∙ here));
  };
  hashes = λ at k is. absurd (none-some k (sym (none at) ∙ is));
}

-- what is found and what is recorded stays
pub index_same : (hash : Key → ℕ) (x x' : KeyIndex) (label label' : ℕ → Option HashedKey) → IsSame x x'
    → ((at : ℕ) → label' at ≡ label at) → IsHashed hash x label → IsHashed hash x' label'
index_same hash x x' label label' same labels kept = record {
  indexed = record {
    main_is = λ n at is. (let was = kept.indexed.main_is n at (sym (same.main n) ∙ is) in (was.0, (labels at ∙ was.1.0, was.1.1)));
    other_is = λ k at is. (let was = kept.indexed.other_is k at (sym (same.other k) ∙ is) in
        (labels at ∙ was.0, λ main. was.1 (sym (same.main k.hash) ∙ main)));
    listed = λ at k is. elim (kept.indexed.listed at k (sym (labels at) ∙ is)) [
      | inl main ↦ inl (same.main k.hash ∙ main)
      | inr other ↦ inr (same.other k ∙ other)
    ];
    apart = λ a b k here there. kept.indexed.apart a b k (sym (labels a) ∙ here) (sym (labels b) ∙ there);
  };
  hashes = λ at k is. kept.hashes at k (sym (labels at) ∙ is);
}

pub labels_same : (hash : Key → ℕ) (x : KeyIndex) (label label' : ℕ → Option HashedKey)
    → ((at : ℕ) → label' at ≡ label at) → IsHashed hash x label → IsHashed hash x label'
labels_same hash x label label' = index_same hash x x label label' (record { main = λ n. refl; other = λ k. refl })

-- what the tests tell apart differs
differ : true ≡ false → ⊥
differ e = cc

keys_differ : (k j : HashedKey) → is_same_hashed k j ≡ false → j ≢ k
keys_differ k j apart same = differ (sym ((is_same_hashed-Decides k j).1 (sym same)) ∙ apart)

hashed_cases : (k j : HashedKey) → (j ≡ k) ⊎ (is_same_hashed k j ≡ false)
hashed_cases k j = by_test (is_same_hashed k j) refl
  where
    by_test : (b : Bool) → is_same_hashed k j ≡ b → (j ≡ k) ⊎ (is_same_hashed k j ≡ false)
    by_test true is = inl (sym ((is_same_hashed-Decides k j).0 is))
    by_test false is = inr is

module _ (hash : Key → ℕ) (x x' : KeyIndex) (label label' : ℕ → Option HashedKey) (at : ℕ) (k : HashedKey)
    (rest : (other : ℕ) → other ≢ at → label' other ≡ label other) (kept : IsHashed hash x label) where
  -- what has a label that another has not is another
  differs : (label : ℕ → Option HashedKey) (b : ℕ) (j : HashedKey) → label at ≡ None → label b ≡ Some j → b ≢ at
  differs label b j none is same = none-some j (sym none ∙ ap label (sym same) ∙ is)

  -- the label that `at` has now stands at no other handle
  abbrev IsAlone : Type 0
  IsAlone = (b : ℕ) (j : HashedKey) → label' at ≡ Some j → label' b ≡ Some j → at ≡ b

  one_each : IsAlone → (a b : ℕ) (j : HashedKey) → label' a ≡ Some j → label' b ≡ Some j → a ≡ b
  one_each alone a b j here there = elim (cases_eq a at) [
    | inl a_is ↦ a_is ∙ alone b j (ap label' (sym a_is) ∙ here) there
    | inr a_other ↦ elim (cases_eq b at) [
      | inl b_is ↦ sym (b_is ∙ alone a j (ap label' (sym b_is) ∙ there) here)
      | inr b_other ↦ kept.indexed.apart a b j (sym (rest a a_other) ∙ here) (sym (rest b b_other) ∙ there)
    ]
  ]

  -- ---- a resource comes

  module _ (enters : Enters k at x x') (was : label at ≡ None) (is : label' at ≡ Some k) (fresh : (b : ℕ) → label b ≢ Some k) where
    -- what stands at this handle now has the key
    its_key : (b : ℕ) (j : HashedKey) → b ≡ at → label' b ≡ Some j → k ≡ j
    its_key b j same told = same_Some k j (sym is ∙ ap label' (sym same) ∙ told)

    alone : IsAlone
    alone b j here there = elim (cases_eq b at) [
      | inl same ↦ sym same
      | inr other ↦ absurd (fresh b (sym (rest b other) ∙ there ∙ sym here ∙ is))
    ]

    of_entering : (main : Option ℕ) → main_of x k.hash ≡ main → EntersBy main k at x x' → IsIndexed x' label'
    of_entering None none entered = record {
      main_is = λ n b told. elim (cases_eq n k.hash) [
        | inl same ↦
            let b_is : at ≡ b = same_Some at b (sym entered.1.this ∙ ap (main_of x') (sym same) ∙ told) in
            (k, (ap label' (sym b_is) ∙ is, sym same))
        | inr apart ↦
            let old = kept.indexed.main_is n b (sym (entered.1.others n apart) ∙ told) in
            (old.0, (rest b (differs label b old.0 was old.1.0) ∙ old.1.0, old.1.1))
      ];
      other_is = λ j b told.
          let old = kept.indexed.other_is j b (sym (entered.0 j) ∙ told) in
          let b_other = differs label b j was old.0 in (
            rest b b_other ∙ old.0,
            λ main. elim (cases_eq j.hash k.hash) [
              | inl same ↦ b_other (same_Some b at (sym main ∙ ap (main_of x') same ∙ entered.1.this))
              | inr apart ↦ old.1 (sym (entered.1.others j.hash apart) ∙ main)
            ],
          );
      listed = λ b j told. elim (cases_eq b at) [
        | inl same ↦
            inl (ap (λ (h : HashedKey). main_of x' h.hash) (sym (its_key b j same told)) ∙ entered.1.this ∙ ap Some (sym same))
        | inr apart ↦
            elim (kept.indexed.listed b j (sym (rest b apart) ∙ told)) [
              | inl main ↦ elim (cases_eq j.hash k.hash) [
                | inl same ↦ absurd (none-some b (sym none ∙ ap (main_of x) (sym same) ∙ main))
                | inr other ↦ inl (entered.1.others j.hash other ∙ main)
              ]
              | inr other ↦ inr (entered.0 j ∙ other)
            ]
      ];
      apart = one_each alone;
    }
    of_entering (Some before) some entered = record {
      main_is = λ n b told.
          let old = kept.indexed.main_is n b (sym (entered.1 n) ∙ told) in
          (old.0, (rest b (differs label b old.0 was old.1.0) ∙ old.1.0, old.1.1));
      other_is = λ j b told. elim (hashed_cases k j) [
        | inl same ↦
            let b_is : at ≡ b = same_Some at b (sym entered.0.1 ∙ ap (other_of x') (sym same) ∙ told) in (
              ap label' (sym b_is) ∙ is ∙ ap Some (sym same),
              λ main.
                  let old = kept.indexed.main_is j.hash b (sym (entered.1 j.hash) ∙ main) in
                  none-some old.0 (sym was ∙ ap label b_is ∙ old.1.0),
            )
        | inr apart ↦
            let old = kept.indexed.other_is j b (sym (entered.0.2 j apart) ∙ told) in
            (rest b (differs label b j was old.0) ∙ old.0, λ main. old.1 (sym (entered.1 j.hash) ∙ main))
      ];
      listed = λ b j told. elim (cases_eq b at) [
        | inl same ↦ inr (ap (other_of x') (sym (its_key b j same told)) ∙ entered.0.1 ∙ ap Some (sym same))
        | inr apart ↦
            let here = sym (rest b apart) ∙ told in
            elim (kept.indexed.listed b j here) [
              | inl main ↦ inl (entered.1 j.hash ∙ main)
              | inr other ↦ elim (hashed_cases k j) [
                | inl same ↦ absurd (fresh b (here ∙ ap Some same))
                | inr other_key ↦ inr (entered.0.2 j other_key ∙ other)
              ]
            ]
      ];
      apart = one_each alone;
    }

    pub hashed_added : k.hash ≡ hash k.key → IsHashed hash x' label'
    hashed_added hash_is = record {
      indexed = of_entering (main_of x k.hash) refl enters;
      hashes = λ b j told. elim (cases_eq b at) [
        | inl same ↦ subst (λ (h : HashedKey). h.hash ≡ hash h.key) (its_key b j same told) hash_is
        | inr apart ↦ kept.hashes b j (sym (rest b apart) ∙ told)
      ];
    }

  -- ---- a resource goes

  module _ (leaves : Leaves k x x') (was : label at ≡ Some k) (gone : label' at ≡ None) where
    pub hashed_removed : IsHashed hash x' label'
    hashed_removed = record {
      indexed = of_other (other_of x k) refl leaves;
      hashes = λ b j told. kept.hashes b j (sym (rest b (differs label' b j gone told)) ∙ told);
    }
      where
        alone : IsAlone
        alone b j here there = absurd (none-some j (sym gone ∙ here))

        -- what has another label is another
        other_one : (b : ℕ) (j : HashedKey) → label b ≡ Some j → j ≢ k → b ≢ at
        other_one b j here apart same = apart (same_Some j k (sym here ∙ ap label same ∙ was))

        of_other : (other : Option ℕ) → other_of x k ≡ other → LeavesBy other k x x' → IsIndexed x' label'
        of_other None none left = record {
          main_is = λ n b told. elim (cases_eq n k.hash) [
            | inl same ↦ absurd (none-some b (sym left.1.this ∙ ap (main_of x') (sym same) ∙ told))
            | inr apart ↦
                let old = kept.indexed.main_is n b (sym (left.1.others n apart) ∙ told) in
                (old.0, (rest b (other_one b old.0 old.1.0 (λ same. apart (sym old.1.1 ∙ ap (λ (h : HashedKey). h.hash) same))) ∙ old.1.0, old.1.1))
          ];
          other_is = λ j b told.
              let was_other = sym (left.0 j) ∙ told in
              let old = kept.indexed.other_is j b was_other in (
                rest b (other_one b j old.0 (λ same. none-some b (sym none ∙ ap (other_of x) (sym same) ∙ was_other))) ∙ old.0,
                λ main. elim (cases_eq j.hash k.hash) [
                  | inl same ↦ none-some b (sym left.1.this ∙ ap (main_of x') (sym same) ∙ main)
                  | inr apart ↦ old.1 (sym (left.1.others j.hash apart) ∙ main)
                ],
              );
          listed = λ b j told.
              let b_other = differs label' b j gone told in
              elim (kept.indexed.listed b j (sym (rest b b_other) ∙ told)) [
                | inl main ↦ elim (cases_eq j.hash k.hash) [
                  | inl same ↦ elim (kept.indexed.listed at k was) [
                    | inl mine ↦ absurd (b_other (same_Some b at (sym main ∙ ap (main_of x) same ∙ mine)))
                    | inr mine ↦ absurd (none-some at (sym none ∙ mine))
                  ]
                  | inr apart ↦ inl (left.1.others j.hash apart ∙ main)
                ]
                | inr other ↦ inr (left.0 j ∙ other)
              ];
          apart = one_each alone;
        }
        of_other (Some o) some left =
            let mine = kept.indexed.other_is k o some in
            let o_is : o ≡ at = kept.indexed.apart o at k mine.0 was in
            record {
              main_is = λ n b told.
                  let was_main = sym (left.1 n) ∙ told in
                  let old = kept.indexed.main_is n b was_main in (
                    old.0,
                    (
                      rest b (other_one b old.0 old.1.0 (λ same.
                          let n_is : n ≡ k.hash = sym old.1.1 ∙ ap (λ (h : HashedKey). h.hash) same in
                          let b_is : b ≡ o = kept.indexed.apart b o k (old.1.0 ∙ ap Some same) mine.0 in
                          mine.1 (ap (main_of x) (sym n_is) ∙ was_main ∙ ap Some b_is))) ∙ old.1.0,
                      old.1.1,
                    ),
                  );
              other_is = λ j b told. elim (hashed_cases k j) [
                | inl same ↦ absurd (none-some b (sym left.0.1 ∙ ap (other_of x') (sym same) ∙ told))
                | inr apart ↦
                    let old = kept.indexed.other_is j b (sym (left.0.2 j apart) ∙ told) in
                    (rest b (other_one b j old.0 (keys_differ k j apart)) ∙ old.0, λ main. old.1 (sym (left.1 j.hash) ∙ main))
              ];
              listed = λ b j told.
                  let b_other = differs label' b j gone told in
                  let here = sym (rest b b_other) ∙ told in
                  elim (kept.indexed.listed b j here) [
                    | inl main ↦ inl (left.1 j.hash ∙ main)
                    | inr other ↦ elim (hashed_cases k j) [
                      | inl same ↦ absurd (b_other (kept.indexed.apart b at k (here ∙ ap Some same) was))
                      | inr apart ↦ inr (left.0.2 j apart ∙ other)
                    ]
                  ];
              apart = one_each alone;
            }
