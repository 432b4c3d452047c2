-- Each event keeps a world right.
use Rattle.std.proofs.Common.{◌≡◌, ◌≢◌, ◌==◌, ◌+◌, ◌<◌, ◌≤◌, ℕ, true, false, List, [], ◌∷◌, ◌++◌, length, refl, ap, ◌∙◌}
use Rattle.std.proofs.Common.{sym, subst, arith, append_assoc, inl, inr, Some}
use mathlib.Core.List.{IsPrefix}
use Rattle.std.proofs.lemmas.Bool.{cases_eq}
use Rattle.std.proofs.lemmas.Bool.Decides.{nat_tests, Decides-eqb}
use Rattle.std.proofs.lemmas.List.{length-append}
use Rattle.vlm_words.specs.declared.steps.Answer.TheVariants.{Taken}
use Rattle.vlm_words.specs.declared.steps.Step.TheVariants.{Leave, Take}
use Rattle.vlm_words.specs.declared.steps.Step.{Step}
use Rattle.vlm_journal.specs.declared.entries.Entry.{Entry}
use Rattle.vlm_journal.specs.Journals.{IsPostOf, Journal, begin as journal_begin, leaves, next as journal_next, takes}
use Rattle.vlm_journal.specs.Told.{told}
use Rattle.vlm_journal.specs.Worlds.{Event, Happens, IsInOrder, IsNext, IsNode, IsRight, Lists, Reached, World, begin}
use Rattle.vlm_journal.specs.Worlds.{deliver, depart, next, post, send, apply, take, with_lists_of}
use Rattle.vlm_journal.proofs.Appending.{asks_no_other, asks_step, told-append}
use Rattle.vlm_journal.proofs.Lists.{prefix_more}

-- ---- lists

next_prefix : {X : Type 0} (x : X) (xs ys : List X) → IsNext x xs ys → IsPrefix (xs ++ x ∷ []) ys
next_prefix x xs ys h = (h.0, append_assoc xs (x ∷ []) h.0 ∙ sym h.1)

-- one more is no more than 64 more, where there was a place
one_more : {X Y : Type 0} (xs : List X) (x : X) (ys : List Y) → length xs < length ys + 64 → length (xs ++ x ∷ []) ≤ length ys + 64
one_more xs x ys place = let long = length-append xs (x ∷ []) in omega (arith, long, place)

fewer : {X Y : Type 0} (xs : List X) (ys : List Y) (y : Y) → length xs ≤ length ys + 64 → length xs ≤ length (ys ++ y ∷ []) + 64
fewer xs ys y few = let long = length-append ys (y ∷ []) in omega (arith, long, few)

-- ---- every post is of its node

ArePosts : ℕ → List Step → Type 0
ArePosts k [] = Unit {0}
ArePosts k (x ∷ xs) = IsPostOf k x × ArePosts k xs

posts_push : (k : ℕ) (xs : List Step) (x : Step) → ArePosts k xs → IsPostOf k x → ArePosts k (xs ++ x ∷ [])
unfolding ArePosts
posts_push k [] x all one = (one, tt)
posts_push k (y ∷ ys) x all one = (all.0, posts_push k ys x all.1 one)

posts_at : (k : ℕ) (xs : List Step) (x : Step) (rest : List Step) → ArePosts k (xs ++ x ∷ rest) → IsPostOf k x
unfolding ArePosts
posts_at k [] x rest all = all.0
posts_at k (y ∷ ys) x rest all = posts_at k ys x rest all.1

posts_none : (k : ℕ) → ArePosts k []
unfolding ArePosts
posts_none k = tt

-- ---- what is kept from event to event

record Fine (k : ℕ) (journal : List Entry) (l : Lists) : Type 0 where
  order : IsInOrder k journal l
  posts : ArePosts k l.posted

record Kept (n : ℕ) (w : World) : Type 0 where
  legal : Journal w.journal w.state
  nodes : (k : ℕ) → IsNode n k → Fine k w.journal (w.lists k)

-- the lists of one node are others
with_cases : (P : ℕ → Lists → Type 0) (at : ℕ → Lists) (k : ℕ) (l : Lists) → P k l → (j : ℕ) → (j ≢ k → P j (at j)) → P j (with_lists_of at k l j)
with_cases P at k l here j there =
    elim (cases_eq j k) [
      | inl e ↦ let t : (j == k) ≡ true = (Decides-eqb j k).1 e in rw t (let Q : ℕ → Type 0 = λ m. P m l in subst Q (sym e) here)
      | inr ne ↦ let t : (j == k) ≡ false = grind (arith, nat_tests) in rw t (there ne)
    ]

-- one more entry, which the node did not ask for
fine_entry : (k : ℕ) (js : List Entry) (e : Entry) (l : Lists) → k ≢ e.sender → Fine k js l → Fine k (js ++ e ∷ []) l
fine_entry k js e l ne fine = record {
  order = record {
    served = fine.order.served ∙ sym (asks_no_other k js e ne);
    posted = fine.order.posted;
    sent = rw told-append (prefix_more l.sent (told k js) (told k (e ∷ [])) fine.order.sent);
    received = fine.order.received;
    few_posts = fine.order.few_posts;
    few_items = fine.order.few_items;
  };
  posts = fine.posts;
}

module _ (n : ℕ) (few : n ≤ 8) where
  keeps : (w : World) (event : Event) (v : World) → Kept n w → Happens n w event v → Kept n v
  keeps w (post k step) v kept h =
      let l : Lists = record (w.lists k) { posted = (w.lists k).posted ++ step ∷ [] } in
      let was = kept.nodes k h.node_is in
      let here : Fine k w.journal l = record {
        order = record {
          served = was.order.served;
          posted = prefix_more (w.lists k).served (w.lists k).posted (step ∷ []) was.order.posted;
          sent = was.order.sent;
          received = was.order.received;
          few_posts = one_more (w.lists k).posted step (w.lists k).served h.place;
          few_items = was.order.few_items;
        };
        posts = posts_push k (w.lists k).posted step was.posts h.post;
      } in
      subst (λ x. Kept n x) (sym h.becomes) (record {
        legal = kept.legal;
        nodes = λ j is. with_cases (λ m x. Fine m w.journal x) w.lists k l here j (λ ne. kept.nodes j is);
      })
  keeps w (apply k) v kept h =
      let l : Lists = record (w.lists k) { served = (w.lists k).served ++ h.step ∷ [] } in
      let e : Entry = record { sender = k; step = h.step; answer = h.answer } in
      let was = kept.nodes k h.node_is in
      let own : IsPostOf k h.step = posts_at k (w.lists k).served h.step h.follows.0 (subst (λ xs. ArePosts k xs) h.follows.1 was.posts) in
      let here : Fine k (w.journal ++ e ∷ []) l = record {
        order = record {
          served = ap (λ (ss : List Step). ss ++ h.step ∷ []) was.order.served ∙ sym (asks_step w.journal e);
          posted = next_prefix h.step (w.lists k).served (w.lists k).posted h.follows;
          sent = rw told-append (prefix_more (w.lists k).sent (told k w.journal) (told k (e ∷ [])) was.order.sent);
          received = was.order.received;
          few_posts = fewer (w.lists k).posted (w.lists k).served h.step was.order.few_posts;
          few_items = was.order.few_items;
        };
        posts = was.posts;
      } in
      subst (λ x. Kept n x) (sym h.becomes) (record {
        legal = journal_next kept.legal (inr (h.node_is.0, omega (arith, h.node_is.1, few), own)) h.outcome;
        nodes = λ j is. with_cases (λ m x. Fine m (w.journal ++ e ∷ []) x) w.lists k l here j (λ ne. fine_entry j w.journal e (w.lists j) ne (kept.nodes j is));
      })
  keeps w (deliver pid) v kept h =
      let e : Entry = record { sender = 0; step = Take pid; answer = Taken (Some h.ast) } in
      subst (λ x. Kept n x) (sym h.becomes) (record {
        legal = journal_next kept.legal (inl (refl, takes pid h.ast)) h.outcome;
        nodes = λ j is. fine_entry j w.journal e (w.lists j) (λ z. omega (arith, z, is.0)) (kept.nodes j is);
      })
  keeps w (depart node) v kept h =
      let e : Entry = record { sender = 0; step = Leave node; answer = h.answer } in
      subst (λ x. Kept n x) (sym h.becomes) (record {
        legal = journal_next kept.legal (inl (refl, leaves node h.answer)) h.outcome;
        nodes = λ j is. fine_entry j w.journal e (w.lists j) (λ z. omega (arith, z, is.0)) (kept.nodes j is);
      })
  keeps w (send k) v kept h =
      let l : Lists = record (w.lists k) { sent = (w.lists k).sent ++ h.item ∷ [] } in
      let was = kept.nodes k h.node_is in
      let here : Fine k w.journal l = record {
        order = record {
          served = was.order.served;
          posted = was.order.posted;
          sent = next_prefix h.item (w.lists k).sent (told k w.journal) h.follows;
          received = prefix_more (w.lists k).received (w.lists k).sent (h.item ∷ []) was.order.received;
          few_posts = was.order.few_posts;
          few_items = one_more (w.lists k).sent h.item (w.lists k).received h.place;
        };
        posts = was.posts;
      } in
      subst (λ x. Kept n x) (sym h.becomes) (record {
        legal = kept.legal;
        nodes = λ j is. with_cases (λ m x. Fine m w.journal x) w.lists k l here j (λ ne. kept.nodes j is);
      })
  keeps w (take k) v kept h =
      let l : Lists = record (w.lists k) { received = (w.lists k).received ++ h.item ∷ [] } in
      let was = kept.nodes k h.node_is in
      let here : Fine k w.journal l = record {
        order = record {
          served = was.order.served;
          posted = was.order.posted;
          sent = was.order.sent;
          received = next_prefix h.item (w.lists k).received (w.lists k).sent h.follows;
          few_posts = was.order.few_posts;
          few_items = fewer (w.lists k).sent (w.lists k).received h.item was.order.few_items;
        };
        posts = was.posts;
      } in
      subst (λ x. Kept n x) (sym h.becomes) (record {
        legal = kept.legal;
        nodes = λ j is. with_cases (λ m x. Fine m w.journal x) w.lists k l here j (λ ne. kept.nodes j is);
      })

  kept_from : {events : List Event} {w : World} → Reached n events w → Kept n w
  kept_from begin = record {
    legal = journal_begin;
    nodes = λ k is. record {
      order = record { served = refl; posted = ([], refl); sent = ([], refl); received = ([], refl); few_posts = omega arith; few_items = omega arith };
      posts = posts_none k;
    };
  }
  kept_from (next {old = w} {new = v} event run happens) = keeps w event v (kept_from run) happens

  pub right_from : {events : List Event} {w : World} → Reached n events w → IsRight n w
  right_from run =
      let kept = kept_from run in record { legal = kept.legal; in_order = λ k is. (kept.nodes k is).order }
