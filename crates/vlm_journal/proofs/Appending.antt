-- What one entry more changes in what is asked for and told.
use Rattle.std.proofs.Common.{◌≡◌, ◌≢◌, ◌<◌, ◌==◌, ℕ, true, false, List, [], ◌∷◌, ◌++◌, refl, ap, ◌∙◌, sym}
use Rattle.std.proofs.Common.{append_assoc, append-nil, arith, subst, if◌then◌else◌, Some, None, inl, inr}
use Rattle.std.proofs.lemmas.Bool.Decides.{nat_tests, Decides-eqb}
use Rattle.vlm_words.specs.declared.asts.Ast.{Ast}
use Rattle.vlm_words.specs.declared.steps.Answer.TheVariants.{Taken}
use Rattle.vlm_words.specs.declared.steps.Answer.{Answer}
use Rattle.vlm_words.specs.declared.steps.Step.TheVariants.{Leave, Take}
use Rattle.vlm_words.specs.declared.steps.Step.{Step}
use Rattle.vlm_words.specs.Steps.{node_of_pid}
use Rattle.vlm_journal.specs.declared.entries.Entry.{Entry}
use Rattle.vlm_journal.specs.declared.entries.Item.TheVariants.{Answer as answer_item, Ast as ast_item}
use Rattle.vlm_journal.specs.declared.entries.Item.{Item}
use Rattle.vlm_journal.specs.Journals.{IsAllowed, IsHubs, leaves, taker, takes}
use Rattle.vlm_journal.specs.Lengthening.{LengthensLittle}
use Rattle.vlm_journal.specs.Told.{asked, items_told, told}

-- ---- lists behind one another

pub asked-append : (k : ℕ) (xs ys : List Entry) → asked k (xs ++ ys) ≡ asked k xs ++ asked k ys
asked-append k [] ys = refl
asked-append k (x ∷ xs) ys =
    elim (x.sender == k) as
    (λ b. (if b then x.step ∷ asked k (xs ++ ys) else asked k (xs ++ ys)) ≡
    (if b then x.step ∷ asked k xs else asked k xs) ++ asked k ys) [
      | true ↦ ap (λ zs. x.step ∷ zs) (asked-append k xs ys)
      | false ↦ asked-append k xs ys
    ]

pub told-append : (k : ℕ) (xs ys : List Entry) → told k (xs ++ ys) ≡ told k xs ++ told k ys
told-append k [] ys = refl
told-append k (x ∷ xs) ys =
    ap (λ zs. items_told k x ++ zs) (told-append k xs ys) ∙ sym (append_assoc (items_told k x) (told k xs) (told k ys))

-- ---- one entry

test_no : (m n : ℕ) → m ≢ n → (m == n) ≡ false
test_no m n ne = grind (arith, nat_tests)

test_yes : (m n : ℕ) → m ≡ n → (m == n) ≡ true
test_yes m n e = (Decides-eqb m n).1 e

-- its sender asks for its step
pub asked_own : (k : ℕ) (e : Entry) → e.sender ≡ k → asked k (e ∷ []) ≡ e.step ∷ []
asked_own k e is = rw (test_yes e.sender k is) refl

pub asked_other : (k : ℕ) (e : Entry) → k ≢ e.sender → asked k (e ∷ []) ≡ []
asked_other k e ne = rw (test_no e.sender k (λ h. ne (sym h))) refl

-- the sender of a post is told its answer, and nobody else is told anything
pub told_own : (k : ℕ) (e : Entry) → e.sender ≡ k → taker e.step ≡ None → told k (e ∷ []) ≡ answer_item e.answer ∷ []
told_own k e is none = rw (test_yes e.sender k is, none) refl

told_no_other : (k : ℕ) (e : Entry) → k ≢ e.sender → taker e.step ≡ None → told k (e ∷ []) ≡ []
told_no_other k e ne none = rw (test_no e.sender k (λ h. ne (sym h)), none) refl

-- the node of the process is told the AST that the hub takes, and nobody else
abbrev take_entry : ℕ → Ast → Entry
take_entry pid ast = record { sender = 0; step = Take pid; answer = Taken (Some ast) }

pub told_ast : (k pid : ℕ) (ast : Ast) → 0 < k → node_of_pid pid ≡ k → told k (take_entry pid ast ∷ []) ≡ ast_item pid ast ∷ []
told_ast k pid ast some is =
    let ne : 0 ≢ k = λ h. omega (arith, h) in
    rw (test_no 0 k ne, test_yes (node_of_pid pid) k is) refl

told_no_ast : (k pid : ℕ) (ast : Ast) → 0 < k → k ≢ node_of_pid pid → told k (take_entry pid ast ∷ []) ≡ []
told_no_ast k pid ast some other =
    let ne : 0 ≢ k = λ h. omega (arith, h) in
    rw (test_no 0 k ne, test_no (node_of_pid pid) k (λ h. other (sym h))) refl

-- ---- behind a journal

pub asks_step : (js : List Entry) (e : Entry) → asked e.sender (js ++ e ∷ []) ≡ asked e.sender js ++ e.step ∷ []
asks_step js e = asked-append e.sender js (e ∷ []) ∙ ap (λ xs. asked e.sender js ++ xs) (asked_own e.sender e refl)

pub asks_no_other : (k : ℕ) (js : List Entry) (e : Entry) → k ≢ e.sender → asked k (js ++ e ∷ []) ≡ asked k js
asks_no_other k js e ne =
    asked-append k js (e ∷ []) ∙ ap (λ xs. asked k js ++ xs) (asked_other k e ne) ∙ append-nil (asked k js)

-- what an entry tells stands behind what was told
tells_more : (k : ℕ) (js : List Entry) (e : Entry) (items : List Item) → told k (e ∷ []) ≡ items → told k (js ++ e ∷ []) ≡ told k js ++ items
tells_more k js e items is = told-append k js (e ∷ []) ∙ ap (λ xs. told k js ++ xs) is

tells_nothing : (k : ℕ) (js : List Entry) (e : Entry) → told k (e ∷ []) ≡ [] → told k (js ++ e ∷ []) ≡ told k js
tells_nothing k js e is = tells_more k js e [] is ∙ append-nil (told k js)

-- a post
post_lengthens : (js : List Entry) (e : Entry) → 0 < e.sender → taker e.step ≡ None → LengthensLittle js e
post_lengthens js e some none = record {
  asks = asks_step js e;
  asks_none = λ k ne. asks_no_other k js e ne;
  one = e.sender;
  items = answer_item e.answer ∷ [];
  few = omega arith;
  tells = λ is. tells_more e.sender js e (answer_item e.answer ∷ []) (told_own e.sender e refl none);
  tells_none = λ k is ne. tells_nothing k js e (told_no_other k e ne none);
  answers = λ is. (refl, refl);
  takes = λ pid ast is answered. absurd (no_take pid (sym none ∙ ap taker is));
  leaves = λ node is of. absurd (omega (arith, some, is));
}
  where
    no_take : (pid : ℕ) → None ≡ Some pid → ⊥
    no_take pid h = cc

-- what the hub does by itself
hubs_lengthens : (js : List Entry) (step : Step) (answer : Answer) → IsHubs step answer
    → LengthensLittle js (record { sender = 0; step = step; answer = answer })
hubs_lengthens js _ _ (leaves node answer) = record {
  asks = asks_step js e;
  asks_none = λ k ne. asks_no_other k js e ne;
  one = 0;
  items = [];
  few = omega arith;
  tells = λ is. absurd (omega (arith, is));
  tells_none = λ k is ne. tells_nothing k js e (told_no_other k e ne refl);
  answers = λ is. absurd (omega (arith, is));
  takes = λ pid ast is answered. absurd (no_take pid is);
  leaves = λ other is of. refl;
}
  where
    e : Entry
    e = record { sender = 0; step = Leave node; answer = answer }

    no_take : (pid : ℕ) → Leave node ≡ Take pid → ⊥
    no_take pid h = cc
hubs_lengthens js _ _ (takes pid ast) = record {
  asks = asks_step js (take_entry pid ast);
  asks_none = λ k ne. asks_no_other k js (take_entry pid ast) ne;
  one = node_of_pid pid;
  items = ast_item pid ast ∷ [];
  few = omega arith;
  tells = λ is. tells_more (node_of_pid pid) js (take_entry pid ast) (ast_item pid ast ∷ []) (told_ast (node_of_pid pid) pid ast is refl);
  tells_none = λ k is ne. tells_nothing k js (take_entry pid ast) (told_no_ast k pid ast is ne);
  answers = λ is. absurd (omega (arith, is));
  takes = λ other given is answered. same other given is answered;
  leaves = λ node is of. absurd (no_departure node of);
}
  where
    no_departure : (node : ℕ) → Take pid ≡ Leave node → ⊥
    no_departure node h = cc

    same_pid : (other : ℕ) → Take pid ≡ Take other → pid ≡ other
    same_pid other is = cc

    same : (other : ℕ) (given : Ast) → Take pid ≡ Take other → Taken (Some ast) ≡ Taken (Some given)
        → (node_of_pid pid ≡ node_of_pid other) × (ast_item pid ast ∷ [] ≡ ast_item other given ∷ [])
    same other given is answered = (ap node_of_pid (same_pid other is), cc)

pub lengthens : (js : List Entry) (e : Entry) → IsAllowed e → LengthensLittle js e
lengthens js e (inl hubs) =
    let P : ℕ → Type 0 = λ sender. LengthensLittle js (record { sender = sender; step = e.step; answer = e.answer }) in
    subst P (sym hubs.0) (hubs_lengthens js e.step e.answer hubs.1)
lengthens js e (inr posts) = post_lengthens js e posts.0 posts.2.1
