-- After every run serials rise from one resource to the next, no more of them than IDs were given,
-- and no two resources have one key.
use Rattle.std.proofs.Common.{◌≡◌, ◌<◌, ◌≤◌, ◌+◌, ◌||◌, ◌&&◌, ℕ, Bool, true, false, not, List, [], ◌∷◌, ◌++◌, map, cond}
use Rattle.std.proofs.Common.{Option, None, Some, refl, sym, subst, ap, ◌∙◌, arith}
use Rattle.std.specs.Prelude.{◌==◌}
use Rattle.std.specs.Cmp.Lexicographic.{pointwise, bytes_decides}
use Rattle.std.specs.List.{AllByRecursion, find}
use Rattle.std.proofs.lemmas.Bool.{and_parts, cond_both, eqb-true, eq-eqb}
use Rattle.std.proofs.lemmas.List.Elements.{All-from_recursion}
use Rattle.vlm_words.specs.declared.locks.Request.{Request}
use Rattle.vlm_words.specs.declared.locks.LockState.{LockState}
use Rattle.vlm_words.specs.declared.resources.Domain.TheVariants.{Group, System}
use Rattle.vlm_words.specs.declared.resources.Domain.{Domain}
use Rattle.vlm_words.specs.declared.resources.Key.TheVariants.{Root, Below}
use Rattle.vlm_words.specs.declared.resources.Key.{Key}
use Rattle.vlm_words.specs.declared.resources.Site.{Site}
use Rattle.vlm_words.specs.declared.resources.ValueBlock.{ValueBlock}
use Rattle.vlm_words.specs.declared.steps.NewRequest.{NewRequest}
use Rattle.vlm_words.specs.State.{Process, Resource, State}
use Rattle.vlm_model.specs.Effects.{with_value_block}
use Rattle.vlm_model.specs.Grants.{resource_after_grant, service}
use Rattle.vlm_model.specs.Sweeps.{blocks_after_service, is_vacant, resource_after_service, resources_after_service}
use Rattle.vlm_model.specs.Sweeps.{resources_after_sweep, state_after_sweep, served_with}
use Rattle.vlm_words.specs.Rows.{is_lock_of, wanting_row}
use Rattle.vlm_words.specs.Resources.{IsKeyed, is_at, is_domain, key_name, key_parent, new_resource}
use Rattle.vlm_model.specs.Checks.{holds_lock}
use Rattle.vlm_model.specs.Trees.{enq_site, parent_lkid, parent_resource, root_domain, site_below}
use Rattle.vlm_model.specs.Declare.{declare_change}
use Rattle.vlm_model.specs.SetValue.{set_change}
use Rattle.vlm_model.specs.Take.{take_change}
use Rattle.vlm_model.specs.Enqueue.{enq_at_once, enq_change, enq_key, enq_row, has_resource, resource_after_entry, resources_after_entry}
use Rattle.vlm_model.specs.Convert.{convert_blocks, convert_change, convert_lkid, resource_after_conversion}
use Rattle.vlm_model.specs.Convert.{resource_after_conversion_of, resource_without_granted}
use Rattle.vlm_model.specs.Rundown.{rundowns, state_after_rundown}
use Rattle.vlm_model.specs.Withdrawals.{Withdrawal, is_held_by_writer, resource_after_cancel}
use Rattle.vlm_model.specs.Withdrawals.{resource_after_withdrawals, resource_after_writer, resource_without}
use Rattle.vlm_model.specs.Withdrawals.{value_block_after_writer, resource_after_going, state_after_withdrawals}
use Rattle.vlm_model.specs.Runs.{History, Run}
use Rattle.vlm_model.specs.Laws.{HaveOneKey, IsSameResource, KeysAreApart, SerialsRise}
use Rattle.vlm_model.proofs.Each.{Found, each_at, each_filter, each_map, each_weaker, found_at}
use Rattle.vlm_model.proofs.EachResource.{each_served, each_entered_among}
use Rattle.vlm_model.proofs.Pairs.{EachPair, AllPairs-from_recursion, each_pair_filter}
use Rattle.vlm_model.proofs.InOrder.{same_resource, same_then, service_in_order}
use Rattle.vlm_model.proofs.Always.{always, kept_by_stepped}
use Rattle.vlm_model.proofs.Withdrawing.{kept_withdrawn}
use Rattle.vlm_model.proofs.Warned.{warned_same}

-- the fact depends on where resources stand alone
abbrev pub StandsOnPlaces : (Resource → Resource → Type 0) → Type 0
StandsOnPlaces R = (a b c d : Resource) → IsSameResource a c → IsSameResource b d → R a b → R c d

-- a changed resource stands where it stood
abbrev pub KeepsPlace : (Resource → Resource) → Type 0
KeepsPlace f = (r : Resource) → IsSameResource r (f r)

-- a lock's entry
pub entry_keeps_place : (row : LockState) (at_once : Bool) → KeepsPlace (resource_after_entry row at_once)
unfolding resource_after_entry
entry_keeps_place row at_once r =
    cond_both at_once (resource_after_grant r row) (record r { waiting = r.waiting ++ row ∷ [] }) (IsSameResource r)
    (λ _. record { serial = refl; parent = refl; domain = refl; name = refl; level = refl })
    (λ _. record { serial = refl; parent = refl; domain = refl; name = refl; level = refl })

-- a conversion
pub conversion_keeps_place : (request : Request) (at_once : Bool) (pid lkid : ℕ) (block : ValueBlock)
    → KeepsPlace (resource_after_conversion request at_once pid lkid block)
unfolding resource_after_conversion
conversion_keeps_place request at_once pid lkid block r = of_found (find (is_lock_of pid lkid) r.granted)
  where
    of_found : (found : Option LockState) → IsSameResource r (resource_after_conversion_of request at_once lkid block r found)
    of_found None = same_resource r
    of_found (Some row) =
        cond_both at_once
        (with_value_block block (resource_after_grant (resource_without_granted lkid r) (wanting_row row request)))
        (record (resource_without_granted lkid r) { converting = r.converting ++ wanting_row row request ∷ [] }) (IsSameResource r)
        (λ _. record { serial = refl; parent = refl; domain = refl; name = refl; level = refl })
        (λ _. record { serial = refl; parent = refl; domain = refl; name = refl; level = refl })

-- what a lock leaves in the value block
left_keeps_place : (w : Withdrawal) → KeepsPlace (resource_after_writer w)
left_keeps_place w r =
    cond_both (is_held_by_writer w.lkid r) (record r { value_block = value_block_after_writer w r.value_block }) r (IsSameResource r)
    (λ _. record { serial = refl; parent = refl; domain = refl; name = refl; level = refl }) (λ _. same_resource r)

-- a lock that goes or stays
gone_keeps_place : (w : Withdrawal) → KeepsPlace (resource_after_going w)
unfolding resource_without resource_after_cancel
gone_keeps_place w r =
    cond_both w.stays (resource_after_cancel w.lkid r) (resource_without w.lkid r) (IsSameResource r)
    (λ _. record { serial = refl; parent = refl; domain = refl; name = refl; level = refl })
    (λ _. record { serial = refl; parent = refl; domain = refl; name = refl; level = refl })

-- withdrawals
pub withdrawals_keep_place : (withdrawals : List Withdrawal) → KeepsPlace (resource_after_withdrawals withdrawals)
withdrawals_keep_place withdrawals r =
    kept_withdrawn (IsSameResource r) (λ w left same. same_then r left (resource_after_writer w left) same (left_keeps_place w left))
    (λ w left same. same_then r left (resource_after_going w left) same (gone_keeps_place w left)) withdrawals r (same_resource r)

-- service with its warnings, whatever value block is left
pub service_keeps_place : (block : ValueBlock) (r : Resource) → IsSameResource r (served_with block r)
service_keeps_place block r =
    let same : IsSameResource r (service r).resource = (service_in_order r).same in
    same_then r (with_value_block block (service r).resource) (served_with block r)
    (record { serial = same.serial; parent = same.parent; domain = same.domain; name = same.name; level = same.level })
    (warned_same (with_value_block block (service r).resource))

-- what holds of each pair holds of each pair of changed resources
pairs_after_map : (R : Resource → Resource → Type 0) → StandsOnPlaces R → (f : Resource → Resource) → KeepsPlace f → (resources : List Resource)
    → EachPair R resources → EachPair R (map f resources)
pairs_after_map R stands f keeps [] pairs = tt
pairs_after_map R stands f keeps (r ∷ rest) pairs = (
  each_map (R r) (R (f r)) f (λ other to. stands r other (f r) (f other) (keeps r) (keeps other) to) rest pairs.0,
  pairs_after_map R stands f keeps rest pairs.1,
)

-- and once all are served
pairs_after_service : (R : Resource → Resource → Type 0) → StandsOnPlaces R → (processes : List Process) (resources : List Resource)
    → EachPair R resources → EachPair R (resources_after_service processes resources)
pairs_after_service R stands processes [] pairs = tt
pairs_after_service R stands processes (r ∷ rest) pairs =
    let after : Resource = resource_after_service processes r in
    let left : List Process = (blocks_after_service processes r).processes in (
      each_served (R r) (R after)
          (λ block other to. stands r other after (served_with block other)
          (service_keeps_place (blocks_after_service processes r).value_block r) (service_keeps_place block other) to) left rest pairs.0,
      pairs_after_service R stands left rest pairs.1,
    )

-- and after a sweep
pairs_after_sweep : (R : Resource → Resource → Type 0) → StandsOnPlaces R → (processes : List Process) (resources : List Resource)
    → EachPair R resources → EachPair R (resources_after_sweep processes resources)
unfolding resources_after_sweep
pairs_after_sweep R stands processes resources pairs =
    each_pair_filter R (λ r. not (is_vacant r)) (resources_after_service processes resources) (pairs_after_service R stands processes resources pairs)

-- a lock's entry keeps the pairs, where those before a new resource have the relation to it
pairs_after_entry : (R : Resource → Resource → Type 0) → StandsOnPlaces R → (serial : ℕ) (site : Site) (row : LockState)
    (at_once : Bool) (resources : List Resource)
    → AllByRecursion (λ r. is_at site.key r ≡ false → R r (new_resource serial site)) resources
    → EachPair R resources → EachPair R (resources_after_entry serial site row at_once resources)
pairs_after_entry R stands serial site row at_once [] fresh pairs = (tt, tt)
pairs_after_entry R stands serial site row at_once (r ∷ rest) fresh pairs =
    cond_both (is_at site.key r) (resource_after_entry row at_once r ∷ rest) (r ∷ resources_after_entry serial site row at_once rest) (EachPair R)
    (λ _. (
      each_weaker (R r) (R (resource_after_entry row at_once r))
          (λ other to. stands r other (resource_after_entry row at_once r) other (entry_keeps_place row at_once r) (same_resource other) to) rest pairs.0,
      pairs.1,
    ))
    (λ elsewhere. (
      each_entered_among (R r) serial site row at_once (fresh.0 elsewhere)
          (λ other to. stands r other r (resource_after_entry row at_once other) (same_resource r) (entry_keeps_place row at_once other) to) rest pairs.0,
      pairs_after_entry R stands serial site row at_once rest fresh.1 pairs.1,
    ))

-- serials rise
abbrev pub Rises : Resource → Resource → Type 0
Rises a b = a.serial < b.serial

rises_on_places : StandsOnPlaces Rises
rises_on_places a b c d first second rises = omega (arith, first.serial, second.serial)

-- two resources have different keys
abbrev pub HaveTwoKeys : Resource → Resource → Type 0
HaveTwoKeys a b = HaveOneKey a b → ⊥

two_keys_on_places : StandsOnPlaces HaveTwoKeys
two_keys_on_places a b c d first second two one =
    two (record {
      parent = sym first.parent ∙ one.parent ∙ second.parent;
      domain = λ root. sym first.domain ∙ one.domain (first.parent ∙ root) ∙ second.domain;
      name = sym first.name ∙ one.name ∙ second.name;
    })

-- the same domain is itself
pub is_domain_refl : (domain : Domain) → is_domain domain domain ≡ true
is_domain_refl (Group group) = eq-eqb group group refl
is_domain_refl System = refl

-- domains that pass the test are the same
pub is_domain-true : (a b : Domain) → is_domain a b ≡ true → a ≡ b
is_domain-true (Group a) (Group b) same = ap Group (eqb-true a b same)
is_domain-true (Group a) System same = cc
is_domain-true System (Group b) same = cc
is_domain-true System System same = refl

-- a resource with the key of a new one stands under it
pub at_key : (domain : Domain) (key : Key) (r : Resource) → IsKeyed domain key → r.parent ≡ key_parent key → (r.parent ≡ 0 → r.domain ≡ domain)
    → r.name ≡ key_name key → is_at key r ≡ true
at_key domain (Root own name) r keyed parent in_domain named =
    rw (eq-eqb r.parent 0 parent) (rw (ap (λ (d : Domain). is_domain d own) (in_domain parent ∙ keyed) ∙ is_domain_refl own)
    ((bytes_decides r.name name).1 named))
at_key domain (Below up name) r keyed parent in_domain named = rw (eq-eqb r.parent up parent) ((bytes_decides r.name name).1 named)

-- where the key leads, the resource has the parent and the name that it says
pub key_at : (domain : Domain) (key : Key) (r : Resource) → IsKeyed domain key → is_at key r ≡ true
    → (r.parent ≡ key_parent key) × (r.parent ≡ 0 → r.domain ≡ domain) × (r.name ≡ key_name key)
key_at domain (Root own name) r keyed at =
    let parts : ((r.parent == 0) && is_domain r.domain own ≡ true) × (pointwise ◌==◌ r.name name ≡ true) = and_parts _ _ at in
    let root = and_parts (r.parent == 0) (is_domain r.domain own) parts.0 in (
      eqb-true r.parent 0 root.0,
      λ _. is_domain-true r.domain own root.1 ∙ sym keyed,
      (bytes_decides r.name name).0 parts.1,
    )
key_at domain (Below up name) r keyed at =
    let parts : ((r.parent == up) ≡ true) × (pointwise ◌==◌ r.name name ≡ true) = and_parts _ _ at in
    let parent : r.parent ≡ up = eqb-true r.parent up parts.0 in (
      parent,
      λ root. absurd (omega (arith, keyed, parent, root)),
      (bytes_decides r.name name).0 parts.1,
    )

-- two resources under one key have one key
pub one_key : (domain : Domain) (key : Key) (a b : Resource) → IsKeyed domain key → is_at key a ≡ true → is_at key b ≡ true → HaveOneKey a b
one_key domain key a b keyed first second =
    let left = key_at domain key a keyed first in
    let right = key_at domain key b keyed second in
    record {
      parent = left.0 ∙ sym right.0;
      domain = λ root. left.1 root ∙ sym (right.1 (right.0 ∙ sym left.0 ∙ root));
      name = left.2 ∙ sym right.2;
    }

-- a serial that was given: from 1, and below the one to come
abbrev pub WasGiven : ℕ → Resource → Type 0
WasGiven next r = (0 < r.serial) × (r.serial < next)

-- serials rise, were given, no more of them than IDs, and no two resources have one key
pub record Placed (s : State) : Type 0 where
  pub rising : EachPair Rises s.resources
  pub given : AllByRecursion (WasGiven s.next_serial) s.resources
  pub first : 0 < s.next_serial
  pub few : s.next_serial ≤ s.next_lkid
  pub two_keys : EachPair HaveTwoKeys s.resources

-- a serial that was given stays so, on the same resource and once more are given
still_given : (next later : ℕ) (before after : Resource) → next ≤ later → IsSameResource before after → WasGiven next before → WasGiven later after
still_given next later before after more same given = (omega (arith, same.serial, given.0), omega (arith, same.serial, given.1))

-- the serials after a lock's entry are below the one that comes then
given_after_entry : (n : ℕ) (site : Site) (row : LockState) (at_once : Bool) (resources : List Resource) → 0 < n
    → AllByRecursion (WasGiven n) resources
    → AllByRecursion (WasGiven (cond (has_resource site.key resources) n (n + 1))) (resources_after_entry n site row at_once resources)
given_after_entry n site row at_once [] first given =
    let serial : (resource_after_entry row at_once (new_resource n site)).serial ≡ n =
    (entry_keeps_place row at_once (new_resource n site)).serial in
    ((omega (arith, serial), omega (arith, serial)), tt)
given_after_entry n site row at_once (r ∷ rest) first given =
    let behind : AllByRecursion (WasGiven (cond (has_resource site.key rest) n (n + 1))) (resources_after_entry n site row at_once rest) =
    given_after_entry n site row at_once rest first given.1 in
    elim (is_at site.key r) as (λ b. AllByRecursion (WasGiven (cond (b || has_resource site.key rest) n (n + 1)))
    (cond b (resource_after_entry row at_once r ∷ rest) (r ∷ resources_after_entry n site row at_once rest))) [
      | true ↦ (still_given n n r (resource_after_entry row at_once r) (omega arith) (entry_keeps_place row at_once r) given.0, given.1)
      | false ↦ (still_given n (cond (has_resource site.key rest) n (n + 1)) r r (no_less (has_resource site.key rest)) (same_resource r) given.0, behind)
    ]
  where
    no_less : (b : Bool) → n ≤ cond b n (n + 1)
    no_less true = omega arith
    no_less false = omega arith

-- an entry makes a resource at most, and takes one ID
few_after_entry : (b : Bool) (serial lkid : ℕ) → serial ≤ lkid → cond b serial (serial + 1) ≤ lkid + 1
few_after_entry true serial lkid few = omega arith
few_after_entry false serial lkid few = omega arith

-- the next serial after an entry is none of 0
first_after_entry : (b : Bool) (serial : ℕ) → 0 < serial → 0 < cond b serial (serial + 1)
first_after_entry true serial first = first
first_after_entry false serial first = omega arith

-- a sweep keeps the places, where the next serial stays
swept_placed : (s : State) → Placed s → Placed (state_after_sweep s)
unfolding resources_after_sweep
swept_placed s placed = record {
  rising = pairs_after_sweep Rises rises_on_places s.processes s.resources placed.rising;
  given =
      each_filter (WasGiven s.next_serial) (λ r. not (is_vacant r)) (resources_after_service s.processes s.resources)
      (each_served (WasGiven s.next_serial) (WasGiven s.next_serial)
      (λ block r was. still_given s.next_serial s.next_serial r _ (omega arith) (service_keeps_place block r) was) s.processes s.resources placed.given);
  first = placed.first;
  few = placed.few;
  two_keys = pairs_after_sweep HaveTwoKeys two_keys_on_places s.processes s.resources placed.two_keys;
}

-- changed resources keep the places
mapped_placed : (s t : State) (f : Resource → Resource) → KeepsPlace f → t.resources ≡ map f s.resources → t.next_serial ≡ s.next_serial
    → t.next_lkid ≡ s.next_lkid → Placed s → Placed t
mapped_placed s t f keeps changed same same_locks placed =
    let rising : EachPair Rises (map f s.resources) = pairs_after_map Rises rises_on_places f keeps s.resources placed.rising in
    let two_keys : EachPair HaveTwoKeys (map f s.resources) = pairs_after_map HaveTwoKeys two_keys_on_places f keeps s.resources placed.two_keys in
    let given : AllByRecursion (WasGiven t.next_serial) (map f s.resources) =
    each_map (WasGiven s.next_serial) (WasGiven t.next_serial) f
    (λ r was. still_given s.next_serial t.next_serial r (f r) (omega (arith, same)) (keeps r) was) s.resources placed.given in
    record {
      rising = subst (EachPair Rises) (sym changed) rising;
      given = subst (AllByRecursion (WasGiven t.next_serial)) (sym changed) given;
      first = omega (arith, placed.first, same);
      few = omega (arith, placed.few, same, same_locks);
      two_keys = subst (EachPair HaveTwoKeys) (sym changed) two_keys;
    }

-- what is so of each element is so of the first that passes a test
pub of_found : {X : Type 0} (P : X → Type 0) (test : X → Bool) (xs : List X) (z : X) → AllByRecursion P xs → find test xs ≡ Some z → P z
of_found P test xs z each is =
    let at : Found test xs z = found_at test xs z is in
    each_at P at.before z at.after (subst (AllByRecursion P) at.split each)

-- the key of what a new request asks for fits its domain
pub enq_keyed : (s : State) (e : NewRequest) → Placed s → IsKeyed (enq_site s e).domain (enq_site s e).key
unfolding parent_resource
enq_keyed s e placed = below (parent_lkid s e == 0)
  where
    of_parent : (parent : Option Resource) → find (holds_lock e.pid (parent_lkid s e)) s.resources ≡ parent
        → IsKeyed (site_below (root_domain s e.pid e.flags) e.name parent).domain (site_below (root_domain s e.pid e.flags) e.name parent).key
    of_parent None is = refl
    of_parent (Some parent) is = (of_found (WasGiven s.next_serial) (holds_lock e.pid (parent_lkid s e)) s.resources parent placed.given is).0

    below : (none : Bool)
        → IsKeyed (site_below (root_domain s e.pid e.flags) e.name
        (cond none None (find (holds_lock e.pid (parent_lkid s e)) s.resources))).domain
        (site_below (root_domain s e.pid e.flags) e.name (cond none None (find (holds_lock e.pid (parent_lkid s e)) s.resources))).key
    below true = refl
    below false = of_parent (find (holds_lock e.pid (parent_lkid s e)) s.resources) refl

-- a new request keeps the places
entry_placed : (s : State) (e : NewRequest) → Placed s → Placed (enq_change s e)
unfolding enq_change
entry_placed s e placed = record {
  rising =
      pairs_after_entry Rises rises_on_places s.next_serial (enq_site s e) (enq_row s e) (enq_at_once s e) s.resources
      (each_weaker (WasGiven s.next_serial) (λ r. is_at (enq_key s e) r ≡ false → r.serial < s.next_serial) (λ r was _. was.1) s.resources
      placed.given) placed.rising;
  given = given_after_entry s.next_serial (enq_site s e) (enq_row s e) (enq_at_once s e) s.resources placed.first placed.given;
  first = first_after_entry (has_resource (enq_key s e) s.resources) s.next_serial placed.first;
  few = few_after_entry (has_resource (enq_key s e) s.resources) s.next_serial s.next_lkid placed.few;
  two_keys =
      pairs_after_entry HaveTwoKeys two_keys_on_places s.next_serial (enq_site s e) (enq_row s e) (enq_at_once s e) s.resources
      (each_elsewhere s.resources) placed.two_keys;
}
  where
    each_elsewhere : (resources : List Resource)
        → AllByRecursion (λ r. is_at (enq_key s e) r ≡ false → HaveTwoKeys r (new_resource s.next_serial (enq_site s e))) resources
    each_elsewhere [] = tt
    each_elsewhere (r ∷ rest) = (
      (λ elsewhere one.
          let here : is_at (enq_key s e) r ≡ true =
          at_key (enq_site s e).domain (enq_key s e) r (enq_keyed s e placed) one.parent one.domain one.name in cc),
      each_elsewhere rest,
    )

-- where neither the resources nor the numbers change, the places stay
unchanged_placed : (s t : State) → t.resources ≡ s.resources → t.next_serial ≡ s.next_serial → t.next_lkid ≡ s.next_lkid → Placed s → Placed t
unchanged_placed s t resources same same_locks placed = record {
  rising = subst (EachPair Rises) (sym resources) placed.rising;
  given = rw (resources, same) placed.given;
  first = omega (arith, placed.first, same);
  few = omega (arith, placed.few, same, same_locks);
  two_keys = subst (EachPair HaveTwoKeys) (sym resources) placed.two_keys;
}

-- after every run the resources are placed
pub placed_always : (history : History) (last : State)
    → Run history last → Placed last
unfolding declare_change set_change take_change convert_change state_after_rundown
placed_always =
    always (λ _ s. Placed s) (record { rising = tt; given = tt; first = omega arith; few = omega arith; two_keys = tt })
    (λ history s _ placed.
    kept_by_stepped (λ _ t. Placed t) history.endings s placed
    (λ d _. swept_placed (declare_change s d) (unchanged_placed s (declare_change s d) refl refl refl placed))
    (λ v _. swept_placed (set_change s v) (unchanged_placed s (set_change s v) refl refl refl placed))
    (λ taker _. swept_placed (take_change s taker) (unchanged_placed s (take_change s taker) refl refl refl placed))
    (λ e _. swept_placed (enq_change s e) (entry_placed s e placed))
    (λ c a _ _.
    swept_placed (convert_change s c a)
    (mapped_placed s (convert_change s c a) (resource_after_conversion a.request a.at_once c.pid (convert_lkid s c) (convert_blocks s c a).value_block)
    (conversion_keeps_place a.request a.at_once c.pid (convert_lkid s c) (convert_blocks s c a).value_block) refl refl refl placed))
    (λ withdrawals _.
    let after : State = state_after_withdrawals withdrawals s in
    swept_placed after
    (mapped_placed s after (resource_after_withdrawals withdrawals) (withdrawals_keep_place withdrawals) refl refl refl placed))
    (λ is_one nodes _.
    swept_placed (state_after_rundown is_one nodes s)
    (mapped_placed s (state_after_rundown is_one nodes s) (resource_after_withdrawals (rundowns is_one s))
    (withdrawals_keep_place (rundowns is_one s)) refl refl refl placed)))

-- after every run serials rise
pub serials_always : (history : History) (last : State)
    → Run history last → SerialsRise last
serials_always history last run =
    let placed : Placed last = placed_always history last run in
    record {
      rising = AllPairs-from_recursion Rises last.resources placed.rising;
      from_1 = All-from_recursion (λ r. 0 < r.serial) last.resources
          (each_weaker (WasGiven last.next_serial) (λ r. 0 < r.serial) (λ r was. was.0) last.resources placed.given);
      given = All-from_recursion (λ r. r.serial < last.next_serial) last.resources
          (each_weaker (WasGiven last.next_serial) (λ r. r.serial < last.next_serial) (λ r was. was.1) last.resources placed.given);
      few = placed.few;
    }

-- after every run keys are apart
pub keys_always : (history : History) (last : State)
    → Run history last → KeysAreApart last
keys_always history last run =
    AllPairs-from_recursion HaveTwoKeys last.resources (placed_always history last run).two_keys
