use Rattle.std.proofs.Common.{false, ◌≡◌, ◌∙◌, inl, inr, ℕ, suc, Bool, [], ◌∷◌, None, Some, ap, subst, sym, refl}
use Rattle.std.specs.Prelude.{Any}
use Rattle.vlm_words.specs.declared.locks.LockState.{LockState}
use Rattle.vlm_words.specs.declared.locks.Request.{Request}
use Rattle.vlm_words.specs.declared.conditions.Cond.{Cond}
use Rattle.vlm_words.specs.declared.steps.Answer.TheVariants.{Lock}
use Rattle.vlm_words.specs.declared.steps.NewRequest.{NewRequest}
use Rattle.vlm_words.specs.declared.steps.Step.TheVariants.{Convert, Enq}
use Rattle.vlm_words.specs.declared.resources.Domain.TheVariants.{Group}
use Rattle.vlm_words.specs.State.{Process, Resource, State}
use Rattle.vlm_model.specs.Checks.{named_lkid}
use Rattle.vlm_model.specs.Consequences.{ConvertsAlone, IsOfConversion, IsOfNewLock, IsHeldAlone, WaitsAlone}
use Rattle.vlm_model.specs.Laws.{IsAskedFor, IsRootDomain, IsSameResource, StandsAsAskedFor, StandsOn}
use Rattle.vlm_model.specs.Standing.{IsRow, NewLocksStandAsAskedFor, StandsConverted, StandsNew, new_conversion, new_request}
use Rattle.vlm_model.specs.Stepped.{stepped}
use Rattle.vlm_model.proofs.OneLock.{any_of_one, none_of_none}
use Rattle.vlm_model.proofs.law_consequences.a_lock_stands_nowhere_else.Goals as goal

-- what the law says of the one resource
of_one : (old : State) (e : NewRequest) (cond : Cond) (lkid : ℕ) (r : Resource) → NewLocksStandAsAskedFor old
    → (stepped old (Enq e) None).answer ≡ Lock cond lkid → (stepped old (Enq e) None).state.resources ≡ r ∷ []
    → IsAskedFor old e r × StandsNew lkid e.pid (named_lkid old e.pid e.parent) (new_request old.next_request e) r
of_one old e cond lkid r law answered one =
    any_of_one (λ (r : Resource). IsAskedFor old e r
    × StandsNew lkid e.pid (named_lkid old e.pid e.parent) (new_request old.next_request e) r)
    (stepped old (Enq e) None).state.resources r one (law e None cond lkid refl answered)

-- the one granted lock is the row of the request
held_row : (lkid pid parent : ℕ) (request : Request) (r : Resource) (row : LockState) → IsHeldAlone row r → StandsNew lkid pid parent request r
    → IsRow lkid pid parent (Some request) None row
held_row lkid pid parent request r row alone (inl granted) =
    any_of_one (IsRow lkid pid parent (Some request) None) r.granted row alone.granted granted
held_row lkid pid parent request r row alone (inr waiting) =
    absurd (none_of_none (IsRow lkid pid parent None (Some request)) r.waiting alone.waiting waiting)

-- the one waiting lock is the row of the request
waiting_row : (lkid pid parent : ℕ) (request : Request) (r : Resource) (row : LockState) → WaitsAlone row r → StandsNew lkid pid parent request r
    → IsRow lkid pid parent None (Some request) row
waiting_row lkid pid parent request r row alone (inl granted) =
    absurd (none_of_none (IsRow lkid pid parent (Some request) None) r.granted alone.granted granted)
waiting_row lkid pid parent request r row alone (inr waiting) =
    any_of_one (IsRow lkid pid parent None (Some request)) r.waiting row alone.waiting waiting

pub returns-clause-granted : goal.returns-clause-granted
returns-clause-granted c = λ old e cond lkid r row law answered one alone.
    let at = of_one old e cond lkid r law answered one in
    let its = held_row lkid e.pid (named_lkid old e.pid e.parent) (new_request old.next_request e) r row alone at.1 in (
      at.0.name,
      its.lock,
      its.process,
      subst (IsOfNewLock old.next_request e) (sym its.holds) (record {
        numbered = refl;
        in_mode = refl;
        flagged = refl;
        for_block = refl;
        completes = refl;
        blocks = refl;
        with_param = refl;
      }),
    )

pub returns-clause-root : goal.returns-clause-root
returns-clause-root c = λ old e cond lkid r law answered one named flagged.
    let asked : IsAskedFor old e r = (of_one old e cond lkid r law answered one).0 in
    let no_parent : named_lkid old e.pid e.parent ≡ 0 = ap (named_lkid old e.pid) named in
    let root : StandsAsAskedFor old e asked.caller 0 r =
    subst (λ (lkid : ℕ). StandsAsAskedFor old e asked.caller lkid r) no_parent asked.stands in
    (root.0, subst (λ (flag : Bool). IsRootDomain flag asked.caller r.domain) flagged root.1)

pub returns-clause-group : goal.returns-clause-group
returns-clause-group c = λ old e cond lkid r caller law answered one named without lives.
    let asked : IsAskedFor old e r = (of_one old e cond lkid r law answered one).0 in
    let no_parent : named_lkid old e.pid e.parent ≡ 0 = ap (named_lkid old e.pid) named in
    let root : StandsAsAskedFor old e asked.caller 0 r =
    subst (λ (lkid : ℕ). StandsAsAskedFor old e asked.caller lkid r) no_parent asked.stands in
    let domain : IsRootDomain false asked.caller r.domain =
    subst (λ (flag : Bool). IsRootDomain flag asked.caller r.domain) without root.1 in
    let same : Some asked.caller ≡ Some caller = sym asked.lives ∙ lives in
    let is : asked.caller ≡ caller = cc in
    (root.0, domain ∙ ap (λ (p : Process). Group p.group) is)

pub returns-clause-sub_resource : goal.returns-clause-sub_resource
returns-clause-sub_resource c = λ old e cond lkid parent r up row law answered one named above alone.
    let at = of_one old e cond lkid r law answered one in
    let asked : IsAskedFor old e r = at.0 in
    let its = waiting_row lkid e.pid (named_lkid old e.pid e.parent) (new_request old.next_request e) r row alone at.1 in
    let its_parent : named_lkid old e.pid e.parent ≡ suc parent = ap (named_lkid old e.pid) named in
    let stands : StandsAsAskedFor old e asked.caller (suc parent) r =
    subst (λ (lkid : ℕ). StandsAsAskedFor old e asked.caller lkid r) its_parent asked.stands in
    let below = any_of_one (λ (up : Resource). StandsOn (suc parent) asked.caller.pid up × (r.parent ≡ up.serial)) old.resources up above stands in
    (below.1, its.above ∙ its_parent)

-- the one converting lock is the row of the conversion
converting_row : (was : LockState) (request : Request) (r : Resource) (row : LockState) → ConvertsAlone row r → StandsConverted was request r
    → IsRow was.lkid was.pid was.parent was.held (Some request) row
converting_row was request r row alone (inl granted) =
    absurd (none_of_none (IsRow was.lkid was.pid was.parent (Some request) None) r.granted alone.granted granted)
converting_row was request r row alone (inr converting) =
    any_of_one (IsRow was.lkid was.pid was.parent was.held (Some request)) r.converting row alone.converting converting

pub returns-clause-converted : goal.returns-clause-converted
returns-clause-converted c = λ old c' cond lkid before r was row law answered first alone second converts.
    let new = (stepped old (Convert c') None).state.resources in
    let request : Request = new_conversion old.next_request c' in
    let there =
    any_of_one (λ (before : Resource). Any (λ (was : LockState). (was.lkid ≡ lkid) × (was.pid ≡ c'.pid)
    × Any (λ (r : Resource). IsSameResource before r × StandsConverted was request r) new) before.granted)
    old.resources before first (law c' None cond lkid refl answered) in
    let here =
    any_of_one (λ (was : LockState). (was.lkid ≡ lkid) × (was.pid ≡ c'.pid)
    × Any (λ (r : Resource). IsSameResource before r × StandsConverted was request r) new) before.granted was alone.granted there in
    let at = any_of_one (λ (r : Resource). IsSameResource before r × StandsConverted was request r) new r second here.2 in
    let its = converting_row was request r row converts at.1 in (
      at.0.serial,
      here.0,
      here.1,
      its.lock ∙ here.0,
      its.holds,
      subst (IsOfConversion old.next_request c') (sym its.wants) (record {
        numbered = refl;
        in_mode = refl;
        flagged = refl;
        for_block = refl;
        completes = refl;
        blocks = refl;
        with_param = refl;
      }),
    )
