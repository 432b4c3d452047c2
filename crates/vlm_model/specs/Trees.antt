-- The place of a new request's resource in the tree, and its checks.
use Rattle.std.specs.Prelude.{ℕ, Bool, List, false, not, ◌&&◌, ◌==◌, ◌+◌, Option, None, Some, nat_lt, find, if◌then◌else◌}
use Rattle.std.specs.Option.{option_map_or}
use Rattle.std.specs.List.{list_any}
use Rattle.vlm_words.specs.declared.conditions.Cond.TheVariants.{Exdepth, Nosyslck, Parnotgrant}
use Rattle.vlm_words.specs.declared.conditions.Cond.{Cond}
use Rattle.vlm_words.specs.declared.resources.Domain.TheVariants.{Group, System}
use Rattle.vlm_words.specs.declared.resources.Domain.{Domain}
use Rattle.vlm_words.specs.declared.resources.Key.TheVariants.{Root, Below}
use Rattle.vlm_words.specs.declared.resources.Site.{Site}
use Rattle.vlm_words.specs.declared.steps.NewRequest.{NewRequest}
use Rattle.vlm_words.specs.Flags.{has_flag, system}
use Rattle.vlm_words.specs.State.{Resource, State, process_of}
use Rattle.vlm_words.specs.Rows.{is_lock_of}
use Rattle.vlm_model.specs.Checks.{holds_lock, lock_refusal, named_lkid, or_else}

-- the named parent lock, or 0
abbrev pub parent_lkid : State → NewRequest → ℕ
parent_lkid s e = named_lkid s e.pid e.parent

-- the resource of the parent lock, if a parent lock is named
unfoldable pub parent_resource : State → ℕ → ℕ → Option Resource
parent_resource s pid lkid = if lkid == 0 then None else find (holds_lock pid lkid) s.resources

-- the caller's UIC group
abbrev pub caller_group : State → ℕ → ℕ
caller_group s pid = option_map_or (λ p. p.group) (process_of s.processes pid) 0

-- the domain of a root: the system's with SYSTEM, else the caller's group
abbrev pub root_domain : State → ℕ → ℕ → Domain
root_domain s pid flags = if has_flag flags system then System else Group (caller_group s pid)

-- a sub-resource: in the parent's domain, one level lower; without a parent a root in this domain
abbrev pub site_below : Domain → List ℕ → Option Resource → Site
site_below domain name None = record { key = Root domain name; domain = domain; level = 0 }
site_below domain name (Some parent) = record {
  key = Below parent.serial name;
  domain = parent.domain;
  level = parent.level + 1;
}

-- the site of the resource
abbrev pub enq_site : State → NewRequest → Site
enq_site s e =
    site_below (root_domain s e.pid e.flags) e.name (parent_resource s e.pid (parent_lkid s e))

-- PARNOTGRANT if the parent lock waits; a converting lock counts as granted
unfoldable pub waiting_refusal : ℕ → ℕ → Option Resource → Option Cond
waiting_refusal pid lkid None = None
waiting_refusal pid lkid (Some parent) =
    if list_any (is_lock_of pid lkid) parent.waiting then Some Parnotgrant else None

-- EXDEPTH if the parent lock's resource is on the lowest level
unfoldable pub depth_refusal : Option Resource → Option Cond
depth_refusal None = None
depth_refusal (Some parent) = if nat_lt parent.level 15 then None else Some Exdepth

-- the refusals of a named parent lock: IVLOCKID, PARNOTGRANT, EXDEPTH
unfoldable pub parent_refusal : State → ℕ → ℕ → Option Cond
parent_refusal s pid lkid =
    if lkid == 0 then None
    else or_else (lock_refusal s pid lkid)
    (or_else (waiting_refusal pid lkid (parent_resource s pid lkid))
    (depth_refusal (parent_resource s pid lkid)))

-- the process has the privilege SYSLCK
abbrev pub has_syslck : State → ℕ → Bool
has_syslck s pid = option_map_or (λ p. p.syslck) (process_of s.processes pid) false

-- NOSYSLCK for a root with SYSTEM, if the caller lacks the privilege
unfoldable pub privilege_refusal : State → ℕ → ℕ → ℕ → Option Cond
privilege_refusal s pid flags parent =
    if (parent == 0) && has_flag flags system && not (has_syslck s pid) then Some Nosyslck else None

-- the refusals of the site, in their order
unfoldable pub site_refusal : State → ℕ → ℕ → ℕ → Option Cond
site_refusal s pid flags parent =
    or_else (parent_refusal s pid parent) (privilege_refusal s pid flags parent)
