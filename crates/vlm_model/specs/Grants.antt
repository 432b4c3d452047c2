-- How queued requests are granted: what fits, a grant, the service of a resource.
use Rattle.std.specs.Prelude.{Bool, false, List, [], ◌∷◌, ◌++◌, Option, None, Some, if◌then◌else◌}
use Rattle.vlm_words.specs.declared.locks.Request.{Request}
use Rattle.vlm_words.specs.declared.locks.LockState.{LockState}
use Rattle.vlm_words.specs.declared.modes.Act.TheVariants.{Nothing, Return}
use Rattle.vlm_words.specs.declared.modes.Act.{Act}
use Rattle.vlm_words.specs.declared.modes.Mode.{Mode}
use Rattle.vlm_words.specs.Modes.{value_action}
use Rattle.vlm_words.specs.Flags.{flag_bits, has_flag, valblk}
use Rattle.vlm_words.specs.State.{Resource}
use Rattle.vlm_model.specs.Endings.{Ending, row_endings}
use Rattle.vlm_model.specs.Endings.How.{by_grant}
use Rattle.vlm_words.specs.Rows.{fits, granted_row, is_empty}

-- the wanted request fits beside these rows; false if nothing is wanted
abbrev pub wanted_fits : Option Request → List LockState → List LockState → Bool
wanted_fits None granted converting = false
wanted_fits (Some request) granted converting = fits request.mode granted converting

-- a grant: the row goes to the end of the granted queue
abbrev pub resource_after_grant : Resource → LockState → Resource
resource_after_grant r row = record r { granted = r.granted ++ granted_row row ∷ [] }

-- what VALBLK does at a grant: a new request returns the value block, a conversion goes by the table
abbrev pub valblk_act : Option Request → Mode → Act
valblk_act None mode = Return
valblk_act (Some held) mode = value_action held.mode mode

-- what a grant does with the value block, by what the lock held before; nothing without VALBLK
unfoldable pub grant_act : Option Request → Option Request → Act
grant_act held None = Nothing
grant_act held (Some want) =
    if has_flag (flag_bits want.flags) valblk then valblk_act held want.mode else Nothing

-- the ending that a grant brings
abbrev pub grant_endings : Bool → LockState → List Ending
grant_endings at_once row = row_endings (by_grant (grant_act row.held row.want)) at_once row

-- the result of a service: the resource, and the endings of the granted requests
pub record Service : Type 0 where
  pub resource : Resource
  pub endings : List Ending

-- nothing is granted
abbrev pub no_service : Resource → Service
no_service r = record { resource = r; endings = [] }

-- one grant, and then more of the service
abbrev pub service_after_grant : LockState → Service → Service
service_after_grant row more = record more { endings = grant_endings false row ++ more.endings }

-- grants the first conversion as long as it fits
abbrev pub service_of_conversions : Resource → List LockState → Service
service_of_conversions r [] = no_service r
service_of_conversions r (row ∷ rows) =
    if wanted_fits row.want r.granted rows
    then service_after_grant row
    (service_of_conversions (record (resource_after_grant r row) { converting = rows }) rows)
    else no_service r

-- grants the first waiting request as long as it fits
abbrev pub service_of_waiting : Resource → List LockState → Service
service_of_waiting r [] = no_service r
service_of_waiting r (row ∷ rows) =
    if wanted_fits row.want r.granted r.converting
    then service_after_grant row
    (service_of_waiting (record (resource_after_grant r row) { waiting = rows }) rows)
    else no_service r

-- serves the waiting queue, if no conversion is queued
abbrev pub service_of_new_requests : Resource → Service
service_of_new_requests r =
    if is_empty r.converting then service_of_waiting r r.waiting else no_service r

-- two services, one after the other
abbrev pub service_then : Service → Service → Service
service_then first later = record later { endings = first.endings ++ later.endings }

-- conversions first, then waiting requests; each queue up to the first that does not fit
unfoldable pub service : Resource → Service
service r =
    let conversions = service_of_conversions r r.converting
    in service_then conversions (service_of_new_requests conversions.resource)
