-- The law that a warning calls what a granted request named.
use Rattle.std.specs.Prelude.{◌≡◌, List, All, Any, Some}
use Rattle.vlm_words.specs.declared.asts.AstKind.TheVariants.{Blocking}
use Rattle.vlm_model.specs.Endings.{Ending}
use Rattle.vlm_model.specs.Asts.{Queued}
use Rattle.vlm_model.specs.Laws.{IsGrant}

-- the ending is a grant to the lock of this AST, and its request names this routine as its blocking routine, with
-- this parameter
pub record NamesTheRoutine (q : Queued) (ending : Ending) : Type 0 where
  pub grants : IsGrant ending.how
  pub process : ending.pid ≡ q.pid
  pub lock : ending.lkid ≡ q.ast.lkid
  pub routine : ending.request.blocking ≡ Some q.ast.routine
  pub param : ending.request.param ≡ q.ast.param

-- if the queued AST is a blocking AST, one of the grants names its routine
abbrev pub IsNamedByGrant : List Ending → Queued → Type 0
IsNamedByGrant endings q = q.ast.kind ≡ Blocking → Any (NamesTheRoutine q) endings

-- each queued blocking AST calls a routine that a granted request named
abbrev pub WarningsAreOfGrants : List Ending → List Queued → Type 0
WarningsAreOfGrants endings queued = All (IsNamedByGrant endings) queued
