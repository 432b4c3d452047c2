use Rattle.std.proofs.Common.{◌≡◌, subst, sym}
use Rattle.vlm_collections.specs.Lists.{IsLinked, first_handle, handles_of}
use Rattle.vlm_records.specs.Armed.{armed_links, list_of}
use Rattle.vlm_records.proofs.resources.Resource.first_armed.Goals as goal

-- the locks above NL

pub first-requires : goal.first-requires
first-requires c = subst (λ w. IsLinked (armed_links w) c.args.locks.now (list_of w c.args.self.now)) c.in-AboveNl.is c.requires

pub returns-in-AboveNl : goal.returns-in-AboveNl
returns-in-AboveNl c =
    subst (λ w. c.first.result ≡ first_handle (handles_of (armed_links w) c.args.locks.now (list_of w c.args.self.now))) (sym c.in-AboveNl.is) c.first.ensures

-- the locks above CR

pub first-requires-in-AboveCr : goal.first-requires-in-AboveCr
first-requires-in-AboveCr c = subst (λ w. IsLinked (armed_links w) c.args.locks.now (list_of w c.args.self.now)) c.in-AboveCr.is c.requires

pub returns-in-AboveCr : goal.returns-in-AboveCr
returns-in-AboveCr c =
    subst (λ w. c.first-in-AboveCr.result ≡ first_handle
    (handles_of (armed_links w) c.args.locks.now (list_of w c.args.self.now)))
    (sym c.in-AboveCr.is) c.first-in-AboveCr.ensures
