use Rattle.std.proofs.Common.{◌≡◌, subst, sym}
use Rattle.vlm_collections.specs.Lists.{Lists, handle_after, handles_of}
use Rattle.vlm_records.specs.Armed.{armed_links, list_of}
use Rattle.vlm_records.proofs.resources.Resource.next_armed.Goals as goal

-- the locks above NL

pub next-requires : goal.next-requires
next-requires c = subst (λ w. Lists (armed_links w) c.args.locks.now (list_of w c.args.self.now) c.args.at) c.in-AboveNl.is c.requires

pub returns-in-AboveNl : goal.returns-in-AboveNl
returns-in-AboveNl c =
    subst (λ w. c.next.result ≡ handle_after c.args.at
    (handles_of (armed_links w) c.args.locks.now (list_of w c.args.self.now))) (sym c.in-AboveNl.is) c.next.ensures

-- the locks above CR

pub next-requires-in-AboveCr : goal.next-requires-in-AboveCr
next-requires-in-AboveCr c = subst (λ w. Lists (armed_links w) c.args.locks.now (list_of w c.args.self.now) c.args.at) c.in-AboveCr.is c.requires

pub returns-in-AboveCr : goal.returns-in-AboveCr
returns-in-AboveCr c =
    subst (λ w. c.next-in-AboveCr.result ≡ handle_after c.args.at
    (handles_of (armed_links w) c.args.locks.now (list_of w c.args.self.now)))
    (sym c.in-AboveCr.is) c.next-in-AboveCr.ensures
