use Rattle.std.proofs.Common.{◌≡◌, ℕ, refl, subst, sym}
use Rattle.slab.specs.Slab.{get}
use Rattle.vlm_collections.specs.Lists.{IsIn, IsLinked, Lists, handles_of, without}
use Rattle.vlm_records.specs.Armed.{armed_links, list_of, with_list}
use Rattle.vlm_records.proofs.resources.Resource.unlink_armed.Goals as goal

-- the locks above NL

pub unlink-requires : goal.unlink-requires
unlink-requires c = subst (λ w. Lists (armed_links w) c.args.locks.now (list_of w c.args.self.now) c.args.at) c.in-AboveNl.is c.requires

pub returns-in-AboveNl-clause-linked : goal.returns-in-AboveNl-clause-linked
returns-in-AboveNl-clause-linked c =
    subst (λ w. IsLinked (armed_links w) c.unlink.new.nodes
    (list_of w (record c.args.self.now { armed_above_nl = c.unlink.new.self })))
    (sym c.in-AboveNl.is) c.unlink.ensures.linked

pub returns-in-AboveNl-clause-handles : goal.returns-in-AboveNl-clause-handles
returns-in-AboveNl-clause-handles c =
    subst (λ w. handles_of (armed_links w) c.unlink.new.nodes
    (list_of w (record c.args.self.now { armed_above_nl = c.unlink.new.self })) ≡ without c.args.at
    (handles_of (armed_links w) c.args.locks.now (list_of w c.args.self.now)))
    (sym c.in-AboveNl.is) c.unlink.ensures.handles

pub returns-in-AboveNl-clause-others : goal.returns-in-AboveNl-clause-others
returns-in-AboveNl-clause-others c =
    subst (λ w. (other : ℕ) → ¬ IsIn other (handles_of (armed_links w) c.args.locks.now (list_of w c.args.self.now))
    → get c.unlink.new.nodes other ≡ get c.args.locks.now other) (sym c.in-AboveNl.is) c.unlink.ensures.others

pub returns-in-AboveNl-clause-rest : goal.returns-in-AboveNl-clause-rest
returns-in-AboveNl-clause-rest c =
    subst (λ w. record c.args.self.now { armed_above_nl = c.unlink.new.self } ≡ with_list w
    (list_of w (record c.args.self.now { armed_above_nl = c.unlink.new.self })) c.args.self.now)
    (sym c.in-AboveNl.is) refl

-- the locks above CR

pub unlink-requires-in-AboveCr : goal.unlink-requires-in-AboveCr
unlink-requires-in-AboveCr c = subst (λ w. Lists (armed_links w) c.args.locks.now (list_of w c.args.self.now) c.args.at) c.in-AboveCr.is c.requires

pub returns-in-AboveCr-clause-linked : goal.returns-in-AboveCr-clause-linked
returns-in-AboveCr-clause-linked c =
    subst (λ w. IsLinked (armed_links w) c.unlink-in-AboveCr.new.nodes
    (list_of w (record c.args.self.now { armed_above_cr = c.unlink-in-AboveCr.new.self })))
    (sym c.in-AboveCr.is) c.unlink-in-AboveCr.ensures.linked

pub returns-in-AboveCr-clause-handles : goal.returns-in-AboveCr-clause-handles
returns-in-AboveCr-clause-handles c =
    subst (λ w. handles_of (armed_links w) c.unlink-in-AboveCr.new.nodes
    (list_of w (record c.args.self.now { armed_above_cr = c.unlink-in-AboveCr.new.self })) ≡ without c.args.at
    (handles_of (armed_links w) c.args.locks.now (list_of w c.args.self.now)))
    (sym c.in-AboveCr.is) c.unlink-in-AboveCr.ensures.handles

pub returns-in-AboveCr-clause-others : goal.returns-in-AboveCr-clause-others
returns-in-AboveCr-clause-others c =
    subst (λ w. (other : ℕ) → ¬ IsIn other (handles_of (armed_links w) c.args.locks.now (list_of w c.args.self.now))
    → get c.unlink-in-AboveCr.new.nodes other ≡ get c.args.locks.now other)
    (sym c.in-AboveCr.is) c.unlink-in-AboveCr.ensures.others

pub returns-in-AboveCr-clause-rest : goal.returns-in-AboveCr-clause-rest
returns-in-AboveCr-clause-rest c =
    subst (λ w. record c.args.self.now { armed_above_cr = c.unlink-in-AboveCr.new.self } ≡ with_list w
    (list_of w (record c.args.self.now { armed_above_cr = c.unlink-in-AboveCr.new.self })) c.args.self.now)
    (sym c.in-AboveCr.is) refl
