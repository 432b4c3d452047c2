use Rattle.std.proofs.Common.{◌≡◌, ◌≢◌, ◌++◌, ◌∷◌, [], ℕ, refl, subst, sym}
use Rattle.slab.specs.Slab.{get}
use Rattle.vlm_collections.specs.Lists.{IsIn, IsLinked, handles_of}
use Rattle.vlm_records.specs.Armed.{armed_links, list_of, with_list}
use Rattle.vlm_records.proofs.resources.Resource.push_back_armed.Goals as goal

-- the locks above NL

pub push_back-requires-clause-linked : goal.push_back-requires-clause-linked
push_back-requires-clause-linked c = subst (λ w. IsLinked (armed_links w) c.args.locks.now (list_of w c.args.self.now)) c.in-AboveNl.is c.requires.linked

pub push_back-requires-clause-unlisted : goal.push_back-requires-clause-unlisted
push_back-requires-clause-unlisted c =
    subst (λ w. ¬ IsIn c.args.at
    (handles_of (armed_links w) c.args.locks.now (list_of w c.args.self.now))) c.in-AboveNl.is c.requires.unlisted

pub returns-in-AboveNl-clause-linked : goal.returns-in-AboveNl-clause-linked
returns-in-AboveNl-clause-linked c =
    subst (λ w. IsLinked (armed_links w) c.push_back.new.nodes
    (list_of w (record c.args.self.now { armed_above_nl = c.push_back.new.self })))
    (sym c.in-AboveNl.is) c.push_back.ensures.linked

pub returns-in-AboveNl-clause-handles : goal.returns-in-AboveNl-clause-handles
returns-in-AboveNl-clause-handles c =
    subst (λ w. handles_of (armed_links w) c.push_back.new.nodes
    (list_of w (record c.args.self.now { armed_above_nl = c.push_back.new.self })) ≡ handles_of
    (armed_links w) c.args.locks.now (list_of w c.args.self.now) ++ c.args.at ∷ [])
    (sym c.in-AboveNl.is) c.push_back.ensures.handles

pub returns-in-AboveNl-clause-others : goal.returns-in-AboveNl-clause-others
returns-in-AboveNl-clause-others c =
    subst (λ w. (other : ℕ) → ¬ IsIn other (handles_of (armed_links w) c.args.locks.now (list_of w c.args.self.now))
    → other ≢ c.args.at → get c.push_back.new.nodes other ≡ get c.args.locks.now other)
    (sym c.in-AboveNl.is) c.push_back.ensures.others

pub returns-in-AboveNl-clause-rest : goal.returns-in-AboveNl-clause-rest
returns-in-AboveNl-clause-rest c =
    subst (λ w. record c.args.self.now { armed_above_nl = c.push_back.new.self } ≡ with_list w
    (list_of w (record c.args.self.now { armed_above_nl = c.push_back.new.self })) c.args.self.now)
    (sym c.in-AboveNl.is) refl

-- the locks above CR

pub push_back-requires-in-AboveCr-clause-linked : goal.push_back-requires-in-AboveCr-clause-linked
push_back-requires-in-AboveCr-clause-linked c =
    subst (λ w. IsLinked (armed_links w) c.args.locks.now (list_of w c.args.self.now)) c.in-AboveCr.is c.requires.linked

pub push_back-requires-in-AboveCr-clause-unlisted : goal.push_back-requires-in-AboveCr-clause-unlisted
push_back-requires-in-AboveCr-clause-unlisted c =
    subst (λ w. ¬ IsIn c.args.at
    (handles_of (armed_links w) c.args.locks.now (list_of w c.args.self.now))) c.in-AboveCr.is c.requires.unlisted

pub returns-in-AboveCr-clause-linked : goal.returns-in-AboveCr-clause-linked
returns-in-AboveCr-clause-linked c =
    subst (λ w. IsLinked (armed_links w) c.push_back-in-AboveCr.new.nodes
    (list_of w (record c.args.self.now { armed_above_cr = c.push_back-in-AboveCr.new.self })))
    (sym c.in-AboveCr.is) c.push_back-in-AboveCr.ensures.linked

pub returns-in-AboveCr-clause-handles : goal.returns-in-AboveCr-clause-handles
returns-in-AboveCr-clause-handles c =
    subst (λ w. handles_of (armed_links w) c.push_back-in-AboveCr.new.nodes
    (list_of w (record c.args.self.now { armed_above_cr = c.push_back-in-AboveCr.new.self })) ≡ handles_of
    (armed_links w) c.args.locks.now (list_of w c.args.self.now) ++ c.args.at ∷ [])
    (sym c.in-AboveCr.is) c.push_back-in-AboveCr.ensures.handles

pub returns-in-AboveCr-clause-others : goal.returns-in-AboveCr-clause-others
returns-in-AboveCr-clause-others c =
    subst (λ w. (other : ℕ) → ¬ IsIn other (handles_of (armed_links w) c.args.locks.now (list_of w c.args.self.now))
    → other ≢ c.args.at → get c.push_back-in-AboveCr.new.nodes other ≡ get c.args.locks.now other)
    (sym c.in-AboveCr.is) c.push_back-in-AboveCr.ensures.others

pub returns-in-AboveCr-clause-rest : goal.returns-in-AboveCr-clause-rest
returns-in-AboveCr-clause-rest c =
    subst (λ w. record c.args.self.now { armed_above_cr = c.push_back-in-AboveCr.new.self } ≡ with_list w
    (list_of w (record c.args.self.now { armed_above_cr = c.push_back-in-AboveCr.new.self })) c.args.self.now)
    (sym c.in-AboveCr.is) refl
