use Rattle.std.proofs.Common.{◌≡◌, refl, sym, ap, ◌∙◌, subst, find, unwrap_or}
use Rattle.vlm_words.specs.declared.resources.Site.{Site}
use Rattle.vlm_model.specs.Enqueue.{enq_request, enq_resource, enq_row, is_at_once}
use Rattle.vlm_words.specs.Flags.{flag_bits}
use Rattle.vlm_words.specs.Resources.{is_at, new_resource}
use Rattle.vlm_words.specs.State.{Resource}
use Rattle.vlm_model.specs.Trees.{enq_site, parent_resource, root_domain, site_below}
use Rattle.vlm_store.specs.Plain.{plain_resources}
use Rattle.vlm_store.specs.Records.{IsParentOf, IsProcess}
use Rattle.vlm_machine.specs.Admissions.{IsAskedBy}
use Rattle.vlm_machine.specs.Machine.{MachineState, kept, plain_state}
use Rattle.vlm_machine.proofs.ParentLocks.{parent_of_row, site_is}
use Rattle.vlm_machine.proofs.records.Machine.looked_up.Goals as goal

pub returns : goal.returns
unfolding enq_resource
returns c =
    let e = c.args.request.now in
    let m = kept c.self.inside in
    let site = c.site_of-site.result in
    let said = subst (λ (k : MachineState). IsAskedBy k e c.args.caller.now c.args.form.now c.args.parent.now) (sym c.self.view_is) c.requires.asked in
    let form = said.says in
    let found : Site → Resource = λ x. unwrap_or (find (is_at x.key) (plain_resources c.self.inside.store)) (new_resource m.next_serial x) in
    let site_told = subst
    (λ (k : MachineState). site ≡ site_below (root_domain (plain_state k) c.args.caller.now.pid (flag_bits c.args.form.now.flags)) e.name
    (parent_resource (plain_state k) c.args.caller.now.pid c.args.form.now.parent)) (sym c.self.view_is) c.site_of-site.ensures.site in
    let site_same : site ≡ enq_site (plain_state m) e = site_told
    ∙ site_is (plain_state m) e c.args.form.now c.args.caller.now.pid c.args.form.now.parent form said.pid refl in
    let flags : c.args.form.now.flags ≡ (enq_request (plain_state m) e).flags = ap (λ bits. record { 0 = bits }) form.flags in
    rw (← c.self.view_is)
    (record {
      owner = subst (λ pid. IsProcess c.args.caller.now.at pid c.self.inside.store) said.pid said.living.lives;
      flags = form.flags;
      parent_lkid = form.parent;
      parent = subst (λ up. IsParentOf up (enq_row (plain_state m) e) c.self.inside.store) (sym c.lock_of.ensures)
          (parent_of_row c.self.inside.store c.args.caller.now.pid c.args.form.now.parent c.args.parent.now said.stands
          (enq_row (plain_state m) e) (sym form.parent));
      site = site_same;
      keyed = c.site_of-site.ensures.keyed;
      hash = c.look_up.ensures.hash;
      found = c.look_up.ensures.found;
      at_once =
          c.look_up.ensures.at_once (enq_request (plain_state m) e) m.next_serial site (sym flags) refl refl c.site_of-site.ensures.keyed
          ∙ ap (λ x. is_at_once (enq_request (plain_state m) e) (found x)) site_same;
      lkid = rw (← c.self.view_is) at c.requires.lkid;
      number = rw (← c.self.view_is) at c.requires.number;
    })
