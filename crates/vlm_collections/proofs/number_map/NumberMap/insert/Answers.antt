use Rattle.std.proofs.Common.{◌≡◌, ◌∙◌, ◌<◌, ◌≤◌, ℕ, Bool, true, false, not, List, Some, Result, Ok, Err, OnErr, ap, arith, nat_eq, refl, sym}
use Rattle.std.specs.List.{list_any}
use Rattle.std.specs.Map.{lookup}
use Rattle.std.proofs.lemmas.Bool.{OnFalse_from, OnTrue_from}
use Rattle.indexmap.specs.IndexMap.{spare}
use Rattle.vlm_collections.specs.NumberMaps.{WritesOne, handles_by_number, is_same_number, pairs}
use Rattle.vlm_collections.specs.declared.number_map.Numbered.{Numbered}
use Rattle.vlm_collections.proofs.NumberMaps.{none_found_if_absent, pushed_here, pushed_other}
use Rattle.vlm_collections.proofs.number_map.NumberMap.insert.Given.{Over}
use Rattle.vlm_collections.proofs.number_map.NumberMap.insert.Goals as goal

not_twice : (b : Bool) → not (not b) ≡ b
not_twice true = refl
not_twice false = refl

-- where there was no room there is no less
none_less : {T E : Type 0} (r : Result T E) (old new : ℕ) → ¬ (0 < old) → OnErr r (old ≤ new)
none_less (Ok x) old new none = tt
none_less (Err e) old new none = omega (arith, none)

abbrev numbered : {g : Over} → goal.In_ok-is_new g → Numbered g.row.Kind.Denot
numbered c = record { number = c.args.number; at = c.args.at; kind = record {} }

abbrev old_keys : {g : Over} → goal.In_ok-is_new g → List (Numbered g.row.Kind.Denot)
old_keys c = c.self.inside.numbered.keys

pub returns-clause-is_new : goal.returns-clause-is_new
returns-clause-is_new g c =
    rw (← c.self.view_is) (c.in_ok-is_new.ensures.added ∙ none_found_if_absent (numbered c) (old_keys c))

pub returns-clause-writes : goal.returns-clause-writes
returns-clause-writes g c = OnTrue_from c.in_ok-is_new.is_new _ is_written
  where
    is_written : c.in_ok-is_new.is_new ≡ true → WritesOne c.args.number (Some c.args.at) c.args.self.now (handles_by_number c.insert.new.self)
    is_written added =
        let k = numbered c in
        let ks = old_keys c in
        let absent : list_any (is_same_number k) ks ≡ false =
        sym (not_twice (list_any (is_same_number k) ks)) ∙ ap not (sym c.in_ok-is_new.ensures.added ∙ added) in
        let keys = rw absent at c.in_ok-is_new.ensures.keys in
        let writes : WritesOne c.args.number (Some c.args.at) (handles_by_number c.self.inside.numbered) (handles_by_number c.insert.new.self) = record {
          this = ap (λ l. lookup (nat_eq c.args.number) (pairs l)) keys ∙ pushed_here k ks absent;
          others = λ other differs. ap (λ l. lookup (nat_eq other) (pairs l)) keys ∙ pushed_other k other differs ks;
        } in
        rw (← c.self.view_is) writes

pub returns-clause-same : goal.returns-clause-same
returns-clause-same g c = OnFalse_from c.in_ok-is_new.is_new _ is_same
  where
    is_same : c.in_ok-is_new.is_new ≡ false → pairs c.insert.new.self.keys ≡ c.args.self.now.entries
    is_same added =
        let k = numbered c in
        let ks = old_keys c in
        let present : list_any (is_same_number k) ks ≡ true =
        sym (not_twice (list_any (is_same_number k) ks)) ∙ ap not (sym c.in_ok-is_new.ensures.added ∙ added) in
        rw (← c.self.view_is) (ap pairs (rw present at c.in_ok-is_new.ensures.keys))

pub returns-in_err-is_new-clause-kept : goal.returns-in_err-is_new-clause-kept
returns-in_err-is_new-clause-kept g c =
    none_less c.from_residual.result (spare c.args.self.now) _
    (λ room. let never = c.in_err-is_new.ensures.succeeds (rw (← c.self.view_is) at room) in cc)
