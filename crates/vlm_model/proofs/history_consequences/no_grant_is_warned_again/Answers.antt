use Rattle.std.proofs.Common.{◌≡◌, true, refl, sym, arith}
use Rattle.std.proofs.lemmas.Bool.{eq-eqb}
use Rattle.std.proofs.lemmas.Bool.Decides.{nat_tests}
use Rattle.vlm_model.specs.WarnedOnce.{armed_rows_of, is_armed_lock}
use Rattle.vlm_model.proofs.ShortHistories.{counted, term_of, warns_own}
use Rattle.vlm_model.proofs.history_consequences.no_grant_is_warned_again.Goals as goal

pub returns-clause-twice : goal.returns-clause-twice
returns-clause-twice c = λ ending q again last law kind again_kind one.
    grind (arith, law q.ast.lkid, warns_own q q.ast.lkid kind refl, warns_own again q.ast.lkid again_kind (sym one))

pub returns-clause-unnamed : goal.returns-clause-unnamed
returns-clause-unnamed c = λ ending q last law kind unnamed.
    grind (arith, law q.ast.lkid, warns_own q q.ast.lkid kind refl)

pub returns-clause-ungranted : goal.returns-clause-ungranted
returns-clause-ungranted c = λ ending q last law kind how.
    grind (arith, law q.ast.lkid, warns_own q q.ast.lkid kind refl)

pub returns-clause-anothers : goal.returns-clause-anothers
returns-clause-anothers c = λ ending q last law kind differ.
    grind (arith, nat_tests, law q.ast.lkid, warns_own q q.ast.lkid kind refl)

pub returns-clause-armed : goal.returns-clause-armed
returns-clause-armed c = λ ending q last r row law kind in_s in_granted lock armed.
    let own : is_armed_lock q.ast.lkid row ≡ true = rw (lock, eq-eqb q.ast.lkid q.ast.lkid refl, armed) in
    grind (
      arith,
      law q.ast.lkid,
      warns_own q q.ast.lkid kind refl,
      term_of (armed_rows_of q.ast.lkid) last.resources r in_s,
      counted (is_armed_lock q.ast.lkid) r.granted row in_granted own,
    )
