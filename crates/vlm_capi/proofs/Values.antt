-- The machine values of a `Slot`.
use Rattle.std.proofs.Common.{◌≡◌, ℕ, List, [], ◌∷◌, ◌++◌, refl, subst}
use mathlib.Core.Bool.{Bool, true, false, ◌&&◌}
use seplogic.Ra.Ura.{Ura}
use mir.Raw.{raw as bare}
use mir.Val.{Val, vstruct, vcons, vnil, of_list}
use base.Logic.{never, fst∗}
use types.Logic.{Logic, sem}
use types.Kit.{Item, Goal, Seq, Step, step, ‵, ◌$◌, drop, fsplit, fjoin, fpick, fpack, rewrite, feq_i, feq_l}
use denote.RattleType.{RattleType, Valss}
use denote.Builtin.{RawPtr}
use denote.Memory.{lone}
use denote.RawPtr.{Ptr, block_ptr, null_ptr, ptr_val, in_a_block}
use denote.Steps.{nothing}
use denote.Param.{layout}
use denote.Struct.Struct.{within}
use denote.Struct.Owning.{shape}
use Rattle.core.proofs.cell.Inside.{Good}
use Rattle.std_alloc.specs.Box.Ownership.{box_owns}
use Rattle.std.specs.Prelude.{Option, Some, None}
use Rattle.vlm_capi.proofs.LooseValues.{ptr_typed}
use Rattle.std.specs.contracts.alloc.Global as heap
use Rattle.vlm_capi.specs.declared.held.Held.{Held}
use Rattle.vlm_capi.specs.contracts.held.Held as held_
use Rattle.vlm_capi.specs.Slots.{holds, slot_owns}
use Rattle.vlm_capi.specs.contracts.slot.Slot as slot

abbrev pub C : RattleType
C = held_.the_row

abbrev pub Z : RattleType
Z = heap.the_row

abbrev pub Slot : RattleType
Slot = slot.the_row

-- what stands in an option that is some
pub some_of : (o : Option Held) → Rattle.std.specs.Option.is_some o ≡ true → (x : Held) × (o ≡ Some x)
some_of (Some x) e = (x, refl)
some_of None e = absurd (mathlib.Core.Bool.false≢true e)

abbrev pub slot_val : Ptr → Val
slot_val p = vstruct (vcons (ptr_val p) vnil)

pub slot_good : (p : Ptr) → Good (layout Slot) (slot_val p)
slot_good (block_ptr b o) = (tt, (tt, tt))
slot_good null_ptr = (tt, ((ptr_typed null_ptr).1, tt))

module _ {M : Type 1} {𝓤 : Ura M} {𝓛 : Logic 𝓤} {K : Type 0} {Γ : List (Item 𝓤)} {G : Goal 𝓤 𝓛.H} where
  pub slot_in : K → (p : Ptr) (x : Option Held)
      → Step K 𝓛 (‵ (Slot.own_val (record { at = p; held = x }) (slot_val p ∷ [])) ∷ Γ) G (‵ (slot_owns p x) ∷ Γ) G
  slot_in t p x = step (λ s. let v : Val = slot_val p in
      nothing t $ feq_i t (List Val) (ptr_val p ∷ []) (ptr_val p ∷ []) refl $ fjoin t $ feq_i t (List Val) (v ∷ []) (v ∷ []) refl $ fjoin t $
      fpack t (Valss (RawPtr ∷ [])) (within (shape slot.the_type) (p, tt) (v ∷ [])) (ptr_val p ∷ [], tt) $ fjoin t $ s)

  pub slot_out : K → (d : Slot.Denot) (x : Held) → d.held ≡ Some x → (vs : List Val)
      → ((b o : ℕ) → d.at ≡ block_ptr b o → vs ≡ slot_val (block_ptr b o) ∷ [] → Seq K 𝓛 (‵ (box_owns holds C (block_ptr b o) x) ∷ Γ) G)
      → Seq K 𝓛 (‵ (Slot.own_val d vs) ∷ Γ) G
  slot_out t d x full vs k =
      fsplit t $ fpick t (λ vss. fsplit t $ feq_l t (λ ev. fsplit t $ feq_l t (λ ep. drop t $
      rewrite t 0 (λ (c : Option Held). ‵ (slot_owns d.at c)) full refl $
      in_a_block t d.at (λ p. box_owns holds C p x) (fst∗ 𝓤 (never 𝓤) (sem 𝓛 (holds (bare (lone C.mir)) null_ptr))) (λ b o e. k b o e
      (subst (λ (p : Ptr). vs ≡ slot_val p ∷ []) e
      (subst (λ (ps : List Val). vs ≡ vstruct (of_list (ps ++ [])) ∷ []) ep ev))))))
