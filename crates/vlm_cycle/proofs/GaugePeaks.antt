-- What a gauge has counted of the locks that hold a mode.
use Rattle.std.proofs.Common.{◌≡◌, ◌⊎◌, ℕ, zero, suc, ◌<◌, ◌≤◌, false, List, [], ◌∷◌, Option, None, Some, sym, subst, inl, inr, arith}
use Rattle.std.specs.Prelude.{slice_index_or, slice_set}
use Rattle.vlm_words.specs.declared.locks.Request.{Request}
use Rattle.vlm_words.specs.declared.locks.LockState.{LockState}
use Rattle.vlm_words.specs.declared.modes.Mode.{Mode}
use Rattle.vlm_words.specs.declared.modes.Mode.TheVariants.{Nl, Cr, Cw, Pr, Pw, Ex}
use Rattle.vlm_words.specs.Modes.{is_compatible, rank as mode_rank}
use Rattle.vlm_collections.specs.Lists.{IsIn}
use Rattle.vlm_store.specs.Records.{Records}
use Rattle.vlm_cycle.specs.declared.blocker_ranks.HighestRank.{HighestRank}
use Rattle.vlm_cycle.specs.declared.ranks.Ranks.{Ranks}
use Rattle.vlm_cycle.specs.Ranking.{CountsHeld, CountsHolders, IsAbove, IsAboveAll, IsCounted, no_peak, highest_of, rank_of}

-- all that was counted is
abbrev pub KeepsPeaks : List HighestRank → List HighestRank → Type 0
KeepsPeaks old new = (mode : Mode) (lkid other : ℕ) → IsCounted (highest_of old mode) lkid other → IsCounted (highest_of new mode) lkid other

-- where one peak is raised all that is counted stays so
counted_still : (peaks : List HighestRank) (i j : ℕ) (new : HighestRank) (lkid rank : ℕ)
    → (IsCounted (slice_index_or peaks i no_peak) lkid rank → IsCounted new lkid rank)
    → IsCounted (slice_index_or peaks j no_peak) lkid rank → IsCounted (slice_index_or (slice_set peaks i new) j no_peak) lkid rank
counted_still [] i j new lkid rank kept counted = counted
counted_still (x ∷ peaks) zero zero new lkid rank kept counted = kept counted
counted_still (x ∷ peaks) zero (suc j) new lkid rank kept counted = counted
counted_still (x ∷ peaks) (suc i) zero new lkid rank kept counted = counted
counted_still (x ∷ peaks) (suc i) (suc j) new lkid rank kept counted = counted_still peaks i j new lkid rank kept counted

pub peak_kept : (peaks : List HighestRank) (i : ℕ) (new : HighestRank)
    → ((lkid rank : ℕ) → IsCounted (slice_index_or peaks i no_peak) lkid rank → IsCounted new lkid rank)
    → KeepsPeaks peaks (slice_set peaks i new)
peak_kept peaks i new kept mode lkid rank counted = counted_still peaks i (mode_rank mode) new lkid rank (kept lkid rank) counted

-- what is above the six modes is above all
pub above_six : (peaks : List HighestRank) (mode : Mode) (lkid nl cr cw pr pw ex top : ℕ)
    → (is_compatible mode Nl ≡ false → IsAbove peaks Nl lkid nl) → (is_compatible mode Cr ≡ false → IsAbove peaks Cr lkid cr)
    → (is_compatible mode Cw ≡ false → IsAbove peaks Cw lkid cw) → (is_compatible mode Pr ≡ false → IsAbove peaks Pr lkid pr)
    → (is_compatible mode Pw ≡ false → IsAbove peaks Pw lkid pw) → (is_compatible mode Ex ≡ false → IsAbove peaks Ex lkid ex)
    → nl ≤ top → cr ≤ top → cw ≤ top → pr ≤ top → pw ≤ top → ex ≤ top → IsAboveAll peaks mode lkid top
above_six peaks mode lkid nl cr cw pr pw ex top at_nl at_cr at_cw at_pr at_pw at_ex le_nl le_cr le_cw le_pr le_pw le_ex
    held differs other rank another counted = of_mode held differs counted
  where
    of_mode : (m : Mode) → is_compatible mode m ≡ false → IsCounted (highest_of peaks m) other rank → rank < top
    of_mode Nl apart there = (let less = at_nl apart other rank another there in omega (arith, less, le_nl))
    of_mode Cr apart there = (let less = at_cr apart other rank another there in omega (arith, less, le_cr))
    of_mode Cw apart there = (let less = at_cw apart other rank another there in omega (arith, less, le_cw))
    of_mode Pr apart there = (let less = at_pr apart other rank another there in omega (arith, less, le_pr))
    of_mode Pw apart there = (let less = at_pw apart other rank another there in omega (arith, less, le_pw))
    of_mode Ex apart there = (let less = at_ex apart other rank another there in omega (arith, less, le_ex))

held_kept : (old new : List HighestRank) → KeepsPeaks old new → (held : Option Request) (lkid rank : ℕ)
    → CountsHeld old held lkid rank → CountsHeld new held lkid rank
held_kept old new kept None lkid rank counts = tt
held_kept old new kept (Some held) lkid rank counts = λ blocks. kept held.mode lkid rank (counts blocks)

pub holders_kept : (s : Records) (ranks : Ranks) (old new : List HighestRank) (rows : List LockState)
    → KeepsPeaks old new → CountsHolders s ranks old rows → CountsHolders s ranks new rows
holders_kept s ranks old new rows kept counts row there = held_kept old new kept row.held row.lkid (rank_of s ranks row.pid) (counts row there)

-- what the rows hold is counted, but for those that are left
abbrev pub HoldersBut : Records → Ranks → List HighestRank → List LockState → List LockState → Type 0
HoldersBut s ranks peaks all left = (row : LockState) → IsIn row all → CountsHeld peaks row.held row.lkid (rank_of s ranks row.pid) ⊎ IsIn row left

pub holders_begun : (s : Records) (ranks : Ranks) (peaks : List HighestRank) (all left : List LockState) → left ≡ all → HoldersBut s ranks peaks all left
holders_begun s ranks peaks all left is row there = inr (subst (IsIn row) (sym is) there)

pub holders_on : (s : Records) (ranks : Ranks) (old new : List HighestRank) (all left rest : List LockState)
    (row : LockState) → left ≡ row ∷ rest → KeepsPeaks old new
    → CountsHeld new row.held row.lkid (rank_of s ranks row.pid) → HoldersBut s ranks old all left → HoldersBut s ranks new all rest
holders_on s ranks old new all left rest row is kept here but x there = elim (but x there) [
  | inl counted ↦ inl (held_kept old new kept x.held x.lkid (rank_of s ranks x.pid) counted)
  | inr later ↦ elim (subst (IsIn x) is later) [
    | inl same ↦ inl (subst (λ (y : LockState). CountsHeld new y.held y.lkid (rank_of s ranks y.pid)) same here)
    | inr behind ↦ inr behind
  ]
]

pub holders_ended : (s : Records) (ranks : Ranks) (peaks : List HighestRank) (all left : List LockState) → left ≡ []
    → HoldersBut s ranks peaks all left → CountsHolders s ranks peaks all
holders_ended s ranks peaks all left is but row there = elim (but row there) [
  | inl counted ↦ counted
  | inr later ↦ absurd (subst (IsIn row) is later)
]
