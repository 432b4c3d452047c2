-- What a walk of the records has printed, and what it has left to print.
use Rattle.std.proofs.Common.{◌≡◌, ℕ, ◌<◌, List, [], ◌∷◌, ◌++◌, length, Option, None, Some, IfSome, IsSome, refl, append_assoc, arith}
use Rattle.std.specs.Prelude.{flat_map}
use Rattle.vlm_words.specs.declared.locks.LockState.{LockState}
use Rattle.vlm_words.specs.declared.resources.Queue.{Queue}
use Rattle.vlm_words.specs.declared.resources.Queue.TheVariants.{Granted, Conversion, Waiting}
use Rattle.vlm_words.specs.State.{Resource}
use Rattle.vlm_queue.specs.declared.views.ResourceView.{ResourceView}
use Rattle.vlm_queue.specs.Views.{resource_view, row_view, rows_in}
use Rattle.vlm_script.specs.declared.show.Part.{Part}
use Rattle.vlm_lines.specs.Texts.{no_resources_line, resource_line, row_line}
use Rattle.vlm_script.specs.Texts.{part_text, parts_text, queue_lines, resource_text}

-- a row is printed, and the others are left
pub row_printed : (queue : Queue) (row : LockState) (rows left : List LockState) (a b : List ℕ) → left ≡ row ∷ rows → b ≡ a ++ row_line queue (row_view row)
    → b ++ queue_lines queue rows ≡ a ++ queue_lines queue left
row_printed queue row rows left a b one printed = rw (one, printed) (append_assoc a (row_line queue (row_view row)) (queue_lines queue rows))

-- a part of a resource is printed, and the parts of the others are left
pub resource_passed : (part : Part) (o : Option Resource) (rest left : List Resource) (a b : List ℕ) → IsSome o
    → IfSome o (λ r. left ≡ r ∷ rest) → IfSome o (λ r. b ≡ a ++ part_text part r)
    → b ++ flat_map (part_text part) rest ≡ a ++ flat_map (part_text part) left
resource_passed part None rest left a b there one printed = cc
resource_passed part (Some r) rest left a b there one printed = rw (one, printed) (append_assoc a (part_text part r) (flat_map (part_text part) rest))

-- after a resource fewer are left
pub fewer_left : (o : Option Resource) (rest left : List Resource) → IsSome o → IfSome o (λ r. left ≡ r ∷ rest) → length rest < length left
fewer_left None rest left there one = cc
fewer_left (Some r) rest left there one = rw one (omega arith)

-- a resource's own line and its three queues, one after another, are its text
pub resource_printed : (o : Option Resource) (view : ResourceView) (granted converting waiting : List LockState)
    (a b c d e : List ℕ) → IfSome o (λ r. view ≡ resource_view r)
    → IfSome o (λ r. granted ≡ rows_in Granted r) → IfSome o (λ r. converting ≡ rows_in Conversion r) → IfSome o (λ r. waiting ≡ rows_in Waiting r)
    → b ≡ a ++ resource_line view → c ≡ b ++ queue_lines Granted granted → d ≡ c ++ queue_lines Conversion converting
    → e ≡ d ++ queue_lines Waiting waiting → IfSome o (λ r. e ≡ a ++ resource_text r)
unfolding resource_text
resource_printed None view granted converting waiting a b c d e is gs cs ws line first second third = tt
resource_printed (Some r) view granted converting waiting a b c d e is gs cs ws line first second third =
    rw (third, second, first, line, is, gs, cs, ws) (simp append_assoc)

-- where there are resources, their parts are printed one after another
pub parts_text-some : (part : Part) (rs : List Resource) (n : ℕ) → n ≡ length rs → ¬ (n ≡ 0) → parts_text part rs ≡ flat_map (part_text part) rs
unfolding parts_text
parts_text-some part [] n count some = absurd (some count)
parts_text-some part (r ∷ rest) n count some = refl

-- where there is none, a line says so
pub parts_text-none : (part : Part) (rs : List Resource) (n : ℕ) → n ≡ length rs → n ≡ 0 → parts_text part rs ≡ no_resources_line
unfolding parts_text
parts_text-none part [] n count none = refl
parts_text-none part (r ∷ rest) n count none = absurd (omega arith)
