-- Words and names by their lengths.
use Rattle.std.proofs.Common.{rules, ◌≡◌, ◌≤◌, ℕ, ◌==◌, true, false, List, [], ◌∷◌, length, suc, refl, arith}
use Rattle.std.proofs.lemmas.Bool.Decides.{nat_tests}
use Rattle.vlm_words.specs.Names.{is_name}
use Rattle.vlm_lines.specs.Lines.{is_nothing}

suc_apart : (n : ℕ) → false ≡ (suc n == 0)
suc_apart n = grind (arith, nat_tests)

-- a word is nothing where its length is 0
pub is_nothing_by_length : (word : List ℕ) → is_nothing word ≡ (length word == 0)
is_nothing_by_length [] = refl
is_nothing_by_length (byte ∷ bytes) = suc_apart (length bytes)

-- a resource's name is short
pub name_short : (bytes : List ℕ) → is_name bytes ≡ true → length bytes ≤ 31
name_short bytes e = search rules
