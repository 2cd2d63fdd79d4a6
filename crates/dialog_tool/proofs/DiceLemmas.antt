-- Dice that are read one by one.
use Rattle.std.proofs.Common.{◌≡◌, ◌≢◌, ◌≤◌, ◌<◌, ◌+◌, get_or, ℕ, List, [], ◌∷◌, ◌++◌, length, Option, Some, None, false, refl, ap, ◌∙◌, arith, append_assoc}
use Rattle.std.specs.Prelude.{◌&&◌, map, nat_le, if◌then◌else◌}
use Rattle.std.specs.Prelude.{nat_eq}
use Rattle.std.specs.List.{list_all, All}
use Rattle.std.proofs.lemmas.List.{append-nil, get_or_default}
use Rattle.std.proofs.lemmas.List.Splits.{slice_split_none, slice_split_at}
use Rattle.std.proofs.lemmas.Grind.{common_steps}
use Rattle.std.proofs.lemmas.Bool.Decides.{nat_tests}
use Rattle.dialog_tool.specs.Command.{number_fits, number_within, value_behind, between_commas, dice_of}

-- dice, and behind them those that these words write
abbrev pub dice_behind : List ℕ → List (List ℕ) → Option (List ℕ)
dice_behind dice words = if nat_le (length dice + length words) 1024 && list_all (number_fits 0 65535) words then Some (dice ++ map (value_behind 0) words) else None

pub from_none : (word : List ℕ) → dice_behind [] (between_commas word) ≡ dice_of word
from_none word = let same : 0 + length (between_commas word) ≡ length (between_commas word) = omega arith in ap (λ (n : ℕ). if nat_le n 1024 && list_all (number_fits 0 65535) (between_commas word) then Some (map (value_behind 0) (between_commas word)) else None) same

pub all_read : (dice : List ℕ) → length dice ≤ 1024 → dice_behind dice [] ≡ Some dice
all_read dice within = let end = append-nil dice in grind (arith, common_steps, nat_tests)

pub too_many : (dice part : List ℕ) (parts : List (List ℕ)) → 1024 ≤ length dice → dice_behind dice (part ∷ parts) ≡ None
too_many dice part parts more = grind (arith, common_steps, nat_tests)

pub no_number : (dice part : List ℕ) (parts : List (List ℕ)) → number_within 0 65535 part ≡ None → dice_behind dice (part ∷ parts) ≡ None
no_number dice part parts none = grind (arith, common_steps, nat_tests)

pub one_more : (dice part : List ℕ) (parts : List (List ℕ)) (die : ℕ) → number_within 0 65535 part ≡ Some die → dice_behind dice (part ∷ parts) ≡ dice_behind (dice ++ die ∷ []) parts
one_more dice part parts die some = let joined = append_assoc dice (die ∷ []) (map (value_behind 0) parts) in grind (arith, common_steps, nat_tests)

-- ---- words that are cut at commas

no_comma : (word : List ℕ) → ((i : ℕ) → i < length word → get_or word i 0 ≢ 44) → All (λ c. nat_eq c 44 ≡ false) word
no_comma word h = λ i d lt. let ne = h i lt in let same = get_or_default word i d 0 lt in grind (arith, common_steps, nat_tests)

pub one_part : (word : List ℕ) → ((i : ℕ) → i < length word → get_or word i 0 ≢ 44) → between_commas word ≡ word ∷ []
one_part word h = slice_split_none (λ c. nat_eq c 44) word (no_comma word h)

pub parts_at_comma : (word part rest : List ℕ) → word ≡ part ++ (44 ∷ rest) → ((i : ℕ) → i < length part → get_or part i 0 ≢ 44) → between_commas word ≡ part ∷ between_commas rest
parts_at_comma word part rest is h = ap between_commas is ∙ slice_split_at (λ c. nat_eq c 44) part 44 rest (no_comma part h) refl
