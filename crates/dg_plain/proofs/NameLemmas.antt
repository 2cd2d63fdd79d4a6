-- New names differ where their numbers do.
use Rattle.std.proofs.Common.{◌≡◌, ◌<◌, ◌^◌, ℕ}
use Rattle.std.specs.Prelude.{codes, decimal}
use Rattle.std.proofs.lemmas.Fmt.{decimal_injective}
use Rattle.std.proofs.lemmas.List.{append_cancel_left}
use Rattle.dg_plain.specs.Plain.{unnamed_name, choice_mark, choice_name}

pub unnamed_differ : (m n : ℕ) → m < 2 ^ 64 → n < 2 ^ 64 → unnamed_name m ≡ unnamed_name n → m ≡ n
unnamed_differ m n lm ln e = decimal_injective m n lm ln (append_cancel_left (codes "$") (decimal m) (decimal n) e)

pub chosen_differ : (number m n : ℕ) → m < 2 ^ 64 → n < 2 ^ 64 → choice_name number m ≡ choice_name number n → m ≡ n
chosen_differ number m n lm ln e = decimal_injective m n lm ln (append_cancel_left (choice_mark number) (decimal m) (decimal n) e)
