use Rattle.std.proofs.Common.{◌≡◌, ◌-◌, ◌≤◌, ℕ, refl, sym, arith}
use Rattle.std.proofs.lemmas.Bool.{ne_eqb}
use Rattle.std.proofs.lemmas.List.{get_or_past}
use Rattle.z_model.specs.declared.text.Alphabet.TheVariants.{Punctuation}
use Rattle.z_model.specs.declared.text.Reading.TheVariants.{Gives}
use Rattle.z_model.specs.Text.{letter, punctuation}
use Rattle.z_text.proofs.walker.sign.Goals as goal

past_signs : (z : ℕ) → 24 ≤ z - 8 → letter Punctuation z ≡ Gives 0
past_signs z big = rw (ne_eqb z 6 (λ e. absurd (omega arith)), ne_eqb z 7 (λ e. absurd (omega arith)), get_or_past punctuation (z - 8) 0 big) refl

pub returns-in_default-2 : goal.returns-in_default-2
returns-in_default-2 c = sym (past_signs c.args.z (omega arith))
