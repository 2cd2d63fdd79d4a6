-- Numbers that no variable has.
use Rattle.std.proofs.Common.{◌≡◌, ℕ, ◌≤◌, Err, refl, arith}
use Rattle.std.proofs.lemmas.Bool.{le-ltb, ne_eqb}
use Rattle.z_model.specs.declared.fault.ZFault.TheVariants.{BadOpcode}
use Rattle.z_model.specs.declared.story.Layout.{Layout}
use Rattle.z_model.specs.Machine.{Machine, stored, placed}

pub none_placed : (layout : Layout) (m : Machine) (v x : ℕ) → 256 ≤ v → placed layout m v x ≡ Err BadOpcode
unfolding placed stored
none_placed layout m v x ge = rw (ne_eqb v 0 (λ e. absurd (omega arith)), le-ltb v 16 (omega arith), le-ltb v 256 ge) refl
