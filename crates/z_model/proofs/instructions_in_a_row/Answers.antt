use Rattle.z_model.proofs.Standing.{in_a_row}
use Rattle.z_model.proofs.instructions_in_a_row.Goals as goal

pub returns : goal.returns
returns c = λ rows bytes at ops all stands. in_a_row rows bytes at ops all stands
