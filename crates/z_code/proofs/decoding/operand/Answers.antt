use Rattle.std.proofs.Common.{rules}
use Rattle.z_model.specs.Decode.{operand_at}
use Rattle.z_code.proofs.decoding.operand.Goals as goal

pub returns-in_ok-low-in-Large-clause-operand : goal.returns-in_ok-low-in-Large-clause-operand
unfolding operand_at
returns-in_ok-low-in-Large-clause-operand c = search rules
