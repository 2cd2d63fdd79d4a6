use Rattle.std.proofs.Common.{rules}
use Rattle.z_model.specs.Decode.{operand_count}
use Rattle.z_code.proofs.decoding.count_types.Goals as goal

pub returns : goal.returns
unfolding operand_count
returns c = search rules
