use Rattle.z_model.proofs.Written.{op_written}
use Rattle.z_model.proofs.written_again.Goals as goal

pub returns : goal.returns
returns c = λ rows op front text rest. op_written rows op front text rest
