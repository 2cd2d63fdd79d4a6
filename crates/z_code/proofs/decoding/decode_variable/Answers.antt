use Rattle.std.proofs.Common.{rules}
use Rattle.z_model.specs.Decode.{variable_at}
use Rattle.z_code.proofs.decoding.decode_variable.Goals as goal

pub returns-in_err-row-clause-variable : goal.returns-in_err-row-clause-variable
unfolding variable_at
returns-in_err-row-clause-variable c = search rules

pub returns-in_err-read-clause-variable : goal.returns-in_err-read-clause-variable
unfolding variable_at
returns-in_err-read-clause-variable c = search rules

pub returns-clause-variable : goal.returns-clause-variable
unfolding variable_at
returns-clause-variable c = search rules
