use Rattle.std.proofs.Common.{arith}
use Rattle.dg_reader.proofs.step.step.Goals as goal

pub returns-in_ok-name_of-in-Word : goal.returns-in_ok-name_of-in-Word
returns-in_ok-name_of-in-Word c = grind arith

pub returns-in_ok-name_behind-in-Dict : goal.returns-in_ok-name_behind-in-Dict
returns-in_ok-name_behind-in-Dict c = grind arith

pub returns-in_ok-name_behind-in-Object : goal.returns-in_ok-name_behind-in-Object
returns-in_ok-name_behind-in-Object c = grind arith

pub returns-in_ok-name_behind-in-Var : goal.returns-in_ok-name_behind-in-Var
returns-in_ok-name_behind-in-Var c = grind arith
