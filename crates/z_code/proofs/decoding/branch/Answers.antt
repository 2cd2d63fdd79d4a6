use Rattle.std.proofs.Common.{rules}
use Rattle.z_model.specs.Decode.{branch_at}
use Rattle.z_code.proofs.decoding.branch.Goals as goal

pub returns-in_err-byte-clause-branch : goal.returns-in_err-byte-clause-branch
unfolding branch_at
returns-in_err-byte-clause-branch c = search rules

pub returns-then-byte-eq1-clause-branch : goal.returns-then-byte-eq1-clause-branch
unfolding branch_at
returns-then-byte-eq1-clause-branch c = search rules

pub returns-in_err-low-clause-branch : goal.returns-in_err-low-clause-branch
unfolding branch_at
returns-in_err-low-clause-branch c = search rules

pub returns-clause-branch : goal.returns-clause-branch
unfolding branch_at
returns-clause-branch c = search rules
