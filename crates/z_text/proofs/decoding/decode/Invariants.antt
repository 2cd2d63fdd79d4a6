use Rattle.std.proofs.Common.{◌≡◌, ◌++◌, length}
use Rattle.z_model.specs.Text.{string_at}
use Rattle.z_text.specs.Walk.{rest_of}
use Rattle.z_text.proofs.decoding.decode.Given as goal

abbrev pub invariant-loop-codes : goal.invariant-loop-codes
invariant-loop-codes l = string_at l.bytes l.at ≡ record { codes = l.codes.items ++ (rest_of l.walker l.bytes).codes; end = (rest_of l.walker l.bytes).end }

abbrev pub decreases-loop-codes : goal.decreases-loop-codes
decreases-loop-codes l = length (rest_of l.walker l.bytes).codes
