use Rattle.std.proofs.Common.{◌≡◌, length}
use Rattle.z_model.specs.Text.{string_at, print_fault}
use Rattle.z_text.specs.Walk.{rest_of}
use Rattle.z_play.proofs.text.find_fault.Given as goal

abbrev pub invariant-loop-fault : goal.invariant-loop-fault
invariant-loop-fault l = print_fault (rest_of l.walker l.memory) ≡ print_fault (string_at l.memory l.at)

abbrev pub decreases-loop-fault : goal.decreases-loop-fault
decreases-loop-fault l = length (rest_of l.walker l.memory).codes
