use Rattle.std.proofs.Common.{◌≡◌}
use Rattle.z_model.specs.Memory.{is_writable, have_right}
use Rattle.z_memory.specs.Rights.{based}
use Rattle.z_memory.proofs.memory.may_write_all.Given as goal

abbrev pub invariant-loop-left : goal.invariant-loop-left
invariant-loop-left l = have_right (is_writable (based l.base)) l.at l.left ≡ have_right (is_writable (based l.base)) l.from l.count

abbrev pub decreases-loop-left : goal.decreases-loop-left
decreases-loop-left l = l.left
