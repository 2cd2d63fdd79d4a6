use Rattle.std.proofs.Common.{◌≡◌, drop}
use Rattle.z_model.specs.Closing.{is_open}
use Rattle.z_play.proofs.output.begins.Given as goal

abbrev pub invariant-loop-byte : goal.invariant-loop-byte
invariant-loop-byte l = is_open l.begun (drop l.byte-index l.text) ≡ is_open l.before l.text
