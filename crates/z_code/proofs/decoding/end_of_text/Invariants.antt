use Rattle.std.proofs.Common.{length, ◌-◌, ◌≡◌, ◌≤◌, drop}
use Rattle.z_model.specs.Decode.{text_end}
use Rattle.z_code.proofs.decoding.end_of_text.Given as goal

abbrev pub invariant-loop-at : goal.invariant-loop-at
invariant-loop-at l = record {
  from_start : l.fn.start ≤ l.at;
  within : l.at ≤ length l.bytes;
  same : text_end (drop l.at l.bytes) l.at ≡ text_end (drop l.fn.start l.bytes) l.fn.start;
}

abbrev pub decreases-loop-at : goal.decreases-loop-at
decreases-loop-at l = length l.bytes - l.at
