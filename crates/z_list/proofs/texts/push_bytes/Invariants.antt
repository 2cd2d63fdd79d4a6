use Rattle.std.proofs.Common.{◌≡◌, ◌++◌, drop}
use Rattle.z_list.specs.Texts.{all_spaced}
use Rattle.z_list.proofs.texts.push_bytes.Given as goal

abbrev pub invariant-loop-byte : goal.invariant-loop-byte
invariant-loop-byte l = l.initial.text.items ++ all_spaced l.bytes ≡ l.text.items ++ all_spaced (drop l.byte-index l.bytes)
