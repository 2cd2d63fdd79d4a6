use Rattle.std.proofs.Common.{◌≡◌, ◌%◌, take, sum}
use Rattle.z_asm.proofs.header.checksum.Given as goal

abbrev pub invariant-loop-byte : goal.invariant-loop-byte
invariant-loop-byte l = l.sum ≡ sum (take l.byte-index l.bytes) % 65536
