-- A fault that was counted stays counted, earlier and later.
use Rattle.std.proofs.Common.{ℕ, ◌≤◌, arith}
use Rattle.dg_base.specs.Causes.{Rose}

-- it rose before more calls
pub rose_later : (before now after : ℕ) → Rose before now → now ≤ after → Rose before after
rose_later before now after rose more = omega arith

-- it rose behind other calls
pub rose_earlier : (first before now : ℕ) → first ≤ before → Rose before now → Rose first now
rose_earlier first before now later rose = omega arith
