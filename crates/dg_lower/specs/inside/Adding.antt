-- What is added to what starts in a place, and why it may not start. The proofs alone rest on it.
use Rattle.std.specs.Prelude.{◌≡◌, ◌++◌, Option, Some, None, Result, Ok, Err}
use Rattle.dg_base.specs.declared.refusal.Kind.{Kind}
use Rattle.dg_lower.specs.Starts.{Starts}

-- This was added, or the place can't start, and this is why.
abbrev pub Adds : Result Starts Kind → Starts → Option Kind → Starts → Type 0
Adds (Ok more) old fault new = (fault ≡ None) × (new ≡ old ++ more)
Adds (Err kind) old fault new = fault ≡ Some kind
