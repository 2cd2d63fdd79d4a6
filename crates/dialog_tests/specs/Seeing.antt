-- A watch of the tests, of which nothing is told but that it fails.
use Rattle.std.specs.Prelude.{ℕ, List, Result, Ok, Err, None}
use Rattle.dg_base.specs.declared.traits.Failed.{Failed}
use Rattle.dg_watch.specs.Told.{Told}
use Rattle.dg_watch.specs.Watching.{Puts}
use Rattle.dg_watch.specs.Watched.{Test, watched}

-- It stands for any list.
abbrev pub stands_for_any : {W : Type 0} → W → List Told → Type 0
stands_for_any w ts = Unit {0}

-- It tells no test.
abbrev pub untested : {W : Type 0} → W → Test
untested w = None

pub any_puts : {W : Type 0} (faults : W → ℕ) (old new : W) (piece : List ℕ) (result : Result ℕ Failed) →
    Puts (watched stands_for_any untested faults) old new piece result
any_puts faults old new piece (Ok n) = record { stands = λ before h. tt; tests = tt }
any_puts faults old new piece (Err e) = record { told = record { stands = λ before h. tt; tests = tt }; refuses = tt }
