-- What follows where a limit was met, and where none is.
use Rattle.std.proofs.Common.{◌≡◌, ℕ, ◌+◌, ◌-◌, ◌<◌, ◌≤◌, inl, inr, List, Option, subst, arith}
use Rattle.std.proofs.lemmas.Bool.{cases_lt}
use Rattle.dg_base.specs.declared.run.Limits.{Limits}
use Rattle.dg_base.specs.declared.run.Outcome.{Outcome}
use Rattle.dg_meaning.specs.World.{Game, Event, Meters}
use Rattle.dg_meaning.specs.Transcript.{run}
use Rattle.dg_meaning.specs.inside.OneRun.{MetersGrow, Grows}
use Rattle.dg_base.specs.Begins.{Begins}
use Rattle.dg_meaning.specs.Peaks.{Area, Heap, Trail, Aux, Keep, greatest, limit_of, peak, IsWithin}
use Rattle.dg_meaning.specs.Shows.{ShowsRun, Shows}
use Rattle.dg_meaning.proofs.OneRun.{begins_on}
use Rattle.dg_meaning.proofs.Search.{run_goes_on}

-- a run with a larger budget comes later
pub later_run : (g : Game) (typed : List ℕ) (m n : ℕ) → m ≤ n → Grows (run g typed m).world (run g typed n).world
later_run g typed m n le =
    let e : m + (n - m) ≡ n = omega arith in
    subst (λ k. Grows (run g typed m).world (run g typed k).world) e (run_goes_on g typed m (n - m)).grows

meters_rise : (area : Area) (old new : Meters) → MetersGrow old new → greatest area old ≤ greatest area new
meters_rise Heap old new h = h.heap
meters_rise Trail old new h = h.trail
meters_rise Aux old new h = h.aux
meters_rise Keep old new h = h.keep

peaks_rise : (area : Area) (g : Game) (typed : List ℕ) (m n : ℕ) → m ≤ n → peak area g typed m ≤ peak area g typed n
peaks_rise area g typed m n le = meters_rise area (run g typed m).world.meters (run g typed n).world.meters (later_run g typed m n le).meters

-- what was printed up to the goal before a limit covers each run within the limits
pub limit_covers : (g : Game) (typed : List ℕ) (limits : Limits) (area : Area) (goals : ℕ) (part : List Event) → limit_of area limits < peak area g typed goals → Begins (run g typed (goals - 1)).world.events part →
    (m : ℕ) → IsWithin limits g typed m → Begins (run g typed m).world.events part
limit_covers g typed limits area goals part passed since m within =
    elim (cases_lt m goals) [
      | inl lt ↦ begins_on (run g typed m).world.events (run g typed (goals - 1)).world.events part (later_run g typed m (goals - 1) (omega arith)).events since
      | inr ge ↦ absurd (let rise = peaks_rise area g typed goals m ge in let small = within area in omega arith)
    ]

-- within the limits the whole transcript is shown
pub within_limits : (g : Game) (typed : List ℕ) (limits : Limits) (bytes : List ℕ) (outcome : Outcome) (left : Option (List ℕ)) → IsWithin limits g typed limits.steps → Shows g typed limits bytes outcome left → ShowsRun g typed limits bytes outcome left
within_limits g typed limits bytes outcome left within (inl h) = h
within_limits g typed limits bytes outcome left within (inr h) =
    absurd (let rise = peaks_rise h.area g typed outcome.goals limits.steps h.goals in let small = within h.area in omega (arith, h.passed))
