-- Whole runs of register code, and what they show. Hold it against the Dialog manual, chapter "Output".
use Rattle.std.specs.Prelude.{ℕ, zero, suc, ◌+◌, ◌-◌, ◌≡◌, ◌<◌, ◌≤◌, List, [], length, Some, None, true}
use Rattle.dg_base.specs.declared.run.Ending.{Ending}
use Rattle.dg_base.specs.declared.run.Ending.TheVariants.{StepLimit}
use Rattle.dg_meaning.specs.World.{Game, Print, prints}
use Rattle.dg_meaning.specs.Transcript.{run, start_world, closed_text, line_of, input_fault_line}
use Rattle.dg_meaning.specs.Shows.{Shows, ShowsInputFault}
use Rattle.dg_base.specs.Begins.{Begins, EndsWith}
use Rattle.dg_mid.specs.Code.{block_at}
use Rattle.dg_mid.specs.State.{Status, Runs, Ended}
use Rattle.dg_mid.specs.Step.{Setting, step, said, followed, takes_goal}
use Rattle.dg_mid.specs.Left.{reads, left_behind}
use Rattle.dg_mid.specs.Units.{one_if, units, earned, selects}
use Rattle.dg_mid.specs.Reads.{lasting_of, Comes}

-- The start on typed bytes: in front of the query of the entry, where what starts set is set.
abbrev pub start : Setting → List ℕ → Status
start s typed = Runs (record {
  ops = block_at s.code 1;
  frames = [];
  inner = [];
  choices = [];
  stops = [];
  stop = None;
  gathered = [];
  next_tag = 1;
  state = record { vars = 0; subst = []; since = 0; heap = 0; trail = 0 };
  lasting = lasting_of (start_world s.game typed);
})

-- Where a run of code is: the status, what was printed, how many goals were taken, what the steps have cost, how much of it is work of the search,
-- and how often rules were looked at.
pub record Point : Type 0 where
  pub now : Status
  pub prints : List Print
  pub goals : ℕ
  pub spent : ℕ
  pub paid : ℕ
  pub looks : ℕ

-- Where it is behind the next step.
abbrev pub next : Setting → Point → Point
next s p = record {
  now = step s p.now;
  prints = followed p.prints (said s p.now);
  goals = one_if (takes_goal p.now) + p.goals;
  spent = units s p.prints p.now + p.spent;
  paid = earned s p.prints p.now + p.paid;
  looks = selects p.now + p.looks;
}

-- Where it is after so many steps, on these typed bytes.
abbrev pub after : Setting → List ℕ → ℕ → Point
after s typed zero = record { now = start s typed; prints = []; goals = 0; spent = 0; paid = 0; looks = 0 }
after s typed (suc k) = next s (after s typed k)

-- What is left of the typed bytes then.
abbrev pub left_after : Setting → List ℕ → ℕ → List ℕ
left_after s typed zero = typed
left_after s typed (suc k) = left_behind s (after s typed k).now (left_after s typed k)

-- Each run with at least the budget of the goals taken comes from there, and what the run with a budget of one less prints was printed.
pub record IsAt (s : Setting) (g : Game) (typed : List ℕ) (p : Point) : Type 0 where
  pub comes : (n : ℕ) → Comes p.paid p.prints s p.now g n (run g typed (p.goals + n))
  pub since : Begins (prints (run g typed (p.goals - 1)).world.events) p.prints

-- ## What is shown

-- Where a run of code has ended, and where its goals are used up, what was printed, with the closing of the ending, shows the game, and what is left
-- of the typed bytes.
pub record ShowsAll (s : Setting) (g : Game) (typed : List ℕ) : Type 0 where
  pub ends : (k : ℕ) (e : Ending) → (after s typed k).now ≡ Ended e → (after s typed k).goals ≤ s.limits.steps →
      Shows g typed s.limits (closed_text (after s typed k).prints (line_of e)) (record { ending = e; goals = (after s typed k).goals })
      (Some (left_after s typed k))
  pub limited : (k : ℕ) → (after s typed k).goals ≡ s.limits.steps → takes_goal (after s typed k).now ≡ true →
      Shows g typed s.limits (closed_text (after s typed k).prints (line_of StepLimit)) (record { ending = StepLimit; goals = s.limits.steps })
      (Some (left_after s typed k))

-- Where the input fails at a goal that reads, and has left no less than that goal leaves, what was printed, closed with the line of an input fault,
-- shows that.
abbrev pub ShowsFaults : Setting → Game → List ℕ → Type 0
ShowsFaults s g typed = (k : ℕ) (rest : List ℕ) → reads s (after s typed k).now ≡ true → (after s typed k).goals < s.limits.steps →
    EndsWith (left_after s typed k) rest → length (left_after s typed (suc k)) ≤ length rest →
    ShowsInputFault g typed s.limits (closed_text (after s typed k).prints input_fault_line) (Some rest)
