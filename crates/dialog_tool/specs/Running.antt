-- Runs that print and read, and what of one is written and read where the input or the output fails: of programs and stories alike. Hold it
-- against docs/REFUSALS.md, "Faults".
use Rattle.std.specs.Prelude.{◌≡◌, ℕ, ◌+◌, ◌<◌, ◌≤◌, ◌⊎◌, List, [], length, Some}
use Rattle.dg_base.specs.declared.run.Ending.TheVariants.{InputEnded, StepLimit}
use Rattle.dg_meaning.specs.World.{Game}
use Rattle.dg_meaning.specs.Transcript.{run, text_of, closed, input_fault_line}
use Rattle.dg_meaning.specs.Shows.{LeftBetween}
use Rattle.z_model.specs.declared.end.ZEnd.TheVariants as ends
use Rattle.z_model.specs.Run.{ZRun}
use Rattle.z_model.specs.Closing.{with_end_line}

-- A run by its steps, goals or instructions: what so many print, and what of it was surely written before one more; the typed bytes that they leave, and
-- that may be left while one more prints; whether the run goes on, or ended as it wanted a byte; and what they print, closed with a line.
pub record Run : Type 1 where
  pub printed : ℕ → List ℕ
  pub written : ℕ → List ℕ
  pub left : ℕ → List ℕ
  pub LeftWithin : ℕ → List ℕ → Type 0
  pub GoesOn : ℕ → Type 0
  pub Wants : ℕ → Type 0
  pub closed : ℕ → List ℕ → List ℕ

-- The runs of a game on these typed bytes. Nothing is said of what was written before the output failed.
abbrev pub run_of_game : Game → List ℕ → Run
run_of_game g typed = record {
  printed = λ n. text_of (run g typed n).world.events;
  written = λ n. [];
  left = λ n. (run g typed n).world.typed;
  LeftWithin = λ n rest. LeftBetween g typed n (n + 1) (Some rest);
  GoesOn = λ n. (run g typed n).ending ≡ StepLimit;
  Wants = λ n. (run g typed n).ending ≡ InputEnded;
  closed = λ n line. closed (run g typed n).world.events line;
}

-- The runs of a story: all that so many instructions print was written before one more.
abbrev pub run_of_story : (ℕ → ZRun) → Run
run_of_story r = record {
  printed = λ n. (r n).state.output;
  written = λ n. (r n).state.output;
  left = λ n. (r n).state.typed;
  LeftWithin = λ n rest. rest ≡ (r n).state.typed;
  GoesOn = λ n. (r n).end ≡ ends.StepLimit;
  Wants = λ n. (r n).end ≡ ends.InputEnded;
  closed = λ n line. with_end_line (r n).state.output line;
}

-- The input failed behind n steps of at most so many, with these bytes left: they don't end the run and took no more bytes than were taken, and one more
-- wants a byte, or takes at least those and more than before.
pub record LosesInput (r : Run) (most n : ℕ) (rest : List ℕ) : Type 0 where
  pub below : n < most
  pub goes_on : r.GoesOn n
  pub within : length rest ≤ length (r.left n)
  pub beyond : r.Wants (n + 1) ⊎ ((length (r.left (n + 1)) ≤ length rest) × (length (r.left (n + 1)) < length (r.left n)))

-- A text within which the output may fail, what of it was surely written, and the typed bytes that are left: what one more step prints; the text of a run
-- that ended so; or, where the input failed, what was printed before, with the line that says so.
pub data IsWriting (r : Run) (most : ℕ) (Ends : List ℕ → List ℕ → Type 0) (InputFailed : Type 0) (written text rest : List ℕ) : Type 0 where
  in_step : (n : ℕ) → n < most → r.GoesOn n → r.LeftWithin n rest → written ≡ r.written n → text ≡ r.printed (n + 1)
      → IsWriting r most Ends InputFailed written text rest
  in_closing : Ends text rest → written ≡ r.written most → IsWriting r most Ends InputFailed written text rest
  in_fault_line : InputFailed → (n : ℕ) → LosesInput r most n rest → written ≡ r.written n → text ≡ r.closed n input_fault_line
      → IsWriting r most Ends InputFailed written text rest
