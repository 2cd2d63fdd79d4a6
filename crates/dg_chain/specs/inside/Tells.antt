-- What boundaries of a machine have to tell of a game, so that a story whose turns they are fits it. The proofs alone rest on it.
use Rattle.std.specs.Prelude.{◌≡◌, ℕ, ◌+◌, ◌≤◌, ◌⊎◌, List}
use Rattle.dg_base.specs.declared.run.Ending.TheVariants as endings
use Rattle.dg_meaning.specs.World.{Game}
use Rattle.dg_meaning.specs.Transcript.{run}
use Rattle.dg_base.specs.Begins.{Begins}
use Rattle.z_model.specs.declared.end.ZEnd.{ZEnd}
use Rattle.z_lang.specs.Turns.{Over, Turning, Reaches, printed_by}
use Rattle.dg_chain.specs.Agrees.{IsCut, EndsWhole, IsThere, IsAtLimit, printed_body, enough_for}

-- n goals' bodies are printed at a boundary that is reached in time, and the run goes on; or it is over in time with what they show.
pub data InTime {A : Type 0} (g : Game) (typed : List ℕ) (t : Turning ZEnd A) (a : A) (n : ℕ) : Type 0 where
  reached : {b : A} {spent : ℕ} → Reaches t a spent b → spent ≤ enough_for g typed n → (run g typed n).ending ≡ endings.StepLimit →
      Begins (printed_body g typed n) (t.out b) → InTime g typed t a n
  over : {b : A} {spent : ℕ} {end : ZEnd} {bytes : List ℕ} → Reaches t a spent b → t.next b ≡ Over end bytes →
      spent + t.cost b ≤ enough_for g typed n → IsThere g typed n bytes end ⊎ IsAtLimit g typed n bytes end → InTime g typed t a n

-- The boundaries that are reached from a tell the truth, and come in time.
pub record Tells {A : Type 0} (g : Game) (typed : List ℕ) (t : Turning ZEnd A) (a : A) : Type 0 where
  pub between : {b : A} {spent : ℕ} → Reaches t a spent b → (bytes : List ℕ) → Begins (t.out b) bytes → Begins bytes (printed_by t (t.next b)) →
      IsCut g typed bytes
  pub whole : {b : A} {spent : ℕ} → Reaches t a spent b → (end : ZEnd) (bytes : List ℕ) → t.next b ≡ Over end bytes → EndsWhole g typed end bytes
  pub in_time : (n : ℕ) → InTime g typed t a n
