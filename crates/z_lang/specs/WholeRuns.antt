-- Whole runs that go from one boundary to the next: what any number of instructions shows of them.
use Rattle.std.specs.Prelude.{◌≡◌, ℕ, ◌+◌, ◌≤◌, ◌⊎◌, List}
use Rattle.z_model.specs.declared.end.ZEnd.{ZEnd}
use Rattle.z_model.specs.declared.end.ZEnd.TheVariants as ends
use Rattle.dg_base.specs.Begins.{Begins}
use Rattle.z_model.specs.Run.{ZGiven, ZState, ZRun, zrun}
use Rattle.z_lang.specs.Leads.{Leads, Ends}
use Rattle.z_lang.specs.Turns.{Turn, To, Over, Turning, Reaches, printed_by}

-- Where a number of instructions was used up within the turn of a boundary.
pub record Within {E A : Type 0} (t : Turning E A) (b : A) (r : ZRun) : Type 0 where
  pub end : r.end ≡ ends.StepLimit
  pub least : Begins (t.out b) r.state.output
  pub most : Begins r.state.output (printed_by t (t.next b))

-- The run is over with the turn of a boundary; an end of the machine is one of the player's.
pub record IsOver {E A : Type 0} (ended : E → ZEnd) (t : Turning E A) (b : A) (r : ZRun) : Type 0 where
  pub end : E
  pub bytes : List ℕ
  pub next : t.next b ≡ Over end bytes
  pub end_is : r.end ≡ ended end
  pub output : r.state.output ≡ bytes

-- What a run shows of a machine: it is within the turn of a boundary that is reached, or over with it.
pub record Shown {E A : Type 0} (ended : E → ZEnd) (t : Turning E A) (a : A) (r : ZRun) : Type 0 where
  pub b : A
  pub spent : ℕ
  pub reached : Reaches t a spent b
  pub is : Within t b r ⊎ IsOver ended t b r

-- a turn of so many instructions, by what comes behind it
abbrev pub Does : {E A : Type 0} → ZGiven → (E → ZEnd) → (A → ZState → Type 0) → Turn E A → ℕ → ZState → Type 0
Does w ended Rep (To b) n z = (z' : ZState) × Rep b z' × Leads w n z z'
Does w ended Rep (Over end bytes) n z = (last : ZState) × (last.output ≡ bytes) × Ends w n z (record { end = ended end; state = last })

-- One turn of the player, from a state that stands for a boundary.
pub record IsTurn {E A : Type 0} (w : ZGiven) (ended : E → ZEnd) (t : Turning E A) (Rep : A → ZState → Type 0) (a : A) (z : ZState) : Type 0 where
  pub printed : z.output ≡ t.out a
  pub count : ℕ
  pub some : 1 ≤ count
  pub most : count ≤ t.cost a
  pub does : Does w ended Rep (t.next a) count z

-- ---- boundaries that are numbered, as those of one run can be

-- Each numbered boundary's turn is the player's, from its state.
abbrev pub AreTurns : ZGiven → Turning ZEnd ℕ → (ℕ → ZState) → Type 0
AreTurns w t at = (a : ℕ) → IsTurn w (λ end. end) t (λ b z. z ≡ at b) a (at a)

-- What any number of instructions has written lies between two boundaries; as many as the turns cost suffice to come to a boundary, and with its own
-- turn to an end.
pub record WholeRuns (w : ZGiven) (t : Turning ZEnd ℕ) (at : ℕ → ZState) : Type 0 where
  pub shows : (k a : ℕ) → Shown (λ end. end) t a (zrun w k (at a))
  pub suffices : (k a b n : ℕ) → Reaches t a n b → n ≤ k → Begins (t.out b) (zrun w k (at a)).state.output
  pub ends_by : (k a b n : ℕ) (end : ZEnd) (bytes : List ℕ) → Reaches t a n b → t.next b ≡ Over end bytes → n + t.cost b ≤ k →
      ((zrun w k (at a)).end ≡ end) × ((zrun w k (at a)).state.output ≡ bytes)
