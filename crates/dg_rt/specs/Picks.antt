-- What the routines do that choose a branch of a select: a word is kept of its site. Hold it against docs/LANGUAGE.md, "Choosing", and
-- dg_meaning/specs/Choosing.antt.
use Rattle.std.specs.Prelude.{◌≡◌, ◌≢◌, ℕ, zero, suc, ◌+◌, ◌-◌, ◌%◌, ◌<◌, ◌≤◌, List, [], ◌∷◌, min, nat_eq, nat_lt, if◌then◌else◌}
use Rattle.dg_base.specs.declared.program.Mode.{Mode}
use Rattle.dg_base.specs.declared.program.Mode.TheVariants.{Stopping, Cycling, PurelyAtRandom, AtRandom, ThenAtRandom, ThenPurelyAtRandom}
use Rattle.dg_meaning.specs.Choosing.{Picks, picked, Choice, choice_by}
use Rattle.z_model.specs.Run.{word_at, next_drawn}
use Rattle.z_lang.specs.declared.act.Act.{Act}
use Rattle.z_lang.specs.State.{Program}
use Rattle.z_lang.specs.Runs.{ActsRun as Runs, Returns}
use Rattle.dg_rt.specs.declared.numbers.TheConstants.{PICK_STOPPING, PICK_CYCLING, PICK_PURELY, PICK_AT_RANDOM, PICK_THEN_AT_RANDOM, PICK_THEN_PURELY}
use Rattle.dg_rt.specs.declared.picks.TheConstants.{PICK_STOPPING_ACTS, PICK_CYCLING_ACTS, PICK_PURELY_ACTS, PICK_AT_RANDOM_ACTS, PICK_THEN_AT_RANDOM_ACTS, PICK_THEN_PURELY_ACTS}
use Rattle.dg_rt.specs.Cells.{at_cell, Holds}
use Rattle.dg_rt.specs.Areas.{state}

-- ## Sites

-- The word of a site of so many branches, by what is kept of it: a count as far as the mode looks at it, the branch that was chosen last, or both.
abbrev pub site_word : Mode → ℕ → Picks → ℕ
site_word Stopping k picks = min picks.count (k - 1)
site_word Cycling k picks = picks.count % k
site_word PurelyAtRandom k picks = 0
site_word AtRandom k picks = if nat_eq picks.count 0 then 0 else 1 + picks.last
site_word ThenAtRandom k picks = if nat_lt picks.count k then picks.count else k + picks.last
site_word ThenPurelyAtRandom k picks = min picks.count k

-- The word of a site of two branches or more stands for what is kept of it; what was chosen last is one of them.
pub record SiteIn (mode : Mode) (k : ℕ) (picks : Picks) (word : ℕ) : Type 0 where
  pub last : picks.last < k
  pub is : word ≡ site_word mode k picks

-- ## Choosing

-- The routine of each mode, and its number.
abbrev pub pick_acts : Mode → List Act
pick_acts Stopping = PICK_STOPPING_ACTS
pick_acts Cycling = PICK_CYCLING_ACTS
pick_acts PurelyAtRandom = PICK_PURELY_ACTS
pick_acts AtRandom = PICK_AT_RANDOM_ACTS
pick_acts ThenAtRandom = PICK_THEN_AT_RANDOM_ACTS
pick_acts ThenPurelyAtRandom = PICK_THEN_PURELY_ACTS

abbrev pub pick_number : Mode → ℕ
pick_number Stopping = PICK_STOPPING
pick_number Cycling = PICK_CYCLING
pick_number PurelyAtRandom = PICK_PURELY
pick_number AtRandom = PICK_AT_RANDOM
pick_number ThenAtRandom = PICK_THEN_AT_RANDOM
pick_number ThenPurelyAtRandom = PICK_THEN_PURELY

-- How many dice words are drawn behind so many more, in a circle.
abbrev pub drawn_more : Program → ℕ → ℕ → ℕ
drawn_more p drawn zero = drawn
drawn_more p drawn (suc n) = next_drawn p.world (drawn_more p drawn n)

-- The choice is answered, in 12 instructions at most, and its dice word is drawn; the word of the site stands for what is kept behind it, and every other
-- word stays.
pub record Chooses (p : Program) (f w : ℕ) (mode : Mode) (memory typed output : List ℕ) (drawn a k : ℕ) (cells : ℕ → ℕ) (picks : Picks)
    (choice : Choice) : Type 0 where
  pub memory' : List ℕ
  pub cells' : ℕ → ℕ
  pub holds : Holds p.world.layout memory' cells'
  pub site : SiteIn mode k (picked choice.branch picks) (cells' a)
  pub others : (j : ℕ) → j ≢ a → cells' j ≡ cells j
  pub locals' : List ℕ
  pub count : ℕ
  pub few : count ≤ 12
  pub runs : Runs p f w (pick_acts mode) (pick_acts mode) (state memory (at_cell a ∷ k ∷ 0 ∷ 0 ∷ []) typed drawn output) (Returns choice.branch)
      (state memory' locals' typed (drawn_more p drawn choice.drawn) output) count

-- So it is in each mode, by the next dice word, where the site's word may be written.
abbrev pub PicksWork : Type 0
PicksWork = (mode : Mode) (p : Program) (f w : ℕ) (memory typed output : List ℕ) (drawn a k : ℕ) (cells : ℕ → ℕ) (picks : Picks) →
    Holds p.world.layout memory cells → at_cell (a + 1) ≤ p.world.layout.base → 2 ≤ k → k < 16384 → SiteIn mode k picks (cells a) →
    Chooses p f w mode memory typed output drawn a k cells picks (choice_by mode k picks (word_at p.world drawn))
