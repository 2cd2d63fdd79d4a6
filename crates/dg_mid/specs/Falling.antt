-- That a run of code comes to its next goal, or to its end, in finitely many steps: a number falls. Hold it against the Dialog manual, chapter "Choice points".
use Rattle.std.specs.Prelude.{ℕ, zero, suc, ◌+◌, ◌*◌, List, [], ◌∷◌, length}
use Rattle.dg_mid.specs.declared.code.Op.{Op}
use Rattle.dg_mid.specs.declared.code.Op.TheVariants as op
use Rattle.dg_mid.specs.State.{Place, Frame, Way, Goes, Takes, Calls, Tries, Choice, Status, Runs, Enters, Resumes, Fails, Ended}

-- One where the code at hand jumps.
abbrev pub jumping : List Op → ℕ
jumping (op.Goto b ∷ ops) = 1
jumping ops = 0

-- How many frames there are, with the places that they hold.
abbrev pub frames_deep : List Frame → ℕ
frames_deep [] = 0
frames_deep (f ∷ fs) = 1 + length f.inner + frames_deep fs

-- The same with the inner constructs in front of them.
abbrev pub deep : List Frame → List Place → ℕ
deep frames inner = length inner + frames_deep frames

-- So many times a number.
abbrev pub times : ℕ → ℕ → ℕ
times zero k = 0
times (suc n) k = k + times n k

-- How often a way may still be gone.
abbrev pub ways_left : Way → ℕ
ways_left (Goes b) = suc b
ways_left (Takes b into) = 1
ways_left (Calls call rules) = suc (length rules)
ways_left (Tries f objects) = suc (length objects)

-- What choices have left.
abbrev pub choices_left : List Choice → ℕ
choices_left [] = 0
choices_left (c ∷ cs) = times (ways_left c.way) (2 * deep c.frames c.inner + 8) + choices_left cs

-- A number that falls at each step that takes no goal.
abbrev pub left_at : Status → ℕ
left_at (Runs m) = 2 * deep m.frames m.inner + 2 + jumping m.ops + choices_left m.choices
left_at (Enters call m) = 2 * deep m.frames m.inner + 6 + choices_left m.choices
left_at (Resumes way m) = times (ways_left way) (2 * deep m.frames m.inner + 8) + choices_left m.choices
left_at (Fails m) = 1 + choices_left m.choices
left_at (Ended e) = 0
