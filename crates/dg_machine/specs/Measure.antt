-- A number that falls at each step of a machine that takes no goal.
use Rattle.std.specs.Prelude.{ℕ, suc, ◌+◌, ◌-◌, ◌*◌, List, [], ◌∷◌, Option, Some, None}
use Rattle.dg_mid.specs.Falling.{jumping}
use Rattle.dg_machine.specs.declared.now.Choice.{Choice}
use Rattle.dg_machine.specs.declared.now.Way.{Way}
use Rattle.dg_machine.specs.declared.now.Way.TheVariants.{Goes, Takes, Calls, Tries}
use Rattle.dg_machine.specs.declared.now.Now.{Now}
use Rattle.dg_machine.specs.declared.now.Now.TheVariants.{Runs, Enters, Resumes, Leaves, Misses, Fails, Ended}
use Rattle.dg_machine.specs.declared.memory.Memory.{Memory}

-- How often a way may still be gone.
abbrev pub way_left : Way → ℕ
way_left (Goes b) = suc b
way_left (Takes b) = 1
way_left (Calls k pred left) = suc left
way_left (Tries k from end) = suc (end - from)

-- The same, where there is one.
abbrev pub left_by : Option Way → ℕ
left_by None = 0
left_by (Some way) = way_left way

-- What choices have left.
abbrev pub choices_left : List Choice → ℕ
choices_left [] = 0
choices_left (k ∷ ks) = way_left k.way + choices_left ks

-- What a choice may come to before it goes on again.
abbrev pub lap : ℕ
lap = 1000000000000000000000000000000

-- Memory with this way at hand.
abbrev pub with_way : Memory → Way → Memory
with_way r way = record r { way = way }

-- A number that falls at each step that takes no goal: by choices, then by frames, then by inner constructs, then by jumps.
abbrev pub left_of : Memory → Now → ℕ
left_of r (Runs ops) = lap * choices_left r.choices.items + 1000000000000 * r.frame + 2 * r.inner + 2 + jumping ops.now
left_of r (Enters ops) = lap * choices_left r.choices.items + 500000000000000000000000000000
left_of r Resumes = lap * (choices_left r.choices.items + way_left r.way)
left_of r (Leaves height ops) = lap * choices_left r.choices.items + 1000000000000 * r.frame + 2 * r.inner + 4
left_of r Misses = lap * choices_left r.choices.items + 1
left_of r Fails = lap * choices_left r.choices.items + 1
left_of r (Ended e) = 0
