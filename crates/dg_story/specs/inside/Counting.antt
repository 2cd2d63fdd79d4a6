-- What is still to be counted. The proofs alone rest on it.
use Rattle.std.specs.Prelude.{◌≡◌, ℕ, ◌+◌, ◌<◌, List, [], ◌∷◌}
use Rattle.dg_base.specs.declared.program.Goal.{Goal}
use Rattle.dg_base.specs.declared.program.Goal.TheOpen.{Goal-F}
use Rattle.dg_base.specs.Goals.{terms_held}
use Rattle.dg_story.specs.declared.counting.Left.{Left}
use Rattle.dg_story.specs.declared.counting.Left.TheVariants as left
use Rattle.dg_story.specs.declared.counting.Count.{Count}
use Rattle.dg_fits.specs.Sizes.{text_size, term_size, terms_size, lists_held, body_size}

abbrev pub part_size : Left → ℕ
part_size (left.Goals goals) = body_size goals.now
part_size (left.Term term) = term_size term.now

abbrev pub left_size : List Left → ℕ
left_size [] = 0
left_size (part ∷ parts) = part_size part + left_size parts

-- A list of goals that a goal holds, as a node of its own.
abbrev pub lists_size : List (List Goal) → ℕ
lists_size [] = 0
lists_size (goals ∷ lists) = 100 + body_size goals + lists_size lists

-- A goal with all that is in it.
abbrev pub whole_size : Goal-F Goal → ℕ
whole_size goal = 100 + text_size goal + terms_size (terms_held goal) + lists_size (lists_held goal)

-- So much more was counted: it took room, or is still to be counted.
abbrev pub Counted : ℕ → Count → Count → Type 0
Counted size old new = size + (left_size old.left + new.room) ≡ left_size new.left + old.room

-- Of what is to be counted more, this is left; the rest took room, or is still to be counted.
abbrev pub GoesOn : ℕ → ℕ → Count → Count → Type 0
GoesOn whole rest old new = whole + (left_size old.left + new.room) ≡ rest + (left_size new.left + old.room)

-- There is less room than for this and what is still to be counted.
abbrev pub Lacks : ℕ → Count → Type 0
Lacks size old = old.room < size + left_size old.left
