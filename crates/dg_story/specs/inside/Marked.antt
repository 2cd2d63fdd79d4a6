-- Marks as they are made. The proofs alone rest on them.
use Rattle.std.specs.Prelude.{◌≡◌, ℕ, List, [], ◌∷◌, drop, Result, Ok, Vec}
use Rattle.std.specs.declared.alloc.Global.{Global}
use Rattle.z_list.specs.declared.mark.Mark.{Mark}
use Rattle.z_story.specs.declared.building.Placed.{Placed}
use Rattle.dg_emit.specs.Story.{first_number}
use Rattle.dg_story.specs.declared.building.Built.{Built}

-- The marks of rules at the places of their routines, one after another.
abbrev pub marks_at : List (ℕ × ℕ) → List (ℕ × ℕ) → List Mark
marks_at [] places = []
marks_at (rule ∷ rules) [] = []
marks_at (rule ∷ rules) (place ∷ places) = record { from = place.0; to = place.1; pred = rule.0; rule = rule.1 } ∷ marks_at rules places

-- What is built has this story, so many rules, and their marks, where their names are at hand.
pub record HasThose {E : Type 0} (placed : Placed) (rules : Result (Vec (ℕ × ℕ) Global) E) (count : ℕ) (built : Built) : Type 0 where
  pub story : built.story.items ≡ placed.story.items
  pub count_is : built.rule_routines ≡ count
  pub names : Vec (ℕ × ℕ) Global
  pub named : rules ≡ Ok names
  pub marks : built.marks.items ≡ marks_at names.items (drop first_number placed.places.items)
