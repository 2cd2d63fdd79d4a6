-- What the code keeps, as plain data. The proofs alone rest on it.
use Rattle.std.specs.Prelude.{ℕ, List, map}
use Rattle.std.specs.Borrow.{Bor}
use Rattle.std.specs.Option.{option_map}
use Rattle.dg_base.specs.Tree as tree
use Rattle.dg_base.specs.Tree.{Parts, Value, Stmt, Body}
use Rattle.dg_plain.specs.Plain as spec
use Rattle.dg_plain.specs.declared.setting.Setting.{Setting}

abbrev pub setting_view : Setting → spec.Setting
setting_view s = record { topic = option_map (λ name. name.now) s.topic; number = s.number; declares = s.declares }

-- The first value among parts, or else this one.
abbrev pub first_or : Parts → Value → Value
first_or tree.no_parts d = d
first_or (tree.part (tree.part_word w) ps) d = first_or ps d
first_or (tree.part (tree.part_value v) ps) d = v

-- These names.
abbrev pub seen : List (Bor (List ℕ)) → List (List ℕ)
seen ns = map (λ (n : Bor (List ℕ)). n.now) ns

-- The branches of a select.
abbrev pub selected : Stmt → Body
selected (tree.select mode b) = b
selected s = tree.no_branches
