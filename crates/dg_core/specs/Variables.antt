-- The variables of a rule: hold them against the chapters of the Dialog manual on values and closures.
use Rattle.std.specs.Prelude.{List, ℕ}
use Rattle.dg_base.specs.Mentions.{of_rule, things, names_in, variable_in}
use Rattle.dg_base.specs.Tree.{Parts, Body}
use Rattle.dg_base.specs.declared.mentions.Role.TheVariants as role
use Rattle.dg_scopes.specs.Closures.{Layouts, layouts_of}

-- The layouts of a rule and its closures.
abbrev pub layouts_in : Parts → Body → Layouts
layouts_in ps b = let ms = of_rule role.Rule ps b in layouts_of (names_in variable_in (things ms)) ms

-- The variables of a rule, in order of first appearance, its head first: those that stand outside its closures, and those that these capture.
abbrev pub rule_variables : Parts → Body → List (List ℕ)
rule_variables ps b = (layouts_in ps b).variables
