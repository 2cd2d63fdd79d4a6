-- Which items are access rules: hold it against the chapter of the Dialog manual on access predicates.
use Rattle.std.specs.Prelude.{Bool, true, false}
use Rattle.dg_base.specs.Tree.{Said, topic, rule, deny, access, global_variable}

-- An access rule.
abbrev pub is_access : Said → Bool
is_access (access ps b) = true
is_access (topic n) = false
is_access (rule ps b) = false
is_access (deny ps b) = false
is_access (global_variable ps) = false
