-- What an author's slips are: hold it against docs/LINT.md, "The lines".
use Rattle.std.specs.Prelude.{ℕ, ◌||◌, ◌&&◌, List, Bool, true, false, Option, Some, None, not, codes, nat_eq, if◌then◌else◌}
use Rattle.std.specs.List.{list_any, starts_with}
use Rattle.std.specs.Option.{is_some}
use Rattle.std.specs.Str.{bytes_eq}
use Rattle.dg_base.specs.Names.{builtin_named, prelude_names, name_among}
use Rattle.dg_base.specs.Mentions.{Thing, names_in, variable_in}
use Rattle.dg_base.specs.Tree.{Stmts, no_stmts, stmt, Body, no_branches, branch, Said, rule, deny}
use Rattle.dg_base.specs.declared.mentions.Role.{Role}
use Rattle.dg_base.specs.declared.mentions.Role.TheVariants as role
use Rattle.dg_scopes.specs.Counts.{times}
use Rattle.dg_lint.specs.Uses.{Uses}
use Rattle.dg_lint.specs.declared.slip.Slip.{Slip}
use Rattle.dg_lint.specs.declared.slip.Slip.TheVariants.{NoRule, NeverAsked, NeverChanged, NeverUsed, NeverRead, Once, EndsOpen}

abbrev pub is_among : List ℕ → List (List ℕ) → Bool
is_among name names = list_any (bytes_eq name) names

-- A predicate of the prelude, or the entry of a program.
abbrev pub is_met : List ℕ → Bool
is_met name = name_among name prelude_names || bytes_eq (codes "(program entry point)") name

-- The language itself asks or answers it: a built-in query, a predicate of the prelude, or the entry of a program.
abbrev pub is_own : List ℕ → Bool
is_own name = is_some (builtin_named name) || is_met name

-- A query of a predicate that has no rule, no declaration and no change.
abbrev pub asked_slip : Uses → List ℕ → Option Slip
asked_slip u name = if is_among name u.given then None else Some NoRule

-- A rule of a predicate that isn't asked and doesn't change.
abbrev pub rule_slip : Uses → List ℕ → Option Slip
rule_slip u name = if is_among name u.asked || is_among name u.changed then None else Some NeverAsked

-- A global variable that doesn't change, asked or not.
abbrev pub declared_slip : Uses → List ℕ → Option Slip
declared_slip u name = if is_among name u.changed then None else if is_among name u.asked then Some NeverChanged else Some NeverUsed

-- A change of a predicate that isn't asked.
abbrev pub changed_slip : Uses → List ℕ → Option Slip
changed_slip u name = if is_among name u.asked then None else Some NeverRead

-- The slip of a predicate in this role.
abbrev pub slip_in : Uses → Role → List ℕ → Option Slip
slip_in u role.Rule name = rule_slip u name
slip_in u role.Access name = None
slip_in u role.Declared name = declared_slip u name
slip_in u (role.Changed set) name = changed_slip u name
slip_in u r name = asked_slip u name

-- The slip of a head, a query or a change, unless its predicate is the language's own.
abbrev pub query_slip : Uses → Role → List ℕ → Option Slip
query_slip u r name = if is_own name then None else slip_in u r name

-- A named variable that stands once among all that its item mentions, unless its name begins with `_`.
abbrev pub variable_slip : List Thing → List ℕ → Option Slip
variable_slip all name = if not (starts_with nat_eq name (codes "_")) && nat_eq (times name (names_in variable_in all)) 1 then Some Once else None

abbrev pub is_blank : Stmts → Bool
is_blank no_stmts = true
is_blank (stmt s ss) = false

-- Whether the last of these branches has no statement, or this where there is none.
abbrev pub last_is_blank : Bool → Body → Bool
last_is_blank none no_branches = none
last_is_blank none (branch ss b) = last_is_blank (is_blank ss) b

-- A body of several branches whose last has no statement: it ends with `(or)`.
abbrev pub is_open : Body → Bool
is_open no_branches = false
is_open (branch ss b) = last_is_blank false b

-- A rule, of either sign, whose body ends with `(or)`.
abbrev pub ends_open : Said → Bool
ends_open (rule ps b) = is_open b
ends_open (deny ps b) = is_open b
ends_open said = false

-- The slip of an item as a whole.
abbrev pub item_slip : Said → Option Slip
item_slip said = if ends_open said then Some EndsOpen else None
