-- What is counted of rewritten items, and when it is too much: hold it against docs/LANGUAGE.md, "Limits", and docs/REFUSALS.md, "too many".
use Rattle.std.specs.Prelude.{ℕ, ◌+◌, ◌||◌, ◌&&◌, List, [], ◌∷◌, ◌++◌, Bool, false, not, filter, length, codes, nat_eq, nat_lt, if◌then◌else◌}
use Rattle.std.specs.List.{list_any, starts_with}
use Rattle.std.specs.Str.{bytes_eq}
use Rattle.dg_base.specs.Tree.{Said, access, Item}
use Rattle.dg_base.specs.Mentions.{Thing, topic_line, query, branches, Mentions, nothing, thing, closed, of_said, things, closures, names_in, weight_of, variable_in}
use Rattle.dg_base.specs.declared.mentions.Role.{Role}
use Rattle.dg_base.specs.declared.mentions.Role.TheVariants as role
use Rattle.dg_names.specs.Named.{firsts}
use Rattle.dg_names.specs.Counts.{counted_in, closures_at, selects_at}

-- How often a name stands among these.
abbrev pub times : List ℕ → List (List ℕ) → ℕ
times n [] = 0
times n (m ∷ ms) = if bytes_eq n m then times n ms + 1 else times n ms

-- Whether a name is that of an anonymous variable.
abbrev pub is_unnamed : List ℕ → Bool
is_unnamed n = starts_with nat_eq n (codes "$")

-- Whether a variable is at home in a closure: it is anonymous, and stands as often among the names there as in the whole item.
abbrev pub is_at_home : List (List ℕ) → List (List ℕ) → List ℕ → Bool
is_at_home all there n = is_unnamed n && nat_eq (times n there) (times n all)

-- The names that are left of those in a closure, once it has its own.
abbrev pub leaving : List (List ℕ) → List (List ℕ) → List (List ℕ)
leaving all there = filter (λ n. not (is_at_home all there n)) there

-- The names that stand in some mentions, but for those that are at home in a closure within, and for a closure's parameter.
abbrev pub names_out : List (List ℕ) → Mentions → List (List ℕ)
names_out all nothing = []
names_out all (thing t ms) = counted_in t ++ names_out all ms
names_out all (closed inner ms) = leaving all (names_out all inner) ++ names_out all ms

-- How many variables a rule or a closure has, of all the names in its item: each name once.
abbrev pub variables_among : List (List ℕ) → Mentions → ℕ
variables_among all ms = length (firsts (names_out all ms))

-- A rule or a closure with too many variables.
abbrev pub is_overfull : List (List ℕ) → Mentions → Bool
is_overfull all ms = nat_lt 64 (variables_among all ms)

-- Whether there are too many variables here, or in a closure within, of all the names in the item.
abbrev pub is_full_at : List (List ℕ) → Mentions → Bool
is_full_at all ms = is_overfull all ms || list_any (is_overfull all) (closures ms)

-- What is counted of a rewritten item: nothing of an access rule.
abbrev pub counted_of : Said → Mentions
counted_of (access ps b) = nothing
counted_of said = of_said said

-- An item with too many variables in a rule or a closure.
abbrev pub has_many_variables : Said → Bool
has_many_variables said = is_full_at (names_in variable_in (things (counted_of said))) (counted_of said)

-- The nodes of a head, or of a statement or a value that is a query. A declaration counts with the statement that it is.
abbrev pub role_nodes : Role → ℕ
role_nodes role.Rule = 1
role_nodes role.Access = 1
role_nodes role.Declared = 3
role_nodes role.Asked = 2
role_nodes role.AskedAll = 2
role_nodes role.AskedNot = 2
role_nodes (role.Changed set) = 1
role_nodes role.Nested = 2

-- The nodes of one thing: each value, statement and head is one.
abbrev pub nodes_at : Thing → ℕ
nodes_at (topic_line n) = 0
nodes_at (query r ps) = role_nodes r
nodes_at (branches n) = 0
nodes_at t = 1

-- The queries of one thing.
abbrev pub role_queries : Role → ℕ
role_queries role.Asked = 1
role_queries role.AskedAll = 1
role_queries role.AskedNot = 1
role_queries r = 0

abbrev pub queries_at : Thing → ℕ
queries_at (query r ps) = role_queries r
queries_at t = 0

-- A rule of either sign.
abbrev pub role_rules : Role → ℕ
role_rules role.Rule = 1
role_rules r = 0

abbrev pub thing_rules : Thing → ℕ
thing_rules (query r ps) = role_rules r
thing_rules t = 0

-- What is counted of these items.
abbrev pub counted_among : List Item → List Thing
counted_among [] = []
counted_among (i ∷ is) = things (counted_of i.said) ++ counted_among is

-- One of these items has too many variables in a rule or a closure.
abbrev pub any_has_many : List Item → Bool
any_has_many [] = false
any_has_many (i ∷ is) = has_many_variables i.said || any_has_many is

-- What one item becomes is too large: it has too many queries together, or too many variables in a rule or a closure.
abbrev pub are_large : List Item → Bool
are_large is = nat_lt 10000 (weight_of queries_at (counted_among is)) || any_has_many is

-- A count in all passes its number: rules, closures, select sites or nodes.
abbrev pub are_over : List Item → Bool
are_over is = let ts = counted_among is in nat_lt 16000 (weight_of thing_rules ts)
    || (nat_lt 16000 (weight_of closures_at ts) || (nat_lt 500 (weight_of selects_at ts) || nat_lt 2000000 (weight_of nodes_at ts)))
