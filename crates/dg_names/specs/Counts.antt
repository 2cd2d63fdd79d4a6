-- The counts of a source, and the first item at which one passes its number: hold them against docs/LANGUAGE.md, "Limits", and docs/REFUSALS.md, "too many".
use Rattle.std.specs.Prelude.{ℕ, ◌+◌, ◌||◌, List, [], ◌∷◌, Bool, true, false, Result, length, codes, nat_lt, if◌then◌else◌}
use Rattle.std.specs.List.{list_any}
use Rattle.std.specs.Str.{bytes_eq}
use Rattle.dg_base.specs.Tree.{Parts, no_parts, part, part_word, part_value, Said, rule, deny, access, Item}
use Rattle.dg_base.specs.Mentions.{Thing, query, variable, unnamed, word_choice, branches, select, closure, Mentions, nothing, thing, closed, of_said, things, closures, things_in, mentioned, names_in, weight_of}
use Rattle.dg_base.specs.Passing.{first_passing, IsCounted}
use Rattle.dg_base.specs.declared.refusal.Refusal.{Refusal}
use Rattle.dg_names.specs.Named.{Named, firsts, names_of}

-- The number of values among these parts.
abbrev pub places_in : Parts → ℕ
places_in no_parts = 0
places_in (part (part_word w) ps) = places_in ps
places_in (part (part_value v) ps) = places_in ps + 1

-- A named variable, but for a closure's parameter.
abbrev pub counted_in : Thing → List (List ℕ)
counted_in (variable n) = if bytes_eq n (codes "_") then [] else n ∷ []
counted_in t = []

-- An anonymous variable that a rule with plain heads has at one place alone.
abbrev pub own_at : Thing → ℕ
own_at (unnamed false) = 1
own_at t = 0

-- An anonymous variable that it has at two, or the new variable of a choice of words.
abbrev pub shared_at : Thing → ℕ
shared_at (unnamed true) = 1
shared_at (word_choice ws) = 1
shared_at t = 0

-- The anonymous variables at one place, those of closures apart.
abbrev pub own_in : Mentions → ℕ
own_in nothing = 0
own_in (thing t ms) = own_in ms + own_at t
own_in (closed inner ms) = own_in ms

-- The variables of a rule or a closure: those that are named or shared in it at any depth, and its own anonymous ones.
abbrev pub variables_of : Mentions → ℕ
variables_of ms = length (firsts (names_in counted_in (things ms))) + (own_in ms + weight_of shared_at (things ms))

-- A rule or a closure with too many variables.
abbrev pub is_full : Mentions → Bool
is_full ms = nat_lt 64 (variables_of ms)

-- A predicate with too many places, or a body or a select with too many branches.
abbrev pub is_excess : Thing → Bool
is_excess (query _ ps) = nat_lt 12 (places_in ps)
is_excess (branches n) = nat_lt 500 n
is_excess (select n) = nat_lt 500 n
is_excess t = false

-- An item that has such a one, or too many variables in itself or in a closure.
abbrev pub has_excess : Said → Bool
has_excess said = list_any is_excess (things_in said) || (is_full (of_said said) || list_any is_full (closures (of_said said)))

abbrev pub closures_at : Thing → ℕ
closures_at closure = 1
closures_at t = 0

abbrev pub selects_at : Thing → ℕ
selects_at (select n) = 1
selects_at t = 0

-- A rule, a negated rule or an access rule.
abbrev pub is_rule : Said → Bool
is_rule (rule ps b) = true
is_rule (deny ps b) = true
is_rule (access ps b) = true
is_rule said = false

-- The number of rules.
abbrev pub count_rules : List Item → ℕ
count_rules [] = 0
count_rules (i ∷ is) = if is_rule i.said then count_rules is + 1 else count_rules is

-- Too many objects, words or predicates.
abbrev pub are_many_names : Named → Bool
are_many_names named = nat_lt 1000 (length named.objects) || (nat_lt 4000 (length named.words) || nat_lt 4000 (length named.preds))

-- A count in all passes its number.
abbrev pub are_many : List Item → Bool
are_many is = are_many_names (names_of is) ||
    (nat_lt 16000 (count_rules is) || (nat_lt 16000 (weight_of closures_at (mentioned is)) || nat_lt 500 (weight_of selects_at (mentioned is))))

-- The names of these items, or why they are refused.
abbrev pub IsNamed : List Item → Result Named Refusal → Type 0
IsNamed is = IsCounted (first_passing has_excess are_many [] is) (names_of is)
