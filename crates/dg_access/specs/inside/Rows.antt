-- Which access rules ask for which, by number, those of one name standing for the first of them. The proofs alone rest on it.
use Rattle.std.specs.Prelude.{ℕ, ◌+◌, ◌&&◌, List, [], ◌∷◌, ◌++◌, Bool, false, Option, Some, None, map, take, drop, length, nat_eq, nat_lt, if◌then◌else◌}
use Rattle.dg_plain.specs.Rewritten.{is_access}
use Rattle.dg_base.specs.Heads.{name_of}
use Rattle.dg_base.specs.Tree as tree
use Rattle.dg_base.specs.Tree.{Item}
use Rattle.dg_base.specs.Mentions.{Thing, query, things_in}
use Rattle.dg_base.specs.declared.mentions.Role.{Role}
use Rattle.dg_base.specs.declared.mentions.Role.TheVariants as role
use Rattle.dg_put.specs.inside.Firsts.{first_of}
use Rattle.dg_put.specs.Put.{Access}
use Rattle.dg_items.specs.Expanded.{access_in}
use Rattle.dg_access.specs.Loops.{loops}

-- The number of an access rule's name.
abbrev pub number_in : List Access → List ℕ → List ℕ
number_in rules name = if nat_lt (first_of rules name) (length rules) then first_of rules name ∷ [] else []

-- The access rule that a query or a change asks for.
abbrev pub asked_as : List Access → Role → List ℕ → List ℕ
asked_as rules role.Access name = []
asked_as rules r name = number_in rules name

abbrev pub asked_at : List Access → Thing → List ℕ
asked_at rules (query r ps) = asked_as rules r (name_of ps)
asked_at rules t = []

abbrev pub asked : List Access → List Thing → List ℕ
asked rules [] = []
asked rules (t ∷ ts) = asked_at rules t ++ asked rules ts

-- A row for each access rule of an item.
abbrev pub item_rows : List Access → Item → List (List ℕ)
item_rows rules i = map (λ (r : Access). asked rules (things_in i.said)) (access_in i.said)

abbrev pub first_rows : List Access → List Item → List (List ℕ)
first_rows rules [] = []
first_rows rules (i ∷ is) = item_rows rules i ++ first_rows rules is

-- What an access rule asks for.
abbrev pub asked_by : List Access → Access → List ℕ
asked_by rules r = asked rules (things_in (tree.access r.head r.body))

abbrev pub all_rows : List Access → List (List ℕ)
all_rows rules = map (asked_by rules) rules

-- Of each of these, the first access rule of its name.
abbrev pub firsts : List Access → List Access → List ℕ
firsts rules rs = map (λ (r : Access). first_of rules r.name) rs

-- The rows of those that have this number, together.
abbrev pub pooled : ℕ → List ℕ → List (List ℕ) → List ℕ
pooled k [] rows = []
pooled k (n ∷ ns) [] = []
pooled k (n ∷ ns) (row ∷ rows) = (if nat_eq n k then row else []) ++ pooled k ns rows

-- The same for each number from this one on, as many as the first list has.
abbrev pub pooled_from : ℕ → List ℕ → List ℕ → List (List ℕ) → List (List ℕ)
pooled_from k [] ns rows = []
pooled_from k (c ∷ cs) ns rows = pooled k ns rows ∷ pooled_from (k + 1) cs ns rows

abbrev pub all_pooled : List Access → List (List ℕ)
all_pooled rules = pooled_from 0 (firsts rules rules) (firsts rules rules) (all_rows rules)

-- Whether the access rule that stands here, behind these, is the second of its predicate, or reaches it.
abbrev pub is_here_looping : List Access → List Access → List Access → Bool
is_here_looping rules before [] = false
is_here_looping rules before (r ∷ rs) = loops rules before r

abbrev pub is_looping : List Access → ℕ → Bool
is_looping rules number = is_here_looping rules (take number rules) (drop number rules)

-- The line of the first item whose access rule loops or is repeated, the access rules being numbered from here on.
abbrev pub first_numbered : List Access → ℕ → List Item → Option ℕ
first_numbered rules number [] = None
first_numbered rules number (i ∷ is) =
    if is_access i.said && is_looping rules number then Some i.line else first_numbered rules (if is_access i.said then number + 1 else number) is
