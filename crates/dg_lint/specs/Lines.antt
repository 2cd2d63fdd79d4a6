-- The lines that are written for a source's slips: hold the texts against docs/LINT.md, "The lines".
use Rattle.std.specs.Prelude.{ℕ, List, [], ◌∷◌, ◌++◌, Option, Some, None, codes, decimal, flat_map, if◌then◌else◌}
use Rattle.std.specs.Str.{bytes_eq}
use Rattle.dg_base.specs.Heads.{name_of}
use Rattle.dg_base.specs.Tree.{Said, Item}
use Rattle.dg_base.specs.Mentions.{Thing, query, variable, things_in}
use Rattle.dg_lint.specs.Uses.{Uses, uses_of}
use Rattle.dg_lint.specs.Slips.{query_slip, variable_slip, item_slip}
use Rattle.dg_lint.specs.declared.slip.Slip.{Slip}
use Rattle.dg_lint.specs.declared.slip.Slip.TheVariants.{NoRule, NeverAsked, NeverChanged, NeverUsed, NeverRead, Once, EndsOpen}

-- The words before the name.
abbrev pub front_of : Slip → List ℕ
front_of NoRule = codes "no rule for "
front_of NeverAsked = codes "never asked: "
front_of NeverChanged = codes "never changed: "
front_of NeverUsed = codes "never asked or changed: "
front_of NeverRead = codes "changed but never asked: "
front_of Once = codes "stands once: $"
front_of EndsOpen = codes "ends with (or); is the next line to be indented?"

-- Names that are near a keyword, each with the keyword that may be meant.
abbrev pub near_keywords : List (List ℕ × List ℕ)
near_keywords =
    (codes "(else if)", codes "(elseif)") ∷ (codes "(elsif)", codes "(elseif)") ∷ (codes "(elif)", codes "(elseif)") ∷
    (codes "(end if)", codes "(endif)") ∷ (codes "(end)", codes "(endif)") ∷ (codes "(fi)", codes "(endif)") ∷
    (codes "(otherwise)", codes "(else)") ∷ (codes "(stop if)", codes "(if)") ∷ []

-- The keyword that may be meant.
abbrev pub hint_among : List (List ℕ × List ℕ) → List ℕ → List ℕ
hint_among [] name = []
hint_among (near ∷ others) name = if bytes_eq near.0 name then codes "; is " ++ (near.1 ++ codes " meant?") else hint_among others name

-- The words behind the name.
abbrev pub tail_of : Slip → List ℕ → List ℕ
tail_of NoRule name = hint_among near_keywords name
tail_of slip name = []

-- FILE:LINE:
abbrev pub place_of : List ℕ → ℕ → List ℕ
place_of file line = file ++ (codes ":" ++ (decimal line ++ codes ": "))

-- A slip's line, where there is one.
abbrev pub line_of : List ℕ → List ℕ → Option Slip → List ℕ
line_of place name None = []
line_of place name (Some slip) = place ++ (front_of slip ++ (name ++ (tail_of slip name ++ codes "\n")))

-- The line of one thing among all that its item mentions.
abbrev pub thing_line : List ℕ → Uses → List Thing → Thing → List ℕ
thing_line place u all (query r ps) = line_of place (name_of ps) (query_slip u r (name_of ps))
thing_line place u all (variable n) = line_of place n (variable_slip all n)
thing_line place u all t = []

-- The lines of the things of an item.
abbrev pub things_lines : List ℕ → Uses → Said → List ℕ
things_lines place u said = flat_map (thing_line place u (things_in said)) (things_in said)

-- The lines of an item, each with the line on which the item begins: its own, and those of its things in the order in which they stand there.
abbrev pub item_lines : List ℕ → Uses → Item → List ℕ
item_lines file u i = line_of (place_of file i.line) [] (item_slip i.said) ++ things_lines (place_of file i.line) u i.said

-- The lines of all items, in order.
abbrev pub lint_lines : List ℕ → List Item → List ℕ
lint_lines file is = flat_map (item_lines file (uses_of is)) is
