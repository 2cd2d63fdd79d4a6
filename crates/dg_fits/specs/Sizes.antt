-- What a program counts, where a story has to have room for it. Hold it against docs/REFUSALS.md, "Of a build".
use Rattle.std.specs.Prelude.{ℕ, ◌+◌, ◌*◌, List, [], ◌∷◌, length}
use Rattle.dg_base.specs.declared.program.Goal.{Goal, out-Goal}
use Rattle.dg_base.specs.declared.program.Goal.TheOpen.{Goal-F, Text, Either, Once, Not, If, Exhaust, Collect, Accumulate, Stoppable, Select}
use Rattle.dg_base.specs.declared.program.Term.{Term}
use Rattle.dg_base.specs.declared.program.Rule.{Rule}
use Rattle.dg_base.specs.declared.program.ClosureBody.{ClosureBody}
use Rattle.dg_base.specs.declared.program.Pred.{Pred}
use Rattle.dg_base.specs.declared.program.Place.{Place}
use Rattle.dg_base.specs.declared.program.PlaceKind.{PlaceKind}
use Rattle.dg_base.specs.declared.program.PlaceKind.TheVariants.{Flag, ObjectFlag, ObjectVar, Parent, Global}
use Rattle.dg_base.specs.declared.program.CoreProgram.{CoreProgram}
use Rattle.dg_base.specs.Terms.{nodes}
use Rattle.dg_base.specs.Goals.{all_goals_of, terms_held}
use Rattle.dg_meaning.specs.Render.{characters}

-- ## The world

-- A place takes two bytes of each object for a variable, and one for a flag; four where it is a global variable, and two where it is a global flag.
abbrev pub place_size : ℕ → PlaceKind → ℕ
place_size objects Flag = 2
place_size objects ObjectFlag = objects
place_size objects ObjectVar = 2 * objects
place_size objects Parent = 2 * objects
place_size objects Global = 4

abbrev pub places_size : ℕ → List Place → ℕ
places_size objects [] = 0
places_size objects (place ∷ places) = place_size objects place.kind + places_size objects places

-- The bytes of the world.
abbrev pub world_size : CoreProgram → ℕ
world_size program = places_size (length program.objects) program.places

-- ## The words

-- The bytes of spellings, and three for each.
abbrev pub words_size : List (List ℕ) → ℕ
words_size [] = 0
words_size (word ∷ words) = length word + 3 + words_size words

-- ## Nodes and characters

-- A character of a text counts 6.
abbrev pub names_size : List (List ℕ) → ℕ
names_size [] = 0
names_size (name ∷ names) = 6 * characters name + names_size names

-- A node counts 100.
abbrev pub term_size : Term → ℕ
term_size term = 100 * length (nodes term)

abbrev pub terms_size : List Term → ℕ
terms_size [] = 0
terms_size (term ∷ terms) = term_size term + terms_size terms

abbrev pub text_size : Goal-F Goal → ℕ
text_size (Text name) = 6 * characters name
text_size goal = 0

-- The lists of goals that a goal holds.
abbrev pub lists_held : Goal-F Goal → List (List Goal)
lists_held (Either lists) = lists
lists_held (Once goals) = goals ∷ []
lists_held (Not goals) = goals ∷ []
lists_held (If test first other) = test ∷ first ∷ other ∷ []
lists_held (Exhaust goals) = goals ∷ []
lists_held (Collect a goals b) = goals ∷ []
lists_held (Accumulate a goals b) = goals ∷ []
lists_held (Stoppable goals) = goals ∷ []
lists_held (Select site mode lists) = lists
lists_held goal = []

-- A goal by itself: a node, one for each list that it holds, and those of its terms; and the characters of a text.
abbrev pub goal_size : Goal-F Goal → ℕ
goal_size goal = 100 + text_size goal + terms_size (terms_held goal) + 100 * length (lists_held goal)

abbrev pub goals_size : List Goal → ℕ
goals_size [] = 0
goals_size (goal ∷ goals) = goal_size (out-Goal goal) + goals_size goals

-- A body, with its goals at every depth.
abbrev pub body_size : List Goal → ℕ
body_size body = goals_size (all_goals_of body)

abbrev pub rules_size : List Rule → ℕ
rules_size [] = 0
rules_size (rule ∷ rules) = 100 + terms_size rule.head + body_size rule.body + rules_size rules

abbrev pub preds_size : List Pred → ℕ
preds_size [] = 0
preds_size (pred ∷ preds) = 100 + rules_size pred.rules + preds_size preds

abbrev pub closures_size : List ClosureBody → ℕ
closures_size [] = 0
closures_size (closure ∷ closures) = 100 + body_size closure.body + closures_size closures

-- The terms that start set.
abbrev pub starts_size : List (ℕ × Term) → ℕ
starts_size [] = 0
starts_size (start ∷ starts) = term_size start.1 + starts_size starts

abbrev pub set_size : List Place → ℕ
set_size [] = 0
set_size (place ∷ places) = starts_size place.start + set_size places

-- How many selects there are among goals.
abbrev pub select_count : Goal-F Goal → ℕ
select_count (Select site mode lists) = 1
select_count goal = 0

abbrev pub selects : List Goal → ℕ
selects [] = 0
selects (goal ∷ goals) = select_count (out-Goal goal) + selects goals

-- All nodes and characters of a program.
abbrev pub story_size : CoreProgram → ℕ
story_size program =
    names_size program.words + names_size program.objects + preds_size program.preds + closures_size program.closures + set_size program.places
