-- The program with every rule of a tree, and the one that is searched for how its places start: hold them against docs/LANGUAGE.md, "Names" and
-- "The world", and the chapters of the Dialog manual on predicates, rules and the world.
use Rattle.std.specs.Prelude.{ℕ, ◌+◌, List, [], ◌∷◌, ◌++◌, false, not, map, min, length, codes, if◌then◌else◌}
use Rattle.std.specs.Str.{bytes_eq}
use Rattle.dg_base.specs.Heads.{name_of}
use Rattle.dg_base.specs.Mentions.{of_body}
use Rattle.dg_base.specs.Names.{prelude_names, name_among}
use Rattle.dg_base.specs.Tree.{Parts, Body, Said, rule, deny, Item}
use Rattle.dg_base.specs.declared.program.ClosureBody.{ClosureBody}
use Rattle.dg_base.specs.declared.program.Goal.{Goal}
use Rattle.dg_base.specs.declared.program.Goal.TheVariants.{Just, Fail}
use Rattle.dg_base.specs.declared.program.Rule.{Rule}
use Rattle.dg_base.specs.declared.program.Pred.{Pred}
use Rattle.dg_base.specs.declared.program.Place.{Place}
use Rattle.dg_base.specs.declared.program.PlaceKind.TheVariants.{ObjectVar}
use Rattle.dg_base.specs.declared.program.CoreProgram.{CoreProgram as Core}
use Rattle.dg_names.specs.Named.{Named}
use Rattle.dg_core.specs.Variables.{layouts_in, rule_variables}
use Rattle.dg_core.specs.Places.{is_among, place_names, declared_names, kind_of}
use Rattle.dg_core.specs.Bodies.{Closed, no_closure, in_parts}
use Rattle.dg_core.specs.Goals.{Scope, past, number_in, terms_of, body_goals, count_selects}
use Rattle.dg_core.specs.Rows.{selects_within, scope_in, closures_in_rule, closure_rows}

-- ---- rules

-- What names stand for outside a rule: those of the program, and its places.
abbrev pub outer_scope : Named → List Item → Scope
outer_scope names items = record { names = names; places = place_names items; variables = []; closures = []; before = 0 }

-- How many selects and how many closures stand before something.
pub record Before : Type 0 where
  pub selects : ℕ
  pub closures : ℕ

-- What the names in a rule stand for, so many closures standing in the items before.
abbrev pub scope_of : Scope → ℕ → Parts → Body → Scope
scope_of around first ps b = let ls = layouts_in ps b in scope_in (record { around = around; layouts = ls.closures; first = first }) ls.variables ls.places

-- A rule whose body is followed by these goals.
abbrev pub rule_of : Scope → Before → Parts → Body → List Goal → Rule
rule_of around n ps b behind = record {
  vars = min (length (rule_variables ps b)) 65535;
  head = terms_of (scope_of around n.closures ps b) ps;
  body = body_goals (past (scope_of around n.closures ps b) (in_parts ps)) n.selects b ++ behind;
}

-- A negated rule lets its predicate fail behind its body.
abbrev pub failing : List Goal
failing = Just ∷ Fail ∷ []

-- The rule that an item gives to the predicate of this name, where it gives one.
abbrev pub rules_of_item : Scope → Before → List ℕ → Said → List Rule
rules_of_item around n name (rule ps b) = if bytes_eq (name_of ps) name then rule_of around n ps b [] ∷ [] else []
rules_of_item around n name (deny ps b) = if bytes_eq (name_of ps) name then rule_of around n ps b failing ∷ [] else []
rules_of_item around n name said = []

-- The selects of an item outside closures.
abbrev pub selects_of : Said → ℕ
selects_of (rule ps b) = count_selects (of_body false b)
selects_of (deny ps b) = count_selects (of_body false b)
selects_of said = 0

-- The closures of an item, and the selects in them.
abbrev pub closures_of : Said → Closed
closures_of (rule ps b) = closures_in_rule ps b
closures_of (deny ps b) = closures_in_rule ps b
closures_of said = no_closure

-- How many closures an item has, at every depth: as many as layouts.
abbrev pub numbered : Said → ℕ
numbered (rule ps b) = length (layouts_in ps b).closures
numbered (deny ps b) = length (layouts_in ps b).closures
numbered said = 0

-- Behind an item.
abbrev pub behind_item : Before → Said → Before
behind_item n said = record { selects = n.selects + selects_of said; closures = n.closures + numbered said }

-- The rules that items give to the predicate of this name, in the order of the source.
abbrev pub rules_from : Scope → Before → List ℕ → List Item → List Rule
rules_from around n name [] = []
rules_from around n name (i ∷ is) = rules_of_item around n name i.said ++ rules_from around (behind_item n i.said) name is

-- The selects of items outside closures.
abbrev pub all_selects : List Item → ℕ
all_selects [] = 0
all_selects (i ∷ is) = selects_of i.said + all_selects is

-- Nothing stands before the first item.
abbrev pub none_before : Before
none_before = record { selects = 0; closures = 0 }

-- A predicate with its rules. Those of the prelude don't come from the source.
abbrev pub pred_of : Scope → List Item → List ℕ → Pred
pred_of around items name = record { name = name; from_source = not (name_among name prelude_names); rules = rules_from around none_before name items }

-- ---- closures

-- The rows of an item's closures, so many selects standing before those in them.
abbrev pub rows_in : Scope → Before → Said → List ClosureBody
rows_in around n (rule ps b) = closure_rows around n.closures n.selects ps b
rows_in around n (deny ps b) = closure_rows around n.closures n.selects ps b
rows_in around n said = []

-- Behind the closures of an item.
abbrev pub behind_rows : Before → Said → Before
behind_rows n said = record { selects = n.selects + selects_within (closures_of said); closures = n.closures + numbered said }

-- The rows of the closures of items, in the order of the source.
abbrev pub rows_from : Scope → Before → List Item → List ClosureBody
rows_from around n [] = []
rows_from around n (i ∷ is) = rows_in around n i.said ++ rows_from around (behind_rows n i.said) is

-- The selects in the closures of items.
abbrev pub inner_selects : List Item → ℕ
inner_selects [] = 0
inner_selects (i ∷ is) = selects_within (closures_of i.said) + inner_selects is

-- The selects in closures have numbers behind all others.
abbrev pub behind_rules : List Item → Before
behind_rules items = record { selects = all_selects items; closures = 0 }

-- ---- the program with every rule

-- The name of the entry.
abbrev pub entry_name : List ℕ
entry_name = codes "(program entry point)"

-- A place in which nothing starts set.
abbrev pub bare : List Item → List ℕ → Place
bare items name = record { kind = kind_of (declared_names items) name; start = [] }

-- The program with every rule, those that only say how places start too, in which every place is bare.
abbrev pub with_rules : Named → List Item → Core
with_rules names items = record {
  preds = map (pred_of (outer_scope names items) items) names.preds;
  closures = rows_from (outer_scope names items) (behind_rules items) items;
  places = map (bare items) (place_names items);
  objects = names.objects;
  words = names.words;
  sites = all_selects items + inner_selects items;
  entry = number_in names.preds entry_name;
}

-- ---- the program that is searched for how places start

-- Each rule stands in it, those of changing predicates too, each place is bare, and behind the places stands one for what a search answers, which takes
-- what a per-object variable takes.
abbrev pub initial_core : Named → List Item → Core
initial_core names items = let core = with_rules names items in record core { places = core.places ++ record { kind = ObjectVar; start = [] } ∷ [] }
