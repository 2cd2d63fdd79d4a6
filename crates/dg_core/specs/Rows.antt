-- The closures of a program, each with what it captures: hold them against docs/LANGUAGE.md, "Search" on closures.
use Rattle.std.specs.Prelude.{ℕ, ◌+◌, ◌≤◌, List, [], ◌∷◌, ◌++◌, false, map, min, length, get_or, slice_get}
use Rattle.dg_base.specs.Mentions.{Mentions, nothing, thing, closed, of_body, of_rule, things, names_in, variable_in}
use Rattle.dg_base.specs.Sound.{Captures, closure_vars}
use Rattle.dg_base.specs.Tree.{Parts, Body}
use Rattle.dg_base.specs.declared.mentions.Role.TheVariants as role
use Rattle.dg_base.specs.declared.program.ClosureBody.{ClosureBody}
use Rattle.dg_scopes.specs.Counts.{names_out}
use Rattle.dg_scopes.specs.Closures.{Layout, layout_by, variables_in, behind_closure}
use Rattle.dg_core.specs.Bodies.{Closed, no_closure, a_closure, joined_closures, in_parts, in_branches}
use Rattle.dg_core.specs.Goals.{Scope, number_in, count_selects, body_goals}
use Rattle.dg_core.specs.Variables.{layouts_in}

-- How many closures stand here, at every depth.
abbrev pub size : Closed → ℕ
size no_closure = 0
size (a_closure b inner cs) = size inner + 1 + size cs

-- The selects that stand in their bodies.
abbrev pub selects_within : Closed → ℕ
selects_within no_closure = 0
selects_within (a_closure b inner cs) = count_selects (of_body false b) + selects_within inner + selects_within cs

-- What a closure has where no layout stands at its place: none of a source that was read.
abbrev pub no_layout : Layout
no_layout = record { captured = []; own = []; places = [] }

-- The layout at this place.
abbrev pub layout_at : List Layout → ℕ → Layout
layout_at ls k = get_or ls k no_layout

-- What the closures of a rule are made in: what names stand for outside it, the layouts of its closures, and how many closures stand in the items before.
pub record Home : Type 0 where
  pub around : Scope
  pub layouts : List Layout
  pub first : ℕ

-- What names stand for in a rule or a closure with these variables and closures.
abbrev pub scope_in : Home → List (List ℕ) → List ℕ → Scope
scope_in home variables places = record home.around { variables = variables; closures = map (λ p. home.first + p) places; before = 0 }

-- The numbers of what a closure captures, among the variables of what it stands in.
abbrev pub captured_in : List (List ℕ) → Layout → List ℕ
captured_in enclosing l = map (number_in enclosing) l.captured

-- A closure of this layout and body that captures these variables, so many selects standing before.
abbrev pub row_with : Home → List ℕ → ℕ → Layout → Body → ClosureBody
row_with home captured n l b = record {
  captured = captured;
  own = min (length l.own) 65535;
  body = body_goals (scope_in home (variables_in l) l.places) n b;
}

-- The closures that stand in something with these variables and places of closures, from the one with this number on: each before those
-- within it, and selects numbered in that order, so many standing before.
abbrev pub rows : Home → List (List ℕ) → List ℕ → ℕ → ℕ → Closed → List ClosureBody
rows home enclosing places i n no_closure = []
rows home enclosing places i n (a_closure b inner cs) =
    let l = layout_at home.layouts (get_or places i 0) in
    let m = n + count_selects (of_body false b) in
    row_with home (captured_in enclosing l) n l b ∷
    (rows home (variables_in l) l.places 0 m inner ++ rows home enclosing places (i + 1) (m + selects_within inner) cs)

-- The closures that stand in a rule, those of its head first.
abbrev pub closures_in_rule : Parts → Body → Closed
closures_in_rule ps b = joined_closures (in_parts ps) (in_branches b)

-- All names of variables in a rule.
abbrev pub names_of : Parts → Body → List (List ℕ)
names_of ps b = names_in variable_in (things (of_rule role.Rule ps b))

-- The rows of the closures of a rule, so many closures standing in the items before, and so many selects before its closures.
abbrev pub closure_rows : Scope → ℕ → ℕ → Parts → Body → List ClosureBody
closure_rows around first n ps b =
    let ls = layouts_in ps b in
    rows (record { around = around; layouts = ls.closures; first = first }) ls.variables ls.places 0 n (closures_in_rule ps b)

-- ---- what the law on rows says

-- Each closure that is mentioned has its row, the first at this place: what it captures is among these variables, and what one in it captures among its own.
abbrev pub AreCaught : List ClosureBody → List (List ℕ) → List (List ℕ) → ℕ → Mentions → Type 0
AreCaught rs all vars k nothing = Unit {0}
AreCaught rs all vars k (thing t ms) = AreCaught rs all vars k ms
AreCaught rs all vars k (closed inner ms) =
    let own = variables_in (layout_by all (names_out all inner) []) in
    Captures (length vars) (slice_get rs k) × AreCaught rs all own (k + 1) inner × AreCaught rs all vars (behind_closure k inner) ms

-- A closure has its parameter among its own variables, and at most 64 other variables.
pub record IsSmallRow (row : ClosureBody) : Type 0 where
  pub few : closure_vars row ≤ 65
  pub parameter : 1 ≤ row.own
