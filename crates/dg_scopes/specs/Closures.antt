-- Whose the variables of an item with plain heads are, and the places of its closures: hold it against docs/LANGUAGE.md, "Search" on closures,
-- and "Limits".
use Rattle.std.specs.Prelude.{ℕ, ◌+◌, List, [], ◌∷◌, ◌++◌, filter, length, codes}
use Rattle.dg_base.specs.Mentions.{Mentions, nothing, thing, closed, closures, variable_in}
use Rattle.dg_names.specs.Named.{firsts}
use Rattle.dg_scopes.specs.Counts.{is_at_home, leaving, names_out}

-- The parameter of a closure.
abbrev pub parameter : List ℕ
parameter = codes "_"

-- The place behind a closure at this place: those within it follow it.
abbrev pub behind_closure : ℕ → Mentions → ℕ
behind_closure k inner = k + 1 + length (closures inner)

-- The places of the closures that stand here and in no other closure, the first being at this place.
abbrev pub places_from : ℕ → Mentions → List ℕ
places_from k nothing = []
places_from k (thing t ms) = places_from k ms
places_from k (closed inner ms) = k ∷ places_from (behind_closure k inner) ms

-- What a closure captures, what it has by itself, and the places of the closures that stand directly in it.
pub record Layout : Type 0 where
  pub captured : List (List ℕ)
  pub own : List (List ℕ)
  pub places : List ℕ

-- The layout of a closure by the names that stand in it and aren't at home within: those that aren't at home in it are captured; its
-- parameter and those at home are its own. Each stands once, in order of first appearance.
abbrev pub layout_by : List (List ℕ) → List (List ℕ) → List ℕ → Layout
layout_by all there places = record {
  captured = firsts (leaving all there);
  own = parameter ∷ firsts (filter (is_at_home all there) there);
  places = places;
}

-- The variables of a closure: the captured ones, its parameter and its other own ones.
abbrev pub variables_in : Layout → List (List ℕ)
variables_in l = l.captured ++ l.own

-- The layouts of the closures that stand here at every depth, of all the names in their item: one that begins first is first, and at this place.
abbrev pub layouts_from : List (List ℕ) → ℕ → Mentions → List Layout
layouts_from all k nothing = []
layouts_from all k (thing t ms) = layouts_from all k ms
layouts_from all k (closed inner ms) =
    layout_by all (names_out all inner) (places_from (k + 1) inner) ∷ (layouts_from all (k + 1) inner ++ layouts_from all (behind_closure k inner) ms)

-- The names that stand in a rule: outside its closures, or captured by one.
abbrev pub names_around : List (List ℕ) → Mentions → List (List ℕ)
names_around all nothing = []
names_around all (thing t ms) = variable_in t ++ names_around all ms
names_around all (closed inner ms) = leaving all (names_out all inner) ++ names_around all ms

-- The variables of a rule, the places of the closures that stand directly in it, and the layouts of all.
pub record Layouts : Type 0 where
  pub variables : List (List ℕ)
  pub places : List ℕ
  pub closures : List Layout

abbrev pub layouts_of : List (List ℕ) → Mentions → Layouts
layouts_of all ms = record { variables = firsts (names_around all ms); places = places_from 0 ms; closures = layouts_from all 0 ms }
