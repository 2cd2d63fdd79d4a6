-- Variables and numbers that are counted along the mentions of an item. The proofs alone rest on it.
use Rattle.std.specs.Prelude.{ℕ, ◌+◌, ◌||◌, ◌&&◌, List, [], ◌∷◌, Bool, false, length, codes, nat_eq, nat_lt, if◌then◌else◌}
use Rattle.std.specs.Str.{bytes_eq}
use Rattle.dg_base.specs.Tree.{Item}
use Rattle.dg_base.specs.Mentions.{Thing, variable, weight_of}
use Rattle.dg_base.specs.Walk.{Met, met, opens, closes}
use Rattle.dg_names.specs.Counts.{closures_at, selects_at}
use Rattle.dg_scopes.specs.Counts.{is_unnamed, nodes_at, thing_rules, counted_among}

-- ---- variables

-- A name, and how often it stands in a scope.
pub record Entry : Type 0 where
  pub name : List ℕ
  pub places : ℕ

abbrev pub entry : List ℕ → ℕ → Entry
entry n k = record { name = n; places = k }

-- A scope with so many more places of a name.
abbrev pub with_places : List Entry → List ℕ → ℕ → List Entry
with_places [] n k = entry n k ∷ []
with_places (e ∷ es) n k = if bytes_eq n e.name then entry e.name (e.places + k) ∷ es else e ∷ with_places es n k

-- The index of a name's entry in a scope, or the length.
abbrev pub place_of : List Entry → List ℕ → ℕ
place_of [] n = 0
place_of (e ∷ es) n = if bytes_eq n e.name then 0 else place_of es n + 1

abbrev pub is_full : List Entry → Bool
is_full s = nat_lt 64 (length s)

-- A scope behind a name.
abbrev pub after : List ℕ → List Entry → List Entry
after n s = if bytes_eq n (codes "_") then s else with_places s n 1

-- Whether a variable that stands so often in a closure is left behind there, of all its places.
abbrev pub stays : (List ℕ → ℕ) → Entry → Bool
stays total e = is_unnamed e.name && nat_eq e.places (total e.name)

-- A scope behind a closure in it.
abbrev pub merged : (List ℕ → ℕ) → List Entry → List Entry → List Entry
merged total o [] = o
merged total o (e ∷ es) = merged total (if stays total e then o else with_places o e.name e.places) es

-- Whether a scope is full along these mentions, from this scope in those on.
abbrev pub passes : (List ℕ → ℕ) → List Met → List Entry → List (List Entry) → Bool
passes total [] s outer = false
passes total (met (variable n) ∷ ms) s outer = is_full (after n s) || passes total ms (after n s) outer
passes total (met t ∷ ms) s outer = passes total ms s outer
passes total (opens ∷ ms) s outer = passes total ms [] (s ∷ outer)
passes total (closes ∷ ms) s [] = passes total ms s []
passes total (closes ∷ ms) s (o ∷ outer) = is_full (merged total o s) || passes total ms (merged total o s) outer

-- ---- counts in all

pub record Counted : Type 0 where
  pub rules : ℕ
  pub closures : ℕ
  pub selects : ℕ
  pub nodes : ℕ

-- What is counted behind these mentions.
abbrev pub counted : List Thing → Counted → Counted
counted ts c = record {
  rules = c.rules + weight_of thing_rules ts;
  closures = c.closures + weight_of closures_at ts;
  selects = c.selects + weight_of selects_at ts;
  nodes = c.nodes + weight_of nodes_at ts;
}

-- Nothing yet.
abbrev pub uncounted : Counted
uncounted = record { rules = 0; closures = 0; selects = 0; nodes = 0 }

-- What is counted of these items.
abbrev pub counts_of : List Item → Counted
counts_of is = counted (counted_among is) uncounted

-- A count in all passes its number.
abbrev pub has_many : Counted → Bool
has_many c = nat_lt 16000 c.rules || (nat_lt 16000 c.closures || (nat_lt 500 c.selects || nat_lt 2000000 c.nodes))
