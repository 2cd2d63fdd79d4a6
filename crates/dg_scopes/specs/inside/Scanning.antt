-- Whose variables are whose, along what an item mentions. The proofs alone rest on it.
use Rattle.std.specs.Prelude.{ℕ, List, [], ◌∷◌, ◌++◌, map, set, length, if◌then◌else◌}
use Rattle.dg_scopes.specs.Scopes.{Entry, with_places, after, stays, merged}
use Rattle.dg_base.specs.Mentions.{variable}
use Rattle.dg_base.specs.Walk.{Met, met, opens, closes}
use Rattle.dg_scopes.specs.Closures.{parameter, Layout}

-- A rule or a closure that hasn't ended: its variables so far, the places of the closures directly in it, and its own place.
pub record Open : Type 0 where
  pub entries : List Entry
  pub places : List ℕ
  pub at : ℕ

-- The innermost one that is open, those outside it, the nearest first, and the layouts so far.
pub record Scan : Type 0 where
  pub inner : Open
  pub outer : List Open
  pub layouts : List Layout

abbrev pub opened : ℕ → Open
opened at = record { entries = []; places = []; at = at }

-- The layout of a closure that is open.
abbrev pub blank : Layout
blank = record { captured = []; own = []; places = [] }

abbrev pub start : Scan
start = record { inner = opened 0; outer = []; layouts = [] }

abbrev pub names_of : List Entry → List (List ℕ)
names_of es = map (λ (e : Entry). e.name) es

-- A name of a closure goes to those that it captures, or to its own.
abbrev pub one_captured : (List ℕ → ℕ) → Entry → List (List ℕ)
one_captured total e = if stays total e then [] else e.name ∷ []

abbrev pub one_own : (List ℕ → ℕ) → Entry → List (List ℕ)
one_own total e = if stays total e then e.name ∷ [] else []

abbrev pub captured_of : (List ℕ → ℕ) → List Entry → List (List ℕ)
captured_of total [] = []
captured_of total (e ∷ es) = one_captured total e ++ captured_of total es

abbrev pub own_of : (List ℕ → ℕ) → List Entry → List (List ℕ)
own_of total [] = []
own_of total (e ∷ es) = one_own total e ++ own_of total es

-- The layout of a closure that ends.
abbrev pub layout_by_entries : (List ℕ → ℕ) → Open → Layout
layout_by_entries total o = record { captured = captured_of total o.entries; own = parameter ∷ own_of total o.entries; places = o.places }

-- The variables of a rule or of a closure in something behind a name: the parameter of a closure is none that it counts.
abbrev pub with_name : List Open → List ℕ → List Entry → List Entry
with_name [] n es = with_places es n 1
with_name (o ∷ outer) n es = after n es

-- What is known behind the end of a closure.
abbrev pub ended : (List ℕ → ℕ) → Scan → List Open → Scan
ended total s [] = s
ended total s (o ∷ outer) = record {
  inner = record o { entries = merged total o.entries s.inner.entries };
  outer = outer;
  layouts = set s.layouts s.inner.at (layout_by_entries total s.inner);
}

-- What is known behind one step.
abbrev pub step : (List ℕ → ℕ) → Met → Scan → Scan
step total (met (variable n)) s = record s { inner = record s.inner { entries = with_name s.outer n s.inner.entries } }
step total (met t) s = s
step total opens s = record {
  inner = opened (length s.layouts);
  outer = record s.inner { places = s.inner.places ++ length s.layouts ∷ [] } ∷ s.outer;
  layouts = s.layouts ++ blank ∷ [];
}
step total closes s = ended total s s.outer

-- What is known behind these steps.
abbrev pub scanned : (List ℕ → ℕ) → List Met → Scan → Scan
scanned total [] s = s
scanned total (m ∷ ms) s = scanned total ms (step total m s)
