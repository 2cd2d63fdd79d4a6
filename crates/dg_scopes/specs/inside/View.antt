-- What the code holds, as plain data. The proofs alone rest on it.
use Rattle.std.specs.Prelude.{ℕ, List, [], ◌∷◌, ◌++◌, map}
use Rattle.std.specs.Borrow.{Bor}
use Rattle.dg_scopes.specs.State as state
use Rattle.dg_scopes.specs.Closures as spec
use Rattle.dg_scopes.specs.inside.Scanning as scanning
use Rattle.dg_scopes.specs.declared.layouts.Layout.{Layout}
use Rattle.dg_scopes.specs.declared.layouts.Layouts.{Layouts}
use Rattle.dg_scopes.specs.declared.layouts.Open.{Open}
use Rattle.dg_scopes.specs.declared.layouts.Scan.{Scan}

abbrev pub names_view : List (Bor (List ℕ)) → List (List ℕ)
names_view ns = map (λ (n : Bor (List ℕ)). n.now) ns

abbrev pub layout_view : Layout → spec.Layout
layout_view l = record { captured = names_view l.captured.items; own = names_view l.own.items; places = l.places.items }

abbrev pub layouts_view : Layouts → spec.Layouts
layouts_view l = record { variables = names_view l.variables.items; places = l.places.items; closures = map layout_view l.closures.items }

abbrev pub open_view : Open → scanning.Open
open_view o = record { entries = state.scope_view o.entries.items; places = o.places.items; at = o.at }

-- Those outside, the nearest first.
abbrev pub stack_of : List Open → List scanning.Open
stack_of [] = []
stack_of (o ∷ os) = stack_of os ++ open_view o ∷ []

abbrev pub scan_view : Scan → scanning.Scan
scan_view s = record { inner = open_view s.inner; outer = stack_of s.outer.items; layouts = map layout_view s.layouts.items }
