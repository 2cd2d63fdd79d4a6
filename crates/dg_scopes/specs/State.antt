-- What the code keeps, as plain data. The proofs alone rest on it.
use Rattle.std.specs.Prelude.{◌≡◌, ℕ, List, [], ◌∷◌, ◌++◌, ◌||◌, Bool, Vec, map, if◌then◌else◌}
use Rattle.std.specs.Borrow.{Bor}
use Rattle.std.specs.Global.{Global}
use Rattle.std.specs.Str.{bytes_eq}
use Rattle.indexmap.specs.IndexMap.{IndexMap}
use Rattle.dg_base.specs.Mentions.{Thing}
use Rattle.dg_base.specs.Walk.{Met}
use Rattle.dg_names.specs.Counts.{closures_at, selects_at}
use Rattle.dg_scopes.specs.Counts.{nodes_at, queries_at, thing_rules}
use Rattle.dg_scopes.specs.Scopes as scopes
use Rattle.dg_scopes.specs.declared.counts.Sort.{Sort}
use Rattle.dg_scopes.specs.declared.counts.Sort.TheVariants as sort
use Rattle.dg_scopes.specs.declared.counts.Counts.{Counts}
use Rattle.dg_scopes.specs.declared.variables.Entry.{Entry}
use Rattle.dg_scopes.specs.declared.variables.Scopes.{Scopes}

-- What a sort weighs.
abbrev pub weight_at : Sort → Thing → ℕ
weight_at sort.Node = nodes_at
weight_at sort.Query = queries_at
weight_at sort.Select = selects_at
weight_at sort.Closure = closures_at
weight_at sort.Rule = thing_rules

abbrev pub counts_view : Counts → scopes.Counted
counts_view c = record { rules = c.rules; closures = c.closures; selects = c.selects; nodes = c.nodes }

abbrev pub total_at : List (Bor (List ℕ) × ℕ) → List ℕ → ℕ
total_at [] n = 0
total_at (e ∷ es) n = if bytes_eq n e.0.now then e.1 else total_at es n

-- How often a name stands in the item.
abbrev pub total_in : {S : Type 0} → IndexMap (Bor (List ℕ)) ℕ S → List ℕ → ℕ
total_in totals n = total_at totals.entries n

abbrev pub entry_view : Entry → scopes.Entry
entry_view e = scopes.entry e.name.now e.places

abbrev pub scope_view : List Entry → List scopes.Entry
scope_view es = map entry_view es

-- The scopes outside, the nearest first.
abbrev pub stack_of : List (Vec Entry Global) → List (List scopes.Entry)
stack_of [] = []
stack_of (s ∷ ss) = stack_of ss ++ scope_view s.items ∷ []

-- What was met was noted, and this says whether a scope is full there.
abbrev pub IsNoted : (List ℕ → ℕ) → Met → Scopes → Scopes → Bool → Type 0
IsNoted total m old new over = (ms : List Met) → scopes.passes total (m ∷ ms) (scope_view old.inner.items) (stack_of old.outer.items)
    ≡ (over || scopes.passes total ms (scope_view new.inner.items) (stack_of new.outer.items))
