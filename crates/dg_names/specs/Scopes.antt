-- Variables that are counted along the mentions of an item, the closures that stand open apart. The proofs alone rest on it.
use Rattle.std.specs.Prelude.{ℕ, ◌+◌, ◌||◌, List, [], ◌∷◌, ◌++◌, Bool, true, false, length, codes, nat_lt, if◌then◌else◌}
use Rattle.std.specs.List.{list_any}
use Rattle.std.specs.Str.{bytes_eq}
use Rattle.dg_base.specs.Mentions.{Thing, variable, unnamed, word_choice, Mentions, things, names_in, weight_of}
use Rattle.dg_base.specs.Walk.{Met, met, opens, closes}
use Rattle.dg_names.specs.Counts.{counted_in, shared_at, own_in}

-- These names and one that may be among them.
abbrev pub with_name : List (List ℕ) → List ℕ → List (List ℕ)
with_name ks n = if list_any (bytes_eq n) ks then ks else ks ++ n ∷ []

-- These names and others that may be among them.
abbrev pub with_names : List (List ℕ) → List (List ℕ) → List (List ℕ)
with_names ks [] = ks
with_names ks (n ∷ ns) = with_names (with_name ks n) ns

-- The variables of a rule or a closure so far: named ones, its own anonymous ones, and those that it shares with the rule.
pub record Scope : Type 0 where
  pub names : List (List ℕ)
  pub own : ℕ
  pub shared : ℕ

abbrev pub no_variables : Scope
no_variables = record { names = []; own = 0; shared = 0 }

abbrev pub is_over : Scope → Bool
is_over s = nat_lt 64 (length s.names + (s.own + s.shared))

-- A scope behind one mention.
abbrev pub after : Thing → Scope → Scope
after (variable n) s = if bytes_eq n (codes "_") then s else record { names = with_name s.names n; own = s.own; shared = s.shared }
after (unnamed false) s = record { names = s.names; own = s.own + 1; shared = s.shared }
after (unnamed true) s = record { names = s.names; own = s.own; shared = s.shared + 1 }
after (word_choice ws) s = record { names = s.names; own = s.own; shared = s.shared + 1 }
after t s = s

-- A scope behind a closure.
abbrev pub merged : Scope → Scope → Scope
merged s inner = record { names = with_names s.names inner.names; own = s.own; shared = s.shared + inner.shared }

-- A scope behind these mentions.
abbrev pub grown : Scope → Mentions → Scope
grown s ms = record {
  names = with_names s.names (names_in counted_in (things ms));
  own = s.own + own_in ms;
  shared = s.shared + weight_of shared_at (things ms);
}

-- Whether there are too many variables somewhere, from this scope in those on.
abbrev pub passes : List Met → Scope → List Scope → Bool
passes [] s outer = false
passes (met t ∷ ms) s outer = is_over (after t s) || passes ms (after t s) outer
passes (opens ∷ ms) s outer = passes ms no_variables (s ∷ outer)
passes (closes ∷ ms) s [] = passes ms s []
passes (closes ∷ ms) s (o ∷ outer) = is_over (merged o s) || passes ms (merged o s) outer
