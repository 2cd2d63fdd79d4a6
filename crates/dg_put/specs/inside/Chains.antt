-- The access rules of each mark, one behind the other. The proofs alone rest on it.
use Rattle.std.specs.Prelude.{◌≡◌, ℕ, ◌+◌, ◌<◌, ◌≤◌, List, map, length, slice_index}
use Rattle.dg_put.specs.declared.access.Access.{Access}
use Rattle.dg_put.specs.inside.Marks.{mark_of}

abbrev pub marks_of : List Access → List ℕ
marks_of rules = map (λ (r : Access). mark_of r.name.now) rules

-- The number of the first from this one on that has this mark, or else how many there are.
pub record IsNext (marks : List ℕ) (mark from next : ℕ) : Type 0 where
  pub behind : from ≤ next
  pub within : next ≤ length marks
  pub has : next < length marks → slice_index marks next ≡ mark
  pub passes : (k : ℕ) → from ≤ k → k < next → slice_index marks k ≡ mark → ⊥

-- So it is for each mark.
pub record AreFirst (marks : List ℕ) (from : ℕ) (firsts : List ℕ) : Type 0 where
  pub width : length firsts ≡ 509
  pub next : (m : ℕ) → m < 509 → IsNext marks m from (slice_index firsts m)

-- So it is for the mark of each from this one on, behind it.
pub record AreNext (marks : List ℕ) (from : ℕ) (nexts : List ℕ) : Type 0 where
  pub width : length nexts ≡ length marks
  pub next : (k : ℕ) → from ≤ k → k < length marks → IsNext marks (slice_index marks k) (k + 1) (slice_index nexts k)
