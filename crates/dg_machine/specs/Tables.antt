-- What a machine keeps of a program beside its code. Hold it against dg_base/src/program.rt.
use Rattle.std.specs.Prelude.{ℕ, ◌≡◌, List, [], Option, Some, None, map, slice_get}
use Rattle.dg_meaning.specs.Facts.{kinds_of}
use Rattle.dg_base.specs.declared.program.ClosureBody.{ClosureBody}
use Rattle.dg_base.specs.declared.program.CoreProgram.{CoreProgram}
use Rattle.dg_machine.specs.declared.tables.Tables.{Tables}

-- The tables are those of a program.
pub record IsOf (p : CoreProgram) (t : Tables) : Type 0 where
  pub kinds : t.kinds.items ≡ kinds_of p
  pub words : t.words ≡ p.words
  pub objects : t.objects ≡ p.objects
  pub captured : t.captured ≡ map (λ (c : ClosureBody). c.captured) p.closures

-- The variables of a list, where there is one.
abbrev pub items_in : Option (List ℕ) → List ℕ
items_in None = []
items_in (Some vars) = vars

-- The variables that the closure of a place captures.
abbrev pub captured_at : Tables → ℕ → List ℕ
captured_at t place = items_in (slice_get t.captured place)
