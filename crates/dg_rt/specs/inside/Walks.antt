-- What looking up and the test of containment do, and what they cost.
use Rattle.std.specs.Prelude.{ℕ, zero, suc, ◌+◌, ◌*◌, ◌≤◌, List, [], ◌∷◌, Bool}
use Rattle.dg_meaning.specs.Values.{Value, Var, Node}
use Rattle.dg_meaning.specs.Substitutions.{Substitution, walk, links}
use Rattle.z_lang.specs.declared.act.Act.{Act}
use Rattle.z_lang.specs.State.{Program}
use Rattle.z_lang.specs.Runs.{ActsRun as Runs, Returns}
use Rattle.dg_rt.specs.declared.unify.TheConstants.{WALK_ACTS, OCCURS_ACTS}
use Rattle.dg_rt.specs.Cells.{bit}
use Rattle.dg_rt.specs.Areas.{state}
use Rattle.dg_rt.specs.Shapes.{Shape, Shows}

-- So many instructions more.
abbrev pub steps : ℕ → ℕ → ℕ
steps zero m = m
steps (suc k) m = suc (steps k m)

-- What the end of a walk costs: 4 instructions at a variable, 2 at another value.
abbrev pub ending : Value → ℕ
ending (Var n) = 4
ending (Node f vs) = 2

-- A value is looked up, within 5 instructions a link and those of the end.
pub record Walks (p : Program) (f w : ℕ) (acts : List Act) (sh : Shape) (S : Substitution) (memory typed output : List ℕ) (drawn a b c d : ℕ)
    (v : Value) : Type 0 where
  pub word : ℕ
  pub shows : Shows sh word (walk S v)
  pub locals' : List ℕ
  pub count : ℕ
  pub runs : Runs p f w WALK_ACTS acts (state memory (a ∷ b ∷ c ∷ d ∷ []) typed drawn output) (Returns word)
      (state memory locals' typed drawn output) count
  pub few : count ≤ 5 * links S v + ending (walk S v)

-- Whether a variable stands in a value is answered, within 15 instructions for each look of the test of containment, of which 5 are left, and with a
-- frame and 4 words a level.
pub record Occurs (p : Program) (f : ℕ) (acts : List Act) (memory typed output : List ℕ) (drawn a b c d : ℕ) (l : Bool × ℕ) : Type 0 where
  pub locals' : List ℕ
  pub count : ℕ
  pub runs : Runs p f (4 * f) OCCURS_ACTS acts (state memory (a ∷ b ∷ c ∷ d ∷ []) typed drawn output) (Returns (bit l.0))
      (state memory locals' typed drawn output) count
  pub few : count + 5 ≤ 15 * l.1
