-- What the routine that unifies does. Hold it against dg_meaning/specs/Unify.antt, and the chapter of the Dialog manual on values.
use Rattle.std.specs.Prelude.{ℕ, ◌+◌, ◌*◌, ◌≤◌, List, [], ◌∷◌, ◌++◌}
use Rattle.dg_base.specs.declared.run.Ending.TheVariants.{TrailLimit}
use Rattle.dg_meaning.specs.Substitutions.{Substitution}
use Rattle.dg_meaning.specs.Unify.{Equations, Unified, solve}
use Rattle.dg_meaning.specs.inside.Unify.{unify}
use Rattle.dg_meaning.specs.Letters.{compared}
use Rattle.dg_meaning.specs.Values.{Value}
use Rattle.z_lang.specs.declared.act.Act.{Act}
use Rattle.z_model.specs.declared.end.Halt.TheVariants.{AtQuit}
use Rattle.z_lang.specs.State.{State}
use Rattle.z_lang.specs.Runs.{ActsRun as Runs, ActsOutcome as Outcome, Returns, Stops}
use Rattle.dg_rt.specs.declared.unify.TheConstants.{UNIFY_ACTS}
use Rattle.dg_rt.specs.Cells.{bit}
use Rattle.dg_rt.specs.Areas.{last_reg, state}
use Rattle.dg_rt.specs.Shapes.{Shows}
use Rattle.dg_rt.specs.Closings.{closing, closing_most}
use Rattle.dg_rt.specs.Moments.{Setting, Passes, Moment, in_state}

-- All that is written where the trail is full: the limit's closing behind what was written.
abbrev pub closed : Setting → List ℕ
closed g = g.output ++ closing (g.begun.cells last_reg) TrailLimit

-- How the routine ends, within so many instructions, what was spent before included: it answers what is meant, and what is meant is bound, also up to
-- a clash; or the bindings that are meant pass the trail's limit, and the limit's closing ends the run.
pub data Ends (g : Setting) (u : Unified) (spent most : ℕ) (leads : ℕ → Outcome → State → Type 0) : Type 0 where
  answers : (count : ℕ) (m : Moment g u.subst) (locals : List ℕ) → count + spent ≤ most →
      leads count (Returns (bit u.agrees)) (in_state g m.memory locals) → Ends g u spent most leads
  is_full : (count : ℕ) (memory locals : List ℕ) → Passes g u.subst → count + spent ≤ most + closing_most →
      leads count (Stops AtQuit) (state memory locals g.typed g.drawn (closed g)) → Ends g u spent most leads

-- Acts of the routine do so, with a frame and 5 words a level.
abbrev pub Unifies : Setting → ℕ → List Act → List ℕ → List ℕ → ℕ → ℕ → Unified → Type 0
Unifies g f acts memory locals spent most u = Ends g u spent most (λ n o s. Runs g.p f (5 * f) UNIFY_ACTS acts (in_state g memory locals) o s n)

-- What equations may cost: 15 instructions for each of the count of the meaning, and 8 for each letter that is compared.
abbrev pub price : Substitution → Equations → ℕ
price S es = 15 * (solve S es).count + 8 * compared S es

-- So it does wherever it is called with two values, within 3,336 frames and 16,680 words.
abbrev pub UnifyWorks : Type 0
UnifyWorks = (g : Setting) (S : Substitution) (m : Moment g S) (x y : ℕ) (a b : Value) → Shows g.sh x a → Shows g.sh y b →
    Unifies g 3336 UNIFY_ACTS m.memory (x ∷ y ∷ 0 ∷ 0 ∷ 0 ∷ []) 0 (price S ((a, b) ∷ [])) (unify S a b)
