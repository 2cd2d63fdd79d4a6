-- Where a run is that gathers, and that takes a gathering out. Hold it against docs/LANGUAGE.md, "Search".
use Rattle.std.specs.Prelude.{ℕ, ◌+◌, ◌≡◌, ◌++◌, List, [], ◌∷◌}
use Rattle.dg_base.specs.declared.program.Goal.{Goal}
use Rattle.dg_base.specs.declared.program.Goal.TheVariants.{Collect, Accumulate}
use Rattle.dg_base.specs.declared.program.Term.{Term}
use Rattle.dg_base.specs.declared.program.Term.TheVariants.{Var as Var-Term}
use Rattle.dg_meaning.specs.Values.{Value}
use Rattle.dg_meaning.specs.World.{Game, World, Gathering, opened}
use Rattle.dg_meaning.specs.Path.{Step, Keep, Registers, TakeOut, Plain}
use Rattle.dg_meaning.specs.inside.Context.{Live, Way}
use Rattle.dg_meaning.specs.inside.Keeps.{Stands, Went}
use Rattle.dg_meaning.specs.Moves.{path_of, begun, goals_at, inside, move_of, takes_out}
use Rattle.dg_meaning.specs.Transcript.{Run}
use Rattle.dg_unify.specs.Store.{told}
use Rattle.dg_unify.specs.declared.bindings.Ref.{Ref}
use Rattle.dg_choices.specs.declared.frames.Whole.{Whole}
use Rattle.dg_choices.specs.declared.frames.Whole.TheVariants.{List as InList, Sum}
use Rattle.dg_interp.specs.declared.engine.Engine.{Engine}
use Rattle.dg_interp.specs.inside.Frames.{values_in, whole_of}
use Rattle.dg_interp.specs.inside.Engine.{There, store_in, open_in, steps_of}

-- The run comes from the newest gathering, which is taken out and unified with what stands at a Ref, in front of where the engine is.
pub record TakesOutAt (whole : Whole) (into : Ref) (e : Engine) (g : Game) (n : ℕ) (w : World) (run : Run) : Type 0 where
  pub at : There e (e.newest + 1) g w
  pub newest : Gathering
  pub others : List Gathering
  pub is : w.gathered ≡ newest ∷ others
  pub went : Went g at.inside.lives at.ways n (move_of (steps_of e) at.registers
      (takes_out (whole_of whole) (told (store_in e.store) into) newest.values at.registers (record w { gathered = others }))) run

-- The goal that gathers a value for each answer of goals, and takes that out as a whole.
abbrev pub gathering_goal : Whole → Term → List Goal → Term → Goal
gathering_goal InList term goals into = Collect term goals into
gathering_goal Sum term goals into = Accumulate term goals into

-- The choice in which goals gather, whose one branch behind them takes that out and goes on with these steps.
abbrev pub gathering_live : Whole → Value → List Step → ℕ → Registers → List Way → Live
gathering_live whole into steps height r ways = record {
  kind = Plain;
  tag = r.next_tag;
  others = TakeOut r.next_tag (whole_of whole) into (path_of steps (inside 0 r)) ∷ [];
  height = height;
  ways_on = ways;
}

-- The run comes from goals for whose answers what stands at a Ref is gathered, and taken out as a whole for what stands at another.
pub record GathersAt (whole : Whole) (value into : Ref) (goals : List Goal) (e : Engine) (g : Game) (n : ℕ) (w : World) (run : Run) : Type 0 where
  pub at : There e (e.newest + 1) g w
  pub began : Stands g (gathering_live whole (told (store_in e.store) into) (steps_of e) (open_in e) at.registers at.ways ∷ at.inside.lives) at.ways
      (path_of (goals_at (values_in (store_in e.store) e.refs.items e.here.env) e.here.tag goals
      ++ Keep at.registers.next_tag (Var-Term 0) (told (store_in e.store) value ∷ []) ∷ []) (inside 10 at.registers)) n
      (begun (inside 10 at.registers) 0 (opened at.registers.next_tag w)) run

-- The run comes from an answer of what is gathered: the first value at hand is kept, and it fails.
pub record KeepsAt (e : Engine) (g : Game) (n : ℕ) (w : World) (run : Run) : Type 0 where
  pub at : There e (e.newest + 1) g w
  pub tag : ℕ
  pub stands : Stands g at.inside.lives at.ways
      (path_of (Keep tag (Var-Term 0) (values_in (store_in e.store) e.refs.items e.here.env) ∷ []) at.registers) n w run
