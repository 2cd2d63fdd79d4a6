-- What a goal comes to that makes a value and unifies it with one of its terms. Hold it against docs/LANGUAGE.md, "Built-in queries".
use Rattle.std.specs.Prelude.{◌≡◌, ℕ, ◌+◌, [], ◌∷◌, Option, Some, None}
use Rattle.dg_base.specs.declared.program.Goal.{Goal}
use Rattle.dg_base.specs.declared.program.Goal.TheVariants.{GapN}
use Rattle.dg_base.specs.declared.program.Term.{Term}
use Rattle.dg_meaning.specs.Unify.{Equations}
use Rattle.dg_meaning.specs.World.{Game, World, Print, Prints, SpacesOf}
use Rattle.dg_meaning.specs.Path.{Registers, Act, Unifies}
use Rattle.dg_meaning.specs.Moves.{move_of, gives_number}
use Rattle.dg_meaning.specs.Transcript.{Run}
use Rattle.dg_meaning.specs.inside.Keeps.{Went}
use Rattle.dg_unify.specs.Store.{told}
use Rattle.dg_unify.specs.declared.bindings.Ref.{Ref}
use Rattle.dg_interp.specs.declared.engine.Engine.{Engine}
use Rattle.dg_interp.specs.inside.Engine.{Point, There, steps_of, store_in, IsReady, Silent, TakesAt, StandsAt, Then, WentWrong}

-- The run comes from an act, of which the terms are written, where the engine is.
pub record ActsAt (act : Registers → World → Act) (e : Engine) (g : Game) (n : ℕ) (w : World) (run : Run) : Type 0 where
  pub at : There e (e.newest + 1) g w
  pub went : Went g at.inside.lives at.ways n (move_of (steps_of e) at.registers (act at.registers w)) run

-- The run comes from these equations.
abbrev pub SolvesAt : Equations → Engine → Point
SolvesAt es e = ActsAt (λ r w. Unifies r es w) e

-- The run comes from the unification of what stands at two Refs.
abbrev pub UnifiesAt : Ref → Ref → Engine → Point
UnifiesAt a b e = SolvesAt ((told (store_in e.store) a, told (store_in e.store) b) ∷ []) e

-- The run comes from a number that is unified with what stands at a Ref, if there is a number.
abbrev pub GivesAt : Option ℕ → Ref → Engine → Point
GivesAt n into e = ActsAt (λ r w. gives_number n (told (store_in e.store) into) r w) e

-- A run that comes from a goal comes from where the engine is once this is printed.
pub record PrintsOne (e : Print) (x : Goal) (old new : Engine) : Type 0 where
  pub ready : IsReady new
  pub left : new.left ≡ old.left
  pub limits : Silent old new
  pub leads : (g : Game) (n : ℕ) (w : World) (run : Run) → TakesAt x old g n w run → Then (Prints e ∷ []) w (λ v. StandsAt new g n v run)

-- So many spaces are to be printed by a goal, or what it names is no number.
abbrev pub TellsSpaces : Term → Option ℕ → Engine → Engine → Type 0
TellsSpaces term None old new = WentWrong (TakesAt (GapN term) old) old new
TellsSpaces term (Some n) old new = PrintsOne (SpacesOf n) (GapN term) old new
