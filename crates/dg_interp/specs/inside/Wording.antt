-- What splitting and joining words and reading a line come to. Hold it against docs/LANGUAGE.md, "Typed lines and words", and "Built-in queries".
use Rattle.std.specs.Prelude.{◌≡◌, ℕ, List, []}
use Rattle.dg_base.specs.declared.program.Goal.TheVariants.{Input}
use Rattle.dg_base.specs.declared.program.Term.{Term}
use Rattle.dg_meaning.specs.Values.{Value}
use Rattle.dg_meaning.specs.Moves.{gives, takes_line}
use Rattle.dg_unify.specs.Store.{told, Holds}
use Rattle.dg_unify.specs.declared.bindings.Ref.{Ref}
use Rattle.dg_interp.specs.declared.engine.Engine.{Engine}
use Rattle.dg_interp.specs.inside.Engine.{Point, Leads, store_in, IsReady, Silent, TakesAt}
use Rattle.dg_interp.specs.inside.Giving.{ActsAt}
use Rattle.dg_meaning.specs.Engines.{game}

-- The words of an engine's program.
abbrev pub words_in : Engine → List (List ℕ)
words_in e = e.program.now.words

-- The run comes from a value that is made and unified with what stands at a Ref.
abbrev pub MakesAt : Value → Ref → Engine → Point
MakesAt v into e = ActsAt (λ r w. gives (told (store_in e.store) into) v r w) e

-- The run comes from a line that is taken of the typed bytes, whose words are unified with what stands at a Ref.
abbrev pub TakesLineAt : Ref → Engine → Point
TakesLineAt into e = ActsAt (λ r w. takes_line (game e.program.now []) w.typed (told (store_in e.store) into) r w) e

-- What a goal names is written, and its line is to be taken.
pub record AwaitsInput (term : Term) (into : Ref) (old new : Engine) : Type 0 where
  pub ready : IsReady new
  pub left : new.left ≡ old.left
  pub limits : Silent old new
  pub holds : Holds (store_in new.store) into
  pub program : new.program ≡ old.program
  pub leads : Leads (TakesAt (Input term) old) (TakesLineAt into new)
