-- The objects that a query tries. Hold it against docs/LANGUAGE.md, "The world".
use Rattle.std.specs.Prelude.{ℕ, List, [], ◌∷◌, Option, Bool, true, false}
use Rattle.dg_meaning.specs.Values.{Value}
use Rattle.dg_meaning.specs.Path.{Step, Registers, Branch, Clash}
use Rattle.dg_meaning.specs.Moves.{inside, object_branches}

-- A branch for each of these objects, or, where they may not be found there, which no program asks for, one that fails as it begins.
abbrev pub trial_branches : Bool → Option ℕ → List Value → Bool → List Step → Registers → List ℕ → List Branch
trial_branches may place args many steps r [] = []
trial_branches true place args many steps r (o ∷ os) = object_branches place args many steps r (o ∷ os)
trial_branches false place args many steps r (o ∷ os) = Clash (inside 0 r) 0 ∷ []
