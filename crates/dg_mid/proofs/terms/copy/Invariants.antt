use Rattle.std.proofs.Common.{◌≡◌, ◌∷◌, [], reverse}
use Rattle.dg_mid.specs.inside.Copying.{behind_all}
use Rattle.dg_mid.proofs.terms.copy.Given as goal

abbrev pub invariant-loop-turn : goal.invariant-loop-turn
invariant-loop-turn l = behind_all (reverse l.left) (reverse l.terms) ≡ l.term ∷ []
