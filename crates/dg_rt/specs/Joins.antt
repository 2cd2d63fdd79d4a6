-- What the routine does that joins words. Hold it against docs/LANGUAGE.md, "Built-in queries" on joining words, and `joins` of
-- dg_meaning/specs/Moves.antt.
use Rattle.std.specs.Prelude.{◌≡◌, ℕ, ◌+◌, ◌*◌, [], ◌∷◌, false}
use Rattle.dg_meaning.specs.Substitutions.{resolved, contains}
use Rattle.dg_meaning.specs.Unify.{looks}
use Rattle.dg_meaning.specs.Words.{joined_letters, spelled_value}
use Rattle.dg_rt.specs.declared.joining.TheConstants.{JOIN_ACTS}
use Rattle.dg_rt.specs.Making.{MakesOfLetters}

-- Of the letters of the words and numbers of a list, resolved, the value that they spell is made, in 800 instructions for each node and link of it and 900
-- beside those for letters. The variable n, which isn't in the value, is the one for which a test of containment would look at all of it.
abbrev pub JoinWorks : Type 0
JoinWorks = (n : ℕ) → MakesOfLetters JOIN_ACTS (0 ∷ []) 10 40 (λ S v. contains n (resolved S v) ≡ false)
    (λ words S v. joined_letters words (resolved S v)) spelled_value (λ S v. 800 * looks S n v + 900)
