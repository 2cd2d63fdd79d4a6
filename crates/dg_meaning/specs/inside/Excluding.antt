-- That the rules which a first argument excludes would not have matched. Hold it against the Dialog manual, chapter "Rules", and docs/LANGUAGE.md,
-- where it says what a limit counts.
use Rattle.std.specs.Prelude.{◌≡◌, List, true, false}
use Rattle.dg_base.specs.declared.program.Rule.{Rule}
use Rattle.dg_meaning.specs.Values.{Value}
use Rattle.dg_meaning.specs.inside.Substitutions.{IsSubstitution}
use Rattle.dg_meaning.specs.World.{Game}
use Rattle.dg_meaning.specs.Path.{Registers}
use Rattle.dg_meaning.specs.Moves.{is_excluded, match}

-- The head of an excluded rule does not agree with the arguments.
abbrev pub ExcludedRulesClash : Type 0
ExcludedRulesClash = (g : Game) → (args : List Value) → (r : Registers) → (rule : Rule) → IsSubstitution r.bound →
    is_excluded args r rule ≡ true → (match g args rule r).agrees ≡ false
