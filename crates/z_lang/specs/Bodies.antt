-- What a routine's acts have to be, so that they can be assembled.
use Rattle.std.specs.Prelude.{ℕ, ◌<◌, List, [], ◌∷◌, Option, Some, None}
use Rattle.z_code.specs.declared.target.LOp.{LOp}
use Rattle.z_code.specs.Open.{Counts, HasLabel, AreOpen}
use Rattle.z_lang.specs.declared.act.Atom.{Atom}
use Rattle.z_lang.specs.declared.act.Atom.TheVariants as atoms
use Rattle.z_lang.specs.declared.act.Args.{Args}
use Rattle.z_lang.specs.declared.act.Args.TheVariants as args
use Rattle.z_lang.specs.declared.act.Comparison.{Comparison}
use Rattle.z_lang.specs.declared.act.Comparison.TheVariants as comparisons
use Rattle.z_lang.specs.declared.act.Test.{Test}
use Rattle.z_lang.specs.declared.act.Act.{Act}
use Rattle.z_lang.specs.declared.act.Act.TheVariants as acts
use Rattle.z_lang.specs.Code.{ops_of_acts}

-- a number within its width, or the name of something that is there
abbrev pub FitsAtom : Counts → Atom → Type 0
FitsAtom counts (atoms.Num n) = n < 65536
FitsAtom counts (atoms.Var v) = v < 256
FitsAtom counts (atoms.Routine r) = r < counts.routines
FitsAtom counts (atoms.Table t) = t < counts.tables
FitsAtom counts (atoms.Text t) = t < counts.texts

abbrev pub FitArgs : Counts → Args → Type 0
FitArgs counts args.Zero = Unit {0}
FitArgs counts (args.One a) = FitsAtom counts a
FitArgs counts (args.Two a b) = FitsAtom counts a × FitsAtom counts b
FitArgs counts (args.Three a b c) = FitsAtom counts a × FitsAtom counts b × FitsAtom counts c

abbrev pub FitsComparison : Counts → Comparison → Type 0
FitsComparison counts comparisons.Equal = Unit {0}
FitsComparison counts comparisons.Less = Unit {0}
FitsComparison counts comparisons.Greater = Unit {0}
FitsComparison counts (comparisons.Either c) = FitsAtom counts c
FitsComparison counts (comparisons.Any c d) = FitsAtom counts c × FitsAtom counts d

abbrev pub FitsTest : Counts → Test → Type 0
FitsTest counts t = FitsAtom counts t.first × FitsAtom counts t.second × FitsComparison counts t.comparison

abbrev pub FitsStored : Option ℕ → Type 0
FitsStored None = Unit {0}
FitsStored (Some v) = v < 256

-- An act's numbers fit, what it names is there, and its labels stand in the instructions; a label doesn't stand again behind.
abbrev pub FitsAct : Counts → (all behind : List LOp) → Act → Type 0
FitsAct counts all behind (acts.Label l) = HasLabel l behind → ⊥
FitsAct counts all behind (acts.Goto l) = HasLabel l all
FitsAct counts all behind (acts.When t l) = FitsTest counts t × HasLabel l all
FitsAct counts all behind (acts.Copy v a) = (v < 256) × FitsAtom counts a
FitsAct counts all behind (acts.Compute v f a b) = (v < 256) × FitsAtom counts a × FitsAtom counts b
FitsAct counts all behind (acts.Write w a b c) = FitsAtom counts a × FitsAtom counts b × FitsAtom counts c
FitsAct counts all behind (acts.Print k a) = FitsAtom counts a
FitsAct counts all behind (acts.Random v a) = (v < 256) × FitsAtom counts a
FitsAct counts all behind (acts.Read v a) = (v < 256) × FitsAtom counts a
FitsAct counts all behind (acts.Call v a xs) = FitsStored v × FitsAtom counts a × FitArgs counts xs
FitsAct counts all behind (acts.Return a) = FitsAtom counts a
FitsAct counts all behind acts.Quit = Unit {0}

abbrev pub AreFit : Counts → List LOp → List Act → Type 0
AreFit counts all [] = Unit {0}
AreFit counts all (act ∷ more) = FitsAct counts all (ops_of_acts more) act × AreFit counts all more

-- The instructions of such a body are open ones, as the assembler takes them.
pub record Opens (counts : Counts) (body : List Act) : Type 0 where
  pub opens : AreFit counts (ops_of_acts body) body → AreOpen counts (ops_of_acts body) (ops_of_acts body)
