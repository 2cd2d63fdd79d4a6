-- Which rules a first argument excludes. Hold it against docs/LANGUAGE.md, where it says what a limit counts, and the Dialog manual, chapter "Rules".
use Rattle.std.specs.Prelude.{not, List, [], ◌∷◌, Option, Some, None, Bool, false, if◌then◌else◌}
use Rattle.dg_base.specs.declared.program.Term.{Term, out-Term}
use Rattle.dg_base.specs.declared.program.Term.TheOpen as term
use Rattle.dg_base.specs.declared.program.Rule.{Rule}
use Rattle.dg_meaning.specs.Values.{Label, Num, Word, Object, Nil, Pair, Closure, Value, Var, Node}
use Rattle.dg_meaning.specs.Substitutions.{Substitution, walk}
use Rattle.dg_meaning.specs.Unify.{same_label}

-- The label at the top of each value of a term, where its variables don't decide it.
abbrev pub label_at : term.Term-F Term → Option Label
label_at (term.Num n) = Some (Num n)
label_at (term.Word n) = Some (Word n)
label_at (term.Object n) = Some (Object n)
label_at term.Nil = Some Nil
label_at (term.Pair head tail) = Some Pair
label_at (term.Closure c) = Some (Closure c)
label_at (term.Var v) = None

-- A label is another than this one.
abbrev pub differs_from : Label → Option Label → Bool
differs_from f None = false
differs_from f (Some g) = not (same_label f g)

-- The head of a rule is excluded by a walked argument: it is no variable, and at its top stands another label than at the first term of the head.
abbrev pub excludes : Value → List Term → Bool
excludes (Var x) head = false
excludes (Node f vs) [] = false
excludes (Node f vs) (t ∷ ts) = differs_from f (label_at (out-Term t))

-- The same for the first of some arguments, where there is one.
abbrev pub first_excludes : Substitution → List Value → List Term → Bool
first_excludes S [] head = false
first_excludes S (v ∷ vs) head = excludes (walk S v) head

-- Rules from the first on that isn't excluded.
abbrev pub from_candidate : Substitution → List Value → List Rule → List Rule
from_candidate S args [] = []
from_candidate S args (rule ∷ rules) = if first_excludes S args rule.head then from_candidate S args rules else rule ∷ rules
