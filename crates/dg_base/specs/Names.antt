-- The names that the language keeps for itself: hold them against the tables of docs/LANGUAGE.md.
use Rattle.std.specs.Prelude.{ℕ, List, Bool, Option, Some, None, [], ◌∷◌, codes, map, if◌then◌else◌}
use Rattle.std.specs.List.{list_any}
use Rattle.std.specs.Str.{bytes_eq}
use Rattle.dg_base.specs.declared.names.Builtin.{Builtin}
use Rattle.dg_base.specs.declared.names.TheConstants.{KEYWORDS, REFUSED_NAMES, PRELUDE_NAMES, BUILTINS}
use Rattle.dg_base.specs.declared.names.Builtin.TheVariants.{Equal, Arith, Compare, Random, Test, Object, Fail, Just, Stop, Quit, RepeatForever, Query, QueryWith, GetInput, SplitWord, JoinWords, Gap, Spaces, HasParent}
use Rattle.dg_base.specs.declared.program.ArithOp.TheVariants as arith_op
use Rattle.dg_base.specs.declared.program.CompareOp.TheVariants as compare
use Rattle.dg_base.specs.declared.program.TestKind.TheVariants as test
use Rattle.dg_base.specs.declared.program.GapKind.TheVariants as gap

-- the keywords
abbrev pub listed_keywords : List (List ℕ)
listed_keywords =
    codes "(now)" ∷ codes "(if)" ∷ codes "(then)" ∷ codes "(elseif)" ∷ codes "(else)" ∷ codes "(endif)" ∷ codes "(or)" ∷ codes "(exhaust)" ∷
    codes "(stoppable)" ∷ codes "(collect $)" ∷ codes "(accumulate $)" ∷ codes "(into $)" ∷ codes "(select)" ∷ codes "(stopping)" ∷
    codes "(cycling)" ∷ codes "(at random)" ∷ codes "(purely at random)" ∷ codes "(then at random)" ∷ codes "(then purely at random)" ∷ []

-- the names that the profile refuses
abbrev pub listed_refused_names : List (List ℕ)
listed_refused_names =
    codes "(bold)" ∷ codes "(italic)" ∷ codes "(reverse)" ∷ codes "(fixed pitch)" ∷ codes "(roman)" ∷ codes "(div $)" ∷ codes "(span $)" ∷
    codes "(link)" ∷ codes "(link $)" ∷ codes "(status bar $)" ∷ codes "(inline status bar $)" ∷ codes "(clear)" ∷ codes "(get key $)" ∷
    codes "(save $)" ∷ codes "(restore)" ∷ codes "(save undo $)" ∷ codes "(undo)" ∷ codes "(restart)" ∷ codes "(script on)" ∷
    codes "(script off)" ∷ codes "(interface $)" ∷ codes "(generate $ $)" ∷ codes "(determine object $)" ∷
    codes "(collect words)" ∷ codes "(removable word endings)" ∷
    codes "(log)" ∷ []

-- the predicates that every program has
abbrev pub listed_prelude_names : List (List ℕ)
listed_prelude_names =
    codes "(append $ $ $)" ∷ codes "($ is one of $)" ∷ codes "(split key $ in $)" ∷ codes "(split $ by $ into $ and $)" ∷ []

-- the built-in queries by name
abbrev pub listed_builtins : List (List ℕ × Builtin)
listed_builtins =
    (codes "($ = $)", Equal) ∷
    (codes "($ plus $ into $)", Arith arith_op.Plus) ∷
    (codes "($ minus $ into $)", Arith arith_op.Minus) ∷
    (codes "($ times $ into $)", Arith arith_op.Times) ∷
    (codes "($ divided by $ into $)", Arith arith_op.Divide) ∷
    (codes "($ modulo $ into $)", Arith arith_op.Modulo) ∷
    (codes "($ < $)", Compare compare.Less) ∷
    (codes "($ > $)", Compare compare.Greater) ∷
    (codes "(random from $ to $ into $)", Random) ∷
    (codes "(number $)", Test test.Number) ∷
    (codes "(word $)", Test test.Word) ∷
    (codes "(unknown word $)", Test test.UnknownWord) ∷
    (codes "(object $)", Object) ∷
    (codes "(list $)", Test test.List) ∷
    (codes "(empty $)", Test test.Empty) ∷
    (codes "(nonempty $)", Test test.NonEmpty) ∷
    (codes "(bound $)", Test test.Bound) ∷
    (codes "(unbound $)", Test test.Unbound) ∷
    (codes "(fully bound $)", Test test.FullyBound) ∷
    (codes "(fail)", Fail) ∷
    (codes "(just)", Just) ∷
    (codes "(stop)", Stop) ∷
    (codes "(quit)", Quit) ∷
    (codes "(repeat forever)", RepeatForever) ∷
    (codes "(query $)", Query) ∷
    (codes "(query $ $)", QueryWith) ∷
    (codes "(get input $)", GetInput) ∷
    (codes "(split word $ into $)", SplitWord) ∷
    (codes "(join words $ into $)", JoinWords) ∷
    (codes "(par)", Gap gap.Par) ∷
    (codes "(line)", Gap gap.Line) ∷
    (codes "(space)", Gap gap.Space) ∷
    (codes "(no space)", Gap gap.NoSpace) ∷
    (codes "(uppercase)", Gap gap.Upper) ∷
    (codes "(space $)", Spaces) ∷
    (codes "($ has parent $)", HasParent) ∷
    []

-- ---- the tables of the code, which are these lists

abbrev pub keywords : List (List ℕ)
keywords = map (λ name. name.now) KEYWORDS

abbrev pub refused_names : List (List ℕ)
refused_names = map (λ name. name.now) REFUSED_NAMES

abbrev pub prelude_names : List (List ℕ)
prelude_names = map (λ name. name.now) PRELUDE_NAMES

abbrev pub builtins : List (List ℕ × Builtin)
builtins = map (λ known. (known.0.now, known.1)) BUILTINS

-- whether a name is one of these
abbrev pub name_among : List ℕ → List (List ℕ) → Bool
name_among name names = list_any (λ known. bytes_eq known name) names

-- the first built-in query of this name
abbrev pub builtin_among : List ℕ → List (List ℕ × Builtin) → Option Builtin
builtin_among name [] = None
builtin_among name (known ∷ others) = if bytes_eq known.0 name then Some known.1 else builtin_among name others

-- the built-in query of a name
abbrev pub builtin_named : List ℕ → Option Builtin
builtin_named name = builtin_among name builtins
