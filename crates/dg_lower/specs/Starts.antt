-- How places start: by a declaration, or by the searches of the rules of a predicate that changes. Hold it against docs/LANGUAGE.md, "The world", and the
-- chapter of the Dialog manual on it.
use Rattle.std.specs.Prelude.{◌&&◌, ℕ, zero, suc, ◌+◌, List, [], ◌∷◌, ◌++◌, Option, Some, None, Bool, true, false, Result, Ok, Err, length, nat_lt, position, if◌then◌else◌}
use Rattle.std.specs.Str.{bytes_eq}
use Rattle.dg_base.specs.Heads.{name_of}
use Rattle.dg_base.specs.Tree.{Parts, Value as TreeValue, Item}
use Rattle.dg_base.specs.declared.program.CoreProgram.{CoreProgram as Core}
use Rattle.dg_base.specs.declared.program.PlaceKind.{PlaceKind}
use Rattle.dg_base.specs.declared.program.PlaceKind.TheVariants.{Flag, ObjectVar, Parent, Global}
use Rattle.dg_base.specs.declared.program.Term.{Term}
use Rattle.dg_base.specs.declared.program.Term.TheVariants as term
use Rattle.dg_base.specs.declared.refusal.Kind.{Kind}
use Rattle.dg_base.specs.declared.refusal.Kind.TheVariants.{BadInitial, InitialTooLong}
use Rattle.dg_meaning.specs.Facts.{takes}
use Rattle.dg_meaning.specs.Initial.{Question, Initial, TooLong, Unset, IsSet, HasValue, Other}
use Rattle.dg_meaning.specs.Values.{Num, Word, Object, Nil, Value, Node}
use Rattle.dg_names.specs.Named.{Named}
use Rattle.dg_core.specs.Core.{outer_scope, initial_core}
use Rattle.dg_core.specs.Given.{is_unset}
use Rattle.dg_core.specs.Goals.{Scope, term_of}
use Rattle.dg_core.specs.Places.{is_among, declarations, declared_names, kind_of, head_values}
use Rattle.dg_lower.specs.Outcome.{outcome_of}

-- What starts set in a place: objects, or 0 where it has none, each with its value, or with the empty list where it has none.
abbrev pub Starts : Type 0
Starts = List (ℕ × Term)

-- ---- by a declaration

-- A declared value, unless it is unset.
abbrev pub value_start : Scope → List TreeValue → Starts
value_start around [] = []
value_start around (v ∷ vs) = if is_unset v then [] else (0, term_of around v) ∷ []

-- How a declaration lets the variable of this name start.
abbrev pub head_start : Scope → List ℕ → Parts → Starts
head_start around name ps = if bytes_eq (name_of ps) name then value_start around (head_values ps) else []

-- These starts, or where there are none others.
abbrev pub or_else : Starts → Starts → Starts
or_else [] others = others
or_else (s ∷ ss) others = s ∷ ss

-- How the first declaration that sets a name lets its variable start.
abbrev pub declared_start : Scope → List ℕ → List Parts → Starts
declared_start around name [] = []
declared_start around name (ps ∷ heads) = or_else (head_start around name ps) (declared_start around name heads)

-- ---- by searches

-- A number of the language, a word or an object of the program, or the empty list.
abbrev pub is_known : Core → Value → Bool
is_known program (Node (Num n) parts) = nat_lt n 16384
is_known program (Node (Word w) parts) = nat_lt w (length program.words)
is_known program (Node (Object o) parts) = nat_lt o (length program.objects)
is_known program (Node Nil parts) = true
is_known program v = false

-- A value that a place of this kind may start with; a parent is an object.
abbrev pub allows : Core → PlaceKind → Value → Bool
allows program kind v = is_known program v && takes kind v

-- The term of such a value.
abbrev pub known_term : Value → Term
known_term (Node (Num n) parts) = term.Num n
known_term (Node (Word w) parts) = term.Word w
known_term (Node (Object o) parts) = term.Object o
known_term v = term.Nil

-- What starts of one object by such a value.
abbrev pub value_by : Core → PlaceKind → ℕ → Value → Result Starts Kind
value_by program kind o v = if allows program kind v then Ok ((o, known_term v) ∷ []) else Err BadInitial

-- What starts of one object by what came of its search, or why it can't start.
abbrev pub start_by : Core → PlaceKind → ℕ → Initial → Result Starts Kind
start_by program kind o TooLong = Err InitialTooLong
start_by program kind o Unset = Ok []
start_by program kind o IsSet = Ok ((o, term.Nil) ∷ [])
start_by program kind o (HasValue v) = value_by program kind o v
start_by program kind o Other = Err BadInitial

-- Of what a place of this kind is asked: of an object, or a flag of none.
abbrev pub asked_object : PlaceKind → ℕ → Option ℕ
asked_object Flag o = None
asked_object Global o = None
asked_object kind o = Some o

-- Whether it is asked for a value.
abbrev pub has_values : PlaceKind → Bool
has_values ObjectVar = true
has_values Parent = true
has_values kind = false

-- What is asked of a predicate whose place is of this kind.
abbrev pub question : PlaceKind → ℕ → ℕ → Question
question kind pred o = record { pred = pred; object = asked_object kind o; value = has_values kind }

-- These starts, and behind them others, where they can start.
abbrev pub and_starts : Result Starts Kind → Result Starts Kind → Result Starts Kind
and_starts (Err kind) others = Err kind
and_starts (Ok starts) (Err kind) = Err kind
and_starts (Ok starts) (Ok others) = Ok (starts ++ others)

-- What starts of so many objects, from this one on: the first that can't start decides.
abbrev pub starts_from : Core → PlaceKind → ℕ → ℕ → ℕ → Result Starts Kind
starts_from program kind pred o zero = Ok []
starts_from program kind pred o (suc n) =
    and_starts (start_by program kind o (outcome_of program (question kind pred o))) (starts_from program kind pred (o + 1) n)

-- How many objects a place of this kind is asked of: a flag once, without an object.
abbrev pub asked_of : Core → PlaceKind → ℕ
asked_of program Flag = 1
asked_of program kind = length program.objects

-- What starts by the rules of this predicate, where there is one.
abbrev pub searched : Core → PlaceKind → Option ℕ → Result Starts Kind
searched program kind None = Ok []
searched program kind (Some pred) = starts_from program kind pred 0 (asked_of program kind)

-- ---- the place of a name

-- How the place of a name starts, or why it can't: by its declaration, or by the rules of its predicate.
abbrev pub place_starts : Named → List Item → List ℕ → Result Starts Kind
place_starts names items name =
    if is_among name (declared_names items) then Ok (declared_start (outer_scope names items) name (declarations items))
    else searched (initial_core names items) (kind_of (declared_names items) name) (position (bytes_eq name) names.preds)
