-- How a flag or a variable starts, as it is found by asking. Hold it against dg_meaning/specs/Initial.antt.
use Rattle.std.specs.Prelude.{◌≡◌, ℕ, ◌-◌, Option, Some, Bool, length, slice_get}
use Rattle.dg_base.specs.declared.cells.Simple.{Simple}
use Rattle.dg_base.specs.declared.cells.Simple.TheVariants as simple
use Rattle.dg_base.specs.declared.program.CoreProgram.{CoreProgram}
use Rattle.dg_base.specs.declared.program.PlaceKind.TheVariants.{ObjectVar}
use Rattle.dg_meaning.specs.Facts.{kinds_of}
use Rattle.dg_meaning.specs.Initial.{Question, Initial, TooLong, Unset, IsSet, HasValue, Other}
use Rattle.dg_meaning.specs.Values.{Value, Num, Word, Object, Nil, leaf}
use Rattle.dg_interp.specs.declared.asking.Quiet.{Quiet}
use Rattle.dg_interp.specs.declared.asking.Quiet.TheVariants as quiet

-- The last place of a program is the one for answers: it is one of objects' values.
abbrev pub HasAnswers : CoreProgram → Type 0
HasAnswers p = slice_get (kinds_of p) (length p.places - 1) ≡ Some ObjectVar

-- A predicate is asked, of an object or of none, and for a value or for none.
abbrev pub question : ℕ → Option ℕ → Bool → Question
question pred object value = record { pred = pred; object = object; value = value }

-- A value without parts as a value of the language.
abbrev pub value_of_simple : Simple → Value
value_of_simple (simple.Num n) = leaf (Num n)
value_of_simple (simple.Word n) = leaf (Word n)
value_of_simple (simple.Object n) = leaf (Object n)
value_of_simple simple.Nil = leaf Nil

-- What an answer says.
abbrev pub initial_of : Quiet → Initial
initial_of quiet.TooLong = TooLong
initial_of quiet.Unset = Unset
initial_of quiet.Set = IsSet
initial_of (quiet.Value s) = HasValue (value_of_simple s)
initial_of quiet.Other = Other
