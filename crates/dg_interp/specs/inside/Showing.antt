-- What a run is shown while it goes on: calls, and the pieces of a value. Hold it against the Dialog manual, chapter "Output".
use Rattle.std.specs.Prelude.{ℕ, ◌+◌, ◌*◌, ◌≡◌, ◌<◌, List, [], ◌∷◌, ◌++◌, map, codes, Bool, true, false, Result, Ok, Err}
use Rattle.std.specs.List.{All}
use Rattle.dg_base.specs.declared.program.CoreProgram.{CoreProgram}
use Rattle.dg_base.specs.declared.run.RunFault.{RunFault}
use Rattle.dg_base.specs.declared.run.RunFault.TheVariants.{Read, Write, OutOfMemory}
use Rattle.dg_meaning.specs.Pieces.{pieces, tail_pieces}
use Rattle.dg_meaning.specs.World.{Print, Piece, Event, Prints, prints}
use Rattle.dg_spacing.specs.declared.spacer.Spacer.{Spacer}
use Rattle.dg_spacing.specs.Spacer.{StandsFor}
use Rattle.dg_texts.specs.Printing.{value_at}
use Rattle.dg_unify.specs.Store.{Store, Holds}
use Rattle.dg_unify.specs.Waits.{size_at}
use Rattle.dg_watch.specs.Told.{Told, Saw, told_behind}
use Rattle.dg_watch.specs.Watching.{Watching, Given, Lost}
use Rattle.dg_watch.specs.declared.watch.CallEvent.{CallEvent}
use Rattle.dg_watch.specs.declared.watch.CallEvent.TheVariants as call
use Rattle.dg_interp.specs.declared.printing.Part.{Part}
use Rattle.dg_interp.specs.declared.printing.Part.TheVariants as part

-- ## What is told

-- Behind these things others happened, and were told.
pub record Shown {P : Type 0} (v : Watching P) (es : List Print) (more : List Event) (old new : P) (s : Spacer) : Type 0 where
  pub stands : StandsFor s (es ++ prints more)
  pub given : Given v old new (told_behind es more)

-- The same, whatever the spacer stood for.
abbrev pub ShowsAll : {P : Type 0} → Watching P → List Event → Spacer → Spacer → P → P → Type 0
ShowsAll v more s s' old new = (es : List Print) → StandsFor s es → Shown v es more old new s'

-- It failed while these things were told, whatever the spacer stood for.
abbrev pub LosesAll : {P : Type 0} → Watching P → List Event → Spacer → P → P → Type 0
LosesAll v more s old new = (es : List Print) → StandsFor s es → Lost v old new (told_behind es more)

-- A front of these things was told.
pub record ShowsFront {P : Type 0} (v : Watching P) (more : List Event) (s s' : Spacer) (old new : P) : Type 0 where
  pub front : List Event
  pub rest : List Event
  pub is : more ≡ front ++ rest
  pub shown : ShowsAll v front s s' old new

-- What was told of these things where a fault came: it failed within them, or memory ran out behind a front of them.
abbrev pub BreaksSo : {P : Type 0} → Watching P → RunFault → List Event → Spacer → Spacer → P → P → Type 0
BreaksSo v Write more s s' old new = LosesAll v more s old new
BreaksSo v OutOfMemory more s s' old new = ShowsFront v more s s' old new
BreaksSo v Read more s s' old new = ⊥

-- What came of telling these things.
abbrev pub IsShown : {P T : Type 0} → Watching P → List Event → Spacer → Spacer → P → P → Result T RunFault → Type 0
IsShown v more s s' old new (Ok done) = ShowsAll v more s s' old new
IsShown v more s s' old new (Err fault) = BreaksSo v fault more s s' old new

-- What a call is told as: that all of a piece was written is none.
abbrev pub call_told : CallEvent → List Told
call_told call.Printed = []
call_told other = Saw other ∷ []

-- What calls are told as.
abbrev pub calls_told : List CallEvent → List Told
calls_told [] = []
calls_told (c ∷ cs) = call_told c ++ calls_told cs

-- These pieces as things that happen.
abbrev pub as_events : List (List ℕ) → List Event
as_events pieces = map (λ piece. Prints (Piece piece)) pieces

-- ## Parts of a value that are to be printed

-- The pieces of a part: those of a value, those behind an element of a list that has this tail, or the bracket behind a tail.
abbrev pub part_pieces : Store → CoreProgram → Part → List (List ℕ)
part_pieces s program (part.Value r) = pieces program (value_at s r)
part_pieces s program (part.Tail r) = tail_pieces program (value_at s r)
part_pieces s program part.End = codes "]" ∷ []

-- The pieces of parts of which the last is next.
abbrev pub parts_left : Store → CoreProgram → List Part → List (List ℕ)
parts_left s program [] = []
parts_left s program (p ∷ ps) = parts_left s program ps ++ part_pieces s program p

-- A store has what a part names.
abbrev pub HoldsPart : Store → Part → Type 0
HoldsPart s (part.Value r) = Holds s r
HoldsPart s (part.Tail r) = Holds s r
HoldsPart s part.End = Unit {0}

-- How much is left of a part.
abbrev pub part_size : Store → Part → ℕ
part_size s (part.Value r) = 3 * size_at s r
part_size s (part.Tail r) = 3 * size_at s r + 2
part_size s part.End = 1

abbrev pub parts_size : Store → List Part → ℕ
parts_size s [] = 0
parts_size s (p ∷ ps) = part_size s p + parts_size s ps

-- A piece in front, or none.
abbrev pub front_if : Bool → List ℕ → List (List ℕ)
front_if true piece = piece ∷ []
front_if false piece = []

-- Of a part the first piece was taken, if it has one of its own, and other parts stand for what is left of it.
pub record TakesPart (s : Store) (program : CoreProgram) (p : Part) (old new : List Part) (some : Bool) (piece : List ℕ) : Type 0 where
  pub more : List Part
  pub parts : new ≡ old ++ more
  pub have : All (HoldsPart s) more
  pub is : part_pieces s program p ≡ front_if some piece ++ parts_left s program more
  pub smaller : parts_size s more < part_size s p

-- The first piece of a part was taken and told, if it has one of its own, and other parts stand for what is left of it.
pub record TellsPart {P : Type 0} (v : Watching P) (s : Store) (program : CoreProgram) (p : Part) (old new : List Part) (sp sp' : Spacer)
    (before now : P) : Type 0 where
  pub some : Bool
  pub piece : List ℕ
  pub takes : TakesPart s program p old new some piece
  pub shown : ShowsAll v (as_events (front_if some piece)) sp sp' before now

-- What came of that.
abbrev pub PrintsPart : {P T : Type 0} → Watching P → Store → CoreProgram → Part → List Part → List Part → Spacer → Spacer → P → P →
    Result T RunFault → Type 0
PrintsPart v s program p old new sp sp' before now (Ok done) = TellsPart v s program p old new sp sp' before now
PrintsPart v s program p old new sp sp' before now (Err fault) = BreaksSo v fault (as_events (part_pieces s program p)) sp sp' before now
