-- What printing a value leaves behind. Hold it against the Dialog manual, chapter "Output", and docs/LANGUAGE.md, where it says how a value is printed.
use Rattle.std.specs.Prelude.{ℕ, ◌≡◌, ◌≤◌, ◌++◌, List, [], ◌∷◌, map, length, take, Bool, false, true, Option, Some, None, Result, Ok, Err, codes}
use Rattle.dg_base.specs.declared.program.CoreProgram.{CoreProgram}
use Rattle.dg_meaning.specs.Values.{Nil, Value, Node, pair}
use Rattle.dg_meaning.specs.Substitutions.{resolved}
use Rattle.dg_meaning.specs.Pieces.{word_text, first_piece, pieces, tail_pieces}
use Rattle.dg_meaning.specs.World.{Print, Piece}
use Rattle.dg_meaning.specs.Render.{nothing_met, met_from, render_from, growth}
use Rattle.dg_base.specs.Written.{SinkView, Wrote, BrokeOff}
use Rattle.dg_base.specs.declared.writing.WriteFault.{WriteFault}
use Rattle.dg_unify.specs.Store.{Store, told, Holds}
use Rattle.dg_unify.specs.declared.bindings.Ref.{Ref}
use Rattle.dg_unify.specs.declared.bindings.View.{View}
use Rattle.dg_unify.specs.declared.bindings.View.TheVariants as view
use Rattle.dg_base.specs.declared.cells.Simple.TheVariants as simple
use Rattle.dg_spacing.specs.Spacer.{StandsFor}
use Rattle.dg_spacing.specs.declared.spacer.Spacer.{Spacer}
use Rattle.dg_texts.specs.declared.printing.Next.{Next}
use Rattle.dg_texts.specs.declared.printing.Next.TheVariants as next

-- ## Names

-- A program with these words and objects, and nothing else: what is printed of a value depends on no more of one.
abbrev pub named : List (List ℕ) → List (List ℕ) → CoreProgram
named words objects = record { preds = []; closures = []; places = []; objects = objects; words = words; sites = 0; entry = 0 }

-- ## Letters

-- The text of an unknown word stands in front in a buffer, so many bytes.
abbrev pub HasText : List ℕ → List ℕ → ℕ → Type 0
HasText spelling bytes count = (count ≤ length bytes) × (take count bytes ≡ word_text spelling)

-- ## Pieces

-- The empty list is shown.
abbrev pub shows_nil : View → Bool
shows_nil (view.Simple simple.Nil) = true
shows_nil other = false

-- The pieces of a value that is no pair.
abbrev pub single_pieces : CoreProgram → Value → List (List ℕ)
single_pieces program (Node Nil vs) = codes "[" ∷ codes "]" ∷ []
single_pieces program v = first_piece program v ∷ []

-- The pieces behind the last element of a list whose tail is this.
abbrev pub end_pieces : CoreProgram → Value → List (List ℕ)
end_pieces program (Node Nil vs) = codes "]" ∷ []
end_pieces program v = codes "|" ∷ first_piece program v ∷ codes "]" ∷ []

-- These pieces as things that are printed.
abbrev pub as_prints : List (List ℕ) → List Print
as_prints pieces = map Piece pieces

-- One more thing was written.
pub record Added (e : Print) (es : List Print) (old new : SinkView) (s : Spacer) : Type 0 where
  pub stands : StandsFor s (es ++ e ∷ [])
  pub wrote : Wrote old new (growth es e)

-- The bytes by which the text grows with these pieces.
abbrev pub growth_of : List Print → List (List ℕ) → List ℕ
growth_of es pieces = render_from (met_from nothing_met es) (as_prints pieces)

-- These pieces were written, one after another, behind whatever stood before.
pub record AllAdded (pieces : List (List ℕ)) (es : List Print) (old new : SinkView) (s : Spacer) : Type 0 where
  pub stands : StandsFor s (es ++ as_prints pieces)
  pub wrote : Wrote old new (growth_of es pieces)

-- The same, whatever the spacer stood for.
abbrev pub AddsAll : List (List ℕ) → Spacer → Spacer → SinkView → SinkView → Type 0
AddsAll pieces s s' old new = (es : List Print) → StandsFor s es → AllAdded pieces es old new s'

-- What printing these pieces came to: all were written, or the sink failed within them.
abbrev pub Printed : List (List ℕ) → Spacer → Spacer → SinkView → SinkView → Result (Unit {0}) WriteFault → Type 0
Printed pieces s s' old new (Ok done) = AddsAll pieces s s' old new
Printed pieces s s' old new (Err fault) = (es : List Print) → StandsFor s es → BrokeOff old new (growth_of es pieces)

-- ## What is next

-- The value of a Ref, resolved.
abbrev pub value_at : Store → Ref → Value
value_at s r = resolved s.state.subst (told s r)

-- The value that is next, or the tail.
abbrev pub ref_of : Next → Ref
ref_of (next.Value r) = r
ref_of (next.Tail r) = r

-- The pieces of what is next.
abbrev pub next_pieces : Store → CoreProgram → Next → List (List ℕ)
next_pieces s program (next.Value r) = pieces program (value_at s r)
next_pieces s program (next.Tail r) = tail_pieces program (value_at s r)

-- The piece in front of its elements, where it is a pair.
abbrev pub opening : Next → List (List ℕ)
opening (next.Value r) = codes "[" ∷ []
opening (next.Tail r) = []

-- It is the pair of these two.
pub record IsPairOf (s : Store) (r h t : Ref) : Type 0 where
  pub head_in : Holds s h
  pub tail_in : Holds s t
  pub is : value_at s r ≡ pair (value_at s h) (value_at s t)

-- What printing the front of what is next came to: it is a pair, whose parts are to come, or was printed whole, or the sink failed within it.
abbrev pub PrintsNext : Store → CoreProgram → Next → Spacer → Spacer → SinkView → SinkView → Result (Option (Ref × Ref)) WriteFault → Type 0
PrintsNext s program n sp sp' old new (Ok (Some parts)) = IsPairOf s (ref_of n) parts.0 parts.1 × AddsAll (opening n) sp sp' old new
PrintsNext s program n sp sp' old new (Ok None) = AddsAll (next_pieces s program n) sp sp' old new
PrintsNext s program n sp sp' old new (Err fault) = (es : List Print) → StandsFor sp es → BrokeOff old new (growth_of es (next_pieces s program n))
