-- What a gap between two pieces comes to. Hold it against docs/LANGUAGE.md, "Printing".
use Rattle.std.specs.Prelude.{◌≡◌, ℕ, List, [], ◌∷◌, ◌++◌, Option, None, Some, Bool, nat_lt, replicate, if◌then◌else◌}
use Rattle.std.specs.List.{list_any}
use Rattle.dg_base.specs.declared.program.GapKind.TheVariants as gap
use Rattle.dg_meaning.specs.World.{Print, Piece, GapOf, SpacesOf}
use Rattle.dg_meaning.specs.Render.{is_line, is_par, is_upper, spaces_from, last_asked, space_for, upper}
use Rattle.dg_spacing.specs.declared.gap.Break.{Break}
use Rattle.dg_spacing.specs.declared.gap.Break.TheVariants.{Nothing, Line, Par}
use Rattle.dg_spacing.specs.declared.gap.Gap.{Gap}
use Rattle.dg_spacing.specs.declared.gap.Event.{Event}
use Rattle.dg_spacing.specs.declared.gap.Event.TheVariants as event

-- What an event prints.
abbrev pub print_of : Event → Print
print_of (event.Piece bytes) = Piece bytes.now
print_of event.NoSpace = GapOf gap.NoSpace
print_of event.Space = GapOf gap.Space
print_of (event.Spaces n) = SpacesOf n
print_of event.Line = GapOf gap.Line
print_of event.Par = GapOf gap.Par
print_of event.Upper = GapOf gap.Upper

-- It belongs to the gap before the next piece.
abbrev pub IsGapEvent : Print → Type 0
IsGapEvent (Piece bytes) = ⊥
IsGapEvent e = Unit {0}

-- A paragraph break wins over a line break.
abbrev pub break_by : Bool → Bool → Break
break_by par line = if par then Par else (if line then Line else Nothing)

-- Whether a gap breaks a line or a paragraph.
abbrev pub break_of : List Print → Break
break_of es = break_by (list_any is_par es) (list_any is_line es)

-- The gap comes to what it does by these things.
pub record IsGap (g : Gap) (es : List Print) : Type 0 where
  pub break_is : g.broken ≡ break_of es
  pub spaces : g.spaces ≡ spaces_from 0 es
  pub asked : g.asked ≡ last_asked None es
  pub upper : g.upper ≡ list_any is_upper es

-- The text of a gap behind a character: newlines with spaces, or spaces, or what stands between two characters.
abbrev pub text_by : Break → ℕ → Option Bool → ℕ → ℕ → List ℕ
text_by Par spaces asked before after = 10 ∷ 10 ∷ replicate spaces 32
text_by Line spaces asked before after = 10 ∷ replicate spaces 32
text_by Nothing spaces asked before after = if nat_lt 0 spaces then replicate spaces 32 else space_for asked before after

-- The text of a gap before a piece; before the first piece it is spaces.
abbrev pub gap_text : Gap → Option ℕ → ℕ → List ℕ
gap_text g None after = replicate g.spaces 32
gap_text g (Some before) after = text_by g.broken g.spaces g.asked before after

-- A piece, with a capital if it is to have one.
abbrev pub piece_text : Bool → List ℕ → List ℕ
piece_text up [] = []
piece_text up (b ∷ bs) = (if up then upper b else b) ∷ bs
