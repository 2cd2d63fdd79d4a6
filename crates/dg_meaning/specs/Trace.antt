-- A run as its trace: a line for each call and for each stretch that is printed. Hold it against the Dialog manual on debugging.
use Rattle.std.specs.Prelude.{ℕ, List, [], ◌∷◌, ◌++◌, Option, Some, None, map, get_or, codes, eqb, if◌then◌else◌}
use Rattle.std.specs.List.{flat_map}
use Rattle.dg_base.specs.declared.program.CoreProgram.{CoreProgram}
use Rattle.dg_base.specs.declared.program.Pred.{Pred}
use Rattle.dg_meaning.specs.World.{Print, Piece, Event, Prints, Asked, Answered, Retried, HasFailed, prints}
use Rattle.dg_meaning.specs.Render.{Met, nothing_met, met_behind, written}
use Rattle.dg_meaning.specs.Transcript.{ending_line}
use Rattle.dg_meaning.specs.Shows.{Form}

-- ## Its entries

-- One entry of a trace: bytes that were written for a piece or as the closing, or a query of a predicate that was asked, was answered, is tried again with
-- its next rule, or has failed.
pub data Entry : Type 0 where
  Wrote : (bytes : List ℕ) → Entry
  Asks : (pred : ℕ) → Entry
  Answers : (pred : ℕ) → Entry
  Retries : (pred : ℕ) → Entry
  Fails : (pred : ℕ) → Entry

-- What is written for one thing that is printed: a piece, with what stands between it and the piece before. A gap alone is no entry.
abbrev pub written_entries : Met → Print → List Entry
written_entries m (Piece bytes) = Wrote (written m (Piece bytes)) ∷ []
written_entries m e = []

-- The entries of events, behind what was met.
abbrev pub entries : Met → List Event → List Entry
entries m [] = []
entries m (Prints e ∷ es) = written_entries m e ++ entries (met_behind m e) es
entries m (Asked pred ∷ es) = Asks pred ∷ entries m es
entries m (Answered pred ∷ es) = Answers pred ∷ entries m es
entries m (Retried pred ∷ es) = Retries pred ∷ entries m es
entries m (HasFailed pred ∷ es) = Fails pred ∷ entries m es

-- ## Its lines

-- The lines of bytes in front of which no line has begun: a dot for each newline, and for each stretch of other bytes a quotation mark and the bytes.
abbrev mutual
  pub byte_lines : List ℕ → List ℕ
  byte_lines [] = []
  byte_lines (b ∷ bytes) = if eqb b 10 then codes ".\n" ++ byte_lines bytes else 34 ∷ b ∷ line_on bytes

  -- The same behind bytes of a stretch, whose line is still to be ended.
  pub line_on : List ℕ → List ℕ
  line_on [] = codes "\n"
  line_on (b ∷ bytes) = if eqb b 10 then codes "\n.\n" ++ byte_lines bytes else b ∷ line_on bytes

-- The line of a call: its mark, and the name of the predicate.
abbrev pub call_line : List ℕ → List (List ℕ) → ℕ → List ℕ
call_line mark names pred = mark ++ (get_or names pred [] ++ codes "\n")

-- The lines of an entry, with these names of predicates.
abbrev pub lines_of : List (List ℕ) → Entry → List ℕ
lines_of names (Wrote bytes) = byte_lines bytes
lines_of names (Asks pred) = call_line (codes "? ") names pred
lines_of names (Answers pred) = call_line (codes "= ") names pred
lines_of names (Retries pred) = call_line (codes "< ") names pred
lines_of names (Fails pred) = call_line (codes "! ") names pred

-- The names of the predicates of a program.
abbrev pub names_of : CoreProgram → List (List ℕ)
names_of program = map (λ (pred : Pred). pred.name) program.preds

-- What closes the events, as an entry.
abbrev pub closing_entries : List Event → Option (List ℕ) → List Entry
closing_entries events None = []
closing_entries events (Some line) = Wrote (ending_line (prints events) line) ∷ []

-- The form of a trace, with these names of predicates.
abbrev pub as_lines : List (List ℕ) → Form
as_lines names events line = flat_map (lines_of names) (entries nothing_met events ++ closing_entries events line)

-- ## What is left without its calls

-- Of lines the bytes that were written: a newline for a line that begins with a dot, what stands behind a quotation mark at the beginning of a line, and
-- nothing of other lines.
abbrev mutual
  pub erased : List ℕ → List ℕ
  erased [] = []
  erased (b ∷ lines) =
      if eqb b 10 then erased lines
      else if eqb b 46 then 10 ∷ erased_next lines
      else if eqb b 34 then erased_line lines
      else erased_next lines

  -- Behind the line that has begun.
  pub erased_next : List ℕ → List ℕ
  erased_next [] = []
  erased_next (b ∷ lines) = if eqb b 10 then erased lines else erased_next lines

  -- With the rest of the line that has begun.
  pub erased_line : List ℕ → List ℕ
  erased_line [] = []
  erased_line (b ∷ lines) = if eqb b 10 then erased lines else b ∷ erased_line lines
