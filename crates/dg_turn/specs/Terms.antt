-- The acts that write terms on the heap: each pair and each closure in cells of its own, in the order of their nodes, and each term's word in a
-- register. Hold it against dg_meaning/specs/Cells.antt, which says how many cells they take, and dg_meaning/specs/Values.antt.
use Rattle.std.specs.Prelude.{◌≡◌, ◌≢◌, ℕ, zero, suc, ◌+◌, ◌-◌, ◌*◌, ◌/◌, ◌<◌, ◌≤◌, List, [], ◌∷◌, ◌++◌, length, map, drop, get_or, nat_lt, Option, Some, None, if◌then◌else◌}
use Rattle.std.specs.List.{slice_get}
use Rattle.dg_base.specs.declared.program.ClosureBody.{ClosureBody}
use Rattle.dg_base.specs.declared.program.CoreProgram.{CoreProgram}
use Rattle.dg_base.specs.declared.program.Term.{Term, out-Term}
use Rattle.dg_base.specs.declared.program.Term.TheOpen as term
use Rattle.dg_base.specs.declared.run.Ending.TheVariants.{HeapLimit}
use Rattle.dg_meaning.specs.Values.{Value, value_of}
use Rattle.dg_meaning.specs.Cells.{node_cells, nodes_of, cells, writing}
use Rattle.dg_mid.specs.State.{Mid, vars_of}
use Rattle.dg_mid.specs.Step.{more}
use Rattle.z_model.specs.declared.end.Halt.TheVariants.{AtQuit}
use Rattle.z_lang.specs.declared.act.Act.{Act}
use Rattle.z_lang.specs.declared.act.Act.TheVariants as acts
use Rattle.z_lang.specs.declared.act.Args.TheVariants as args
use Rattle.z_lang.specs.declared.act.Atom.{Atom}
use Rattle.z_lang.specs.declared.act.Atom.TheVariants as atoms
use Rattle.z_lang.specs.declared.act.Function.TheVariants as functions
use Rattle.z_lang.specs.declared.act.Width.TheVariants as widths
use Rattle.z_lang.specs.State.{State}
use Rattle.z_lang.specs.Runs.{ActsRun, ActsOutcome, Stops}
use Rattle.dg_rt.specs.declared.numbers.TheConstants.{CHARGE, VAR, CAPTURE, CLOSURE}
use Rattle.dg_rt.specs.declared.registers.TheConstants.{TERM, WORD}
use Rattle.dg_rt.specs.inside.Walks.{steps}
use Rattle.dg_rt.specs.Cells.{Holds}
use Rattle.dg_rt.specs.Areas.{heap_at, heap_reg, term_reg, last_reg, word_reg, state}
use Rattle.dg_rt.specs.Shapes.{Shape}
use Rattle.dg_rt.specs.Back.{Grown}
use Rattle.dg_rt.specs.RunTime.{HasRunTime}
use Rattle.dg_rt.specs.Closings.{closing, closing_most}
use Rattle.dg_turn.specs.Told.{Telling, told_count}
use Rattle.dg_turn.specs.Lies.{WordsIn, MidIn}
use Rattle.dg_turn.specs.Plays.{registers}

-- ## Words

-- A term's word is put into a variable: what it is, the word of its variable, or the place of its cells, which begin so far behind the first.
abbrev pub word_act : ℕ → ℕ → term.Term-F Term → Act
word_act v o (term.Num n) = acts.Copy v (atoms.Num n)
word_act v o (term.Word n) = acts.Copy v (atoms.Num (16384 + n))
word_act v o (term.Object n) = acts.Copy v (atoms.Num (24576 + n))
word_act v o term.Nil = acts.Copy v (atoms.Num 28672)
word_act v o (term.Var n) = acts.Call (Some v) (atoms.Routine VAR) (args.One (atoms.Num n))
word_act v o (term.Pair head tail) = acts.Compute v functions.Add (atoms.Var TERM) (atoms.Num o)
word_act v o (term.Closure c) = acts.Compute v functions.Add (atoms.Var TERM) (atoms.Num o)

-- So is each of some terms, from a variable on, with the cells of one behind those of the other.
abbrev pub words_acts : CoreProgram → ℕ → ℕ → List Term → List Act
words_acts program v o [] = []
words_acts program v o (t ∷ ts) = word_act v o (out-Term t) ∷ words_acts program (suc v) (o + cells program (t ∷ [])) ts

-- ## Cells

-- The address of a box's header, to which twice the word of the box is added; both wrap.
abbrev pub header_at : ℕ
header_at = 33438

-- The cell so far behind the first is written.
abbrev pub cell_act : ℕ → Atom → Act
cell_act o x = acts.Write widths.Word (atoms.Num (header_at + 2 * o)) (atoms.Var TERM) x

-- The numbers of the variables that a closure captures.
abbrev pub captured_of : Option ClosureBody → List ℕ
captured_of None = []
captured_of (Some closure) = closure.captured

-- The numbers of two variables in one, from an index on; 0 stands in for one that isn't there.
abbrev pub two_numbers : List ℕ → ℕ → ℕ
two_numbers vs i = 256 * get_or vs i 0 + get_or vs (i + 1) 0

-- Variables are captured six at a time, so many times.
abbrev pub capture_acts : ℕ → List ℕ → List Act
capture_acts zero vs = []
capture_acts (suc n) vs =
    acts.Call None (atoms.Routine CAPTURE)
    (args.Three (atoms.Num (two_numbers vs 0)) (atoms.Num (two_numbers vs 2)) (atoms.Num (two_numbers vs 4)))
    ∷ capture_acts n (drop 6 vs)

-- How often for so many variables.
abbrev pub captures_for : ℕ → ℕ
captures_for n = (n + 5) / 6

-- A closure that captures these variables is written: its header, how many they are, and their words.
abbrev pub closure_acts : ℕ → ℕ → List ℕ → List Act
closure_acts o c vs =
    acts.Call None (atoms.Routine CLOSURE) (args.Three (atoms.Num o) (atoms.Num (1 + c)) (atoms.Num (length vs)))
    ∷ capture_acts (captures_for (length vs)) vs

-- A node is written: a pair with its head's cells behind its own, and its tail's behind those, or a closure. Others have no cells.
abbrev pub node_acts : CoreProgram → ℕ → term.Term-F Term → List Act
node_acts program o (term.Pair head tail) =
    cell_act o (atoms.Num 0) ∷ word_act WORD (o + 3) (out-Term head) ∷ cell_act (o + 1) (atoms.Var WORD)
    ∷ word_act WORD (o + 3 + cells program (head ∷ [])) (out-Term tail) ∷ cell_act (o + 2) (atoms.Var WORD) ∷ []
node_acts program o (term.Closure c) = closure_acts o c (captured_of (slice_get program.closures c))
node_acts program o other = []

-- So is each of some nodes.
abbrev pub nodes_acts : CoreProgram → ℕ → List Term → List Act
nodes_acts program o [] = []
nodes_acts program o (x ∷ xs) = node_acts program o (out-Term x) ++ nodes_acts program (o + node_cells program (out-Term x)) xs

-- ## Terms

-- A number of cells; one that passes the heap stands for all that do.
abbrev pub capped : ℕ → ℕ
capped n = if nat_lt 10000 n then 10001 else n

-- So many cells are taken, and the word of a box that begins with them is kept.
abbrev pub charge_acts : ℕ → List Act
charge_acts zero = []
charge_acts (suc n) = acts.Call None (atoms.Routine CHARGE) (args.One (atoms.Num (suc n))) ∷ []

-- Cells that were taken are written, and the words of terms put into variables from one on. Terms that pass the heap are never written.
abbrev pub laying_acts : CoreProgram → ℕ → List Term → List Act
laying_acts program v ts =
    if nat_lt 10000 (cells program ts) then [] else nodes_acts program 0 (nodes_of ts) ++ words_acts program v 0 ts

-- Both: terms are written.
abbrev pub terms_acts : CoreProgram → ℕ → List Term → List Act
terms_acts program v ts = charge_acts (capped (cells program ts)) ++ laying_acts program v ts

-- ## Terms of a story

-- A term's number is one of a story.
abbrev pub IsTerm : term.Term-F Term → Type 0
IsTerm (term.Num n) = n < 16384
IsTerm (term.Word n) = n < 8192
IsTerm (term.Object n) = n < 4096
IsTerm (term.Var n) = n ≤ 16000
IsTerm other = Unit {0}

-- Numbers of variables that a closure may capture.
abbrev pub AreCaptured : List ℕ → Type 0
AreCaptured [] = Unit {0}
AreCaptured (v ∷ vs) = (v < 128) × AreCaptured vs

-- A closure of a story is one of its first 16,384, captures at most 64 variables, and is there.
abbrev pub IsClosure : CoreProgram → ℕ → Type 0
IsClosure program c =
    let vs = captured_of (slice_get program.closures c) in
    (c < 16384) × (length vs ≤ 64) × AreCaptured vs × (told_count program c < 256)

-- A node is one of a story, with its parts.
abbrev pub IsNode : CoreProgram → term.Term-F Term → Type 0
IsNode program (term.Pair head tail) = IsTerm (out-Term head) × IsTerm (out-Term tail)
IsNode program (term.Closure c) = IsClosure program c
IsNode program other = IsTerm other

-- So is each of some nodes.
abbrev pub AreNodes : CoreProgram → List Term → Type 0
AreNodes program [] = Unit {0}
AreNodes program (x ∷ xs) = IsNode program (out-Term x) × AreNodes program xs

-- ## What they cost

-- What a node costs beside what every node does: a closure has its captured values.
abbrev pub capturing : CoreProgram → term.Term-F Term → ℕ
capturing program (term.Closure c) = 5 + 54 * captures_for (length (captured_of (slice_get program.closures c)))
capturing program other = 0

-- The same of some nodes.
abbrev pub all_capturing : CoreProgram → List Term → ℕ
all_capturing program [] = 0
all_capturing program (x ∷ xs) = capturing program (out-Term x) + all_capturing program xs

-- The instructions that writing terms takes at most, beside 6: 20 a node, and what closures have.
abbrev pub written_in : CoreProgram → List Term → ℕ
written_in program ts = 20 * writing ts + all_capturing program (nodes_of ts)

-- ## What they do

-- Acts went on behind terms that were written: memory stands for the machine with their cells taken, registers from one on hold the words of their
-- values, and what isn't theirs is as it was.
pub record Wrote (t : Telling) (outer : ℕ → ℕ) (f w : ℕ) (body rest all : List Act) (sh : Shape) (memory typed output : List ℕ) (drawn : ℕ)
    (cells : ℕ → ℕ) (trail : List ℕ) (m : Mid) (n v : ℕ) (vs : List Value) (most : ℕ) : Type 0 where
  pub memory' : List ℕ
  pub cells' : ℕ → ℕ
  pub holds : Holds t.p.world.layout memory' cells'
  pub sh' : Shape
  pub grown : Grown sh sh'
  pub mid : MidIn t outer sh' cells' trail (more n m)
  pub words : WordsIn sh' (registers cells' (v - 16) (length vs)) vs
  pub others : (k : ℕ) → k ≢ heap_reg → k ≢ term_reg → k ≢ word_reg → (v ≤ k + 16 → v + length vs ≤ k + 16) → k < heap_at →
      cells' k ≡ cells k
  pub count : ℕ
  pub few : count ≤ most
  pub runs : (o : ActsOutcome) (s' : State) (k : ℕ) → ActsRun t.p f w body rest (state memory' [] typed drawn output) o s' k →
      ActsRun t.p f w body all (state memory [] typed drawn output) o s' (steps count k)

-- Acts met the heap's limit: its closing ends the run, in so many instructions and those of the closing.
pub record Meets (t : Telling) (f w : ℕ) (body all : List Act) (memory typed output : List ℕ) (drawn : ℕ) (cells : ℕ → ℕ)
    (most : ℕ) : Type 0 where
  pub memory' : List ℕ
  pub locals' : List ℕ
  pub count : ℕ
  pub few : count ≤ most + closing_most
  pub runs : ActsRun t.p f w body all (state memory [] typed drawn output) (Stops AtQuit)
      (state memory' locals' typed drawn (output ++ closing (cells last_reg) HeapLimit)) count

-- Terms are written where there is room for them; else the limit is met.
pub record TermsWork : Type 0 where
  pub writes : (t : Telling) (outer : ℕ → ℕ) → HasRunTime t.p → (f w : ℕ) → 0 < f → 8 ≤ w → (sh : Shape)
      (memory typed output : List ℕ) (drawn : ℕ) (c : ℕ → ℕ) (trail : List ℕ) (m : Mid) → Holds t.p.world.layout memory c →
      MidIn t outer sh c trail m →
      (body rest : List Act) (v : ℕ) (ts : List Term) → 31 ≤ v → v + length ts ≤ 240 → (44 < v + length ts → 52 ≤ v) →
      AreNodes t.program (nodes_of ts) → m.state.heap + cells t.program ts ≤ 10000 →
      Wrote t outer f w body rest (terms_acts t.program v ts ++ rest) sh memory typed output drawn c trail m (cells t.program ts) v
      (map (value_of t.program (vars_of m.frames)) ts) (written_in t.program ts + 6)
  pub meets : (t : Telling) (outer : ℕ → ℕ) → HasRunTime t.p → (f w : ℕ) → 3 ≤ f → 1 ≤ w → (sh : Shape)
      (memory typed output : List ℕ) (drawn : ℕ) (c : ℕ → ℕ) (trail : List ℕ) (m : Mid) → Holds t.p.world.layout memory c →
      MidIn t outer sh c trail m →
      (body rest : List Act) (v : ℕ) (ts : List Term) → 10000 < m.state.heap + cells t.program ts →
      Meets t f w body (terms_acts t.program v ts ++ rest) memory typed output drawn c 5
