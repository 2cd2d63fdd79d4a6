-- What choices of objects may try, and where they go on. Hold it against the Dialog manual, chapter "Choice points".
use Rattle.std.specs.Prelude.{ℕ, ◌≡◌, List, [], ◌∷◌, Bool, true, false}
use Rattle.dg_meaning.specs.Facts.{kinds_of}
use Rattle.dg_meaning.specs.World.{Game}
use Rattle.dg_meaning.specs.inside.Finding.{may_find}
use Rattle.dg_mid.specs.declared.code.Op.{Op}
use Rattle.dg_mid.specs.declared.code.Op.TheVariants as op
use Rattle.dg_mid.specs.declared.code.Code.{Code}
use Rattle.dg_mid.specs.Code.{block_at}
use Rattle.dg_mid.specs.State.{Way, Tries, Choice, Mid, Status, Runs, Enters, Resumes, Fails, Ended}

-- ## Code

-- Code begins with the leaving of an inner construct.
abbrev pub begins_commit : List Op → Bool
begins_commit (op.Commit ∷ ops) = true
begins_commit ops = false

-- Where one answer of a query of objects is wanted, it goes on at a block that leaves an inner construct first.
abbrev pub LeavesFirst : Code → Bool → ℕ → Type 0
LeavesFirst code true next = Unit {0}
LeavesFirst code false next = begins_commit (block_at code next) ≡ true

-- So does an instruction.
abbrev pub OpLeaves : Code → Op → Type 0
OpLeaves code (op.Find place terms many next) = LeavesFirst code many next
OpLeaves code x = Unit {0}

-- So does each of some instructions.
abbrev pub OpsLeave : Code → List Op → Type 0
OpsLeave code [] = Unit {0}
OpsLeave code (x ∷ ops) = OpLeaves code x × OpsLeave code ops

-- So does each of the instructions in its blocks.
abbrev pub BlocksLeave : Code → Type 0
BlocksLeave code = (b : ℕ) → OpsLeave code (block_at code b)

-- ## Runs

-- Objects are tried at a place that speaks of them, and where one answer is wanted an inner construct is left first.
abbrev pub WaySeeks : Game → Code → Way → Type 0
WaySeeks g code (Tries f objects) = (may_find (kinds_of g.program) f.place ≡ true) × LeavesFirst code f.many f.next
WaySeeks g code way = Unit {0}

-- So it is with each of some choices.
abbrev pub ChoicesSeek : Game → Code → List Choice → Type 0
ChoicesSeek g code [] = Unit {0}
ChoicesSeek g code (c ∷ cs) = WaySeeks g code c.way × ChoicesSeek g code cs

-- So it is with what a machine may still do.
abbrev pub MidSeeks : Game → Code → Mid → Type 0
MidSeeks g code m = OpsLeave code m.ops × ChoicesSeek g code m.choices

abbrev pub StatusSeeks : Game → Code → Status → Type 0
StatusSeeks g code (Runs m) = MidSeeks g code m
StatusSeeks g code (Enters call m) = MidSeeks g code m
StatusSeeks g code (Resumes way m) = WaySeeks g code way × MidSeeks g code m
StatusSeeks g code (Fails m) = MidSeeks g code m
StatusSeeks g code (Ended ending) = Unit {0}
