-- How many bytes the parts of a program's code may take: what a goal, a list of goals, a rule and a closure may take, with what leads to them, is at most
-- 23 of 25 parts of what they count. The proofs alone rest on it.
use Rattle.std.specs.Prelude.{ℕ, ◌+◌, ◌*◌, List, [], ◌∷◌, length}
use Rattle.std.specs.List.{slice_get}
use Rattle.dg_base.specs.declared.program.CoreProgram.{CoreProgram}
use Rattle.dg_base.specs.declared.program.Goal.{Goal}
use Rattle.dg_base.specs.declared.program.Goal.TheOpen.{Goal-F, Select}
use Rattle.dg_base.specs.declared.program.Term.{Term}
use Rattle.dg_base.specs.declared.program.Term.TheOpen.{Term-F, Var, Pair, Closure}
use Rattle.dg_meaning.specs.Render.{characters}
use Rattle.dg_mid.specs.Weights.{Weights}
use Rattle.z_lang.specs.declared.act.Routine.{Routine}
use Rattle.z_lang.specs.Sizes.{body_bytes}
use Rattle.z_asm.specs.Layout.{aligned}
use Rattle.dg_turn.specs.Terms.{captured_of, captures_for}

-- What a routine takes, with the number of its locals, filled up to a multiple of 8.
abbrev pub room : Routine → ℕ
room r = aligned (1 + body_bytes r.body)

-- What some routines take.
abbrev pub rooms : List Routine → ℕ
rooms [] = 0
rooms (r ∷ rs) = room r + rooms rs

-- What the acts of a node may take: those of a pair, or of a closure with what it captures; and what the objects take more that are tried for a variable.
abbrev pub node_bytes : CoreProgram → Term-F Term → ℕ
node_bytes program (Var v) = 25
node_bytes program (Pair head tail) = 32
node_bytes program (Closure c) = 10 + 10 * captures_for (length (captured_of (slice_get program.closures c)))
node_bytes program other = 0

-- How many branches a goal has to choose from.
abbrev pub branches : Goal-F Goal → ℕ
branches (Select site mode lists) = length lists
branches goal = 0

-- What some parts of a program's code may take; a node has its word, too, and what matches it.
abbrev pub bytes : CoreProgram → Weights
bytes program = record {
  own = λ goal. 52 + 36 * branches goal;
  enters = λ vars head. 44;
  opening = 40;
  leaving = 16;
  small = 8;
  gathers = 18;
  block = 8;
  node = λ layer. 13 + node_bytes program layer;
  text = λ name. 60 + 5 * characters name;
}
