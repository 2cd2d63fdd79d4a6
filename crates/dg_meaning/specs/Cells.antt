-- What the terms of a program take when they are written. Hold it against docs/LANGUAGE.md, where it says what a limit counts.
use Rattle.std.specs.Prelude.{ℕ, ◌+◌, List, length, Option, Some, None, slice_get}
use Rattle.std.specs.List.{flat_map, sum_by}
use Rattle.dg_base.specs.declared.program.Term.{Term, out-Term}
use Rattle.dg_base.specs.declared.program.Term.TheOpen as term
use Rattle.dg_base.specs.declared.program.ClosureBody.{ClosureBody}
use Rattle.dg_base.specs.declared.program.CoreProgram.{CoreProgram}
use Rattle.dg_base.specs.Terms.{nodes}

-- How many variables a closure captures.
abbrev pub captured_count : Option ClosureBody → ℕ
captured_count None = 0
captured_count (Some closure) = length closure.captured

-- The heap cells of one node of a term: 3 for a pair, and 3 with one more for each captured variable for a closure.
abbrev pub node_cells : CoreProgram → term.Term-F Term → ℕ
node_cells program (term.Pair head tail) = 3
node_cells program (term.Closure c) = 3 + captured_count (slice_get program.closures c)
node_cells program other = 0

-- All nodes of some terms.
abbrev pub nodes_of : List Term → List Term
nodes_of terms = flat_map nodes terms

-- The heap cells of some terms.
abbrev pub cells : CoreProgram → List Term → ℕ
cells program terms = sum_by (λ x. node_cells program (out-Term x)) (nodes_of terms)

-- The work of writing some terms: their nodes.
abbrev pub writing : List Term → ℕ
writing terms = length (nodes_of terms)
