-- From what the trace of a run came to, to the answer of the call.
use Rattle.std.proofs.Common.{◌≡◌, ℕ, List, Option, Some, Ok}
use Rattle.dg_base.specs.declared.program.CoreProgram.{CoreProgram as Core}
use Rattle.dg_meaning.specs.inside.Engines.{ForTyped}
use Rattle.dg_compile.specs.Source.{Compiles}
use Rattle.dialog_tool.specs.Call.{Call}
use Rattle.dialog_tool.specs.Command.{trace, Task}
use Rattle.dialog_tool.specs.Promise.{Answers, TracesProgram}
use Rattle.dialog_tool.specs.inside.Calls.{IsFetched}
use Rattle.dialog_tool.proofs.AnswerLemmas.{outside, some_typed, with_program}

-- the run of a program was traced, on typed bytes as they are told
pub trace_comes : (c : Call) (t : Task) (file : List ℕ) (result : ℕ) (p : Core) (P : List ℕ → Type 0) → c.command ≡ Some (trace t) → IsFetched c.shelf c.shelf_after t.name file → Compiles file (Ok p)
    → ((typed : List ℕ) (contents : List ℕ → Option (List ℕ)) → P typed → TracesProgram c (outside contents typed) t p result) → ForTyped c.input.left P → Answers c result
trace_comes c t file result p P words f is traces h =
    let s = some_typed c.input.left P h in
    with_program c (trace t) t.name file result p (λ o q. TracesProgram c o t q result) words f is (λ o d. d) s.0 s.1 (λ contents. traces s.0 contents s.2)
