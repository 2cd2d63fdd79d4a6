use Rattle.std.proofs.Common.{◌∙◌, List, ℕ, Ok, Err, subst}
use Rattle.dg_compile.specs.Source.{Compiles}
use Rattle.dialog_tool.proofs.MakeLemmas.{lacks_made}
use Rattle.dialog_tool.proofs.making.make.Goals as goal

pub returns-in-Err : goal.returns-in-Err
returns-in-Err g c = λ shelf input. lacks_made c.args.n c.args.dice.now shelf input _ _ _ c.no_memory.ensures

pub returns-in-Ok-compile : goal.returns-in-Ok-compile
returns-in-Ok-compile g c = λ shelf input.
    let source = c.deref.ensures.value ∙ c.in-Ok.ensures in
    c.make_program.ensures c.args.n shelf input (c.deref-in-Ok-compile.ensures.value ∙ c.in-Ok.ensures)
    (subst (λ (l : List ℕ). Compiles l (Ok c.in-Ok-compile.program)) source c.in-Ok-compile.ensures.program)

pub unreachable-requires : goal.unreachable-requires
unreachable-requires g c =
    let source = c.deref.ensures.value ∙ c.in-Ok.ensures in
    c.made_sources_are_programs.ensures c.args.n c.requires.some c.requires.few c.in-Err-Refused._refusal
    (subst (λ (l : List ℕ). Compiles l (Err c.in-Err-Refused._refusal)) source (rw c.in-Err-Refused.field-0-is at c.in-Err-Refused.ensures.program))

pub returns : goal.returns
returns g c = λ shelf input. lacks_made c.args.n c.args.dice.now shelf input _ _ _ c.no_memory-in-Err-OutOfMemory.ensures
