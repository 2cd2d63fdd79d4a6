use Rattle.std.proofs.Common.{◌∙◌, refl, ap, length, map, sym}
use Rattle.dg_base.specs.declared.program.Place.{Place}
use Rattle.dg_machine.proofs.BuiltLemmas.{code_built}
use Rattle.dg_machine.proofs.Making.{ready_made, tables_so, captured_few}
use Rattle.dg_machine.proofs.machine.Machine.new.Goals as goal

pub of-tables-requires-clause-few_captured : goal.of-tables-requires-clause-few_captured
of-tables-requires-clause-few_captured c =
    let runs = c.requires.sound in
    captured_few runs.0 c.args.program runs.1 runs.4

pub returns-in-Ok-Ok-Ok-clause-ready : goal.returns-in-Ok-Ok-Ok-clause-ready
returns-in-Ok-Ok-Ok-clause-ready c p h =
    let mid = c.args.program in
    let runs = c.requires.sound in
    let tables = c.in-Ok-Ok-Ok.tables in
    let kinds = rw c.in-Ok-Ok-Ok.is-0 at c.of-tables.ensures.kinds in
    let words = rw c.in-Ok-Ok-Ok.is-0 at c.of-tables.ensures.words in
    let objects = rw c.in-Ok-Ok-Ok.is-0 at c.of-tables.ensures.objects in
    let captured = rw c.in-Ok-Ok-Ok.is-0 at c.of-tables.ensures.captured in
    let rests = rw c.in-Ok-Ok-Ok.is-1 at c.new-resting.ensures in
    ready_made p mid h c.args.limits.now tables c.in-Ok-Ok-Ok.resting
    (code_built runs.0 runs.1 runs.2 runs.3 mid.code runs.4.light runs.4.leave)
    (tables_so p mid h tables (kinds ∙ ap (map (λ (place : Place). place.kind)) c.as_slice-2.ensures) words objects captured)
    (rests p (record { places = sym h.places ∙ sym c.as_slice.ensures; objects = ap length (sym h.objects) ∙ sym c.len-many.ensures; sites = sym h.sites }))

pub invariant_of-result : goal.invariant_of-result
invariant_of-result c =
    let roomy = rw c.in-Ok-Ok-Ok.is-2 at c.new-memory.ensures in
    record { roomy = roomy c.args.limits.now refl refl }
