use Rattle.std.proofs.Common.{◌≡◌, Some, suc, refl, ap, sym, ◌∙◌, subst, arith, length}
use Rattle.dg_base.specs.declared.run.Ending.TheVariants.{HeapLimit, AuxLimit}
use Rattle.dg_arena.specs.Held.{meaning_of}
use Rattle.dg_lasting.specs.declared.lasting.Lasting.{Lasting}
use Rattle.dg_mid.specs.State.{Takes as TakesOf, Runs as RunsOf, place_of}
use Rattle.dg_mid.specs.Step.{setting, more, inside, with_gathering, gathering, gathers}
use Rattle.dg_machine.specs.declared.now.Now.TheVariants.{Runs, Ended}
use Rattle.dg_machine.specs.declared.now.Way.TheVariants.{Takes}
use Rattle.dg_machine.specs.Standing.{Stands, HasLasting}
use Rattle.dg_machine.proofs.Gatherings.{gathered_held, gathered_room, rows_are, both_taken, two_refs, opened_fits, opened_over, opened_around, charged_lasting}
use Rattle.dg_machine.proofs.Leads.{charged_stands, full_stands, height_now, few_more}
use Rattle.dg_machine.proofs.Opens.{roomy}
use Rattle.dg_machine.proofs.Throws.{ended_lasting}
use Rattle.dg_machine.proofs.memory.Memory.gather_args.Goals as goal

pub returns-in-Err-charge-clause-gathers : goal.returns-in-Err-charge-clause-gathers
returns-in-Err-charge-clause-gathers c code g l m v into at h refs w =
    let m1 = gathering v into c.args.alt m in
    record { stands = full_stands code g l 10 m (gathers (setting g code l) m1.gathered (RunsOf m1)) c.args.self.now c.charge.new.self h (c.in-Err-charge.ensures.held code l m h); lasting = ended_lasting code g l c.charge.new.self HeapLimit _ c.open.new.self (full_stands code g l 10 m (gathers (setting g code l) m1.gathered (RunsOf m1)) c.args.self.now c.charge.new.self h (c.in-Err-charge.ensures.held code l m h)) }

pub returns-in-Ok-clause-gathers : goal.returns-in-Ok-clause-gathers
returns-in-Ok-clause-gathers c code g l m v into at h refs w =
    let m1 = gathering v into c.args.alt m in
    let new = c.charge.new.self in
    let held = c.in-Ok.ensures.held code l m h in
    let full : Stands code l new (Ended AuxLimit) (gathers (setting g code l) m1.gathered (RunsOf m1)) =
    subst (Stands code l new (Ended AuxLimit)) (sym (opened_over code g l m c.args.lasting.now c.open.new.self w c.in-Err.ensures.full (RunsOf m1))) (refl, roomy code l (more 10 m) new held) in
    let stands = charged_stands code g l 10 m (more 10 m) (gathers (setting g code l) m1.gathered (RunsOf m1)) new (Ended AuxLimit) held refl full in
    record { stands = stands; lasting = ended_lasting code g l new AuxLimit _ c.open.new.self stands }

pub open_keeping-requires-clause-count : goal.open_keeping-requires-clause-count
open_keeping-requires-clause-count c = let some = c.requires.args in omega (arith, two_refs (meaning_of c.args.self.now.arena) c.args.self.now.args.items some.0 some.1 some.2)

pub open_keeping-requires-clause-room : goal.open_keeping-requires-clause-room
open_keeping-requires-clause-room c = gathered_room c.args.self.now c.height.result.0 c.requires.room

pub returns-in-Err-open_keeping-clause-gathers : goal.returns-in-Err-open_keeping-clause-gathers
returns-in-Err-open_keeping-clause-gathers c code g l m v into at h refs w =
    let m1 = gathering v into c.args.alt m in
    let r = c.args.self.now in
    let many : suc (length m.gathered) ≡ c.height.result.0 = sym (c.height.ensures ∙ ap (λ (o : Lasting). length o.gathered.rows) c.in_default.ensures.opened.is ∙ ap suc (rows_are c.args.lasting.now g l m w)) in
    let held = gathered_held code l m (with_gathering m).gathered r c.height.result.0 h many in
    let stands = full_stands code g l 10 m (gathers (setting g code l) m1.gathered (RunsOf m1)) r c.open_keeping.new.self h (c.in-Err-open_keeping.ensures.held code l (with_gathering m) (TakesOf c.args.alt into) held (refl, v, both_taken (meaning_of r.arena) r.args.items v into refs)) in
    record { stands = stands; lasting = ended_lasting code g l c.open_keeping.new.self HeapLimit _ c.open.new.self stands }

pub returns-in-Ok-open_keeping-clause-gathers : goal.returns-in-Ok-open_keeping-clause-gathers
returns-in-Ok-open_keeping-clause-gathers c code g l m v into at h refs w =
    let m1 = gathering v into c.args.alt m in
    let r = c.args.self.now in
    let one = c.in_default.ensures.opened in
    let on = TakesOf c.args.alt into in
    let many : suc (length m.gathered) ≡ c.height.result.0 = sym (c.height.ensures ∙ ap (λ (o : Lasting). length o.gathered.rows) one.is ∙ ap suc (rows_are c.args.lasting.now g l m w)) in
    let held = gathered_held code l m (with_gathering m).gathered r c.height.result.0 h many in
    let open_now = c.in-Ok-open_keeping.ensures in
    let taken = open_now.held code l (with_gathering m) on held (refl, v, both_taken (meaning_of r.arena) r.args.items v into refs) in
    let kept = open_now.opened.values.values c.arg-value.result v (c.arg-value.ensures _ refs) in
    let begun = c.begin.ensures.held code l (inside on 0 (with_gathering m)) (record (place_of m) { gathers = Some v }) taken (height_now code l m r c.heap-height.result h c.heap-height.ensures) refl kept in
    let next = subst (Stands code l c.begin.new.self (Runs c.args.rest)) (sym (opened_fits code g l m c.args.lasting.now c.open.new.self w one (RunsOf m1))) (at, begun) in
    record { stands = charged_stands code g l 10 m m1 (gathers (setting g code l) m1.gathered (RunsOf m1)) c.begin.new.self (Runs c.args.rest) begun refl next; lasting = charged_lasting c.open.new.self g l code 10 m (gathers (setting g code l) m1.gathered (RunsOf m1)) (subst (HasLasting c.open.new.self g l) (sym (opened_fits code g l m c.args.lasting.now c.open.new.self w one (RunsOf m1))) (opened_around code g l m c.args.lasting.now c.open.new.self w one)) }

pub begin-requires-clause-few : goal.begin-requires-clause-few
begin-requires-clause-few c = few_more (Takes c.args.alt) 0 (record c.args.self.now { gathered = c.height.result.0 }) c.open_keeping.new.self (gathered_room c.args.self.now c.height.result.0 c.requires.room) c.in-Ok-open_keeping.ensures.opened

pub begin-requires-clause-room : goal.begin-requires-clause-room
begin-requires-clause-room c = c.in-Ok-open_keeping.ensures.opened.room
