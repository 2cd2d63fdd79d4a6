use Rattle.std.proofs.Common.{◌∷◌, ◌<◌, ◌≤◌, arith, length}
use Rattle.std.specs.Prelude.{Ok, Err, true}
use Rattle.dg_meaning.specs.Values.{value_of_var}
use Rattle.dg_unify.proofs.StoreLemmas.{holds_some}
use Rattle.dg_arena.specs.Held.{meaning_of}
use Rattle.dg_machine.specs.Refs.{Keeps}
use Rattle.dg_machine.specs.Layout.{parameter_equations}
use Rattle.dg_machine.proofs.TermLemmas.{refs_length}
use Rattle.dg_machine.proofs.Matching.{matched_in, heap_after, room_after}
use Rattle.dg_machine.proofs.HeadLemmas.{keeps_same, keeps_on}
use Rattle.dg_machine.proofs.Bodies.{parameter_some, parameter_none}
use Rattle.dg_machine.proofs.memory.Memory.match_parameter.Goals as goal

pub returns-then-len-lt2-clause-matched : goal.returns-then-len-lt2-clause-matched
returns-then-len-lt2-clause-matched c code l m v us vs h refs at =
    let r = c.args.self.now in
    let lt : length (v ∷ us) < 2 = omega (arith, c.if-len-lt2.true, c.len.ensures, r.args.ok.0, refs_length (meaning_of r.arena) r.args.items (v ∷ us) refs) in
    matched_in code l m r r.arena (parameter_equations us vs c.args.row.captured) h (keeps_same r.arena) (Ok true) (parameter_none r.arena v us vs c.args.row.captured lt)

pub arg-argument-requires : goal.arg-argument-requires
arg-argument-requires c =
    let r = c.args.self.now in
    let some = c.requires.args in
    (some.0 ∷ some.1, some.2, omega (arith, c.if-len-lt2.false, c.len.ensures, r.args.ok.0, refs_length (meaning_of r.arena) r.args.items (some.0 ∷ some.1) some.2))

pub unify-requires-clause-a_in : goal.unify-requires-clause-a_in
unify-requires-clause-a_in c =
    let some = c.requires.args in
    let value = c.arg-argument.ensures (some.0 ∷ some.1) some.2 in
    holds_some (meaning_of c.var_value-parameter.new.arena) c.arg-argument.result _ (c.var_value-parameter.ensures.stays.keeps.kept.values c.arg-argument.result _ value)

pub unify-requires-clause-b_in : goal.unify-requires-clause-b_in
unify-requires-clause-b_in c =
    let row = c.requires.row in
    holds_some (meaning_of c.var_value-parameter.new.arena) c.var_value-parameter.result (value_of_var row.0 c.args.row.captured) (c.var_value-parameter.ensures.value row.0 row.1)

pub returns-in-Err-clause-matched : goal.returns-in-Err-clause-matched
returns-in-Err-clause-matched c code l m v us vs h refs at =
    let r = c.args.self.now in
    let mid = c.var_value-parameter.new.arena in
    let stays = c.var_value-parameter.ensures.stays in
    let further : Keeps mid c.unify.new.store = record { kept = c.in-Err.ensures.kept; saved = c.in-Err.ensures.saved } in
    let le : 2 ≤ length (v ∷ us) = omega (arith, c.if-len-lt2.false, c.len.ensures, r.args.ok.0, refs_length (meaning_of r.arena) r.args.items (v ∷ us) refs) in
    matched_in code l m r c.unify.new.store (parameter_equations us vs c.args.row.captured) h (keeps_on r.arena mid c.unify.new.store stays.keeps further) (Err c.in-Err.full)
    (parameter_some r.arena mid c.unify.new.store v us vs c.args.row.captured c.arg-argument.result c.var_value-parameter.result (Err c.in-Err.full) le stays (c.arg-argument.ensures (v ∷ us) refs) (c.var_value-parameter.ensures.value vs at) c.in-Err.ensures.unified)

pub returns-in-Ok-clause-matched : goal.returns-in-Ok-clause-matched
returns-in-Ok-clause-matched c code l m v us vs h refs at =
    let r = c.args.self.now in
    let mid = c.var_value-parameter.new.arena in
    let stays = c.var_value-parameter.ensures.stays in
    let further : Keeps mid c.unify.new.store = record { kept = c.in-Ok.ensures.kept; saved = c.in-Ok.ensures.saved } in
    let le : 2 ≤ length (v ∷ us) = omega (arith, c.if-len-lt2.false, c.len.ensures, r.args.ok.0, refs_length (meaning_of r.arena) r.args.items (v ∷ us) refs) in
    matched_in code l m r c.unify.new.store (parameter_equations us vs c.args.row.captured) h (keeps_on r.arena mid c.unify.new.store stays.keeps further) (Ok c.in-Ok.agreed)
    (parameter_some r.arena mid c.unify.new.store v us vs c.args.row.captured c.arg-argument.result c.var_value-parameter.result (Ok c.in-Ok.agreed) le stays (c.arg-argument.ensures (v ∷ us) refs) (c.var_value-parameter.ensures.value vs at) c.in-Ok.ensures.unified)

pub returns-in-Ok-clause-room : goal.returns-in-Ok-clause-room
returns-in-Ok-clause-room c =
    let r = c.args.self.now in
    let some = c.requires.args in
    let row = c.requires.row in
    let mid = c.var_value-parameter.new.arena in
    let stays = c.var_value-parameter.ensures.stays in
    let further : Keeps mid c.unify.new.store = record { kept = c.in-Ok.ensures.kept; saved = c.in-Ok.ensures.saved } in
    let le : 2 ≤ length (some.0 ∷ some.1) = omega (arith, c.if-len-lt2.false, c.len.ensures, r.args.ok.0, refs_length (meaning_of r.arena) r.args.items (some.0 ∷ some.1) some.2) in
    room_after r c.unify.new.store c.requires.room (keeps_on r.arena mid c.unify.new.store stays.keeps further)
    (heap_after r c.unify.new.store (parameter_equations some.1 row.0 c.args.row.captured) c.in-Ok.agreed
    (parameter_some r.arena mid c.unify.new.store some.0 some.1 row.0 c.args.row.captured c.arg-argument.result c.var_value-parameter.result (Ok c.in-Ok.agreed) le stays (c.arg-argument.ensures (some.0 ∷ some.1) some.2) (c.var_value-parameter.ensures.value row.0 row.1) c.in-Ok.ensures.unified))

pub returns-in-Ok-clause-few : goal.returns-in-Ok-clause-few
returns-in-Ok-clause-few c =
    let r = c.args.self.now in
    let some = c.requires.args in
    let row = c.requires.row in
    let mid = c.var_value-parameter.new.arena in
    let stays = c.var_value-parameter.ensures.stays in
    let le : 2 ≤ length (some.0 ∷ some.1) = omega (arith, c.if-len-lt2.false, c.len.ensures, r.args.ok.0, refs_length (meaning_of r.arena) r.args.items (some.0 ∷ some.1) some.2) in
    omega (
      arith,
      c.requires.few,
      heap_after r c.unify.new.store (parameter_equations some.1 row.0 c.args.row.captured) c.in-Ok.agreed
          (parameter_some r.arena mid c.unify.new.store some.0 some.1 row.0 c.args.row.captured c.arg-argument.result c.var_value-parameter.result (Ok c.in-Ok.agreed) le stays (c.arg-argument.ensures (some.0 ∷ some.1) some.2) (c.var_value-parameter.ensures.value row.0 row.1) c.in-Ok.ensures.unified),
    )
