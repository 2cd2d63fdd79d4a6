use Rattle.std.proofs.Common.{◌<◌, List, length, ap, ◌∙◌, arith, length-drop}
use Rattle.z_lang.specs.declared.act.Act.{Act}
use Rattle.dg_emit.proofs.Chains.{taken_few, next_part}
use Rattle.dg_emit.proofs.objects.put_names.Goals as goal

pub chain_routine-requires-clause-room : goal.chain_routine-requires-clause-room
chain_routine-requires-clause-room c = omega (arith, ap (λ (l : List (List Act)). length l) c.first_part.ensures, taken_few 32 c.loop-left.left.now)

pub loop-left-smaller : goal.loop-left-smaller
loop-left-smaller c =
    let less : length c.other_parts-left.result.now < length c.loop-left.left.now =
    omega (arith, ap (λ (l : List (List Act)). length l) c.other_parts-left.ensures, length-drop 32 c.loop-left.left.now, c.in-len1-up.len_at_least) in
    less

pub loop-left-preserved : goal.loop-left-preserved
loop-left-preserved c = next_part c.loop-left.all c.push.new.self 2 0 1 c.loop-left.left.now c.first_part.result.now c.other_parts-left.result.now c.in_ok-chain_routine.field-0
    (omega (arith, c.in-len1-up.len_at_least)) c.first_part.ensures c.other_parts-left.ensures c.in_ok-chain_routine.ensures c.in_ok-push.ensures.ok
    ∙ c.loop-left.invariant
