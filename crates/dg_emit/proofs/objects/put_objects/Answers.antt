use Rattle.std.proofs.Common.{◌≡◌, List, ◌+◌, ◌∙◌, length, subst}
use Rattle.std.specs.Prelude.{OnOk}
use Rattle.z_lang.specs.declared.act.Routine.{Routine}
use Rattle.dg_emit.proofs.Chains.{parts_room, groups_few, all_written}
use Rattle.dg_emit.proofs.objects.put_objects.Goals as goal

pub chain_routine-requires-clause-room : goal.chain_routine-requires-clause-room
chain_routine-requires-clause-room c =
    parts_room c.as_slice.result.now (c.args.number + 2 + c.chains_of-chains.result) c.chains_of-upper.result c.chains_of-chains.result (length c.args.names.now)
    (c.as_slice.ensures ∙ c.in_ok-parts.ensures) c.chains_of-upper.ensures c.chains_of-chains.ensures c.requires.few

pub put_groups-requires : goal.put_groups-requires
put_groups-requires c =
    groups_few c.as_slice-3.result.now (c.args.number + 2) c.chains_of-chains.result (length c.args.names.now)
    (c.as_slice-3.ensures ∙ c.in_ok-groups.ensures) c.chains_of-chains.ensures c.requires.few

pub returns : goal.returns
returns c =
    subst (λ (l : List Routine). OnOk c.put_long.result (c.put_long.new.all ≡ l))
    (all_written c.args.all.now c.push.new.self c.push-2.new.self c.put_names.new.all c.put_groups.new.all c.args.number c.chains_of-chains.result c.chains_of-upper.result c.args.names.now
    c.as_slice-2.result.now c.as_slice-3.result.now c.as_slice.result.now c.in_ok-object_routine.field-0 c.in_ok-chain_routine.field-0
    c.chains_of-chains.ensures c.chains_of-upper.ensures (c.as_slice-2.ensures ∙ c.in_ok-leaves.ensures) (c.as_slice-3.ensures ∙ c.in_ok-groups.ensures) (c.as_slice.ensures ∙ c.in_ok-parts.ensures)
    c.in_ok-object_routine.ensures c.in_ok-chain_routine.ensures c.in_ok-push.ensures.ok c.in_ok-push-2.ensures.ok c.in_ok-put_names.ensures c.in_ok-put_groups.ensures)
    c.put_long.ensures
