use Rattle.std.proofs.Common.{◌∷◌, take, drop, length, ◌-◌, refl, sym, ap, ◌∙◌, subst}
use Rattle.dg_mid.specs.declared.code.Op.TheVariants as op
use Rattle.dg_mid.specs.declared.code.Action.TheVariants as action
use Rattle.dg_machine.specs.Built.{OpBuilt, OpsBuilt, BeginsQuietly}
use Rattle.dg_machine.specs.inside.Reading.{ReadsNone}
use Rattle.dg_machine.proofs.Readings.{unread_first}
use Rattle.dg_machine.proofs.Leaving.{split_list}
use Rattle.dg_machine.proofs.Goals.{quiet_op, first_goal, silent_with, built_first}
use Rattle.dg_machine.proofs.Lasting.{has_lasting, has_does}
use Rattle.dg_machine.proofs.Selects.{keeps_sites}
use Rattle.dg_mid.specs.Step.{setting, does}
use Rattle.dg_machine.proofs.steps.goal_step.Goals as goal

pub returns-in_default-clause-ok : goal.returns-in_default-clause-ok
returns-in_default-clause-ok g c =
    let all = c.args.ops.now in
    let split = split_list all c.op-item.result c.in-len1-up.len_at_least c.op-item.is in
    let first = first_goal all c.op-item.result (take (length all - 1) (drop 1 all)) split c.requires.goal in
    absurd (c.requires.noisy (subst BeginsQuietly (sym split) (quiet_op c.op-item.result first c.in_default.not-Do c.in_default.not-Select c.in_default.not-Collect c.in_default.not-Find)))

pub returns-in-Ok-clause-ok : goal.returns-in-Ok-clause-ok
returns-in-Ok-clause-ok g c = c.in-Ok.ensures.ok c.args.code.now

pub returns-in-Err-clause-err : goal.returns-in-Err-clause-err
returns-in-Err-clause-err g c = c.in-Err.ensures.err c.args.code.now

pub returns-in-Err-clause-roomy : goal.returns-in-Err-clause-roomy
returns-in-Err-clause-roomy g c l m h = c.in-Err.ensures.roomy c.args.code.now l m h

pub select-requires-clause-branches : goal.select-requires-clause-branches
select-requires-clause-branches g c =
    let all = c.args.ops.now in
    let x = c.in-Select in
    let built = built_first all c.op-item.result (take (length all - 1) (drop 1 all)) (split_list all c.op-item.result c.in-len1-up.len_at_least c.op-item.is) c.requires.ops_built in
    subst OpBuilt (x.is ∙ ap (λ bs. op.Select x.site x.mode bs x.behind) (sym c.as_slice-blocks.ensures)) built

pub returns-in-Select-clause-ok : goal.returns-in-Select-clause-ok
returns-in-Select-clause-ok g c game is_of l m o e at h w =
    let all = c.args.ops.now in
    let x = c.in-Select in
    let rest = take (length all - 1) (drop 1 all) in
    let first = op.Select x.site x.mode c.as_slice-blocks.result.now x.behind in
    let split = split_list all c.op-item.result c.in-len1-up.len_at_least c.op-item.is ∙ ap (λ y. y ∷ rest) (x.is ∙ ap (λ bs. op.Select x.site x.mode bs x.behind) (sym c.as_slice-blocks.ensures)) in
    let built : OpsBuilt (first ∷ rest) = subst OpsBuilt split at.1 in
    silent_with c.args.tables.now c.args.code.now game is_of l m c.args.memory.now c.args.memory.now c.select.result all first rest split at h c.args.spacer.now (g.K.Sink.view c.args.sink.now) c.select.new.lasting refl
    (c.select.ensures.selected c.args.memory.now c.args.tables.now rest game is_of l (record m { ops = rest }) built.0 (refl, built.1) h w)

pub returns-in-Collect-clause-ok : goal.returns-in-Collect-clause-ok
returns-in-Collect-clause-ok g c game is_of l m o e at h w =
    let all = c.args.ops.now in
    let x = c.in-Collect in
    let rest = take (length all - 1) (drop 1 all) in
    let first = op.Collect x.term x.into x.alt in
    let split = split_list all c.op-item.result c.in-len1-up.len_at_least c.op-item.is ∙ ap (λ y. y ∷ rest) x.is in
    let built : OpsBuilt (first ∷ rest) = subst OpsBuilt split at.1 in
    silent_with c.args.tables.now c.args.code.now game is_of l m c.args.memory.now c.collect.new.self c.collect.result all first rest split at h c.args.spacer.now (g.K.Sink.view c.args.sink.now) c.collect.new.lasting refl
    (c.collect.ensures.does c.args.code.now game is_of l (record m { ops = rest }) built.0 (refl, built.1) h w)

pub returns-in-Collect-clause-once : goal.returns-in-Collect-clause-once
returns-in-Collect-clause-once g c = keeps_sites c.args.lasting.now c.collect.new.lasting c.collect.ensures.sites

pub returns-in_default-clause-once : goal.returns-in_default-clause-once
returns-in_default-clause-once g c = keeps_sites c.args.lasting.now c.args.lasting.now refl

pub returns-in-Ok-clause-once : goal.returns-in-Ok-clause-once
returns-in-Ok-clause-once g c = keeps_sites c.args.lasting.now c.do_action.new.lasting c.do_action.ensures.sites

pub returns-in-Err-clause-once : goal.returns-in-Err-clause-once
returns-in-Err-clause-once g c = keeps_sites c.args.lasting.now c.do_action.new.lasting c.do_action.ensures.sites

pub returns-in-Stop-clause-ok : goal.returns-in-Stop-clause-ok
returns-in-Stop-clause-ok g c game is_of l m o e at h w =
    let all = c.args.ops.now in
    let rest = take (length all - 1) (drop 1 all) in
    let split = split_list all c.op-item.result c.in-len1-up.len_at_least c.op-item.is ∙ ap (λ y. y ∷ rest) (c.in-Do.is ∙ ap op.Do c.in-Stop.is) in
    silent_with c.args.tables.now c.args.code.now game is_of l m c.args.memory.now c.stop.new.self c.stop.result all (op.Do action.Stop) rest split at h c.args.spacer.now (g.K.Sink.view c.args.sink.now) c.stop.new.lasting refl
    (c.stop.ensures.does game l (record m { ops = rest }) o h w)

pub returns-in-Find-clause-ok : goal.returns-in-Find-clause-ok
returns-in-Find-clause-ok g c game is_of l m o e at h w =
    let set = setting game c.args.code.now l in
    let all = c.args.ops.now in
    let x = c.in-Find in
    let terms = c.as_slice.result.now in
    let rest = take (length all - 1) (drop 1 all) in
    let first = op.Find x.place terms x.many x.next in
    let split = split_list all c.op-item.result c.in-len1-up.len_at_least c.op-item.is ∙ ap (λ y. y ∷ rest) (x.is ∙ ap (λ ts. op.Find x.place ts x.many x.next) (sym c.as_slice.ensures)) in
    let built : OpsBuilt (first ∷ rest) = subst OpsBuilt split at.1 in
    let m' = record m { ops = rest } in
    let stands = c.find.ensures c.args.code.now game is_of l m' built.0 (refl, built.1) h w in
    silent_with c.args.tables.now c.args.code.now game is_of l m c.args.memory.now c.find.new.self c.find.result all first rest split at h c.args.spacer.now (g.K.Sink.view c.args.sink.now) c.args.lasting.now refl
    (record { stands = stands; lasting = has_lasting c.args.lasting.now game l m' (does set first m') (has_does set first m' built.0 tt) w })

pub returns-in-Find-clause-once : goal.returns-in-Find-clause-once
returns-in-Find-clause-once g c = keeps_sites c.args.lasting.now c.args.lasting.now refl

pub find-requires-clause-terms : goal.find-requires-clause-terms
find-requires-clause-terms g c =
    let all = c.args.ops.now in
    let x = c.in-Find in
    let built = built_first all c.op-item.result (take (length all - 1) (drop 1 all)) (split_list all c.op-item.result c.in-len1-up.len_at_least c.op-item.is) c.requires.ops_built in
    subst OpBuilt (x.is ∙ ap (λ ts. op.Find x.place ts x.many x.next) (sym c.as_slice.ensures)) built

pub do_action-requires-clause-unread : goal.do_action-requires-clause-unread
do_action-requires-clause-unread g c =
    let all = c.args.ops.now in
    subst ReadsNone c.in-Do.is (unread_first all c.op-item.result (take (length all - 1) (drop 1 all)) (split_list all c.op-item.result c.in-len1-up.len_at_least c.op-item.is) c.requires.unread)

pub do_action-requires-clause-noisy : goal.do_action-requires-clause-noisy
do_action-requires-clause-noisy g c quiet =
    let all = c.args.ops.now in
    let rest = take (length all - 1) (drop 1 all) in
    let split = split_list all c.op-item.result c.in-len1-up.len_at_least c.op-item.is ∙ ap (λ y. y ∷ rest) c.in-Do.is in
    c.requires.noisy (subst BeginsQuietly (sym split) quiet)
