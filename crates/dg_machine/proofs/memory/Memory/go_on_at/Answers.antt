use Rattle.std.proofs.Common.{refl, ◌∙◌, ◌∷◌, ap, take, drop, length, ◌-◌, subst, sym}
use Rattle.dg_mid.specs.State.{Goes}
use Rattle.dg_mid.specs.Step.{setting}
use Rattle.dg_machine.specs.Built.{OpsBuilt}
use Rattle.dg_machine.proofs.Leaving.{split_list, goes_as_is, goes_kept, goes_full, resumed_none, resumed_else}
use Rattle.dg_machine.proofs.memory.Memory.go_on_at.Goals as goal

pub returns-in-empty : goal.returns-in-empty
returns-in-empty c code block g l m tidy built is h = goes_as_is code g l block m c.args.self.now c.args.self.now c.args.ops tidy built is h (resumed_none (setting g code l) c.args.ops.now m c.in-empty.len_below)

pub returns-in-Ok : goal.returns-in-Ok
returns-in-Ok c code block g l m tidy built is h =
    let all = c.args.ops.now in
    let split = split_list all c.op-item.result c.in-len1-up.len_at_least c.op-item.is in
    goes_kept code g l block m c.args.self.now c.open.new.self c.args.ops tidy built is h c.in-Retry.alt _ (split ∙ ap (λ x. x ∷ take (length all - 1) (drop 1 all)) c.in-Retry.is)
    (c.in-Ok.ensures.held code l (record m { ops = take (length all - 1) (drop 1 all) }) (Goes c.in-Retry.alt) h refl) c.in-Ok.ensures.opened

pub returns-in-Err : goal.returns-in-Err
returns-in-Err c code block g l m tidy built is h =
    let all = c.args.ops.now in
    let split = split_list all c.op-item.result c.in-len1-up.len_at_least c.op-item.is in
    goes_full code g l block m c.args.self.now c.open.new.self c.args.ops tidy built is h c.in-Retry.alt (take (length all - 1) (drop 1 all)) (split ∙ ap (λ x. x ∷ take (length all - 1) (drop 1 all)) c.in-Retry.is)
    (c.in-Err.ensures.held code l m (Goes c.in-Retry.alt) h refl)

pub returns-in_default : goal.returns-in_default
returns-in_default c code block g l m tidy built is h =
    let all = c.args.ops.now in
    let split = split_list all c.op-item.result c.in-len1-up.len_at_least c.op-item.is in
    goes_as_is code g l block m c.args.self.now c.args.self.now c.args.ops tidy built is h
    (resumed_else (setting g code l) all c.op-item.result (take (length all - 1) (drop 1 all)) m split (subst OpsBuilt (sym is) (built.blocks block)) c.in_default.not-Retry)
