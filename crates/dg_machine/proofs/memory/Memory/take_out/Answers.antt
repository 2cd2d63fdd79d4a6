use Rattle.std.proofs.Common.{◌∷◌, take, drop, length, ◌-◌, refl, ap, sym, ◌∙◌, subst}
use Rattle.dg_mid.specs.declared.code.Op.TheVariants as op
use Rattle.dg_mid.specs.declared.code.Gathered.TheVariants.{List as InList, Sum}
use Rattle.dg_mid.specs.Step.{setting, takes}
use Rattle.dg_machine.specs.declared.now.Now.TheVariants.{Resumes}
use Rattle.dg_machine.specs.declared.now.Way.TheVariants.{Takes}
use Rattle.dg_machine.specs.Built.{OpsBuilt}
use Rattle.dg_machine.specs.Measure.{with_way}
use Rattle.dg_machine.specs.Standing.{FallsWith}
use Rattle.dg_machine.proofs.Leaving.{split_list}
use Rattle.dg_machine.proofs.memory.Memory.take_out.Goals as goal

pub returns-in-Sum-clause-takes : goal.returns-in-Sum-clause-takes
returns-in-Sum-clause-takes c code block g l m into built is there h w =
    let all = c.args.ops.now in
    let rest = take (length all - 1) (drop 1 all) in
    let x = c.in-TakeOut in
    let split = split_list all c.op-item.result c.in-len1-up.len_at_least c.op-item.is ∙ ap (λ y. y ∷ rest) (x.is ∙ ap (λ k. op.TakeOut k x.field-1) c.in-Sum.is) in
    let parts : OpsBuilt (op.TakeOut Sum x.field-1 ∷ rest) = subst OpsBuilt split (subst OpsBuilt (sym is) (built.blocks block)) in
    subst (λ xs. FallsWith code g l (with_way c.args.self.now (Takes block)) Resumes c.take_sum.new.self c.take_sum.result c.take_sum.new.lasting (takes (setting g code l) into xs m)) (sym split)
    (c.take_sum.ensures.takes code block g l (record m { ops = rest }) there.1 into (refl, parts.1) h there.2 w)

pub returns-in-List-clause-takes : goal.returns-in-List-clause-takes
returns-in-List-clause-takes c code block g l m into built is there h w =
    let all = c.args.ops.now in
    let rest = take (length all - 1) (drop 1 all) in
    let x = c.in-TakeOut in
    let split = split_list all c.op-item.result c.in-len1-up.len_at_least c.op-item.is ∙ ap (λ y. y ∷ rest) (x.is ∙ ap (λ k. op.TakeOut k x.field-1) c.in-List.is) in
    let parts : OpsBuilt (op.TakeOut InList x.field-1 ∷ rest) = subst OpsBuilt split (subst OpsBuilt (sym is) (built.blocks block)) in
    subst (λ xs. FallsWith code g l (with_way c.args.self.now (Takes block)) Resumes c.take_list.new.self c.take_list.result c.take_list.new.lasting (takes (setting g code l) into xs m)) (sym split)
    (c.take_list.ensures.takes code block g l (record m { ops = rest }) there.1 into (refl, parts.1) h there.2 w)
