use Rattle.std.proofs.Common.{rules, ◌≡◌, ◌∷◌, [], ◌∙◌}
use Rattle.std.proofs.lemmas.Grind.{common_steps}
use Rattle.dg_mid.specs.declared.code.Op.TheVariants as op
use Rattle.dg_mid.proofs.WritingLemmas.{if_ok_both}
use Rattle.dg_mid.proofs.Opening.{lands_block, lands_jump}
use Rattle.dg_mid.proofs.writing.Writer.finish.Goals as goal

pub returns-in-Some-clause-lands : goal.returns-in-Some-clause-lands
returns-in-Some-clause-lands c =
    let alone : c.args.ops.items ≡ op.Goto c.in-Some.b ∷ [] = search (rules, common_steps) in
    lands_jump c.args.self.now.blocks c.args.ops.items c.in-Some.b alone

pub returns-in-None-clause-lands : goal.returns-in-None-clause-lands
returns-in-None-clause-lands c =
    if_ok_both c.block.result _ _ _ (λ b made is. lands_block c.args.self.now.blocks c.block.new.self.blocks c.args.ops.items b made is (λ j e. c.in-None.ensures j (c.as_slice.ensures.value ∙ e))) c.block.ensures.made c.block.ensures.number
