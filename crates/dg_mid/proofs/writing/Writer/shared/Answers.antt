use Rattle.std.proofs.Common.{rules, ◌∙◌, ◌≡◌, ◌∷◌, []}
use Rattle.std.proofs.lemmas.Grind.{common_steps}
use Rattle.dg_mid.specs.declared.code.Op.TheVariants as op
use Rattle.dg_mid.proofs.WritingLemmas.{untrue}
use Rattle.dg_mid.proofs.Opening.{shares_return, shares_block}
use Rattle.dg_mid.proofs.writing.Writer.shared.Goals as goal

pub returns-then-returns_at_once-clause-shares : goal.returns-then-returns_at_once-clause-shares
returns-then-returns_at_once-clause-shares c =
    let alone : c.args.ops.items ≡ op.Return ∷ [] = search (rules, common_steps) in
    shares_return c.args.self.now.blocks c.args.ops.items alone

pub returns-clause-shares : goal.returns-clause-shares
returns-clause-shares c =
    shares_block c.args.self.now.blocks c.finish.new.self.blocks c.args.ops.items c.in_ok-finish.field-0 c.in_ok-finish.ensures.lands
    (λ alone. untrue (c.if-returns_at_once.ensures.1 (c.as_slice.ensures.value ∙ alone)))
