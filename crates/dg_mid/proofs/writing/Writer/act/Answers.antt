use Rattle.dg_mid.proofs.WritingLemmas.{puts_act, if_ok_map}
use Rattle.dg_mid.proofs.writing.Writer.act.Goals as goal

pub returns-clause-first : goal.returns-clause-first
returns-clause-first c = if_ok_map c.with.result _ _ (λ new e. puts_act c.args.self.now.blocks c.args.action c.args.ops.items new.items e) c.with.ensures
