use Rattle.std.proofs.Common.{rules, ◌∙◌, ◌≡◌, ◌∷◌, []}
use Rattle.std.proofs.lemmas.Grind.{common_steps}
use Rattle.dg_mid.specs.declared.code.Op.TheVariants as op
use Rattle.dg_mid.proofs.WritingLemmas.{untrue, puts_query, puts_last_query, if_ok_map}
use Rattle.dg_mid.proofs.writing.Writer.ask_closure.Goals as goal

pub returns-then-returns_at_once-clause-first : goal.returns-then-returns_at_once-clause-first
returns-then-returns_at_once-clause-first c =
    let alone : c.args.ops.items ≡ op.Return ∷ [] = search (rules, common_steps) in
    if_ok_map c.one.result _ _ (λ new e. puts_last_query c.args.self.now.blocks c.args.a c.args.b c.args.many c.args.ops.items new.items alone e) c.one.ensures

pub returns-in-Ok-clause-first : goal.returns-in-Ok-clause-first
returns-in-Ok-clause-first c =
    if_ok_map c.one-in-Ok.result _ _ (λ new e. puts_query c.args.self.now.blocks c.finish.new.self.blocks c.args.a c.args.b c.args.many c.args.ops.items new.items c.in-Ok.next c.in-Ok.ensures.lands (λ alone. untrue (c.if-returns_at_once.ensures.1 (c.as_slice.ensures.value ∙ alone))) e) c.one-in-Ok.ensures
