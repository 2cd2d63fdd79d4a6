use Rattle.std.proofs.Common.{sym, ◌∙◌}
use Rattle.dg_mid.specs.State.{ToPred}
use Rattle.dg_machine.proofs.Leaving.{asks_behind, asks_first, asks_inside}
use Rattle.dg_machine.proofs.memory.Memory.ask_last_rules.Goals as goal
use Rattle.dg_machine.proofs.memory.Memory.ask_last_rules.Goals.{in_default-via-in-Some+else-frame, in_default-via-in_default}

pub returns-in-Some : goal.returns-in-Some
returns-in-Some c g l m vs h refs = asks_behind c.args.code.now g l (ToPred c.args.pred) c.args.many vs m c.args.self.now c.ask_rules.new.self c.ask_rules.result h c.in-Some.frame (sym c.in-Some.ensures) c.if-frame.true (λ m' held. c.ask_rules.ensures g l m' vs held refs)

pub returns-in_default : goal.returns-in_default
returns-in_default c g l m vs h refs =
    elim c.in_default.branch [
      | in_default-via-in-Some+else-frame w ↦ asks_inside c.args.code.now g l (ToPred c.args.pred) c.args.many vs m c.args.self.now c.ask_rules-in_default.new.self c.ask_rules-in_default.result h w.in-Some.frame (sym w.in-Some.ensures) w.if-frame.false (λ m' held. c.ask_rules-in_default.ensures g l m' vs held refs)
      | in_default-via-in_default w ↦ asks_first c.args.code.now g l (ToPred c.args.pred) c.args.many vs m c.args.self.now c.ask_rules-in_default.new.self c.ask_rules-in_default.result h (sym c.frame_at_hand.ensures ∙ w.in_default.is) (λ m' held. c.ask_rules-in_default.ensures g l m' vs held refs)
    ]
