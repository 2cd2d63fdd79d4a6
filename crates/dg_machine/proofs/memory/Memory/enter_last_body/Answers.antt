use Rattle.std.proofs.Common.{sym, refl, ◌∙◌}
use Rattle.dg_meaning.specs.Copies.{values_of}
use Rattle.dg_mid.specs.State.{ToBody}
use Rattle.dg_mid.specs.Step.{call_of}
use Rattle.dg_machine.proofs.Leads.{height_now}
use Rattle.dg_machine.proofs.Leaving.{asks_behind, asks_first, asks_inside}
use Rattle.dg_machine.proofs.memory.Memory.enter_last_body.Goals as goal
use Rattle.dg_machine.proofs.memory.Memory.enter_last_body.Goals.{in_default-via-in-Some+else-frame, in_default-via-in_default}

pub returns-in-Some : goal.returns-in-Some
returns-in-Some c g l m v us place parts h refs is =
    let code = c.args.code.now in
    let r = c.args.self.now in
    let frame = c.in-Some.frame in
    asks_behind code g l (ToBody c.args.body (values_of parts)) c.args.many us m r c.enter_body.new.self c.enter_body.result h frame (sym c.in-Some.ensures) c.if-frame.true
    (λ m' held. c.enter_body.ensures g l m' (call_of us c.args.many frame.next m') v place parts held refs refl refl (height_now code l m' (record r { frame = frame.behind; inner = frame.inner }) c.heap-cut.result held c.heap-cut.ensures) is)

pub returns-in_default : goal.returns-in_default
returns-in_default c g l m v us place parts h refs is =
    let code = c.args.code.now in
    let r = c.args.self.now in
    let t = ToBody c.args.body (values_of parts) in
    elim c.in_default.branch [
      | in_default-via-in-Some+else-frame w ↦ asks_inside code g l t c.args.many us m r c.enter_body-in_default.new.self c.enter_body-in_default.result h w.in-Some.frame (sym w.in-Some.ensures) w.if-frame.false
          (λ m' held. c.enter_body-in_default.ensures g l m' (call_of us c.args.many 0 m') v place parts held refs refl refl (height_now code l m' (record r { inner = 0 }) c.heap-cut.result held c.heap-cut.ensures) is)
      | in_default-via-in_default w ↦ asks_first code g l t c.args.many us m r c.enter_body-in_default.new.self c.enter_body-in_default.result h (sym c.frame_at_hand.ensures ∙ w.in_default.is)
          (λ m' held. c.enter_body-in_default.ensures g l m' (call_of us c.args.many 0 m') v place parts held refs refl refl (height_now code l m' (record r { inner = 0 }) c.heap-cut.result held c.heap-cut.ensures) is)
    ]
