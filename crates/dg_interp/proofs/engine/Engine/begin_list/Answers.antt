use Rattle.std.proofs.Common.{arith, length, take, drop, ◌-◌, ◌≡◌, ◌≤◌, rules, sym, subst}
use Rattle.std.specs.List.{All}
use Rattle.dg_interp.specs.Runnable.{AreRunnable}
use Rattle.dg_choices.specs.declared.frames.Left.TheVariants.{Lists}
use Rattle.dg_interp.proofs.Turns.{all_first, all_rest, first_and_rest}
use Rattle.dg_interp.proofs.Branches.{on_ok, on_err}
use Rattle.dg_interp.proofs.BeginFrames.{list_begins_at}
use Rattle.dg_interp.proofs.engine.Engine.begin_list.Goals as goal

pub begin_frame-requires-clause-frame : goal.begin_frame-requires-clause-frame
begin_frame-requires-clause-frame c =
    let all = c.args.lists.now in
    let split = first_and_rest all c.list-item.result (length all - 1) c.requires.some c.list-item.is (omega arith) in
    let within : c.len.result ≤ length c.args.self.now.frames.items = search rules in
    record { runnable = subst AreRunnable (sym c.as_slice.ensures) (all_first AreRunnable c.list-item.result (take (length all - 1) (drop 1 all)) (subst (All AreRunnable) split c.requires.left.0)); older = within; env = c.requires.left.1 }

pub begin_frame-requires-clause-others : goal.begin_frame-requires-clause-others
begin_frame-requires-clause-others c =
    let all = c.args.lists.now in
    let split = first_and_rest all c.list-item.result (length all - 1) c.requires.some c.list-item.is (omega arith) in
    (all_rest AreRunnable c.list-item.result (take (length all - 1) (drop 1 all)) (subst (All AreRunnable) split c.requires.left.0), c.requires.left.1)

pub returns-clause-begun : goal.returns-clause-begun
returns-clause-begun c =
    let all = c.args.lists.now in
    let at : c.len.result ≡ length c.args.self.now.frames.items = search rules in
    on_ok c.begin_frame.result (λ h. h (Lists c.args.env c.args.tag c.args.lists)
    (list_begins_at (length c.args.self.now.frames.items) c.len.result c.args.env c.args.tag c.args.lists _ c.as_slice.result c.list-item.result at (first_and_rest all c.list-item.result (length all - 1) c.requires.some c.list-item.is (omega arith)) c.as_slice.ensures)) c.begin_frame.ensures.begun

pub returns-clause-full : goal.returns-clause-full
returns-clause-full c =
    let all = c.args.lists.now in
    let at : c.len.result ≡ length c.args.self.now.frames.items = search rules in
    on_err c.begin_frame.result (λ e h. h (Lists c.args.env c.args.tag c.args.lists)
    (list_begins_at (length c.args.self.now.frames.items) c.len.result c.args.env c.args.tag c.args.lists _ c.as_slice.result c.list-item.result at (first_and_rest all c.list-item.result (length all - 1) c.requires.some c.list-item.is (omega arith)) c.as_slice.ensures)) c.begin_frame.ensures.full
