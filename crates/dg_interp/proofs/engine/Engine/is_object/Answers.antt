use Rattle.std.proofs.Common.{◌∷◌, [], None}
use Rattle.dg_base.specs.declared.program.Goal.TheVariants.{IsObject}
use Rattle.dg_interp.specs.inside.Finding.{AsksObjectsAt}
use Rattle.dg_interp.specs.inside.Engine.{store_in, TakesAt}
use Rattle.dg_interp.proofs.Changes.{made_hold}
use Rattle.dg_interp.proofs.Giving.{written_full, branches_made}
use Rattle.dg_interp.proofs.Branches.{full_made}
use Rattle.dg_interp.proofs.Findings.{of_all, object_means, object_held, asked_left, asked_limits, asks_world}
use Rattle.dg_interp.proofs.engine.Engine.is_object.Goals as goal

pub ask_objects-requires-clause-args : goal.ask_objects-requires-clause-args
ask_objects-requires-clause-args c = made_hold (c.args.term.now ∷ []) c.args.self.now c.make_args.new.self (rw c.from_ref.ensures.value at c.in-Ok.ensures.made)

pub returns-in-Err-clause-full : goal.returns-in-Err-clause-full
returns-in-Err-clause-full c = written_full (IsObject c.args.term.now c.args.many) (c.args.term.now ∷ []) (object_held c.args.term.now c.args.many) c.args.self.now c.in-Err.e (rw c.from_ref.ensures.value at c.in-Err.ensures.full)

pub returns-in-Ok-clause-done : goal.returns-in-Ok-clause-done
returns-in-Ok-clause-done c =
    let mid = c.make_args.new.self in
    branches_made (TakesAt (IsObject c.args.term.now c.args.many) c.args.self.now) (AsksObjectsAt None c.args.many mid) c.args.self.now mid c.ask_objects.new.self (asked_left (IsObject c.args.term.now c.args.many) (c.args.term.now ∷ []) (object_held c.args.term.now c.args.many) (of_all c.args.many) (object_means c.args.term.now c.args.many) c.args.self.now c.make_args.new.self c.requires.ready (rw c.from_ref.ensures.value at c.in-Ok.ensures.made)) (asked_limits (IsObject c.args.term.now c.args.many) (c.args.term.now ∷ []) (object_held c.args.term.now c.args.many) (of_all c.args.many) (object_means c.args.term.now c.args.many) c.args.self.now c.make_args.new.self c.requires.ready (rw c.from_ref.ensures.value at c.in-Ok.ensures.made))
    (asks_world (IsObject c.args.term.now c.args.many) (c.args.term.now ∷ []) (object_held c.args.term.now c.args.many) (of_all c.args.many) (object_means c.args.term.now c.args.many) c.args.self.now c.make_args.new.self c.requires.ready (rw c.from_ref.ensures.value at c.in-Ok.ensures.made)) c.ask_objects.result c.ask_objects.ensures.asked

pub returns-in-Ok-clause-full : goal.returns-in-Ok-clause-full
returns-in-Ok-clause-full c =
    let mid = c.make_args.new.self in
    let limits = asked_limits (IsObject c.args.term.now c.args.many) (c.args.term.now ∷ []) (object_held c.args.term.now c.args.many) (of_all c.args.many) (object_means c.args.term.now c.args.many) c.args.self.now c.make_args.new.self c.requires.ready (rw c.from_ref.ensures.value at c.in-Ok.ensures.made) in
    full_made (TakesAt (IsObject c.args.term.now c.args.many) c.args.self.now) (AsksObjectsAt None c.args.many mid) (store_in c.args.self.now.store) (store_in mid.store) c.ask_objects.result limits.heap limits.trail
    (asks_world (IsObject c.args.term.now c.args.many) (c.args.term.now ∷ []) (object_held c.args.term.now c.args.many) (of_all c.args.many) (object_means c.args.term.now c.args.many) c.args.self.now c.make_args.new.self c.requires.ready (rw c.from_ref.ensures.value at c.in-Ok.ensures.made)) c.ask_objects.ensures.full
