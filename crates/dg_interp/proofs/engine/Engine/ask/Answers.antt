use Rattle.std.proofs.Common.{◌≤◌, ◌+◌, [], ◌∷◌, ◌++◌, ◌∙◌, ap, refl, length, rules}
use Rattle.dg_watch.specs.declared.watch.CallEvent.TheVariants as call
use Rattle.dg_base.specs.declared.program.Goal.TheVariants.{Ask}
use Rattle.dg_choices.specs.declared.frames.Left.TheVariants.{Rules}
use Rattle.dg_interp.specs.inside.Engine.{store_in, FailsAt, TakesAt, BeginsAt}
use Rattle.dg_interp.proofs.Branches.{went_on_by, went_wrong_by, full_by, full_made_by, back_by}
use Rattle.dg_interp.proofs.Asks.{args_full, nothing_in, failing_sound, ask_tells, asks_none, asking_sound, asking_left, asking_place, asking_tells, asks_some}
use Rattle.dg_interp.proofs.engine.Engine.ask.Goals as goal

pub returns-in-Err-clause-full : goal.returns-in-Err-clause-full
returns-in-Err-clause-full c = args_full c.args.query c.args.terms.now c.args.self.now c.in-Err.e c.in-Err.ensures.written

pub back-requires : goal.back-requires
back-requires c = record {
  sound = failing_sound c.args.self.now c.args.query c.args.terms.now c.write_args.new.store c.write_args.new.refs c.write_args.new.made c.in-Ok.args c.requires.ready c.write_args.ensures.kept c.write_args.ensures.saved c.in-Ok.ensures.written c.push-then-is_empty.new.self c.rules_of-rules.result c.rules_of-rules.ensures;
}

pub returns-then-is_empty-clause-full : goal.returns-then-is_empty-clause-full
returns-then-is_empty-clause-full c =
    let x = Ask c.args.query.pred c.args.terms.now c.args.query.many in
    let e = record c.args.self.now { store = c.write_args.new.store; refs = c.write_args.new.refs; made = c.write_args.new.made; told = c.push-then-is_empty.new.self } in
    let none : length c.rules_of-rules.result.now ≤ 0 = search rules in
    full_made_by (call.Asked c.args.query.pred ∷ call.Failed c.args.query.pred ∷ []) (TakesAt x c.args.self.now) (FailsAt e) (store_in c.args.self.now.store) (store_in c.write_args.new.store) c.back.result c.write_args.ensures.kept.heap_limit c.write_args.ensures.kept.trail_limit
    (asks_none c.args.self.now c.args.query c.args.terms.now c.write_args.new.store c.write_args.new.refs c.write_args.new.made c.in-Ok.args c.requires.ready c.write_args.ensures.kept c.write_args.ensures.saved c.in-Ok.ensures.written c.push-then-is_empty.new.self c.rules_of-rules.result c.rules_of-rules.ensures (nothing_in c.rules_of-rules.result.now none))
    c.back.ensures.full

pub returns-then-is_empty-clause-asked : goal.returns-then-is_empty-clause-asked
returns-then-is_empty-clause-asked c =
    let x = Ask c.args.query.pred c.args.terms.now c.args.query.many in
    let e = record c.args.self.now { store = c.write_args.new.store; refs = c.write_args.new.refs; made = c.write_args.new.made; told = c.push-then-is_empty.new.self } in
    let none : length c.rules_of-rules.result.now ≤ 0 = search rules in
    back_by (TakesAt x c.args.self.now) (FailsAt e) c.args.self.now e c.back.new.self refl
    (ask_tells c.args.self.now c.args.query c.args.terms.now c.write_args.new.store c.write_args.new.refs c.write_args.new.made c.in-Ok.args c.requires.ready c.write_args.ensures.kept c.write_args.ensures.saved c.in-Ok.ensures.written c.push-then-is_empty.new.self c.rules_of-rules.result c.rules_of-rules.ensures (call.Asked c.args.query.pred ∷ call.Failed c.args.query.pred ∷ []) (c.in_default-push.ensures.items ∙ ap (λ l. l ++ call.Failed c.args.query.pred ∷ []) c.in_default.ensures.items))
    (asks_none c.args.self.now c.args.query c.args.terms.now c.write_args.new.store c.write_args.new.refs c.write_args.new.made c.in-Ok.args c.requires.ready c.write_args.ensures.kept c.write_args.ensures.saved c.in-Ok.ensures.written c.push-then-is_empty.new.self c.rules_of-rules.result c.rules_of-rules.ensures (nothing_in c.rules_of-rules.result.now none))
    c.back.result c.back.ensures.back

pub begin_rule-requires-clause-sound : goal.begin_rule-requires-clause-sound
begin_rule-requires-clause-sound c =
    asking_sound c.args.self.now c.args.query c.args.terms.now c.write_args.new.store c.write_args.new.refs c.write_args.new.made c.in-Ok.args c.requires.ready c.write_args.ensures.kept c.write_args.ensures.saved c.in-Ok.ensures.written c.push.new.self c.rules_of-rules.result c.rules_of-rules.ensures c.mark-place.result c.push-in-Ok.new.self c.mark-place.new.self
    c.in_default-push-2.ensures.items c.mark-place.ensures.kept c.mark-place.ensures.same c.mark-place.ensures.saved c.requires.room

pub begin_rule-requires-clause-left : goal.begin_rule-requires-clause-left
begin_rule-requires-clause-left c =
    asking_left c.args.self.now c.args.query c.args.terms.now c.write_args.new.store c.write_args.new.refs c.write_args.new.made c.in-Ok.args c.requires.ready c.write_args.ensures.kept c.write_args.ensures.saved c.in-Ok.ensures.written c.push.new.self c.rules_of-rules.result c.rules_of-rules.ensures c.mark-place.result c.push-in-Ok.new.self c.mark-place.new.self
    c.in_default-push-2.ensures.items c.mark-place.ensures.kept c.mark-place.ensures.same c.mark-place.ensures.saved

pub begin_rule-requires-clause-place : goal.begin_rule-requires-clause-place
begin_rule-requires-clause-place c =
    asking_place c.args.self.now c.args.query c.args.terms.now c.write_args.new.store c.write_args.new.refs c.write_args.new.made c.in-Ok.args c.requires.ready c.write_args.ensures.kept c.write_args.ensures.saved c.in-Ok.ensures.written c.push.new.self c.rules_of-rules.result c.rules_of-rules.ensures c.mark-place.result c.push-in-Ok.new.self c.mark-place.new.self
    c.in_default-push-2.ensures.items c.mark-place.ensures.kept c.mark-place.ensures.same c.mark-place.ensures.saved

pub returns-in-Err-begin_rule-clause-full : goal.returns-in-Err-begin_rule-clause-full
returns-in-Err-begin_rule-clause-full c =
    let x = Ask c.args.query.pred c.args.terms.now c.args.query.many in
    let e = record c.args.self.now { store = c.mark-place.new.self; refs = c.write_args.new.refs; made = c.write_args.new.made; frames = c.push-in-Ok.new.self; newest = c.args.self.now.newest + 1; told = c.push.new.self } in
    let limits = asking_tells c.args.self.now c.args.query c.args.terms.now c.write_args.new.store c.write_args.new.refs c.write_args.new.made c.in-Ok.args c.requires.ready c.write_args.ensures.kept c.write_args.ensures.saved c.in-Ok.ensures.written c.push.new.self c.rules_of-rules.result c.rules_of-rules.ensures c.mark-place.result c.push-in-Ok.new.self c.mark-place.new.self
    c.in_default-push-2.ensures.items c.mark-place.ensures.kept c.mark-place.ensures.same c.mark-place.ensures.saved (call.Asked c.args.query.pred ∷ []) c.in_default.ensures.items in
    full_by (call.Asked c.args.query.pred ∷ []) (TakesAt x c.args.self.now) (BeginsAt (Rules c.args.query c.in-Ok.args c.rules_of-rules.result) c.mark-place.result e) (store_in c.args.self.now.store) (store_in c.mark-place.new.self) c.in-Err-begin_rule.e limits.heap limits.trail
    (asks_some c.args.self.now c.args.query c.args.terms.now c.write_args.new.store c.write_args.new.refs c.write_args.new.made c.in-Ok.args c.requires.ready c.write_args.ensures.kept c.write_args.ensures.saved c.in-Ok.ensures.written c.push.new.self c.rules_of-rules.result c.rules_of-rules.ensures c.mark-place.result c.push-in-Ok.new.self c.mark-place.new.self
    c.in_default-push-2.ensures.items c.mark-place.ensures.kept c.mark-place.ensures.same c.mark-place.ensures.saved) c.in-Err-begin_rule.ensures.full

pub returns-in-Ok-true-clause-asked : goal.returns-in-Ok-true-clause-asked
returns-in-Ok-true-clause-asked c =
    let x = Ask c.args.query.pred c.args.terms.now c.args.query.many in
    let e = record c.args.self.now { store = c.mark-place.new.self; refs = c.write_args.new.refs; made = c.write_args.new.made; frames = c.push-in-Ok.new.self; newest = c.args.self.now.newest + 1; told = c.push.new.self } in
    let limits = asking_tells c.args.self.now c.args.query c.args.terms.now c.write_args.new.store c.write_args.new.refs c.write_args.new.made c.in-Ok.args c.requires.ready c.write_args.ensures.kept c.write_args.ensures.saved c.in-Ok.ensures.written c.push.new.self c.rules_of-rules.result c.rules_of-rules.ensures c.mark-place.result c.push-in-Ok.new.self c.mark-place.new.self
    c.in_default-push-2.ensures.items c.mark-place.ensures.kept c.mark-place.ensures.same c.mark-place.ensures.saved (call.Asked c.args.query.pred ∷ []) c.in_default.ensures.items in
    went_on_by (TakesAt x c.args.self.now) (BeginsAt (Rules c.args.query c.in-Ok.args c.rules_of-rules.result) c.mark-place.result e) c.args.self.now e c.begin_rule.new.self refl limits
    (asks_some c.args.self.now c.args.query c.args.terms.now c.write_args.new.store c.write_args.new.refs c.write_args.new.made c.in-Ok.args c.requires.ready c.write_args.ensures.kept c.write_args.ensures.saved c.in-Ok.ensures.written c.push.new.self c.rules_of-rules.result c.rules_of-rules.ensures c.mark-place.result c.push-in-Ok.new.self c.mark-place.new.self
    c.in_default-push-2.ensures.items c.mark-place.ensures.kept c.mark-place.ensures.same c.mark-place.ensures.saved) (rw c.in-Ok-true.field-0-test at c.in-Ok-true.ensures.tried)

pub returns-in-Ok-false-clause-full : goal.returns-in-Ok-false-clause-full
returns-in-Ok-false-clause-full c =
    let x = Ask c.args.query.pred c.args.terms.now c.args.query.many in
    let e = record c.args.self.now { store = c.mark-place.new.self; refs = c.write_args.new.refs; made = c.write_args.new.made; frames = c.push-in-Ok.new.self; newest = c.args.self.now.newest + 1; told = c.push.new.self } in
    let limits = asking_tells c.args.self.now c.args.query c.args.terms.now c.write_args.new.store c.write_args.new.refs c.write_args.new.made c.in-Ok.args c.requires.ready c.write_args.ensures.kept c.write_args.ensures.saved c.in-Ok.ensures.written c.push.new.self c.rules_of-rules.result c.rules_of-rules.ensures c.mark-place.result c.push-in-Ok.new.self c.mark-place.new.self
    c.in_default-push-2.ensures.items c.mark-place.ensures.kept c.mark-place.ensures.same c.mark-place.ensures.saved (call.Asked c.args.query.pred ∷ []) c.in_default.ensures.items in
    let wrong = went_wrong_by (TakesAt x c.args.self.now) (BeginsAt (Rules c.args.query c.in-Ok.args c.rules_of-rules.result) c.mark-place.result e) c.args.self.now e c.begin_rule.new.self refl limits
    (asks_some c.args.self.now c.args.query c.args.terms.now c.write_args.new.store c.write_args.new.refs c.write_args.new.made c.in-Ok.args c.requires.ready c.write_args.ensures.kept c.write_args.ensures.saved c.in-Ok.ensures.written c.push.new.self c.rules_of-rules.result c.rules_of-rules.ensures c.mark-place.result c.push-in-Ok.new.self c.mark-place.new.self
    c.in_default-push-2.ensures.items c.mark-place.ensures.kept c.mark-place.ensures.same c.mark-place.ensures.saved) (rw c.in-Ok-false.field-0-test at c.in-Ok-false.ensures.tried) in
    full_made_by wrong.limits.calls (TakesAt x c.args.self.now) (FailsAt c.begin_rule.new.self) (store_in c.args.self.now.store) (store_in c.begin_rule.new.self.store) c.back-in-Ok-false.result wrong.limits.heap wrong.limits.trail wrong.leads c.back-in-Ok-false.ensures.full

pub returns-in-Ok-false-clause-asked : goal.returns-in-Ok-false-clause-asked
returns-in-Ok-false-clause-asked c =
    let x = Ask c.args.query.pred c.args.terms.now c.args.query.many in
    let e = record c.args.self.now { store = c.mark-place.new.self; refs = c.write_args.new.refs; made = c.write_args.new.made; frames = c.push-in-Ok.new.self; newest = c.args.self.now.newest + 1; told = c.push.new.self } in
    let limits = asking_tells c.args.self.now c.args.query c.args.terms.now c.write_args.new.store c.write_args.new.refs c.write_args.new.made c.in-Ok.args c.requires.ready c.write_args.ensures.kept c.write_args.ensures.saved c.in-Ok.ensures.written c.push.new.self c.rules_of-rules.result c.rules_of-rules.ensures c.mark-place.result c.push-in-Ok.new.self c.mark-place.new.self
    c.in_default-push-2.ensures.items c.mark-place.ensures.kept c.mark-place.ensures.same c.mark-place.ensures.saved (call.Asked c.args.query.pred ∷ []) c.in_default.ensures.items in
    let wrong = went_wrong_by (TakesAt x c.args.self.now) (BeginsAt (Rules c.args.query c.in-Ok.args c.rules_of-rules.result) c.mark-place.result e) c.args.self.now e c.begin_rule.new.self refl limits
    (asks_some c.args.self.now c.args.query c.args.terms.now c.write_args.new.store c.write_args.new.refs c.write_args.new.made c.in-Ok.args c.requires.ready c.write_args.ensures.kept c.write_args.ensures.saved c.in-Ok.ensures.written c.push.new.self c.rules_of-rules.result c.rules_of-rules.ensures c.mark-place.result c.push-in-Ok.new.self c.mark-place.new.self
    c.in_default-push-2.ensures.items c.mark-place.ensures.kept c.mark-place.ensures.same c.mark-place.ensures.saved) (rw c.in-Ok-false.field-0-test at c.in-Ok-false.ensures.tried) in
    back_by (TakesAt x c.args.self.now) (FailsAt c.begin_rule.new.self) c.args.self.now c.begin_rule.new.self c.back-in-Ok-false.new.self wrong.left wrong.limits wrong.leads c.back-in-Ok-false.result c.back-in-Ok-false.ensures.back

pub back-requires-in-Ok-false : goal.back-requires-in-Ok-false
back-requires-in-Ok-false c = search rules
