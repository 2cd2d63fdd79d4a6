use Rattle.std.proofs.Common.{◌≡◌, ◌≤◌, ◌-◌, ◌∙◌, ap, refl, length, max, rules}
use Rattle.std.specs.Prelude.{replicate}
use Rattle.dg_watch.specs.declared.watch.CallEvent.TheVariants.{Retried}
use Rattle.dg_choices.specs.declared.frames.Left.TheVariants.{Rules}
use Rattle.dg_interp.specs.inside.Engine.{store_in, BeginsAt, with_all}
use Rattle.dg_interp.proofs.Asks.{nothing_in}
use Rattle.dg_interp.proofs.Branches.{full_made_by, tries_by, fewer_made}
use Rattle.dg_interp.proofs.Passes.{passes_told, passed_calls, passed_tells, none_left, passed_left, passed_candidate, passed_fewer, told_sound, told_place}
use Rattle.dg_interp.proofs.engine.Engine.begin_rule.Goals as goal

pub returns-then-is_empty-clause-tried : goal.returns-then-is_empty-clause-tried
returns-then-is_empty-clause-tried c =
    let none : length c.pass-left.result.now ≤ 0 = search rules in
    let so : c.saturating_sub-passed.result ≡ length c.args.rules.now - max (length c.pass-left.result.now) 1 = c.saturating_sub-passed.ensures ∙ ap (λ m. length c.args.rules.now - m) c.max.ensures in
    none_left c.args.self.now c.args.query c.args.args c.args.place c.requires.sound c.args.rules c.pass-left.result c.first_of-first.result c.first_of-first.ensures c.pass-left.ensures c.push.new.self c.tell_retries.new.told (nothing_in c.pass-left.result.now none) (c.in_default.ensures ∙ ap (λ i. with_all c.args.self.now.told.items (replicate i (Retried c.args.query.pred))) so) c.in_default-push.ensures.items

pub enter_rule-requires-clause-sound : goal.enter_rule-requires-clause-sound
enter_rule-requires-clause-sound c = told_sound c.args.self.now c.tell_retries.new.told c.requires.sound

pub enter_rule-requires-clause-place : goal.enter_rule-requires-clause-place
enter_rule-requires-clause-place c = told_place c.args.self.now c.tell_retries.new.told c.args.place c.requires.place

pub enter_rule-requires-clause-left : goal.enter_rule-requires-clause-left
enter_rule-requires-clause-left c = passed_left c.args.self.now c.args.query c.args.args c.args.place c.requires.sound c.args.rules c.pass-left.result c.first_of-first.result c.first_of-first.ensures c.pass-left.ensures c.requires.left

pub enter_rule-requires-clause-candidate : goal.enter_rule-requires-clause-candidate
enter_rule-requires-clause-candidate c = passed_candidate c.args.self.now c.args.query c.args.args c.args.place c.requires.sound c.args.rules c.pass-left.result c.first_of-first.result c.first_of-first.ensures c.pass-left.ensures

pub returns-clause-tried : goal.returns-clause-tried
returns-clause-tried c =
    let e = c.args.self.now in
    let mid = record e { told = c.tell_retries.new.told } in
    let so : c.saturating_sub-passed.result ≡ length c.args.rules.now - max (length c.pass-left.result.now) 1 = c.saturating_sub-passed.ensures ∙ ap (λ m. length c.args.rules.now - m) c.max.ensures in
    tries_by (BeginsAt (Rules c.args.query c.args.args c.args.rules) c.args.place e) (BeginsAt (Rules c.args.query c.args.args c.pass-left.result) c.args.place mid) e mid c.enter_rule.new.self refl
    (passed_tells e c.args.query c.args.args c.args.place c.requires.sound c.args.rules c.pass-left.result c.first_of-first.result c.first_of-first.ensures c.pass-left.ensures c.tell_retries.new.told (c.in_default.ensures ∙ ap (λ i. with_all c.args.self.now.told.items (replicate i (Retried c.args.query.pred))) so))
    (passes_told e c.args.query c.args.args c.args.place c.requires.sound c.args.rules c.pass-left.result c.first_of-first.result c.first_of-first.ensures c.pass-left.ensures c.tell_retries.new.told) c.enter_rule.result c.enter_rule.ensures.tried

pub returns-clause-fewer : goal.returns-clause-fewer
returns-clause-fewer c =
    let e = c.args.self.now in
    fewer_made e c.enter_rule.new.self (length c.pass-left.result.now) (length c.args.rules.now) (passed_fewer e c.args.query c.args.args c.args.place c.requires.sound c.args.rules c.pass-left.result c.first_of-first.result c.first_of-first.ensures c.pass-left.ensures) c.enter_rule.result c.enter_rule.ensures.fewer

pub returns-clause-full : goal.returns-clause-full
returns-clause-full c =
    let e = c.args.self.now in
    let mid = record e { told = c.tell_retries.new.told } in
    full_made_by (passed_calls e c.args.query c.args.args c.args.place c.requires.sound c.args.rules c.pass-left.result c.first_of-first.result c.first_of-first.ensures c.pass-left.ensures)
    (BeginsAt (Rules c.args.query c.args.args c.args.rules) c.args.place e) (BeginsAt (Rules c.args.query c.args.args c.pass-left.result) c.args.place mid) (store_in e.store) (store_in e.store) c.enter_rule.result refl refl
    (passes_told e c.args.query c.args.args c.args.place c.requires.sound c.args.rules c.pass-left.result c.first_of-first.result c.first_of-first.ensures c.pass-left.ensures c.tell_retries.new.told) c.enter_rule.ensures.full
