use Rattle.std.proofs.Common.{◌≡◌, Bool, true, false, Vec, Global, refl, sym, subst}
use Rattle.dg_choices.specs.declared.frames.Choice.{Choice}
use Rattle.dg_interp.specs.inside.Engine.{StandsAt, MarkPassed}
use Rattle.dg_interp.specs.inside.Gathering.{KeepsAt}
use Rattle.dg_interp.proofs.Places.{nothing_passed, answer_passed, cut_passed, tag_passed, refused, back_passed, part_left, marked_off, keep_ready, keep_leads, value_passed}
use Rattle.dg_interp.proofs.Gathered.{lacks_from}
use Rattle.dg_interp.proofs.engine.Engine.pass_mark.Goals as goal

pub returns-in-Nothing-clause-passed : goal.returns-in-Nothing-clause-passed
returns-in-Nothing-clause-passed c = nothing_passed c.args.self.now c.requires.ready c.requires.done c.in-Nothing.is

pub returns-in_default-clause-passed : goal.returns-in_default-clause-passed
returns-in_default-clause-passed c = by c.in-AnswerOf.query.many refl
  where
    by : (b : Bool) → c.in-AnswerOf.query.many ≡ b → MarkPassed c.args.self.now (record (marked_off c.args.self.now) { choices = c.answered.new.choices; told = c.push.new.self })
    by true e =
        subst (λ (cs : Vec Choice Global). MarkPassed c.args.self.now (record (marked_off c.args.self.now) { choices = cs; told = c.push.new.self })) (sym (c.answered.ensures.many e))
        (answer_passed c.args.self.now c.requires.ready c.requires.done c.in-AnswerOf.query c.push.new.self c.in-AnswerOf.is e c.in_default.ensures.items)
    by false e = cut_passed c.args.self.now c.requires.ready c.requires.done c.in-AnswerOf.query c.answered.new.choices c.push.new.self c.in-AnswerOf.is e (c.answered.ensures.one e) c.in_default.ensures.items

pub returns-in-CutTo-clause-passed : goal.returns-in-CutTo-clause-passed
returns-in-CutTo-clause-passed c = tag_passed c.args.self.now c.requires.ready c.requires.done c.in-CutTo.tag c.cut.new.choices c.cut.ensures c.in-CutTo.is

pub returns-in-RefuseTo-clause-passed : goal.returns-in-RefuseTo-clause-passed
returns-in-RefuseTo-clause-passed c = refused c.args.self.now c.requires.ready c.requires.done c.in-RefuseTo.tag c.cut-in-RefuseTo.new.choices c.args.self.now.stoppable c.args.self.now.told c.cut-in-RefuseTo.ensures refl c.in-RefuseTo.is

pub returns-in-Exhausted-clause-passed : goal.returns-in-Exhausted-clause-passed
returns-in-Exhausted-clause-passed c = back_passed c.args.self.now c.requires.ready c.requires.done c.in-Exhausted.is

pub returns-in-LeavePart-clause-passed : goal.returns-in-LeavePart-clause-passed
returns-in-LeavePart-clause-passed c = part_left c.args.self.now c.requires.ready c.requires.done c.in-LeavePart.tag c.cut-in-LeavePart.new.choices c.in-LeavePart.outer c.args.self.now.told c.cut-in-LeavePart.ensures refl c.in-LeavePart.is

pub keep_value-requires : goal.keep_value-requires
keep_value-requires c = record { ready = keep_ready c.args.self.now c.requires.ready c.requires.done }

pub returns-in-Ok-clause-passed : goal.returns-in-Ok-clause-passed
returns-in-Ok-clause-passed c = value_passed c.args.self.now c.requires.ready c.requires.done c.in-Keep.field-0 c.in-Keep.is c.keep_value.new.self c.in-Ok.ensures.kept c.in-Ok.ensures.fewer

pub returns-in-Err-keep_value-clause-lacks : goal.returns-in-Err-keep_value-clause-lacks
returns-in-Err-keep_value-clause-lacks c =
    let old = c.args.self.now in
    lacks_from (StandsAt old) (KeepsAt (marked_off old)) old (marked_off old) (record { heap = refl; trail = refl; aux = refl; keep = refl; told = refl }) (keep_leads old c.requires.ready c.requires.done c.in-Keep.field-0 c.in-Keep.is) c.in-Err-keep_value.lack c.in-Err-keep_value.ensures.lacks
