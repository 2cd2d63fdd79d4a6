use Rattle.std.proofs.Common.{rules, ◌≡◌, ◌≤◌, ◌++◌, ℕ, List, length, take, Option, [], Some, Ok, refl, sym, ◌∙◌, ap, subst, arith}
use Rattle.z_model.specs.Run.{line_read}
use Rattle.z_model.specs.Typed.{typed_line}
use Rattle.z_play.specs.View.{layout_in, machine}
use Rattle.dg_base.specs.Lines.{TookLine, TakesLine}
use Rattle.dg_base.proofs.LineLemmas.{line_told, line_untold}
use Rattle.z_play.specs.inside.Scene.{given_by}
use Rattle.z_play.proofs.Codes.{line_kept}
use Rattle.z_play.proofs.Reading.{ended, line_kept_is, stops_behind}
use Rattle.z_play.proofs.Finishing.{read_ok, sets_ok, sets_given, finish_input, finish_reading, unfinished_reading}
use Rattle.z_play.proofs.player.read_line.Goals as goal

pub unwrap-requires : goal.unwrap-requires
unwrap-requires g c =
    let few : length (take c.keep_codes-count.result c.keep_codes-count.new.line) ≤ c.args.most = search rules in
    sets_ok c.finish_read.result (machine c.finish_read.new.self) _ c.finish_read.ensures.read (read_ok (layout_in c.args.engine.now) (machine c.args.engine.now) c.args.buffer c.args.most c.args.store (take c.keep_codes-count.result c.keep_codes-count.new.line) c.requires.can.0 c.requires.can.1 few)

pub returns-in-Err-clause-told : goal.returns-in-Err-clause-told
returns-in-Err-clause-told g c = λ dice typed drawn told.
    let part = c.in-Err.ensures.took in
    let stops = stops_behind part.0 typed (g.S.Source.view c.args.source.now).left (g.S.Source.view c.take_line.new.source).left part.1 part.2 told in
    unfinished_reading (given_by (layout_in c.args.engine.now) dice) (machine c.args.engine.now) c.args.buffer c.args.most c.args.store typed drawn (g.S.Source.view c.take_line.new.source).left c.requires.can.0 c.requires.can.1 stops

pub returns-in-Ok-None-clause-told : goal.returns-in-Ok-None-clause-told
returns-in-Ok-None-clause-told g c = λ dice typed drawn told.
    let old = (g.S.Source.view c.args.source.now).left in
    let new = (g.S.Source.view c.take_line.new.source).left in
    let over = subst (λ (o : Option ℕ). TakesLine (Ok o) c.take_line.new.line old new) c.in-Ok-None.field-0-is c.in-Ok-None.ensures.took in
    let taken = ended old new typed told over.0 over.1 in
    finish_input (given_by (layout_in c.args.engine.now) dice) (machine c.args.engine.now) (machine c.args.engine.now) c.args.buffer c.args.most c.args.store typed drawn (g.S.Source.view c.take_line.new.source).left taken.0 taken.1

pub returns-in-Ok-Some-clause-told : goal.returns-in-Ok-Some-clause-told
returns-in-Ok-Some-clause-told g c = λ dice typed drawn told.
    let kept : List ℕ = take c.keep_codes-count.result c.keep_codes-count.new.line in
    let few : length (take c.keep_codes-count.result c.keep_codes-count.new.line) ≤ c.args.most = search rules in
    let long : length c.keep_codes-count.new.line ≡ c.args.most = search rules in
    let room : length c.take_line.new.line ≡ 1024 = search rules in
    let old = (g.S.Source.view c.args.source.now).left in
    let new = (g.S.Source.view c.take_line.new.source).left in
    let took = subst (λ (o : Option ℕ). TakesLine (Ok o) c.take_line.new.line old new) c.in-Ok-Some.field-0-is c.in-Ok-Some.ensures.took in
    let front = line_told took.0 typed new (subst (λ (o : Option (List ℕ)). TookLine took.0 o new) told took.1) in
    let taken = line_kept_is c.take_line.new.line c.in-Ok-Some.kept took.0 typed front.0 front.2 took.2 in
    let line : take c.keep_codes-count.result c.keep_codes-count.new.line ≡ typed_line c.args.most typed =
    line_kept c.args.most (take c.keep_codes-count.result c.keep_codes-count.new.line) c.keep_codes-count.new.line c.take_line.new.line (take c.in-Ok-Some.kept c.take_line.new.line) typed c.keep_codes-count.ensures.codes long (omega arith) taken.0 room in
    let given = sets_given c.finish_read.result (machine c.finish_read.new.self) _ c.finish_read.ensures.read (read_ok (layout_in c.args.engine.now) (machine c.args.engine.now) c.args.buffer c.args.most c.args.store (take c.keep_codes-count.result c.keep_codes-count.new.line) c.requires.can.0 c.requires.can.1 few) in
    finish_reading (given_by (layout_in c.args.engine.now) dice) (machine c.args.engine.now) (machine c.finish_read.new.self) c.args.buffer c.args.most c.args.store typed drawn new front.2.some (front.1 ∙ ap Some (sym taken.1)) (ap (λ (l : List ℕ). line_read (layout_in c.args.engine.now) (machine c.args.engine.now) c.args.buffer c.args.store l) (sym line) ∙ given)

pub returns-in-Err-clause-untold : goal.returns-in-Err-clause-untold
returns-in-Err-clause-untold g c = λ dice left drawn may.
    let part = c.in-Err.ensures.took in
    let typed = part.0 ++ left in
    (typed, unfinished_reading (given_by (layout_in c.args.engine.now) dice) (machine c.args.engine.now) c.args.buffer c.args.most c.args.store typed drawn (Some left) c.requires.can.0 c.requires.can.1 (stops_behind part.0 typed (Some typed) (Some left) part.1 refl refl))

pub returns-in-Ok-None-clause-untold : goal.returns-in-Ok-None-clause-untold
returns-in-Ok-None-clause-untold g c = λ dice left drawn none.
    ([], finish_input (given_by (layout_in c.args.engine.now) dice) (machine c.args.engine.now) (machine c.args.engine.now) c.args.buffer c.args.most c.args.store [] drawn (Some left) refl (ap Some none))

pub returns-in-Ok-Some-clause-untold : goal.returns-in-Ok-Some-clause-untold
returns-in-Ok-Some-clause-untold g c = λ dice left drawn may.
    let took = subst (λ (o : Option ℕ). TakesLine (Ok o) c.take_line.new.line (g.S.Source.view c.args.source.now).left (g.S.Source.view c.take_line.new.source).left) c.in-Ok-Some.field-0-is c.in-Ok-Some.ensures.took in
    let end = line_untold took.0 took.1.plain in
    let typed = took.0 ++ (end.0 ++ left) in
    let front = end.1 left in
    let taken = line_kept_is c.take_line.new.line c.in-Ok-Some.kept took.0 typed left front took.2 in
    let kept : List ℕ = take c.keep_codes-count.result c.keep_codes-count.new.line in
    let few : length (take c.keep_codes-count.result c.keep_codes-count.new.line) ≤ c.args.most = search rules in
    let long : length c.keep_codes-count.new.line ≡ c.args.most = search rules in
    let room : length c.take_line.new.line ≡ 1024 = search rules in
    let line : take c.keep_codes-count.result c.keep_codes-count.new.line ≡ typed_line c.args.most typed =
    line_kept c.args.most (take c.keep_codes-count.result c.keep_codes-count.new.line) c.keep_codes-count.new.line c.take_line.new.line (take c.in-Ok-Some.kept c.take_line.new.line) typed c.keep_codes-count.ensures.codes long (omega arith) taken.0 room in
    let given = sets_given c.finish_read.result (machine c.finish_read.new.self) _ c.finish_read.ensures.read (read_ok (layout_in c.args.engine.now) (machine c.args.engine.now) c.args.buffer c.args.most c.args.store (take c.keep_codes-count.result c.keep_codes-count.new.line) c.requires.can.0 c.requires.can.1 few) in
    (typed, finish_reading (given_by (layout_in c.args.engine.now) dice) (machine c.args.engine.now) (machine c.finish_read.new.self) c.args.buffer c.args.most c.args.store typed drawn (Some left) front.some (ap Some (sym taken.1)) (ap (λ (l : List ℕ). line_read (layout_in c.args.engine.now) (machine c.args.engine.now) c.args.buffer c.args.store l) (sym line) ∙ given))
