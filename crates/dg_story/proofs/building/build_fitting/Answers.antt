use Rattle.std.proofs.Common.{◌≡◌, List, IfOk, Result, Ok, Err, length, ap, sym, ◌∙◌, subst, arith}
use Rattle.dg_base.specs.declared.program.Pred.{Pred}
use Rattle.z_asm.specs.Assembled.{ArePlaces}
use Rattle.z_story.specs.declared.building.Placed.{Placed}
use Rattle.z_story.specs.Parts.{image_of}
use Rattle.dg_story.specs.Built.{IsStoryOf, rule_count, too_large}
use Rattle.dg_story.specs.declared.building.Built.{Built}
use Rattle.dg_story.specs.declared.refusal.BuildFault.{BuildFault}
use Rattle.dg_story.specs.declared.refusal.BuildFault.TheVariants.{OutOfMemory}
use Rattle.dg_story.specs.Marks.{rule_names}
use Rattle.dg_story.specs.inside.Left.{parts_left}
use Rattle.dg_story.specs.inside.Stories.{IsWritten}
use Rattle.dg_story.proofs.Begun.{all_small, room_so, words_so}
use Rattle.dg_story.proofs.Alone.{code_fits, parts_fit, none_large, story_is, places_are}
use Rattle.dg_story.proofs.Marked.{rules_enough, built_so, agrees_so}
use Rattle.dg_story.proofs.RefusalLemmas.{rules_few, words_fit}
use Rattle.dg_story.proofs.building.build_fitting.Goals as goal
use Rattle.dg_story.proofs.building.build_fitting.Goals.{in-Ok, in-Err}

abbrev failed : BuildFault → Result Placed BuildFault
failed fault = Err fault

abbrev refused : BuildFault → Result Built BuildFault
refused fault = Err fault

same_fault : (fault : BuildFault) → refused fault ≡ refused too_large → fault ≡ too_large
same_fault fault e = cc

other_fault : (fault : BuildFault) → failed fault ≡ failed OutOfMemory → fault ≡ too_large → ⊥
other_fault fault e f = cc

never : (story : Placed) (fault : BuildFault) → ◌≡◌ {A = Result Placed BuildFault} (Ok story) (Err fault) → ⊥
never story fault e = cc

pub left_of-left-requires-clause-starts : goal.left_of-left-requires-clause-starts
left_of-left-requires-clause-starts c = all_small c.args.program c.requires.sound c.requires.fits

pub left_of-left-requires-clause-few : goal.left_of-left-requires-clause-few
left_of-left-requires-clause-few c = words_fit c.args.program c.requires.fits

pub left_of-left-requires-clause-keeps : goal.left_of-left-requires-clause-keeps
left_of-left-requires-clause-keeps c = words_so c.args.program c.requires.sound c.requires.fits

pub left_of-left-requires-clause-room : goal.left_of-left-requires-clause-room
left_of-left-requires-clause-room c = room_so c.args.program c.requires.sound c.requires.fits

pub rule_count-rule_routines-requires : goal.rule_count-rule_routines-requires
rule_count-rule_routines-requires c = omega (arith, ap rule_count c.as_slice-2.ensures, rules_few c.args.program c.requires.fits)

pub story_with-story-requires-clause-fits : goal.story_with-story-requires-clause-fits
story_with-story-requires-clause-fits c =
    let written : IsWritten c.args.program c.in_ok-code.code = record { sound = c.requires.sound; once = c.requires.once; goals = c.requires.goals; heads = c.requires.heads; fits = c.requires.fits; codes = c.in_ok-code.ensures.codes; tidy = c.in_ok-code.ensures.tidy; leaves = c.in_ok-code.ensures.leave; light = c.in_ok-code.ensures.light } in
    code_fits c.routines_alike.ensures c.args.program c.in_ok-code.code c.in-Ok.left c.in-Ok.ensures (c.programs_have_stories.ensures c.args.program c.in_ok-code.code written)

pub story_with-story-requires-clause-parts : goal.story_with-story-requires-clause-parts
story_with-story-requires-clause-parts c =
    let written : IsWritten c.args.program c.in_ok-code.code = record { sound = c.requires.sound; once = c.requires.once; goals = c.requires.goals; heads = c.requires.heads; fits = c.requires.fits; codes = c.in_ok-code.ensures.codes; tidy = c.in_ok-code.ensures.tidy; leaves = c.in_ok-code.ensures.leave; light = c.in_ok-code.ensures.light } in
    parts_fit c.routines_alike.ensures c.args.program c.in_ok-code.code c.in-Ok.left c.in-Ok.ensures (c.programs_have_stories.ensures c.args.program c.in_ok-code.code written)

pub with_marks-requires : goal.with_marks-requires
with_marks-requires c =
    elim c.match-left-2.branch [
      | in-Ok w ↦
          rules_enough c.args.program c.in_ok-code.code c.in_ok-code.ensures.codes c.in-Ok-story.placed.places.items
          (places_are c.routines_alike.ensures c.args.program c.in_ok-code.code w.in-Ok.left w.in-Ok.ensures c.in-Ok-story.placed.places.items
          (subst (λ (r : Result Placed BuildFault). IfOk r (λ placed. ArePlaces (image_of (parts_left w.in-Ok.left c.in_ok-code.code)) placed.places.items)) (sym w.story-is ∙ c.in-Ok-story.is) w.story_with-story.ensures.places)) c.rule_names-rules.result (subst (λ (ps : List Pred). IfOk c.rule_names-rules.result (λ names. names.items ≡ rule_names 0 ps)) c.as_slice.ensures c.rule_names-rules.ensures)
      | in-Err w ↦ absurd (never c.in-Ok-story.placed OutOfMemory (sym c.in-Ok-story.is ∙ w.story-is))
    ]

pub returns-in-Ok-story-clause-built : goal.returns-in-Ok-story-clause-built
returns-in-Ok-story-clause-built c =
    elim c.match-left-2.branch [
      | in-Ok w ↦
          built_so c.args.program c.in_ok-code.code c.in_ok-code.ensures.codes c.in_ok-code.ensures.tidy c.in-Ok-story.placed c.rule_names-rules.result
          (subst (λ (ps : List Pred). IfOk c.rule_names-rules.result (λ names. names.items ≡ rule_names 0 ps)) c.as_slice.ensures c.rule_names-rules.ensures) c.rule_count-rule_routines.result (c.rule_count-rule_routines.ensures ∙ ap rule_count c.as_slice-2.ensures)
          (story_is c.routines_alike.ensures c.args.program c.in_ok-code.code w.in-Ok.left w.in-Ok.ensures c.in-Ok-story.placed.story.items
          (subst (λ (r : Result Placed BuildFault). IfOk r (λ placed. IsStoryOf (parts_left w.in-Ok.left c.in_ok-code.code) placed.story.items)) (sym w.story-is ∙ c.in-Ok-story.is) w.story_with-story.ensures.ok))
          (places_are c.routines_alike.ensures c.args.program c.in_ok-code.code w.in-Ok.left w.in-Ok.ensures c.in-Ok-story.placed.places.items
          (subst (λ (r : Result Placed BuildFault). IfOk r (λ placed. ArePlaces (image_of (parts_left w.in-Ok.left c.in_ok-code.code)) placed.places.items)) (sym w.story-is ∙ c.in-Ok-story.is) w.story_with-story.ensures.places))
          c.with_marks.result c.with_marks.ensures.ok
      | in-Err w ↦ absurd (never c.in-Ok-story.placed OutOfMemory (sym c.in-Ok-story.is ∙ w.story-is))
    ]

pub returns-in-Ok-story-clause-agrees : goal.returns-in-Ok-story-clause-agrees
returns-in-Ok-story-clause-agrees c =
    let written : IsWritten c.args.program c.in_ok-code.code = record { sound = c.requires.sound; once = c.requires.once; goals = c.requires.goals; heads = c.requires.heads; fits = c.requires.fits; codes = c.in_ok-code.ensures.codes; tidy = c.in_ok-code.ensures.tidy; leaves = c.in_ok-code.ensures.leave; light = c.in_ok-code.ensures.light } in
    elim c.match-left-2.branch [
      | in-Ok w ↦
          agrees_so c.args.program c.in-Ok-story.placed c.rule_names-rules.result c.rule_count-rule_routines.result
          (c.stories_agree.ensures c.args.program c.in_ok-code.code written c.in-Ok-story.placed.story.items
          (story_is c.routines_alike.ensures c.args.program c.in_ok-code.code w.in-Ok.left w.in-Ok.ensures c.in-Ok-story.placed.story.items
          (subst (λ (r : Result Placed BuildFault). IfOk r (λ placed. IsStoryOf (parts_left w.in-Ok.left c.in_ok-code.code) placed.story.items)) (sym w.story-is ∙ c.in-Ok-story.is) w.story_with-story.ensures.ok)))
          c.with_marks.result c.with_marks.ensures.ok
      | in-Err w ↦ absurd (never c.in-Ok-story.placed OutOfMemory (sym c.in-Ok-story.is ∙ w.story-is))
    ]

pub rule_names-rules-requires-clause-few : goal.rule_names-rules-requires-clause-few
rule_names-rules-requires-clause-few c = omega (arith, ap length c.as_slice.ensures, c.requires.sound.few_preds)

pub rule_names-rules-requires-clause-rules : goal.rule_names-rules-requires-clause-rules
rule_names-rules-requires-clause-rules c = omega (arith, ap rule_count c.as_slice.ensures, rules_few c.args.program c.requires.fits)

pub returns-in-Err-story-clause-fits : goal.returns-in-Err-story-clause-fits
returns-in-Err-story-clause-fits c e =
    let written : IsWritten c.args.program c.in_ok-code.code = record { sound = c.requires.sound; once = c.requires.once; goals = c.requires.goals; heads = c.requires.heads; fits = c.requires.fits; codes = c.in_ok-code.ensures.codes; tidy = c.in_ok-code.ensures.tidy; leaves = c.in_ok-code.ensures.leave; light = c.in_ok-code.ensures.light } in
    let f = same_fault c.in-Err-story.fault e in
    elim c.match-left-2.branch [
      | in-Ok w ↦
          none_large c.routines_alike.ensures c.args.program c.in_ok-code.code w.in-Ok.left w.in-Ok.ensures (c.programs_have_stories.ensures c.args.program c.in_ok-code.code written)
          (w.story_with-story.ensures.large (sym w.story-is ∙ c.in-Err-story.is ∙ ap failed f))
      | in-Err w ↦ other_fault c.in-Err-story.fault (sym c.in-Err-story.is ∙ w.story-is) f
    ]
