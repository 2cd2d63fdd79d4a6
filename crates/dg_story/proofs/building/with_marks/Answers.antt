use Rattle.std.proofs.Common.{refl, ℕ, List, ap, ◌∙◌, drop}
use Rattle.dg_emit.specs.Story.{first_number}
use Rattle.dg_story.specs.inside.Marked.{marks_at}
use Rattle.dg_story.proofs.building.with_marks.Goals as goal

pub returns-clause-ok : goal.returns-clause-ok
returns-clause-ok c = record {
  story = refl;
  count_is = refl;
  names = c.in_ok-rules.rules;
  named = c.in_ok-rules.was;
  marks =
      c.in_ok-marks.ensures
      ∙ (ap (λ (l : List (ℕ × ℕ)). marks_at l (drop first_number c.deref-2.result.now)) c.deref.ensures.value
      ∙ ap (λ (l : List (ℕ × ℕ)). marks_at c.in_ok-rules.rules.items (drop first_number l)) c.deref-2.ensures.value);
}
