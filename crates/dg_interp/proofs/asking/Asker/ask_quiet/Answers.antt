use Rattle.std.proofs.Common.{◌≡◌, List, [], ◌∷◌, Option, Some, None, true, false, refl, sym, ap, ◌∙◌, subst}
use Rattle.std.specs.Prelude.{IfOk}
use Rattle.dg_base.specs.declared.program.Goal.TheVariants.{Ask}
use Rattle.dg_base.specs.declared.program.CoreProgram.{CoreProgram}
use Rattle.std.specs.Option.{option_map}
use Rattle.dg_meaning.specs.Initial.{Question, IsInitial, run_on, value_put}
use Rattle.dg_interp.specs.Asking.{question, value_of_simple, initial_of}
use Rattle.dg_interp.specs.inside.Seeking.{IsSought}
use Rattle.dg_interp.proofs.Asked.{too_long, not_set, is_set, has_come}
use Rattle.dg_interp.proofs.asking.Asker.ask_quiet.Goals as goal
use Rattle.dg_interp.proofs.asking.Asker.ask_quiet.Goals.{in-TooLong, in-Unanswered, in-Answered, in-Answered-2+in_ok-value-in-Answered-2+in-Some, in-Answered-2+in_ok-value-in-Answered-2+in-None}

pub returns-clause-initial : goal.returns-clause-initial
returns-clause-initial c =
    let program = c.args.self.now in
    let pred = c.args.pred in
    let object = c.args.object in
    let value = c.args.value in
    let terms = c.in_ok-terms.field-0 in
    let world = c.in_ok-found.field-0-1 in
    let found = c.in_ok-found.found in
    let first : IsSought found 1000000 world program (run_on program (question pred object value) (Ask pred terms false ∷ []) 10000) =
    subst (λ (p : CoreProgram). IsSought found 1000000 world p (run_on p (question pred object value) (Ask pred terms false ∷ []) 10000)) c.self.view_is (c.in_ok-found.ensures (question pred object value) refl) in
    elim c.match-found.branch [
      | in-TooLong w ↦ subst (λ r. IfOk r (λ quiet. IsInitial program (question pred object value) (initial_of quiet))) (sym w.result-is) (too_long program pred object value terms c.in_ok-terms.ensures world found w.in-TooLong.is first)
      | in-Unanswered w ↦ subst (λ r. IfOk r (λ quiet. IsInitial program (question pred object value) (initial_of quiet))) (sym w.result-is) (not_set program pred object value terms c.in_ok-terms.ensures world found w.in-Unanswered.is first)
      | in-Answered w ↦ subst (λ r. IfOk r (λ quiet. IsInitial program (question pred object value) (initial_of quiet))) (sym w.result-is) (is_set program pred object value terms c.in_ok-terms.ensures world found w.in-Answered.is first w.if-not-value.true)
      | in-Answered-2+in_ok-value-in-Answered-2+in-Some w ↦ subst (λ r. IfOk r (λ quiet. IsInitial program (question pred object value) (initial_of quiet))) (sym w.result-is) (has_come program pred object value terms c.in_ok-terms.ensures world found w.in-Answered.is first (Some w.in-Some.value) w.if-not-value.false (subst (λ o. option_map value_of_simple o ≡ value_put program (question pred object true) object) w.in-Some.is (subst (λ (p : CoreProgram). option_map value_of_simple w.in_ok-value-in-Answered-2.field-0 ≡ value_put p (question pred object true) object) c.self.view_is w.in_ok-value-in-Answered-2.ensures)))
      | in-Answered-2+in_ok-value-in-Answered-2+in-None w ↦ subst (λ r. IfOk r (λ quiet. IsInitial program (question pred object value) (initial_of quiet))) (sym w.result-is) (has_come program pred object value terms c.in_ok-terms.ensures world found w.in-Answered.is first None w.if-not-value.false (subst (λ o. option_map value_of_simple o ≡ value_put program (question pred object true) object) w.in-None.is (subst (λ (p : CoreProgram). option_map value_of_simple w.in_ok-value-in-Answered-2.field-0 ≡ value_put p (question pred object true) object) c.self.view_is w.in_ok-value-in-Answered-2.ensures)))
    ]
