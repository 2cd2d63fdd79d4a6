use Rattle.std.proofs.Common.{ℕ, Bool, Option, IfOk, sym, subst}
use Rattle.dg_base.specs.declared.program.CoreProgram.{CoreProgram as Core}
use Rattle.dg_interp.specs.Asking.{question as asked, initial_of}
use Rattle.dg_meaning.specs.Initial.{Initial, IsInitial}
use Rattle.dg_lower.specs.Starts as spec
use Rattle.dg_lower.specs.inside.Adding.{Adds}
use Rattle.dg_lower.proofs.OutcomeLemmas.{outcome_told}
use Rattle.dg_lower.proofs.searches.ask.Goals as goal

pub returns-clause-starts : goal.returns-clause-starts
returns-clause-starts c =
    let p = c.args.program.now in
    let pred = c.args.pred in
    let x = initial_of c.in_ok-outcome.outcome in
    let in_program = subst (λ (q : Core). IsInitial q (asked pred c.asked_object.result c.has_values.result) x) c.requires c.in_ok-outcome.ensures.initial in
    let of_object = subst (λ (o : Option ℕ). IsInitial p (asked pred o c.has_values.result) x) c.asked_object.ensures in_program in
    let told : IsInitial p (spec.question c.args.kind pred c.args.object) x =
    subst (λ (b : Bool). IsInitial p (asked pred (spec.asked_object c.args.kind c.args.object) b) x) c.has_values.ensures of_object in
    subst (λ (y : Initial). IfOk c.add_start.result (λ fault. Adds (spec.start_by p c.args.kind c.args.object y) c.args.starts.now fault c.add_start.new.starts))
    (sym (outcome_told p (spec.question c.args.kind pred c.args.object) x told)) c.add_start.ensures
