use Rattle.std.proofs.Common.{◌∙◌, sym, subst}
use Rattle.dg_lasting.specs.Resting.{Rests}
use Rattle.dg_machine.proofs.Resting.{something, nothing, ready_again, if_answered, for_each_program}
use Rattle.dg_machine.proofs.machine.Machine.run.Goals as goal

pub begin-lasting-requires-clause-may : goal.begin-lasting-requires-clause-may
begin-lasting-requires-clause-may g c =
    let some = c.requires.ready in
    let l = c.args.self.now.limits in
    (some.0, l, something some.0 l _ c.in-Some.resting c.in-Some.ensures.value some.1.rests)

pub run_with-result-requires-clause-lasting : goal.run_with-result-requires-clause-lasting
run_with-result-requires-clause-lasting g c =
    let some = c.requires.ready in
    let l = c.args.self.now.limits in
    (some.0, c.args.dice.now, some.1.tabled, c.begin-lasting.ensures.starts some.0 l (something some.0 l _ c.in-Some.resting c.in-Some.ensures.value some.1.rests))

pub returns-clause-shows : goal.returns-clause-shows
returns-clause-shows g c =
    let l = c.args.self.now.limits in
    if_answered c.run_with-result.result _ _ c.run_with-result.ensures.shows
    (λ outcome shown p ready. shown p c.args.dice.now ready.codes ready.tabled (c.begin-lasting.ensures.starts p l (something p l _ c.in-Some.resting c.in-Some.ensures.value ready.rests)))

pub returns-clause-input : goal.returns-clause-input
returns-clause-input g c is p ready =
    let l = c.args.self.now.limits in
    c.run_with-result.ensures.input is p c.args.dice.now ready.codes ready.tabled (c.begin-lasting.ensures.starts p l (something p l _ c.in-Some.resting c.in-Some.ensures.value ready.rests))

pub returns-clause-output : goal.returns-clause-output
returns-clause-output g c is p ready =
    let l = c.args.self.now.limits in
    c.run_with-result.ensures.output is p c.args.dice.now ready.codes ready.tabled (c.begin-lasting.ensures.starts p l (something p l _ c.in-Some.resting c.in-Some.ensures.value ready.rests))

pub returns-clause-ready : goal.returns-clause-ready
returns-clause-ready g c p ready =
    ready_again p _ _ _ _ _ _ _ c.in-Some.resting c.rest.result c.run_with-result.ensures.limits c.run_with-result.ensures.code c.run_with-result.ensures.tables c.in-Some.ensures.value
    (c.rest.ensures.start ∙ c.begin-lasting.ensures.start) (c.rest.ensures.extent ∙ c.run_with-result.ensures.extent ∙ c.begin-lasting.ensures.extent) ready

pub returns-in_default-clause-shows : goal.returns-in_default-clause-shows
returns-in_default-clause-shows g c =
    for_each_program c.write_keep.result _ _ (λ p ready. c.write_keep.ensures.shows p c.args.dice.now c.args.self.now.limits (nothing p c.args.self.now.limits _ c.in_default.ensures.value ready.rests) (g.S.Source.view c.args.source.now))

pub returns-in_default-clause-output : goal.returns-in_default-clause-output
returns-in_default-clause-output g c is p ready =
    c.write_keep.ensures.output is p c.args.dice.now c.args.self.now.limits (nothing p c.args.self.now.limits _ c.in_default.ensures.value ready.rests) (g.S.Source.view c.args.source.now)

pub returns-in_default-clause-ready : goal.returns-in_default-clause-ready
returns-in_default-clause-ready g c p ready = record {
  built = ready.built;
  tidy = ready.tidy;
  codes = ready.codes;
  tabled = ready.tabled;
  rests = subst (Rests p c.args.self.now.limits) (sym (c.in_default.ensures.after ∙ c.in_default.ensures.value)) ready.rests;
}

pub run_with-result-requires-clause-built : goal.run_with-result-requires-clause-built
run_with-result-requires-clause-built g c = c.requires.ready.1.built

pub run_with-result-requires-clause-tidy : goal.run_with-result-requires-clause-tidy
run_with-result-requires-clause-tidy g c = c.requires.ready.1.tidy
