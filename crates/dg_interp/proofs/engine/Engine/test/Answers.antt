use Rattle.std.proofs.Common.{◌≡◌, ◌∷◌, [], true, false, refl, sym, ap, subst, ◌∙◌}
use Rattle.dg_meaning.specs.Cells.{cells}
use Rattle.dg_meaning.specs.Values.{value_of}
use Rattle.dg_meaning.specs.TypeTests.{passes}
use Rattle.dg_unify.specs.Store.{Kept, Made, told}
use Rattle.dg_base.specs.declared.program.Goal.TheVariants.{Test}
use Rattle.dg_interp.specs.inside.Frames.{stretch, values_in}
use Rattle.dg_interp.specs.inside.Engine.{store_in, FailsAt, TakesAt}
use Rattle.dg_interp.proofs.Takes.{store_sound}
use Rattle.dg_interp.proofs.Values.{grown_limits, test_full, test_passed, test_failed, made_among}
use Rattle.dg_unify.proofs.StoreLemmas.{holds_some}
use Rattle.dg_interp.proofs.Branches.{full_made, back_made}
use Rattle.dg_interp.proofs.engine.Engine.test.Goals as goal

pub returns-in-Err-clause-full : goal.returns-in-Err-clause-full
returns-in-Err-clause-full c = test_full c.args.kind c.args.term.now c.args.self.now c.in-Err.e c.in-Err.ensures.written

pub test-requires : goal.test-requires
test-requires c = holds_some (store_in c.write_term.new.store) c.in-Ok.value _ (c.in-Ok.ensures.written c.args.self.now.program.now refl).value

pub back-requires : goal.back-requires
back-requires c = record { sound = store_sound c.args.self.now c.test.new.store c.write_term.new.stack (subst (Kept (store_in c.args.self.now.store)) (sym c.test.ensures.same) c.write_term.ensures.kept) (λ ms h. c.test.ensures.saved ms (c.write_term.ensures.saved ms h)) c.requires.ready.sound }

pub returns-then-test-clause-tested : goal.returns-then-test-clause-tested
returns-then-test-clause-tested c =
    test_passed c.args.kind c.args.term.now c.args.self.now c.test.new.store c.write_term.new.stack c.in-Ok.value c.requires.ready (subst (Kept (store_in c.args.self.now.store)) (sym c.test.ensures.same) c.write_term.ensures.kept) (λ ms h. c.test.ensures.saved ms (c.write_term.ensures.saved ms h))
    (λ program e. subst (λ s. Made (cells program (c.args.term.now ∷ [])) (store_in c.args.self.now.store) s c.in-Ok.value (value_of program (values_in (store_in c.args.self.now.store) c.args.self.now.refs.items c.args.self.now.here.env) c.args.term.now)) (sym c.test.ensures.same)
    (made_among program [] _ _ _ c.args.self.now.refs.items c.stretch.result.now c.args.self.now.here.env c.in-Ok.value c.args.term.now (c.stretch.ensures ∙ ap (λ l. stretch l c.args.self.now.here.env) c.deref.ensures.value) (c.in-Ok.ensures.written program e)))
    (subst (λ s. true ≡ passes s.state.subst c.args.kind (told s c.in-Ok.value)) (sym c.test.ensures.same) (sym c.if-test.true ∙ c.test.ensures.passed))

pub returns-else-test-clause-full : goal.returns-else-test-clause-full
returns-else-test-clause-full c =
    let x = Test c.args.kind c.args.term.now in
    let e = record c.args.self.now { store = c.test.new.store; made = c.write_term.new.stack } in
    let kept = subst (Kept (store_in c.args.self.now.store)) (sym c.test.ensures.same) c.write_term.ensures.kept in
    full_made (TakesAt x c.args.self.now) (FailsAt e) (store_in c.args.self.now.store) (store_in c.test.new.store) c.back.result kept.heap_limit kept.trail_limit
    (test_failed c.args.kind c.args.term.now c.args.self.now c.test.new.store c.write_term.new.stack c.in-Ok.value c.requires.ready (subst (Kept (store_in c.args.self.now.store)) (sym c.test.ensures.same) c.write_term.ensures.kept) (λ ms h. c.test.ensures.saved ms (c.write_term.ensures.saved ms h))
    (λ program e. subst (λ s. Made (cells program (c.args.term.now ∷ [])) (store_in c.args.self.now.store) s c.in-Ok.value (value_of program (values_in (store_in c.args.self.now.store) c.args.self.now.refs.items c.args.self.now.here.env) c.args.term.now)) (sym c.test.ensures.same)
    (made_among program [] _ _ _ c.args.self.now.refs.items c.stretch.result.now c.args.self.now.here.env c.in-Ok.value c.args.term.now (c.stretch.ensures ∙ ap (λ l. stretch l c.args.self.now.here.env) c.deref.ensures.value) (c.in-Ok.ensures.written program e)))
    (subst (λ s. false ≡ passes s.state.subst c.args.kind (told s c.in-Ok.value)) (sym c.test.ensures.same) (sym c.if-test.false ∙ c.test.ensures.passed))) c.back.ensures.full

pub returns-else-test-clause-tested : goal.returns-else-test-clause-tested
returns-else-test-clause-tested c =
    let x = Test c.args.kind c.args.term.now in
    let e = record c.args.self.now { store = c.test.new.store; made = c.write_term.new.stack } in
    back_made (TakesAt x c.args.self.now) (FailsAt e) c.args.self.now e c.back.new.self refl
    (grown_limits x c.args.self.now c.test.new.store c.write_term.new.stack c.requires.ready (subst (Kept (store_in c.args.self.now.store)) (sym c.test.ensures.same) c.write_term.ensures.kept) (λ ms h. c.test.ensures.saved ms (c.write_term.ensures.saved ms h)))
    (test_failed c.args.kind c.args.term.now c.args.self.now c.test.new.store c.write_term.new.stack c.in-Ok.value c.requires.ready (subst (Kept (store_in c.args.self.now.store)) (sym c.test.ensures.same) c.write_term.ensures.kept) (λ ms h. c.test.ensures.saved ms (c.write_term.ensures.saved ms h))
    (λ program e. subst (λ s. Made (cells program (c.args.term.now ∷ [])) (store_in c.args.self.now.store) s c.in-Ok.value (value_of program (values_in (store_in c.args.self.now.store) c.args.self.now.refs.items c.args.self.now.here.env) c.args.term.now)) (sym c.test.ensures.same)
    (made_among program [] _ _ _ c.args.self.now.refs.items c.stretch.result.now c.args.self.now.here.env c.in-Ok.value c.args.term.now (c.stretch.ensures ∙ ap (λ l. stretch l c.args.self.now.here.env) c.deref.ensures.value) (c.in-Ok.ensures.written program e)))
    (subst (λ s. false ≡ passes s.state.subst c.args.kind (told s c.in-Ok.value)) (sym c.test.ensures.same) (sym c.if-test.false ∙ c.test.ensures.passed))) c.back.result c.back.ensures.back
