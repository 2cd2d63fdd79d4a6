use Rattle.std.proofs.Common.{ap, ◌∙◌, arith}
use Rattle.dg_unify.specs.Store.{State}
use Rattle.dg_machine.proofs.HeadMatching.{no_program}
use Rattle.dg_machine.proofs.heads.match_flats.Goals as goal

pub overflow_sub-whole : goal.overflow_sub-whole
overflow_sub-whole c = omega (arith, c.in-Ok.ensures.few no_program, c.requires.flat.takes no_program, c.heap.ensures)

pub returns-in-Ok-clause-matched : goal.returns-in-Ok-clause-matched
returns-in-Ok-clause-matched c p us vs ha hr =
    let x = c.in-Ok.ensures.matched p us vs ha hr in
    let e = c.take.ensures.taken.state in
    let heap = ap (λ (s : State). s.heap) e in
    let trail = ap (λ (s : State). s.trail) e in
    record {
      agrees = x.agrees;
      subst = ap (λ (s : State). s.subst) e ∙ x.subst;
      binds = record {
        vars = ap (λ (s : State). s.vars) e ∙ x.binds.vars;
        since = ap (λ (s : State). s.since) e ∙ x.binds.since;
        heap = omega (arith, heap, c.in-Ok.ensures.few no_program, c.requires.flat.takes no_program, c.heap.ensures);
        trail = rw (ap (λ (s : State). s.subst) e, trail) x.binds.trail;
      };
    }
