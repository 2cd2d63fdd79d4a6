use Rattle.std.proofs.Common.{rules, ◌≡◌, ◌<◌, ◌∙◌, false, refl, sym, subst}
use Rattle.dg_machine.specs.Measure.{left_of}
use Rattle.dg_machine.specs.inside.Running.{rests}
use Rattle.dg_machine.proofs.Runs.{settled_on, mark_falls}
use Rattle.dg_machine.proofs.Turns.{somewhere_marked, somewhere_settled, end_rests}
use Rattle.dg_machine.proofs.Failing.{settled_then, failing_left}
use Rattle.dg_machine.proofs.steps.settle.Goals as goal

pub settle_first-first-requires-clause-some : goal.settle_first-first-requires-clause-some
settle_first-first-requires-clause-some c = (c.args.lasting.now, c.requires.some)

pub marks-init : goal.marks-init
marks-init c =
    let comes = c.settle_first-first.ensures.comes c.args.lasting.now in
    record {
      settles = comes;
      somewhere = somewhere_settled c.args.tables.now c.args.code.now c.args.memory.now c.settle_first-first.new.memory c.args.lasting.now c.args.lasting.now c.args.start c.settle_first-first.result comes c.requires.some;
      sites = refl;
      extent = refl;
      stays = c.settle_first-first.ensures.stays;
    }

pub marks-preserved : goal.marks-preserved
marks-preserved c =
    let e : rests c.marks.now ≡ false = search rules in
    record {
      settles = λ g is_of l typed steps h w. settled_on c.args.code.now g l typed c.requires.built c.args.tables.now is_of c.marks.memory c.mark_apart-now.new.memory c.marks.lasting c.mark_apart-now.new.lasting c.marks.now c.mark_apart-now.result steps e c.mark_apart-now.ensures.done (c.marks.invariant.settles g is_of l typed steps h w);
      somewhere = somewhere_marked c.args.tables.now c.args.code.now c.requires.built c.marks.memory c.mark_apart-now.new.memory c.marks.lasting c.mark_apart-now.new.lasting c.marks.now c.mark_apart-now.result e c.mark_apart-now.ensures.done c.marks.invariant.somewhere;
      sites = c.mark_apart-now.ensures.sites ∙ c.marks.invariant.sites;
      extent = c.mark_apart-now.ensures.extent ∙ c.marks.invariant.extent;
      stays = λ end. absurd (let x = end_rests c.marks.now (c.marks.invariant.stays end) in cc (e, x));
    }

pub marks-smaller : goal.marks-smaller
marks-smaller c =
    let e : rests c.marks.now ≡ false = search rules in
    let with_it = c.marks.invariant.somewhere in
    let s = with_it.somewhere in
    mark_falls c.args.code.now s.game s.limits s.typed c.requires.built c.args.tables.now s.tabled c.marks.memory c.mark_apart-now.new.memory c.marks.lasting c.mark_apart-now.new.lasting c.marks.now c.mark_apart-now.result s.steps e c.mark_apart-now.ensures.done s.stands with_it.lasting

pub marks-preserved-then-is_quick : goal.marks-preserved-then-is_quick
marks-preserved-then-is_quick c =
    let e : rests c.marks.now ≡ false = search rules in
    record {
      settles = λ g is_of l typed steps h w. settled_on c.args.code.now g l typed c.requires.built c.args.tables.now is_of c.marks.memory c.quick_mark-now.new.memory c.marks.lasting c.marks.lasting c.marks.now c.quick_mark-now.result steps e (c.quick_mark-now.ensures c.marks.lasting) (c.marks.invariant.settles g is_of l typed steps h w);
      somewhere = somewhere_marked c.args.tables.now c.args.code.now c.requires.built c.marks.memory c.quick_mark-now.new.memory c.marks.lasting c.marks.lasting c.marks.now c.quick_mark-now.result e (c.quick_mark-now.ensures c.marks.lasting) c.marks.invariant.somewhere;
      sites = c.marks.invariant.sites;
      extent = c.marks.invariant.extent;
      stays = λ end. absurd (let x = end_rests c.marks.now (c.marks.invariant.stays end) in cc (e, x));
    }

pub marks-smaller-then-is_quick : goal.marks-smaller-then-is_quick
marks-smaller-then-is_quick c =
    let e : rests c.marks.now ≡ false = search rules in
    let with_it = c.marks.invariant.somewhere in
    let s = with_it.somewhere in
    mark_falls c.args.code.now s.game s.limits s.typed c.requires.built c.args.tables.now s.tabled c.marks.memory c.quick_mark-now.new.memory c.marks.lasting c.marks.lasting c.marks.now c.quick_mark-now.result s.steps e (c.quick_mark-now.ensures c.marks.lasting) s.stands with_it.lasting

pub fail_apart-now-requires-clause-some : goal.fail_apart-now-requires-clause-some
fail_apart-now-requires-clause-some c = (c.args.tables.now, c.marks.now, c.if-fails.ensures.fails refl, c.marks.invariant.somewhere)

pub marks-preserved-then-fails : goal.marks-preserved-then-fails
marks-preserved-then-fails c =
    let e : rests c.marks.now ≡ false = search rules in
    let tb = c.args.tables.now in
    let code = c.args.code.now in
    let comes = c.fail_apart-now.ensures.comes tb c.marks.now (c.if-fails.ensures.fails refl) in
    record {
      settles = settled_then tb code c.args.memory.now c.marks.memory c.fail_apart-now.new.memory c.args.lasting.now c.marks.lasting c.fail_apart-now.new.lasting c.args.start c.marks.now c.fail_apart-now.result c.marks.invariant.settles comes;
      somewhere = somewhere_settled tb code c.marks.memory c.fail_apart-now.new.memory c.marks.lasting c.fail_apart-now.new.lasting c.marks.now c.fail_apart-now.result comes c.marks.invariant.somewhere;
      sites = c.fail_apart-now.ensures.sites ∙ c.marks.invariant.sites;
      extent = c.fail_apart-now.ensures.extent ∙ c.marks.invariant.extent;
      stays = λ end. absurd (let x = end_rests c.marks.now (c.marks.invariant.stays end) in cc (e, x));
    }

pub marks-smaller-then-fails : goal.marks-smaller-then-fails
marks-smaller-then-fails c = subst (λ n. left_of c.fail_apart-now.new.memory c.fail_apart-now.result < n) (sym (failing_left c.marks.memory c.marks.now (c.if-fails.ensures.fails refl))) c.fail_apart-now.ensures.falls
