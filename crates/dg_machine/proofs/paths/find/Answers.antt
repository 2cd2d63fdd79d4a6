use Rattle.std.proofs.Common.{◌≡◌, ◌∙◌, ◌+◌, ◌≤◌, refl, ap, sym, arith, get_or, take, length}
use Rattle.std.proofs.Math.Seq.{take-length}
use Rattle.dg_machine.specs.declared.now.Side.TheVariants.{Head}
use Rattle.dg_machine.specs.inside.Writing.{part_of, reached}
use Rattle.dg_machine.proofs.PathLemmas.{reached_more}
use Rattle.dg_machine.proofs.paths.find.Goals as goal

pub sides-init : goal.sides-init
sides-init c =
    let path = c.args.path.now in
    let mark = c.deepest-depth.ensures.deepest path refl c.requires in
    record { within = mark.within; at = mark.at; marks = c.deepest-depth.ensures.marks path refl c.requires }

pub sides-preserved : goal.sides-preserved
sides-preserved c =
    let path = c.args.path.now in
    let t = c.args.whole.now in
    let n = c.sides.depth in
    let within : n + 1 ≤ length path = omega (arith, c.sides-test.true) in
    let at : c.part-term.result.now ≡ reached (take (n + 1) path) t = c.part-term.ensures ∙ ap (part_of (get_or path n Head)) c.sides.invariant.at ∙ sym (reached_more path n t c.sides-test.true) in
    record { within = within; at = at; marks = c.put.ensures path t c.sides.invariant.marks (record { within = within; at = at }) }

pub returns : goal.returns
returns c =
    let path = c.args.path.now in
    let all : c.sides.depth ≡ length path = omega (arith, c.sides-test.false, c.sides.invariant.within) in
    record {
      found = c.sides.invariant.at ∙ ap (λ n. reached (take n path) c.args.whole.now) all ∙ ap (λ l. reached l c.args.whole.now) (take-length path);
      marks = c.sides.invariant.marks;
    }
