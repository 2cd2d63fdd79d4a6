use Rattle.std.proofs.Common.{◌≡◌, ◌<◌, List, refl, arith, length}
use Rattle.std.proofs.lemmas.List.Elements.{All-set, AllWithin-none, AllWithin-more_set}
use Rattle.dg_machine.specs.declared.now.Side.{Side}
use Rattle.dg_machine.specs.inside.Writing.{IsMark, IsMarkBelow, AreMarksBelow}
use Rattle.dg_machine.proofs.paths.deepest.Goals as goal

pub marks-init : goal.marks-init
marks-init c = record {
  below = λ path e h. h;
  done = λ path e h. AllWithin-none (IsMark path c.args.whole.now) c.args.marks.now 0;
  best = λ path e h. record { within = omega arith; at = refl };
}

pub marks-preserved : goal.marks-preserved
marks-preserved c =
    let marks = c.marks.marks in
    let i = c.marks.mark-index in
    let mark = c.shorter.result in
    let t = c.args.whole.now in
    let lt : i < length marks = omega arith in
    let was = c.args.marks.now in
    let is = λ (path : List Side) (e : length path ≡ c.args.below) (h : AreMarksBelow path t was). c.shorter.ensures path e (c.marks.invariant.below path e h i c.mark-item.result lt) in
    record {
      below = λ path e h. All-set (IsMarkBelow path t) marks i mark (λ _. (is path e h).at) (c.marks.invariant.below path e h);
      done = λ path e h. AllWithin-more_set marks i mark lt (IsMark path t) (c.marks.invariant.done path e h) (is path e h);
      best = λ path e h. c.deeper-best.ensures path t (c.marks.invariant.best path e h) (is path e h);
    }

pub returns : goal.returns
returns c = record {
  marks = λ path e h k d lt. c.marks.invariant.done path e h k d (omega arith) (omega (arith, lt, c.marks-test.false, c.marks.auto.marks));
  deepest = λ path e h. c.marks.invariant.best path e h;
}
