use Rattle.std.proofs.Common.{◌≡◌, drop, map}
use Rattle.dg_lint.specs.Lines.{hint_among}
use Rattle.dg_lint.proofs.lines.push_hint_among.Given as goal

abbrev pub invariant-loop-near : goal.invariant-loop-near
invariant-loop-near l = (l.text.items ≡ l.initial.text.items) × (hint_among (map (λ near. (near.0.now, near.1.now)) (drop l.near-index l.known)) l.name ≡ hint_among (map (λ near. (near.0.now, near.1.now)) l.known) l.name)
