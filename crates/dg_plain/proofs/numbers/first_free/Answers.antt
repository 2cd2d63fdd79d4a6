use Rattle.std.proofs.Common.{◌≡◌, ◌≤◌, ◌∙◌, sym, arith, length}
use Rattle.dg_plain.specs.State.{seen}
use Rattle.dg_plain.proofs.NumberLemmas.{free_end}
use Rattle.dg_plain.proofs.numbers.first_free.Goals as goal

pub returns : goal.returns
returns c =
    let le : length c.args.names.now ≤ c.loop-number.number = omega arith in
    let same : length c.args.names.now ≡ c.loop-number.number = omega arith in
    same
    ∙ sym (free_end (seen c.args.names.now) c.loop-number.number (length c.args.names.now) le)
    ∙ c.loop-number.invariant
