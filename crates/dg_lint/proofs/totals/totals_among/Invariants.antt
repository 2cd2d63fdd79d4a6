use Rattle.std.proofs.Common.{◌≡◌, ◌+◌, List, ℕ, drop}
use Rattle.dg_scopes.specs.Counts.{times}
use Rattle.dg_base.specs.Mentions.{names_in, variable_in}
use Rattle.dg_base.specs.Walk.{seen, things_at}
use Rattle.dg_scopes.specs.State.{total_in}
use Rattle.dg_lint.proofs.totals.totals_among.Given as goal

abbrev pub invariant-loop-mention : goal.invariant-loop-mention
invariant-loop-mention l = (n : List ℕ) → total_in l.totals n + times n (names_in variable_in (things_at (seen (drop l.mention-index l.mentions)))) ≡ times n (names_in variable_in (things_at (seen l.mentions)))
