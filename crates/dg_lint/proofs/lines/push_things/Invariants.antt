use Rattle.std.proofs.Common.{◌≡◌, ◌++◌, ℕ, List, drop, flat_map}
use Rattle.dg_base.specs.Mentions.{Thing, names_in, variable_in}
use Rattle.dg_base.specs.Walk.{seen, things_at}
use Rattle.dg_scopes.specs.Counts.{times}
use Rattle.dg_scopes.specs.State.{total_in}
use Rattle.dg_lint.specs.Lines.{thing_line}
use Rattle.dg_lint.specs.inside.View.{uses_view}
use Rattle.dg_lint.proofs.lines.push_things.Given as goal

abbrev pub invariant-loop-mention : goal.invariant-loop-mention
invariant-loop-mention l = (all : List Thing) → ((n : List ℕ) → total_in l.totals n ≡ times n (names_in variable_in all)) →
    l.text.items ++ flat_map (thing_line l.place (uses_view l.uses) all) (things_at (seen (drop l.mention-index l.mentions)))
    ≡ l.initial.text.items ++ flat_map (thing_line l.place (uses_view l.uses) all) (things_at (seen l.mentions))
