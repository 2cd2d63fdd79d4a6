use Rattle.std.proofs.Common.{ℕ, ◌+◌, ◌∙◌, ap}
use Rattle.dg_scopes.proofs.TotalLemmas.{added}
use Rattle.dg_lint.proofs.totals.add_name.Goals as goal

pub returns : goal.returns
returns c = added c.args.totals.now.entries c.insert.new.self.entries c.args.name c.in_ok-places.places c.in_ok-insert.ensures.entries (c.in_ok-places.ensures ∙ ap (λ (k : ℕ). k + 1) c.total_of.ensures)
