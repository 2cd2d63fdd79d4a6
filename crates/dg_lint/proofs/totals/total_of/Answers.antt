use Rattle.std.proofs.Common.{Bor, Option, ℕ, option_copied, sym, ◌∙◌, ap}
use Rattle.std.specs.Prelude.{unwrap_or}
use Rattle.dg_scopes.proofs.TotalLemmas.{total_found}
use Rattle.dg_lint.proofs.totals.total_of.Goals as goal

pub returns-in-Some : goal.returns-in-Some
returns-in-Some c =
    ap (λ (o : Option (Bor ℕ)). unwrap_or (option_copied o) 0) (sym c.in-Some.is)
    ∙ ap (λ (o : Option ℕ). unwrap_or o 0) c.get.ensures.value
    ∙ total_found c.args.name.now c.args.totals.now.entries

pub returns-in-None : goal.returns-in-None
returns-in-None c =
    ap (λ (o : Option (Bor ℕ)). unwrap_or (option_copied o) 0) (sym c.in-None.is)
    ∙ ap (λ (o : Option ℕ). unwrap_or o 0) c.get.ensures.value
    ∙ total_found c.args.name.now c.args.totals.now.entries
