use Rattle.std.proofs.Common.{rules, ◌≡◌, ℕ, List, position, sym, ◌∙◌, ap}
use Rattle.std.specs.Str.{bytes_eq}
use Rattle.dg_base.specs.Heads.{name_of as head_name}
use Rattle.dg_base.specs.TreeView.{head_view}
use Rattle.dg_names.specs.State.{listed}
use Rattle.dg_names.proofs.SetLemmas.{place_listed}
use Rattle.dg_names.proofs.state.Names.find.Goals as goal

pub returns-in-Some : goal.returns-in-Some
returns-in-Some c =
    let same : c.as_slice.result.now ≡ head_name (head_view c.args.head.now) = search rules in
    sym c.in-Some.is ∙ c.get_index_of.ensures.index ∙ place_listed c.as_slice.result.now c.args.self.now.preds.keys
    ∙ ap (λ (n : List ℕ). position (bytes_eq n) (listed c.args.self.now.preds)) same

pub returns : goal.returns
returns c =
    let same : c.as_slice.result.now ≡ head_name (head_view c.args.head.now) = search rules in
    sym c.in-None.is ∙ c.get_index_of.ensures.index ∙ place_listed c.as_slice.result.now c.args.self.now.preds.keys
    ∙ ap (λ (n : List ℕ). position (bytes_eq n) (listed c.args.self.now.preds)) same
