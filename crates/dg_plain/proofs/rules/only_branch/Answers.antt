use Rattle.std.proofs.Common.{◌∙◌, ap, sym}
use Rattle.dg_base.specs.Tree as tree
use Rattle.dg_plain.specs.Plain.{is_single, whole_body}
use Rattle.dg_plain.proofs.BranchLemmas.{popped}
use Rattle.dg_base.proofs.Views.{body_seen}
use Rattle.dg_plain.proofs.rules.only_branch.Goals as goal

pub returns-in-Some : goal.returns-in-Some
returns-in-Some c =
    let seen = body_seen c.args.body in
    popped c.args.body.branches c.pop.new.self c.in-Some.stmts c.in-Some.ensures (sym (ap (λ (b : tree.Body). is_single b) seen) ∙ c.requires)
    ∙ ap (λ (b : tree.Body). whole_body b) (sym seen)
