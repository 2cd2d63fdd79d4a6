use Rattle.std.proofs.Common.{◌≡◌, ◌+◌, ◌<◌, ◌∷◌, Bool, List, drop, get_or, length, map, sym, ◌∙◌, ap, arith}
use Rattle.std.proofs.lemmas.List.{drop_more}
use Rattle.dg_base.specs.Tree.{stmts_of}
use Rattle.dg_base.specs.TreeView.{branches_view, stmt_view}
use Rattle.dg_base.specs.declared.tree.Stmt.{Stmt}
use Rattle.dg_lint.specs.Slips as spec
use Rattle.dg_lint.proofs.slips.last_is_blank.Goals as goal

pub loop-branch-preserved : goal.loop-branch-preserved
loop-branch-preserved c =
    let bs = c.args.branches.now in
    let k = c.loop-branch.branch-index in
    let b = c.branch-item.result in
    let lt : k < length bs = omega arith in
    let is = c.branch-item.is in
    let same : b ≡ get_or bs k b = cc in
    let here : drop k bs ≡ b ∷ drop (k + 1) bs = drop_more bs k b lt ∙ ap (λ (y : List Stmt). y ∷ drop (k + 1) bs) (sym same) in
    let rest = branches_view (map (map stmt_view) (drop (k + 1) bs)) in
    let empty : c.is_blank-blank.result ≡ spec.is_blank (stmts_of (map stmt_view b)) = c.is_blank-blank.ensures ∙ ap (λ (ss : List Stmt). spec.is_blank (stmts_of (map stmt_view ss))) c.as_slice.ensures in
    ap (λ (x : Bool). spec.last_is_blank x rest) empty
    ∙ sym (ap (λ (l : List (List Stmt)). spec.last_is_blank c.loop-branch.blank (branches_view (map (map stmt_view) l))) here)
    ∙ c.loop-branch.invariant
