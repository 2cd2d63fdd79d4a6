-- Statements in front of a body.
use Rattle.std.proofs.Common.{◌≡◌, ◌++◌, ◌∷◌, List, [], true, false, map, refl, sym, ◌∙◌, ap}
use Rattle.dg_base.specs.Tree as tree
use Rattle.dg_base.specs.TreeView.{stmt_view, branches_view}
use Rattle.dg_base.specs.declared.tree.Stmt.{Stmt}
use Rattle.dg_plain.specs.Plain.{is_single, whole_body, in_front}

pub whole_else : (b : tree.Body) → is_single b ≡ false → whole_body b ≡ tree.stmt (tree.group b) tree.no_stmts
whole_else tree.no_branches e = refl
whole_else (tree.branch ss tree.no_branches) e = absurd (let no : true ≡ false = e in cc)
whole_else (tree.branch ss (tree.branch next b)) e = refl

pub front_append : (ps ss : List tree.Stmt) → tree.stmts_of (ps ++ ss) ≡ in_front ps (tree.stmts_of ss)
front_append [] ss = refl
front_append (p ∷ ps) ss = ap (λ (l : tree.Stmts). tree.stmt p l) (front_append ps ss)

pub popped : (bs before : List (List Stmt)) (last : List Stmt) → bs ≡ before ++ last ∷ [] → is_single (branches_view (map (map stmt_view) bs)) ≡ true → tree.stmts_of (map stmt_view last) ≡ whole_body (branches_view (map (map stmt_view) bs))
popped bs [] last e one = ap (λ (l : List (List Stmt)). whole_body (branches_view (map (map stmt_view) l))) (sym e)
popped bs (x ∷ []) last e one =
    let two : false ≡ true = ap (λ (l : List (List Stmt)). is_single (branches_view (map (map stmt_view) l))) (sym e) ∙ one in
    absurd (let no : false ≡ true = two in cc)
popped bs (x ∷ y ∷ before) last e one =
    let more : false ≡ true = ap (λ (l : List (List Stmt)). is_single (branches_view (map (map stmt_view) l))) (sym e) ∙ one in
    absurd (let no : false ≡ true = more in cc)
