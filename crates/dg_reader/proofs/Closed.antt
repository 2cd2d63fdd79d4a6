-- A parenthesis that is a query closes as one.
use Rattle.std.proofs.Common.{◌≡◌, List, [], ◌∷◌, Bool, false, Option, Some, None, map, sym, ◌∙◌, ap}
use Rattle.std.specs.Prelude.{IsTrue}
use Rattle.dg_base.specs.Tree.{Parts, Stmt, Value, nested, parts_of}
use Rattle.dg_base.specs.TreeView.{part_view}
use Rattle.dg_base.specs.declared.tree.Part as code
use Rattle.dg_reader.specs.Grammar.{Keyword, keyword_of}
use Rattle.dg_open.specs.Shapes.{Sign}
use Rattle.dg_open.specs.inside.Standing.{Asking, Stack, Frame, of_item}
use Rattle.dg_reader.specs.inside.Machine.{asked, new_body, put_stmt, put_value, put_change, query_closes, nested_closes, change_closes, head_closes}

untrue : IsTrue false → ⊥
untrue e = cc

pub asks : (a : Asking) (xs ys : List code.Part) (s : Stmt) (below : Stack) → ys ≡ xs → keyword_of (parts_of (map part_view xs)) ≡ None → (ys ≡ [] → IsTrue false) → s ≡ asked a (parts_of (map part_view ys)) → put_stmt s below ≡ query_closes (keyword_of (parts_of (map part_view xs))) a (parts_of (map part_view xs)) below
asks a [] ys s below e q some is = absurd (untrue (some e))
asks a (x ∷ xs) ys s below e q some is =
    let ps = parts_of (map part_view (x ∷ xs)) in
    ap (λ (t : Stmt). put_stmt t below) (is ∙ ap (λ (l : List code.Part). asked a (parts_of (map part_view l))) e)
    ∙ ap (λ (o : Option Keyword). query_closes o a ps below) (sym q)

pub nests : (xs ys : List code.Part) (v : Value) (below : Stack) → ys ≡ xs → keyword_of (parts_of (map part_view xs)) ≡ None → (ys ≡ [] → IsTrue false) → v ≡ nested (parts_of (map part_view ys)) → put_value v below ≡ nested_closes (keyword_of (parts_of (map part_view xs))) (parts_of (map part_view xs)) below
nests [] ys v below e q some is = absurd (untrue (some e))
nests (x ∷ xs) ys v below e q some is =
    let ps = parts_of (map part_view (x ∷ xs)) in
    ap (λ (t : Value). put_value t below) (is ∙ ap (λ (l : List code.Part). nested (parts_of (map part_view l))) e)
    ∙ ap (λ (o : Option Keyword). nested_closes o ps below) (sym q)

pub changes : (set : Bool) (xs ys : List code.Part) (h : Parts) (below : Stack) → ys ≡ xs → keyword_of (parts_of (map part_view xs)) ≡ None → (ys ≡ [] → IsTrue false) → h ≡ parts_of (map part_view ys) → put_change h set below ≡ change_closes (keyword_of (parts_of (map part_view xs))) set (parts_of (map part_view xs)) below
changes set [] ys h below e q some is = absurd (untrue (some e))
changes set (x ∷ xs) ys h below e q some is =
    let ps = parts_of (map part_view (x ∷ xs)) in
    ap (λ (t : Parts). put_change t set below) (is ∙ ap (λ (l : List code.Part). parts_of (map part_view l)) e)
    ∙ ap (λ (o : Option Keyword). change_closes o set ps below) (sym q)

pub heads : (sign : Sign) (xs ys : List code.Part) (h : Parts) (f : Frame) (below : Stack) → ys ≡ xs → keyword_of (parts_of (map part_view xs)) ≡ None → (ys ≡ [] → IsTrue false) → h ≡ parts_of (map part_view ys) → f ≡ new_body (of_item sign h) → Some (f ∷ below) ≡ head_closes (keyword_of (parts_of (map part_view xs))) sign (parts_of (map part_view xs)) below
heads sign [] ys h f below e q some is new = absurd (untrue (some e))
heads sign (x ∷ xs) ys h f below e q some is new =
    let ps = parts_of (map part_view (x ∷ xs)) in
    ap (λ (g : Frame). Some (g ∷ below)) (new ∙ ap (λ (t : Parts). new_body (of_item sign t)) (is ∙ ap (λ (l : List code.Part). parts_of (map part_view l)) e))
    ∙ ap (λ (o : Option Keyword). head_closes o sign ps below) (sym q)
