-- The cells of terms, and what starts set.
use Rattle.std.proofs.Common.{◌≡◌, ◌<◌, List, [], ◌∷◌, ◌++◌, refl, sym, ap, ◌∙◌, arith, length, append_assoc}
use Rattle.std.specs.Borrow.{Bor}
use Rattle.std.proofs.lemmas.List.{append-nil}
use Rattle.dg_base.specs.declared.cells.Cell.{Cell}
use Rattle.dg_base.specs.declared.cells.Cell.TheVariants as cell
use Rattle.dg_base.specs.declared.program.Term.{Term, out-Term, Pair'}
use Rattle.dg_base.specs.declared.program.Term.TheOpen as term
use Rattle.dg_base.specs.declared.program.Term.TheBlock.{hidden-the_row-Term-0}
use Rattle.dg_base.specs.declared.program.Term.TheVariants.{Pair as Pair-Term}
use Rattle.dg_meaning.specs.Values.{pair, value_of}
use Rattle.dg_meaning.specs.ValueCells.{cells_of}
use Rattle.dg_meaning.specs.Facts.{no_program, start_value}
use Rattle.dg_world.specs.Starts.{top_cell, unwritten}

value_pair : (h t : Term) → value_of no_program [] (Pair-Term h t) ≡ pair (value_of no_program [] h) (value_of no_program [] t)
unfolding hidden-the_row-Term-0 denote.Hole.Carrier.hidden
value_pair h t = refl

pub cells_pair : (x h t : Term) → x ≡ Pair-Term h t → cells_of (start_value x) ≡ cell.Pair ∷ (cells_of (start_value h) ++ cells_of (start_value t))
cells_pair x h t e = ap (λ y. cells_of (start_value y)) e ∙ ap cells_of (value_pair h t) ∙ ap (λ l. cell.Pair ∷ (cells_of (start_value h) ++ l)) (append-nil (cells_of (start_value t)))

top_pair : (h t : Term) → top_cell (out-Term (Pair-Term h t)) ≡ cell.Pair
unfolding out-Term denote.Hole.Carrier.out
top_pair h t = refl

pub unwritten_push : (ts : List (Bor Term)) (t : Bor Term) → unwritten (ts ++ t ∷ []) ≡ cells_of (start_value t.now) ++ unwritten ts
unwritten_push [] t = sym (append-nil (cells_of (start_value t.now)))
unwritten_push (x ∷ ts) t = ap (λ l. l ++ cells_of (start_value x.now)) (unwritten_push ts t) ∙ append_assoc (cells_of (start_value t.now)) (unwritten ts) (cells_of (start_value x.now))

-- no pair stands at the top
abbrev pub IsNoPair : term.Term-F Term → Type 0
IsNoPair (term.Pair head tail) = ⊥
IsNoPair other = Unit {0}

pub cells_leaf : (t : Term) → IsNoPair (out-Term t) → cells_of (start_value t) ≡ top_cell (out-Term t) ∷ []
unfolding out-Term denote.Hole.Carrier.out
cells_leaf (Pair' s head k tail) h = absurd h
cells_leaf t h = refl

pub pair_put : (x h t : Term) (tail head : Bor Term) (ts ts' ts'' : List (Bor Term)) → x ≡ Pair-Term h t → tail.now ≡ t → head.now ≡ h → ts' ≡ ts ++ tail ∷ [] → ts'' ≡ ts' ++ head ∷ [] → top_cell (out-Term x) ∷ unwritten ts'' ≡ cells_of (start_value x) ++ unwritten ts
pair_put x h t tail head ts ts' ts'' e et eh e₁ e₂ =
    let ch = cells_of (start_value h) in
    let ct = cells_of (start_value t) in
    let rest : unwritten ts'' ≡ ch ++ (ct ++ unwritten ts) =
    ap unwritten e₂ ∙ unwritten_push ts' head ∙ ap (λ y. cells_of (start_value y) ++ unwritten ts') eh ∙ ap (λ l. ch ++ l) (ap unwritten e₁ ∙ unwritten_push ts tail ∙ ap (λ y. cells_of (start_value y) ++ unwritten ts) et) in
    let top : top_cell (out-Term x) ≡ cell.Pair = ap (λ y. top_cell (out-Term y)) e ∙ top_pair h t in
    ap (λ y. y ∷ unwritten ts'') top ∙ ap (λ l. cell.Pair ∷ l) (rest ∙ sym (append_assoc ch ct (unwritten ts))) ∙ ap (λ l. l ++ unwritten ts) (sym (cells_pair x h t e))

pub written_on : (cells cells' all : List Cell) (top : Cell) (left left' left'' : List (Bor Term)) (next : Bor Term) → left ≡ left' ++ next ∷ [] → cells' ≡ cells ++ top ∷ [] → top ∷ unwritten left'' ≡ cells_of (start_value next.now) ++ unwritten left' → cells ++ unwritten left ≡ all → cells' ++ unwritten left'' ≡ all
written_on cells cells' all top left left' left'' next e₁ e₂ e₃ h =
    ap (λ l. l ++ unwritten left'') e₂ ∙ append_assoc cells (top ∷ []) (unwritten left'') ∙ ap (λ l. cells ++ l) (e₃ ∙ sym (unwritten_push left' next) ∙ ap unwritten (sym e₁)) ∙ h

pub fewer_left : (top : Cell) (left left' left'' : List (Bor Term)) (next : Bor Term) → left ≡ left' ++ next ∷ [] → top ∷ unwritten left'' ≡ cells_of (start_value next.now) ++ unwritten left' → length (unwritten left'') < length (unwritten left)
fewer_left top left left' left'' next e₁ e₃ =
    let same : top ∷ unwritten left'' ≡ unwritten left = e₃ ∙ sym (unwritten_push left' next) ∙ ap unwritten (sym e₁) in
    omega (arith, ap length same)
