-- What is printed of a value depends on the names of words and objects alone.
use Rattle.std.proofs.Common.{◌≡◌, ℕ, List, [], ◌∷◌, ◌++◌, refl, ap, ◌∙◌}
use Rattle.std.specs.Prelude.{codes, get_or}
use Rattle.dg_base.specs.declared.program.CoreProgram.{CoreProgram}
use Rattle.dg_meaning.specs.Values.{Label, Num, Word, Unknown, Object, Closure, Nil, Pair, Value, Var, Node, Values, NoMore, More}
use Rattle.dg_meaning.specs.Pieces.{label_piece, pieces, list_pieces, tail_pieces}
use Rattle.dg_texts.specs.Printing.{named}

label_named : (p : CoreProgram) (ws os : List (List ℕ)) → p.words ≡ ws → p.objects ≡ os → (f : Label) → label_piece p f ≡ label_piece (named ws os) f
label_named p ws os w o (Num n) = refl
label_named p ws os w o (Word n) = ap (λ l. get_or l n []) w
label_named p ws os w o (Unknown x) = refl
label_named p ws os w o (Object n) = ap (λ l. codes "#" ++ get_or l n []) o
label_named p ws os w o (Closure n) = refl
label_named p ws os w o Nil = refl
label_named p ws os w o Pair = refl

mutual
  pub pieces_named : (p : CoreProgram) (ws os : List (List ℕ)) → p.words ≡ ws → p.objects ≡ os → (v : Value) → pieces p v ≡ pieces (named ws os) v
  pieces_named p ws os w o (Var x) = refl
  pieces_named p ws os w o (Node Nil vs) = refl
  pieces_named p ws os w o (Node Pair vs) = ap (λ l. codes "[" ∷ l) (list_named p ws os w o vs)
  pieces_named p ws os w o (Node (Num n) vs) = refl
  pieces_named p ws os w o (Node (Word n) vs) = ap (λ l. l ∷ []) (label_named p ws os w o (Word n))
  pieces_named p ws os w o (Node (Unknown x) vs) = refl
  pieces_named p ws os w o (Node (Object n) vs) = ap (λ l. l ∷ []) (label_named p ws os w o (Object n))
  pieces_named p ws os w o (Node (Closure n) vs) = refl

  list_named : (p : CoreProgram) (ws os : List (List ℕ)) → p.words ≡ ws → p.objects ≡ os → (vs : Values) → list_pieces p vs ≡ list_pieces (named ws os) vs
  list_named p ws os w o NoMore = refl
  list_named p ws os w o (More v NoMore) = refl
  list_named p ws os w o (More v (More u NoMore)) = ap (λ l. l ++ tail_pieces p u) (pieces_named p ws os w o v) ∙ ap (λ l. pieces (named ws os) v ++ l) (tail_named p ws os w o u)
  list_named p ws os w o (More v (More u (More x vs))) = refl

  tail_named : (p : CoreProgram) (ws os : List (List ℕ)) → p.words ≡ ws → p.objects ≡ os → (v : Value) → tail_pieces p v ≡ tail_pieces (named ws os) v
  tail_named p ws os w o (Var x) = refl
  tail_named p ws os w o (Node Nil vs) = refl
  tail_named p ws os w o (Node Pair vs) = list_named p ws os w o vs
  tail_named p ws os w o (Node (Num n) vs) = refl
  tail_named p ws os w o (Node (Word n) vs) = ap (λ l. codes "|" ∷ l ∷ codes "]" ∷ []) (label_named p ws os w o (Word n))
  tail_named p ws os w o (Node (Unknown x) vs) = refl
  tail_named p ws os w o (Node (Object n) vs) = ap (λ l. codes "|" ∷ l ∷ codes "]" ∷ []) (label_named p ws os w o (Object n))
  tail_named p ws os w o (Node (Closure n) vs) = refl
