-- The value of a declaration is a constant of the program.
use Rattle.std.proofs.Common.{◌≡◌, ℕ, List, [], ◌∷◌, ◌++◌, false, refl, sym, subst}
use Rattle.std.specs.List.{All}
use Rattle.std.proofs.lemmas.List.Elements.{All-nil, All-cons, All-append}
use Rattle.dg_base.specs.Mentions.{of_value, of_values, of_parts}
use Rattle.dg_base.specs.Sound.{IsStartOf, IsTermOf, IsNodeOf, IsConstant}
use Rattle.dg_base.specs.Terms.{nodes}
use Rattle.dg_base.specs.Tree as tree
use Rattle.dg_base.specs.Tree.{Parts, Value, Values}
use Rattle.dg_base.specs.declared.program.CoreProgram.{CoreProgram as Core}
use Rattle.dg_base.specs.declared.program.PlaceKind.TheVariants.{Global}
use Rattle.dg_base.specs.declared.program.Term.{Term, out-Term}
use Rattle.dg_base.specs.declared.program.Term.TheVariants as term
use Rattle.dg_base.specs.declared.program.Term.TheOpen as top
use Rattle.dg_names.specs.Among.{IsAmong}
use Rattle.dg_core.specs.Given.{IsSet, AreSet, MayStart, IsDeclarable, is_unset}
use Rattle.dg_core.specs.Bodies.{in_value, in_values}
use Rattle.dg_core.specs.Goals.{Scope, past, number_in, term_of, listed}
use Rattle.dg_core.specs.Places.{head_values}
use Rattle.dg_core.proofs.HoldLemmas.{Hold, front, back}
use Rattle.dg_core.proofs.TermLemmas.{IsGround, ground_past, leaf_sound, nodes_are}

pub record IsDeclared (p : Core) (x : Term) : Type 0 where
  pub sound : IsTermOf p 0 x
  pub constant : All (λ (y : Term). IsConstant (out-Term y)) (nodes x)

abbrev IsNodeAt : Core → Term → Type 0
IsNodeAt p x = IsNodeOf p 0 (out-Term x)

abbrev IsConstantNode : Term → Type 0
IsConstantNode x = IsConstant (out-Term x)

declared_leaf : (p : Core) (x : Term) (layer : top.Term-F Term) → nodes x ≡ x ∷ [] → out-Term x ≡ layer → IsNodeOf p 0 layer → IsConstant layer → IsDeclared p x
declared_leaf p x layer alone is h j = record {
  sound = leaf_sound p 0 x layer alone is h;
  constant = subst (All IsConstantNode) (sym alone) (All-cons IsConstantNode x [] (subst IsConstant (sym is) j) (All-nil IsConstantNode));
}

declared_pair : (p : Core) (a b : Term) → IsDeclared p a → IsDeclared p b → IsDeclared p (term.Pair a b)
declared_pair p a b h j = record {
  sound = both (IsNodeAt p) (subst (IsNodeOf p 0) (sym (term.outs-Pair a b)) tt) h.sound j.sound;
  constant = both IsConstantNode (subst IsConstant (sym (term.outs-Pair a b)) tt) h.constant j.constant;
}
  where
    both : (P : Term → Type 0) → P (term.Pair a b) → All P (nodes a) → All P (nodes b) → All P (nodes (term.Pair a b))
    both P here first second =
        subst (All P) (sym (nodes_are a b))
        (All-cons P (term.Pair a b) ((nodes a ++ []) ++ (nodes b ++ [])) here
        (All-append P (nodes a ++ []) (nodes b ++ []) (All-append P (nodes a) [] first (All-nil P)) (All-append P (nodes b) [] second (All-nil P))))

mutual
  set_declared : (p : Core) (vars : ℕ) (s : Scope) (v : Value) → IsSet v → IsGround p vars s → Hold (IsAmong s.names) (of_value false v) → IsDeclared p (term_of s v)
  set_declared p vars s (tree.num n) e g h = declared_leaf p (term.Num n) (top.Num n) refl (term.outs-Num n) h.0 tt
  set_declared p vars s (tree.dict_word w) e g h = declared_leaf p (term.Word _) (top.Word (number_in s.names.words w)) refl (term.outs-Word _) (g.words w h.0) tt
  set_declared p vars s (tree.object_name w) e g h = declared_leaf p (term.Object _) (top.Object (number_in s.names.objects w)) refl (term.outs-Object _) (g.objects w h.0) tt
  set_declared p vars s (tree.plain_list vs) e g h = list_declared p vars s vs term.Nil e g h.1 (declared_leaf p term.Nil top.Nil refl term.outs-Nil tt tt)
  set_declared p vars s (tree.tailed_list vs v) e g h =
      let behind = past s (in_values vs) in
      list_declared p vars s vs (term_of behind v) e.0 g (front (IsAmong s.names) (of_values false vs) (of_value false v) h.1) (set_declared p vars behind v e.1 (ground_past p vars s (in_values vs) g) (back (IsAmong s.names) (of_values false vs) (of_value false v) h.1))
  set_declared p vars s tree.current_topic e g h = absurd e
  set_declared p vars s tree.anonymous e g h = absurd e
  set_declared p vars s (tree.variable w) e g h = absurd e
  set_declared p vars s (tree.closure b) e g h = absurd e
  set_declared p vars s (tree.nested ps) e g h = absurd e
  set_declared p vars s (tree.word_choice ws) e g h = absurd e

  list_declared : (p : Core) (vars : ℕ) (s : Scope) (vs : Values) (tail : Term) → AreSet vs → IsGround p vars s → Hold (IsAmong s.names) (of_values false vs) → IsDeclared p tail → IsDeclared p (listed s vs tail)
  list_declared p vars s tree.no_values tail e g h k = k
  list_declared p vars s (tree.value v vs) tail e g h k =
      let behind = past s (in_value v) in
      declared_pair p (term_of s v) (listed behind vs tail) (set_declared p vars s v e.0 g (front (IsAmong s.names) (of_value false v) (of_values false vs) h))
      (list_declared p vars behind vs tail e.1 (ground_past p vars s (in_value v) g) (back (IsAmong s.names) (of_value false v) (of_values false vs) h) k)

-- a declared variable starts with its value
declared_begins : (p : Core) (vars : ℕ) (s : Scope) (v : Value) → IsSet v → IsGround p vars s → Hold (IsAmong s.names) (of_value false v) → IsStartOf p Global (0, term_of s v)
declared_begins p vars s v e g h = let d = set_declared p vars s v e g h in record { fits = (refl, d.constant); value = d.sound }

-- what the first value of parts mentions
abbrev FirstHold : Scope → List Value → Type 0
FirstHold s [] = Unit {0}
FirstHold s (v ∷ vs) = Hold (IsAmong s.names) (of_value false v)

first_hold : (s : Scope) (ps : Parts) → Hold (IsAmong s.names) (of_parts false ps) → FirstHold s (head_values ps)
first_hold s tree.no_parts h = tt
first_hold s (tree.part (tree.part_word w) ps) h = first_hold s ps h
first_hold s (tree.part (tree.part_value v) ps) h = front (IsAmong s.names) (of_value false v) (of_parts false ps) h

-- what is declared starts with its value, unless it is unset
pub value_begins : (p : Core) (s : Scope) (ps : Parts) (v : Value) (vs : List Value) → IsDeclarable ps → Hold (IsAmong s.names) (of_parts false ps) → IsGround p 0 s → head_values ps ≡ v ∷ vs → is_unset v ≡ false → IsStartOf p Global (0, term_of s v)
value_begins p s ps v vs d h g e set =
    declared_begins p 0 s v (subst MayStart e d.value set) g (subst (FirstHold s) e (first_hold s ps h))
