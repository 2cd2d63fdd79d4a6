-- Which closures stand directly in something, and how many.
use Rattle.std.proofs.Common.{◌≡◌, ◌+◌, ◌∙◌, ℕ, List, [], ◌∷◌, ◌++◌, length, length-append, refl, sym, ap, append_assoc, arith}
use Rattle.std.proofs.lemmas.List.{append-nil}
use Rattle.dg_base.specs.Tree.{Parts, no_parts, part, part_word, part_value, Value, Body}
use Rattle.dg_core.specs.Bodies.{Closed, no_closure, a_closure, joined_closures, direct, in_value, in_parts}
use Rattle.dg_core.specs.Goals.{Scope, at, past}
use Rattle.dg_core.specs.Places.{head_values}
use Rattle.dg_core.specs.inside.View.{directs}

pub direct_join : (a b : Closed) → direct (joined_closures a b) ≡ direct a ++ direct b
direct_join no_closure b = refl
direct_join (a_closure x inner a) b = ap (λ (l : List Body). x ∷ l) (direct_join a b)

-- how many closures stand directly in something
abbrev pub many : Closed → ℕ
many cs = length (direct cs)

pub many_join : (a b : Closed) → many (joined_closures a b) ≡ many a + many b
many_join a b = ap length (direct_join a b) ∙ length-append (direct a) (direct b)

pub join_none : (a : Closed) → joined_closures a no_closure ≡ a
join_none no_closure = refl
join_none (a_closure x inner a) = ap (a_closure x inner) (join_none a)

pub join_join : (a b c : Closed) → joined_closures (joined_closures a b) c ≡ joined_closures a (joined_closures b c)
join_join no_closure b c = refl
join_join (a_closure x inner a) b c = ap (a_closure x inner) (join_join a b c)

-- ---- a scope behind closures

pub past_none : (s : Scope) (k : ℕ) → at s k ≡ past (at s k) no_closure
past_none s k = ap (at s) (omega arith)

pub past_past : (s : Scope) (a b : Closed) → past (past s a) b ≡ past s (joined_closures a b)
past_past s a b = ap (at s) (omega (arith, many_join a b))

-- a scope behind those that were found and others
pub found_past : (s : Scope) (found : List Body) (cs : Closed) → at s (length (found ++ direct cs)) ≡ past (at s (length found)) cs
found_past s found cs = ap (at s) (length-append found (direct cs))

pub found_join : (found : List Body) (a b : Closed) → (found ++ direct a) ++ direct b ≡ found ++ direct (joined_closures a b)
found_join found a b = append_assoc found (direct a) (direct b) ∙ ap (λ (l : List Body). found ++ l) (sym (direct_join a b))

pub found_none : (found : List Body) → found ≡ found ++ direct no_closure
found_none found = sym (append-nil found)

-- ---- the values of parts

pub parts_direct : (ps : Parts) → directs (head_values ps) ≡ direct (in_parts ps)
parts_direct no_parts = refl
parts_direct (part (part_word w) ps) = parts_direct ps
parts_direct (part (part_value v) ps) = ap (λ (l : List Body). direct (in_value v) ++ l) (parts_direct ps) ∙ sym (direct_join (in_value v) (in_parts ps))
