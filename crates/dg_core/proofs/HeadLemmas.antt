-- A name tells how many values its heads have.
use Rattle.std.proofs.Common.{◌≡◌, ◌<◌, ◌||◌, ℕ, zero, suc, List, [], ◌∷◌, ◌++◌, Bool, true, false, length, get_or, nat_eq, lit<, refl, sym, ◌∙◌, ap, append_assoc, arith}
use Rattle.std.specs.Prelude.{if◌then◌else◌}
use Rattle.std.specs.List.{list_any}
use Rattle.dg_base.specs.Heads.{is_special, escaped, parts_behind, name_of}
use Rattle.dg_base.specs.Tree.{Parts, Value, no_parts, part, part_word, part_value}
use Rattle.dg_core.specs.Bodies.{in_value}
use Rattle.dg_core.specs.Goals.{Scope, past, terms_of, terms_of_values}
use Rattle.dg_core.specs.Places.{head_values, values_named, values_behind}

left_false : (a b : Bool) → (a || b) ≡ false → a ≡ false
left_false true b e = e
left_false false b e = refl

right_false : (a b : Bool) → (a || b) ≡ false → b ≡ false
right_false true b e = absurd (let no : true ≡ false = e in cc)
right_false false b e = e

none_at : (test : ℕ → Bool) (cs : List ℕ) (i : ℕ) → list_any test cs ≡ false → i < length cs → test (get_or cs i 0) ≡ false
none_at test [] i e h = absurd (omega arith)
none_at test (c ∷ cs) zero e h = left_false (test c) (list_any test cs) e
none_at test (c ∷ cs) (suc i) e h = none_at test cs i (right_false (test c) (list_any test cs) e) (omega arith)

special : List ℕ
special = 35 ∷ 36 ∷ 64 ∷ 126 ∷ 42 ∷ 124 ∷ 92 ∷ 40 ∷ 41 ∷ 91 ∷ 93 ∷ 123 ∷ 125 ∷ []

ordinary : (c : ℕ) (cs : List ℕ) → is_special c ≡ false → values_named (c ∷ cs) ≡ values_named cs
unfolding special
ordinary c cs e =
    ap (λ (b : Bool). if b then values_behind cs else (if nat_eq c 36 then suc (values_named cs) else values_named cs)) (none_at (nat_eq c) special 6 e (lit< tt))
    ∙ ap (λ (b : Bool). if b then suc (values_named cs) else values_named cs) (none_at (nat_eq c) special 1 e (lit< tt))

one_character : (c : ℕ) (cs rest : List ℕ) (b : Bool) → is_special c ≡ b → values_named ((if b then 92 ∷ c ∷ cs else c ∷ cs) ++ rest) ≡ values_named (cs ++ rest)
one_character c cs rest true e = refl
one_character c cs rest false e = ordinary c (cs ++ rest) e

word_places : (w rest : List ℕ) → values_named (escaped w ++ rest) ≡ values_named rest
word_places [] rest = refl
word_places (c ∷ w) rest = one_character c (escaped w) rest (is_special c) refl ∙ word_places w rest

behind_places : (ps : Parts) → values_named (parts_behind ps ++ 41 ∷ []) ≡ length (head_values ps)
behind_places no_parts = refl
behind_places (part (part_word w) ps) =
    ap values_named (append_assoc (escaped w) (parts_behind ps) (41 ∷ [])) ∙ word_places w (parts_behind ps ++ 41 ∷ []) ∙ behind_places ps
behind_places (part (part_value v) ps) = ap (λ (n : ℕ). suc n) (behind_places ps)

pub name_places : (ps : Parts) → values_named (name_of ps) ≡ length (head_values ps)
name_places no_parts = refl
name_places (part (part_word w) ps) = word_places w (parts_behind ps ++ 41 ∷ []) ∙ behind_places ps
name_places (part (part_value v) ps) = ap (λ (n : ℕ). suc n) (behind_places ps)

-- a head or a query has as many terms as its name has places
pub terms_counted : (scope : Scope) (ps : Parts) → length (terms_of scope ps) ≡ values_named (name_of ps)
terms_counted scope ps = as_many scope (head_values ps) ∙ sym (name_places ps)
  where
    as_many : (s : Scope) (vs : List Value) → length (terms_of_values s vs) ≡ length vs
    as_many s [] = refl
    as_many s (v ∷ vs) = ap (λ (n : ℕ). suc n) (as_many (past s (in_value v)) vs)
