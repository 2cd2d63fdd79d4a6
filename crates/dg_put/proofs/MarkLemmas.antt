-- The mark of a name is that of its words.
use Rattle.std.proofs.Common.{◌≡◌, ℕ, List, [], ◌∷◌, ◌++◌, Bool, true, false, refl, sym, ◌∙◌, ap}
use Rattle.std.specs.Prelude.{if◌then◌else◌}
use Rattle.dg_base.specs.Heads.{escaped, is_special, name_of, part_name, parts_behind}
use Rattle.dg_base.specs.Tree.{Part, Parts, no_parts, part}
use Rattle.dg_put.specs.inside.Marks.{mix, mix_all}

mix_append : (sum : ℕ) (a b : List ℕ) → mix_all sum (a ++ b) ≡ mix_all (mix_all sum a) b
mix_append sum [] b = refl
mix_append sum (c ∷ cs) b = mix_append (mix sum c) cs b

-- a backslash, a space and both parentheses are passed over
backslash : (sum : ℕ) → mix sum 92 ≡ sum
unfolding mix
backslash sum = refl

space : (sum : ℕ) → mix sum 32 ≡ sum
unfolding mix
space sum = refl

opening : (sum : ℕ) → mix sum 40 ≡ sum
unfolding mix
opening sum = refl

closing : (sum : ℕ) → mix sum 41 ≡ sum
unfolding mix
closing sum = refl

pub mixed_word : (sum : ℕ) (word : List ℕ) → mix_all sum (escaped word) ≡ mix_all sum word
mixed_word sum [] = refl
mixed_word sum (c ∷ cs) =
    elim (is_special c) as (λ (b : Bool). mix_all sum (if b then 92 ∷ c ∷ escaped cs else c ∷ escaped cs) ≡ mix_all (mix sum c) cs) [
      | true ↦ ap (λ (n : ℕ). mix_all (mix n c) (escaped cs)) (backslash sum) ∙ mixed_word (mix sum c) cs
      | false ↦ mixed_word (mix sum c) cs
    ]

pub mixed_part : (sum : ℕ) (p : Part) (ps : Parts) → mix_all sum (parts_behind (part p ps)) ≡ mix_all (mix_all sum (part_name p)) (parts_behind ps)
mixed_part sum p ps =
    ap (λ (n : ℕ). mix_all n (part_name p ++ parts_behind ps)) (space sum) ∙ mix_append sum (part_name p) (parts_behind ps)

pub mixed_name : (sum : ℕ) (ps : Parts) → mix_all sum (name_of ps) ≡ mix_all sum (parts_behind ps)
mixed_name sum no_parts = closing (mix sum 40) ∙ opening sum
mixed_name sum (part p ps) =
    ap (λ (n : ℕ). mix_all n (part_name p ++ (parts_behind ps ++ 41 ∷ []))) (opening sum)
    ∙ mix_append sum (part_name p) (parts_behind ps ++ 41 ∷ [])
    ∙ mix_append (mix_all sum (part_name p)) (parts_behind ps) (41 ∷ [])
    ∙ closing (mix_all (mix_all sum (part_name p)) (parts_behind ps))
    ∙ sym (mixed_part sum p ps)
