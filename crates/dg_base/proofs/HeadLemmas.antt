-- What stands behind a front of a name.
use Rattle.std.proofs.Common.{◌≡◌, ℕ, List, [], ◌∷◌, ◌++◌, true, false, None, refl, sym, ◌∙◌, ap, append_assoc, if◌then◌else◌, ◌&&◌}
use Rattle.std.specs.Prelude.{nat_eq}
use Rattle.std.specs.Option.{option_and_then}
use Rattle.std.specs.Str.{bytes_eq}
use Rattle.dg_base.specs.Heads.{behind, is_close, name_of, open_name, part_name, parts_behind}
use Rattle.dg_base.specs.Tree.{Parts, no_parts, part}

pub behind_then : (a b name : List ℕ) → behind (a ++ b) name ≡ option_and_then (behind b) (behind a name)
behind_then [] b name = refl
behind_then (c ∷ cs) b [] = refl
behind_then (c ∷ cs) b (d ∷ ds) =
    elim (nat_eq d c) as (λ e. (if e then behind (cs ++ b) ds else None) ≡ option_and_then (behind b) (if e then behind cs ds else None)) [ true ↦ behind_then cs b ds | false ↦ refl ]

name_open : (ps : Parts) → name_of ps ≡ open_name ps ++ 41 ∷ []
name_open no_parts = refl
name_open (part p ps) = ap (λ (l : List ℕ). 40 ∷ l) (sym (append_assoc (part_name p) (parts_behind ps) (41 ∷ [])))

closed : (a name : List ℕ) → is_close (behind a name) ≡ bytes_eq name (a ++ 41 ∷ [])
closed [] name = refl
closed (c ∷ cs) [] = refl
closed (c ∷ cs) (d ∷ ds) =
    elim (nat_eq d c) as (λ e. is_close (if e then behind cs ds else None) ≡ (e && bytes_eq ds (cs ++ 41 ∷ []))) [ true ↦ closed cs ds | false ↦ refl ]

-- a text is the name of these parts where their closing parenthesis alone stands behind the rest of it
pub is_named : (ps : Parts) (name : List ℕ) → is_close (behind (open_name ps) name) ≡ bytes_eq name (name_of ps)
is_named ps name = closed (open_name ps) name ∙ ap (bytes_eq name) (sym (name_open ps))
