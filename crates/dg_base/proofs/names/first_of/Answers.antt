use Rattle.std.proofs.Common.{◌≡◌, ℕ, List, [], ◌∷◌, true, false, Some, map, refl, Bor, ◌∙◌, if◌then◌else◌}
use Rattle.std.specs.List.{find}
use Rattle.std.specs.Option.{option_map}
use Rattle.std.specs.Str.{bytes_eq}
use Rattle.dg_base.specs.declared.names.Builtin.{Builtin}
use Rattle.dg_base.specs.Heads.{name_of}
use Rattle.dg_base.specs.Names.{builtin_among}
use Rattle.dg_base.specs.Tree.{parts_of}
use Rattle.dg_base.specs.TreeView.{part_view}
use Rattle.dg_base.proofs.names.first_of.Goals as goal

found : (name : List ℕ) (known : List (Bor (List ℕ) × Builtin)) → option_map (λ e. e.1) (find (λ e. bytes_eq e.0.now name) known) ≡ builtin_among name (map (λ e. (e.0.now, e.1)) known)
found name [] = refl
found name (k ∷ ks) =
    elim (bytes_eq k.0.now name) as (λ b. option_map (λ e. e.1) (if b then Some k else find (λ e. bytes_eq e.0.now name) ks) ≡ (if b then Some k.1 else builtin_among name (map (λ e. (e.0.now, e.1)) ks))) [ true ↦ refl | false ↦ found name ks ]

pub returns : goal.returns
returns c = c.search_table.ensures ∙ found (name_of (parts_of (map part_view c.args.parts.now))) c.args.known.now
