-- The names of predicates have few places.
use Rattle.std.proofs.Common.{◌≡◌, ◌≤◌, ℕ, List, [], ◌∷◌, Bool, true, false, length, nat_lt, refl, arith}
use Rattle.std.specs.Prelude.{if◌then◌else◌}
use Rattle.std.specs.List.{All}
use Rattle.std.proofs.lemmas.Bool.Decides.{nat_tests}
use Rattle.std.proofs.lemmas.List.Elements.{All-nil, All-cons, All-append, All-head, All-tail}
use Rattle.dg_base.specs.Heads.{name_of}
use Rattle.dg_base.specs.Mentions.{Thing, query, names_in}
use Rattle.dg_base.specs.Names.{prelude_names}
use Rattle.dg_base.specs.Tree as tree
use Rattle.dg_base.specs.Tree.{Parts}
use Rattle.dg_core.specs.Places.{head_values, values_named}
use Rattle.dg_names.specs.Among.{IsSmall}
use Rattle.dg_names.specs.Counts.{places_in}
use Rattle.dg_names.specs.Named.{is_fixed, predicate_in}
use Rattle.dg_compile.proofs.PreludeLemmas.{from_test}

-- a head or a query has as many values as its name has places
abbrev pub PlacesAreTold : Type 0
PlacesAreTold = (ps : Parts) → values_named (name_of ps) ≡ length (head_values ps)

abbrev pub IsNarrow : List ℕ → Type 0
IsNarrow n = values_named n ≤ 12

places_counted : (ps : Parts) → length (head_values ps) ≡ places_in ps
places_counted tree.no_parts = refl
places_counted (tree.part (tree.part_word w) ps) = places_counted ps
places_counted (tree.part (tree.part_value v) ps) = omega (arith, places_counted ps)

one_narrow : PlacesAreTold → (t : Thing) → IsSmall t → All IsNarrow (predicate_in t)
one_narrow told (query r ps) h = here (is_fixed (name_of ps))
  where
    here : (b : Bool) → All IsNarrow (if b then [] else name_of ps ∷ [])
    here true = All-nil IsNarrow
    here false = All-cons IsNarrow (name_of ps) [] (omega (arith, told ps, places_counted ps, h)) (All-nil IsNarrow)
one_narrow told t h = All-nil IsNarrow

pub all_narrow : PlacesAreTold → (ts : List Thing) → All IsSmall ts → All IsNarrow (names_in predicate_in ts)
all_narrow told [] h = All-nil IsNarrow
all_narrow told (t ∷ ts) h =
    All-append IsNarrow (predicate_in t) (names_in predicate_in ts) (one_narrow told t (All-head IsSmall t ts h)) (all_narrow told ts (All-tail IsSmall t ts h))

below : (n : ℕ) → nat_lt n 13 ≡ true → n ≤ 12
below n e = grind (arith, nat_tests, e)

pub prelude_narrow : All IsNarrow prelude_names
prelude_narrow = from_test IsNarrow (λ n. nat_lt (values_named n) 13) (λ n. below (values_named n)) prelude_names refl
