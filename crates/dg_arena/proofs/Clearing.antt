-- An empty store may be gone back to always.
use Rattle.std.proofs.Common.{rules, [], ◌∷◌, false, refl, arith}
use Rattle.dg_unify.specs.Store.{Store}
use Rattle.dg_unify.specs.Slots.{Fields, Fits, store_of, fields_at}
use Rattle.dg_unify.specs.declared.bindings.Mark.{Mark}
use Rattle.dg_arena.specs.declared.arena.Arena.{Arena}
use Rattle.dg_arena.specs.Held.{fields_of, saves_of}

beginning : Mark
beginning = record { slots = 0; links = 0; vars = 0; heap = 0; trail = 0 }

abbrev pub emptied : Fields → Store
emptied f = store_of false (fields_at f (record { slots = 0; links = 0; vars = 0; heap = 0; trail = 0 }))

nothing_fits : Fits [] [] 0
nothing_fits = search rules

pub stands_empty : (a : Arena) → saves_of a (record { mark = record { slots = 0; links = 0; vars = 0; heap = 0; trail = 0 }; store = emptied (fields_of a) } ∷ [])
stands_empty a = ((omega arith, omega arith, omega arith, record { sound = record { fits = nothing_fits; heap_fits = omega arith; trail_fits = omega arith }; store = refl }, tt), (omega arith, tt))
