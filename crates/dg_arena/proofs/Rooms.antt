-- There is room for each binding.
use Rattle.std.proofs.Common.{◌≡◌, ℕ, zero, suc, ◌+◌, ◌<◌, List, [], ◌∷◌, refl, arith, length, reverse}
use Rattle.std.proofs.lemmas.List.{length-reverse}
use Rattle.dg_meaning.proofs.Solving.{free, free_falls}
use Rattle.dg_unify.specs.Store.{or_nil}
use Rattle.dg_unify.specs.Links.{Once}
use Rattle.dg_unify.specs.Slots.{value_in, subst_of, Fields, AreSound}
use Rattle.dg_unify.specs.inside.Ends.{MayLink}
use Rattle.dg_unify.specs.declared.bindings.Ref.{Ref}
use Rattle.dg_unify.specs.declared.slots.Slot.{Slot}
use Rattle.dg_unify.specs.declared.slots.Link.{Link}
use Rattle.dg_unify.proofs.SlotsLemmas.{none_is_unbound, unbound_is_none}

free_all : (n : ℕ) → free n [] ≡ n
free_all zero = refl
free_all (suc n) = omega (arith, free_all n)

free_and_bound : (slots : List Slot) (n : ℕ) (ls : List Link) → Once n ls → free n (subst_of slots ls) + length ls ≡ n
free_and_bound slots n [] h = omega (arith, free_all n)
free_and_bound slots n (l ∷ ls) h =
    let falls = free_falls n l.var (or_nil (value_in slots l.to.0)) (subst_of slots ls) h.0 (none_is_unbound slots ls l.var h.1) in
    let rest = free_and_bound slots n ls h.2 in
    omega arith

-- where a variable isn't bound, there are fewer bindings than variables
pub one_more : (f : Fields) (x : ℕ) (to : Ref) → AreSound f → MayLink f x to → length f.log < f.vars
one_more f x to sound may =
    let l : Link = record { var = x; to = to } in
    let all = free_and_bound f.slots f.vars (l ∷ reverse f.log) (may.within, unbound_is_none f.slots (reverse f.log) x may.fits.unbound, sound.fits.once) in
    let long = length-reverse f.log in
    omega arith
