-- Where a fence stands right with one more binding.
use Rattle.std.proofs.Common.{◌≡◌, ℕ, ◌<◌, ◌≤◌, List, [], ◌∷◌, refl, sym, ap, ◌∙◌, arith, reverse, ◌++◌, Some, true, false, inl, inr}
use Rattle.std.proofs.lemmas.Bool.{and_parts, ltb-true, leb-true, cases_order}
use Rattle.std.specs.Prelude.{nat_lt, nat_le}
use Rattle.dg_meaning.specs.Values.{Var}
use Rattle.dg_meaning.specs.Unify.{top}
use Rattle.dg_unify.specs.Store.{or_nil}
use Rattle.dg_unify.specs.Slots.{value_in, Fields, AreSound, store_of}
use Rattle.dg_unify.specs.inside.Ends.{TellsOf, told_in, MayLink}
use Rattle.dg_unify.specs.Fences.{IsFenced, stands_between, fence_for_link}
use Rattle.dg_unify.specs.declared.bindings.Ref.{Ref}
use Rattle.dg_unify.specs.declared.slots.Slot.{Slot}
use Rattle.dg_unify.specs.declared.slots.Link.{Link}
use Rattle.dg_unify.specs.declared.fence.Fence.{Fence}
use Rattle.dg_unify.proofs.Lists.{reverse_snoc}
use Rattle.dg_unify.proofs.Stores.{grown_links, link_sound}
use Rattle.dg_arena.specs.declared.arena.Arena.{Arena}
use Rattle.dg_arena.specs.Held.{fields_of}
use Rattle.dg_arena.specs.Joins.{IsFree}
use Rattle.dg_arena.proofs.Joining.{number_is}
use Rattle.dg_unify.specs.Laws.{slots_younger}
use Rattle.dg_unify.proofs.StoreLemmas.{holds_told}
use Rattle.dg_unify.proofs.FenceLemmas.{Stays, end_of, fence_linked}

-- where the end has only variables before it
pub fenced_before : (slots : List Slot) (ls : List Link) (vars : ℕ) (fence : Fence) (l : Link) → top (or_nil (value_in slots l.to.0)) ≤ fence.vars → IsFenced slots ls vars fence → IsFenced slots (l ∷ ls) vars fence
fenced_before slots ls vars fence l low f = record {
  slots_in = f.slots_in;
  vars_in = f.vars_in;
  values = f.values;
  closed = (λ lt. low, f.closed);
  further = f.further;
  within = omega (arith, f.further, f.within, low);
}

-- it stands right without that binding too
pub fenced_less : (slots : List Slot) (ls : List Link) (vars : ℕ) (fence : Fence) (l : Link) → IsFenced slots (l ∷ ls) vars fence → IsFenced slots ls vars fence
fenced_less slots ls vars fence l f = record {
  slots_in = f.slots_in;
  vars_in = f.vars_in;
  values = f.values;
  closed = f.closed.1;
  further = f.further;
  within = omega (arith, f.within);
}

-- where it is moved for it
pub fenced_moved : (f : Fields) → AreSound f → (x : ℕ) (to : Ref) → MayLink f x to → (fence now next : Fence) (t : ℕ) → top (told_in f to) ≤ t → now ≡ end_of f → next ≡ fence_for_link fence x t now → Stays f fence → IsFenced f.slots (record { var = x; to = to } ∷ reverse f.log) f.vars next
fenced_moved f sound x to may fence now next t below now_is next_is h =
    let l : Link = record { var = x; to = to } in
    let f' : Fields = record f { log = f.log ++ l ∷ []; trail = 0; since = 0 } in
    let g = grown_links f f' (l ∷ []) refl refl refl refl in
    let sound' = link_sound f f' x to sound may g refl refl (omega arith) in
    let stands : Stays f' next = fence_linked f f' fence now next l t sound' g refl below now_is next_is h in
    rw (reverse_snoc f.log l) at stands

-- ## In an arena

-- a variable before the fence has a smaller Ref than one behind it
pub between_older : (a : Arena) (end : Ref) → TellsOf (fields_of a) end → (n : ℕ) → stands_between a.fence end n ≡ true → (var : Ref) → IsFree (fields_of a) var n → (m : ℕ) → told_in (fields_of a) end ≡ Var m → end.0 < var.0
between_older a end told n between var free m is =
    let f = fields_of a in
    let k = and_parts (nat_lt end.0 a.fence.slots) (nat_le a.fence.vars n) between in
    let value : value_in f.slots end.0 ≡ Some (Var m) = holds_told (store_of false f) end told ∙ ap Some is in
    let before : m < a.fence.vars = omega (arith, a.fenced.values end.0 (Var m) (ltb-true end.0 a.fence.slots k.0) value) in
    let lt : m < n = omega (arith, before, leb-true a.fence.vars n k.1) in
    elim (cases_order end.0 var.0) [
      | inl same ↦ let both : Some (Var m) ≡ Some (Var n) = sym value ∙ ap (value_in f.slots) same ∙ free.value in absurd (omega (arith, number_is m n both, lt))
      | inr (inl less) ↦ less
      | inr (inr more) ↦ absurd (omega (arith, slots_younger f.slots (reverse f.log) f.vars a.sound.fits var end n m free.value value more, lt))
    ]

module _ (a : Arena) (x : ℕ) (to : Ref) (may : MayLink (fields_of a) x to) (t : ℕ) (below : top (told_in (fields_of a) to) ≤ t) (now next : Fence) (now_is : now ≡ end_of (fields_of a)) (next_is : next ≡ fence_for_link a.fence x t now) where
  abbrev f : Fields
  f = fields_of a

  pub linked_next : IsFenced f.slots (record { var = x; to = to } ∷ reverse f.log) f.vars next
  linked_next = fenced_moved f a.sound x to may a.fence now next t below now_is next_is a.fenced

  pub stands_next : IsFenced f.slots (reverse f.log) f.vars next
  stands_next = fenced_less f.slots (reverse f.log) f.vars next (record { var = x; to = to }) linked_next
