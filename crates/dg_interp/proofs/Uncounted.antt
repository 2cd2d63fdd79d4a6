-- A store with a new variable that counts nothing: it is made, and the store goes back to where it counted nothing.
use Rattle.std.proofs.Common.{◌≡◌, ℕ, ◌+◌, ◌≤◌, List, [], ◌∷◌, Some, true, refl, sym, ap, ◌∙◌, subst, arith, length, map, take}
use Rattle.std.specs.Prelude.{reverse}
use Rattle.std.specs.List.{All}
use Rattle.std.proofs.lemmas.List.Elements.{All-cons}
use Rattle.dg_meaning.specs.Values.{Value, Var}
use Rattle.dg_meaning.specs.Moves.{new_vars}
use Rattle.dg_unify.specs.Store.{Store, State, Saved, Kept, Fresh, Back, Holds, told, or_nil}
use Rattle.dg_unify.specs.Slots.{Fields, Fits, AreSound, GivesBack, store_of, fields_at, subst_of, value_in}
use Rattle.dg_unify.specs.Listed.{fields_of}
use Rattle.dg_unify.specs.declared.bindings.Ref.{Ref}
use Rattle.dg_unify.specs.declared.bindings.Mark.{Mark}
use Rattle.dg_unify.specs.declared.list.ListBindings.{ListBindings}
use Rattle.dg_unify.specs.declared.slots.Slot.{Slot}
use Rattle.dg_unify.specs.declared.slots.Link.{Link}
use Rattle.dg_unify.proofs.StoreLemmas.{holds_some}
use Rattle.dg_interp.specs.inside.Engine.{store_in, KeepsPlaces, HasNew}
use Rattle.dg_interp.proofs.RunnableLemmas.{all_none}
use Rattle.dg_interp.proofs.Turns.{empty}

take_one : {A : Type 0} (xs : List A) → length xs ≡ 1 → take 1 xs ≡ xs
take_one [] e = refl
take_one (x ∷ []) e = refl
take_one (x ∷ y ∷ xs) e = absurd (omega (arith, e))

nothing_bound : (slots : List Slot) (ls : List Link) → subst_of slots ls ≡ [] → ls ≡ []
nothing_bound slots [] e = refl
nothing_bound slots (l ∷ ls) e = absurd (cc e)

module _ (heap trail : ℕ) (store0 store1 : ListBindings) (r : Ref) (means : store_in store0 ≡ empty heap trail) (kept : Kept (store_in store0) (store_in store1)) (fresh : Fresh (store_in store0) (store_in store1) r) where
  abbrev f : Fields
  f = fields_of store1

  -- nothing is bound, and nothing counts
  abbrev pub uncounted : Mark
  uncounted = record { slots = 1; links = 0; vars = 1; heap = 0; trail = 0 }

  abbrev at : Fields
  at = fields_at f uncounted

  old_state : (store_in store0).state ≡ record { vars = 0; subst = []; since = 0; heap = 0; trail = 0 }
  old_state = ap (λ (s : Store). s.state) means

  state : (store_in store1).state ≡ record { vars = 1; subst = []; since = 0; heap = 1; trail = 0 }
  state = fresh.state ∙ ap (λ (t : State). record t { vars = t.vars + 1; heap = t.heap + 1 }) old_state

  one_slot : length f.slots ≡ 1
  one_slot = fresh.next ∙ ap (λ (s : Store). s.places + 1) means

  slots_are : take 1 f.slots ≡ f.slots
  slots_are = take_one f.slots one_slot

  one_var : f.vars ≡ 1
  one_var = ap (λ (t : State). t.vars) state

  no_links : reverse f.log ≡ []
  no_links = nothing_bound f.slots (reverse f.log) (ap (λ (t : State). t.subst) state)

  fits : Fits (take 1 f.slots) [] 1
  fits = subst (λ l. Fits l [] 1) (sym slots_are) (subst (λ n. Fits f.slots [] n) one_var (subst (λ l. Fits f.slots l f.vars) no_links store1.sound.fits))

  gives : GivesBack true f (record { mark = uncounted; store = store_of true at })
  gives = record { sound = record { fits = fits; heap_fits = omega arith; trail_fits = omega arith }; store = refl }

  abbrev stands : KeepsPlaces store1 (record { mark = uncounted; store = store_of true at } ∷ [])
  stands = (omega (arith, one_slot), omega arith, omega (arith, one_var), gives, tt)

  pub may_go_back : (s : Store) × (ms : List Saved) × KeepsPlaces store1 (record { mark = uncounted; store = s } ∷ ms)
  may_go_back = (store_of true at, [], stands)

  value : value_in (take 1 f.slots) r.0 ≡ Some (Var 0)
  value = ap (λ l. value_in l r.0) slots_are ∙ fresh.value ∙ ap (λ (s : Store). Some (Var s.state.vars)) means

  pub has_one : (store2 : ListBindings) (refs : List Ref) → ((s : Store) (ms : List Saved) → KeepsPlaces store1 (record { mark = uncounted; store = s } ∷ ms) → Back s (store_in store2)) → refs ≡ r ∷ [] → HasNew 1 heap trail store2 refs
  has_one store2 refs back are =
      let b = back (store_of true at) [] stands in
      let there : (store_in store2).value r ≡ Some (Var 0) = b.kept.values r (Var 0) value in
      record {
        state = b.state;
        hold = subst (All (Holds (store_in store2))) (sym are) (All-cons (Holds (store_in store2)) r [] (holds_some (store_in store2) r (Var 0) there) (all_none (Holds (store_in store2))));
        values = ap (map (told (store_in store2))) are ∙ ap (λ o. or_nil o ∷ []) there;
        heap_is = b.kept.heap_limit ∙ kept.heap_limit ∙ ap (λ (s : Store). s.heap_limit) means;
        trail_is = b.kept.trail_limit ∙ kept.trail_limit ∙ ap (λ (s : Store). s.trail_limit) means;
      }
