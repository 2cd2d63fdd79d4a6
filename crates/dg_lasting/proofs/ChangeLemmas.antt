-- What is asked of the world, and what becomes of it.
use Rattle.std.proofs.Common.{◌≡◌, ℕ, zero, suc, ◌+◌, ◌<◌, ◌≤◌, List, [], ◌∷◌, Bool, true, false, Option, Some, None, refl, sym, ap, ◌∙◌, subst, arith, inl, inr, length}
use Rattle.std.specs.Prelude.{nat_lt, Result, Ok, Err, if◌then◌else◌}
use Rattle.std.specs.List.{slice_get}
use Rattle.std.specs.Borrow.{Bor}
use Rattle.std.proofs.lemmas.Bool.{cond-true, cond-false, lt-ltb, le-ltb}
use Rattle.dg_base.specs.declared.cells.Cell.{Cell}
use Rattle.dg_base.specs.declared.cells.Simple.{Simple}
use Rattle.dg_base.specs.declared.cells.Simple.TheVariants as simple
use Rattle.dg_base.specs.declared.program.PlaceKind.{PlaceKind}
use Rattle.dg_base.specs.declared.program.PlaceKind.TheVariants.{Flag, ObjectFlag, ObjectVar, Parent, Global}
use Rattle.dg_meaning.specs.Values.{Label, Num, Word, Unknown, Object, Nil, Pair, Closure, Value, Var, Node, Values, NoMore, leaf}
use Rattle.dg_meaning.specs.Substitutions.{resolved}
use Rattle.dg_meaning.specs.inside.Substitutions.{all_resolved, IsSubstitution}
use Rattle.dg_meaning.specs.TypeTests.{is_fully_bound}
use Rattle.dg_meaning.specs.ValueCells.{cells_of}
use Rattle.dg_meaning.specs.Facts.{Fact, set, value_at, kept_at, kept_from, size_of, Alteration, Sets, Clears, ClearsAll, altered, takes, is_simple}
use Rattle.dg_meaning.specs.Changes.{sets_if_taken, object_set, if_there, object_change, flag_change, change_of}
use Rattle.dg_meaning.proofs.Walks.{resolved_node, resolved_unbound, walked}
use Rattle.dg_unify.specs.Store.{Store, told, label_of, Shows}
use Rattle.dg_unify.specs.declared.bindings.Ref.{Ref}
use Rattle.dg_unify.specs.declared.bindings.View.{View}
use Rattle.dg_unify.specs.declared.bindings.View.TheVariants as view
use Rattle.dg_unify.proofs.StoreLemmas.{walked_to}
use Rattle.dg_world.specs.Tables.{Outline, IsKind, HasValues, HasObjects, simple_value}
use Rattle.dg_world.specs.Worlds.{Means, takes_in, is_taken, Changed}
use Rattle.dg_world.specs.declared.change.Change.{Change}
use Rattle.dg_world.specs.declared.change.Change.TheVariants as change
use Rattle.dg_world.specs.declared.change.KeepFull.{KeepFull}
use Rattle.dg_world.specs.declared.world.World.{World}
use Rattle.dg_world.proofs.FactsLemmas.{set_there}
use Rattle.dg_lists.specs.Formed.{IsFormed}
use Rattle.dg_lasting.specs.declared.subject.Subject.TheVariants.{Open, Thing, Other}
use Rattle.dg_lasting.specs.Subjects.{may_name, IsSubject}
use Rattle.dg_lasting.specs.Changing.{in_store, IsSlot, IsOfObjects, IsOfValues, one_change, Asks, SetsFormed, Became}

-- ## Slots

simple_is : (x : Simple) → leaf (label_of x) ≡ simple_value x
simple_is (simple.Num n) = refl
simple_is (simple.Word n) = refl
simple_is (simple.Object n) = refl
simple_is simple.Nil = refl

-- what is shown of a value, resolved
slot_of : (s : Store) → IsSubstitution s.state.subst → (r : Ref) (x : Simple) → walked_to s r ≡ leaf (label_of x) → in_store s r ≡ simple_value x
slot_of s sound r x h =
    let S = s.state.subst in
    sym (walked S sound (told s r)).same ∙ ap (resolved S) h ∙ resolved_node S (label_of x) NoMore ∙ simple_is x

pub slot_shown : (s : Store) → IsSubstitution s.state.subst → (r : Ref) (v : View) (x : Simple) → v ≡ view.Simple x → Shows s (walked_to s r) v → IsSlot (in_store s r) (Some x)
slot_shown s sound r v x e h = slot_of s sound r x (subst (Shows s (walked_to s r)) e h)

no_slot : (s : Store) → IsSubstitution s.state.subst → (r : Ref) (f : Label) (vs : Values) → walked_to s r ≡ Node f vs → ((us : Values) → is_simple (Node f us) ≡ false) → is_simple (in_store s r) ≡ false
no_slot s sound r f vs h none =
    let S = s.state.subst in
    ap is_simple (sym (walked S sound (told s r)).same ∙ ap (resolved S) h ∙ resolved_node S f vs) ∙ none (all_resolved S vs)

pub slot_hidden : (s : Store) → IsSubstitution s.state.subst → (r : Ref) (v : View) → ((x : Simple) → v ≡ view.Simple x → ⊥) → Shows s (walked_to s r) v → IsSlot (in_store s r) None
slot_hidden s sound r (view.Unbound u) other h =
    let S = s.state.subst in
    let w = walked S sound (told s r) in
    ap is_simple (sym w.same ∙ ap (resolved S) h.is ∙ resolved_unbound S h.number (w.free h.number h.is))
slot_hidden s sound r (view.Simple x) other h = absurd (other x refl)
slot_hidden s sound r (view.Pair a b) other h = no_slot s sound r Pair _ h.is (λ us. refl)
slot_hidden s sound r (view.Closure p c) other h = no_slot s sound r (Closure p) h.parts h.is (λ us. refl)
slot_hidden s sound r (view.Unknown u) other h = no_slot s sound r (Unknown h.spelling) NoMore h.is (λ us. refl)

-- ## What is asked

asks_taken : (o : Outline) (a : Alteration) (c : Change) → Means o c a → is_taken o a ≡ true → Asks o (Some a) (Some c)
asks_taken o a c m h = (a, m, sym (cond-true (is_taken o a) (Some a) None h))

kind_takes : (o : Outline) (p n : ℕ) (v : Value) (k : PlaceKind) → IsKind o p k → is_taken o (Sets p n v) ≡ takes k v
kind_takes o p n v k is = ap (λ x. takes_in x v) is

-- what sets a value asks for it, if its place takes it
asks_set : (o : Outline) (p n : ℕ) (v : Value) (k : PlaceKind) (c : Change) → IsKind o p k → Means o c (Sets p n v) → Asks o (sets_if_taken k p n v) (Some c)
asks_set o p n v k c is m = (Sets p n v, m, ap (λ b. if b then Some (Sets p n v) else None) (sym (kind_takes o p n v k is)))

none_set : (k : PlaceKind) (p n : ℕ) (v : Value) → IsOfValues k → is_simple v ≡ false → sets_if_taken k p n v ≡ None
none_set Flag p n v h e = absurd h
none_set ObjectFlag p n v h e = absurd h
none_set ObjectVar p n v h e = ap (λ b. if b then Some (Sets p n v) else None) e
none_set Parent p n (Var x) h e = refl
none_set Parent p n (Node (Num x) vs) h e = refl
none_set Parent p n (Node (Word x) vs) h e = refl
none_set Parent p n (Node (Unknown x) vs) h e = refl
none_set Parent p n (Node (Object x) vs) h e = absurd (cc)
none_set Parent p n (Node Nil vs) h e = refl
none_set Parent p n (Node Pair vs) h e = refl
none_set Parent p n (Node (Closure x) vs) h e = refl
none_set Global p n v h e = absurd h

-- the place of a kind that has values
has_values : (o : Outline) (p : ℕ) (k : PlaceKind) → IsKind o p k → IsOfValues k → HasValues o p
has_values o p Flag is h = absurd h
has_values o p ObjectFlag is h = absurd h
has_values o p ObjectVar is h = inl is
has_values o p Parent is h = inr is
has_values o p Global is h = absurd h

value_set : (k : PlaceKind) (p n : ℕ) (v : Value) (vs : List Value) → IsOfValues k → object_set k p n (v ∷ vs) ≡ sets_if_taken k p n v
value_set Flag p n v vs h = refl
value_set ObjectFlag p n v vs h = absurd h
value_set ObjectVar p n v vs h = refl
value_set Parent p n v vs h = refl
value_set Global p n v vs h = refl

value_unset : (k : PlaceKind) (p n : ℕ) → IsOfValues k → object_set k p n [] ≡ None
value_unset Flag p n h = refl
value_unset ObjectFlag p n h = absurd h
value_unset ObjectVar p n h = refl
value_unset Parent p n h = refl
value_unset Global p n h = refl

pub asks_no_value : (o : Outline) (k : PlaceKind) (p n : ℕ) (vs : List Value) → vs ≡ [] → IsOfValues k → Asks o (object_set k p n vs) None
asks_no_value o k p n vs e h = ap (object_set k p n) e ∙ value_unset k p n h

pub asks_other_value : (o : Outline) (k : PlaceKind) (p n : ℕ) (v : Value) (us vs : List Value) → vs ≡ v ∷ us → IsOfValues k → IsSlot v None → Asks o (object_set k p n vs) None
asks_other_value o k p n v us vs e h slot = ap (object_set k p n) e ∙ value_set k p n v us h ∙ none_set k p n v h slot

pub asks_value : (o : Outline) (k : PlaceKind) (p n : ℕ) (v : Value) (us vs : List Value) (x : Simple) → vs ≡ v ∷ us → IsKind o p k → IsOfValues k → n < o.objects → IsSlot v (Some x) → Asks o (object_set k p n vs) (Some (change.ObjectVar p n (Some x)))
asks_value o k p n v us vs x e is h lt slot =
    subst (λ a. Asks o a (Some (change.ObjectVar p n (Some x)))) (sym (ap (object_set k p n) e ∙ value_set k p n v us h ∙ ap (sets_if_taken k p n) slot))
    (asks_set o p n (simple_value x) k (change.ObjectVar p n (Some x)) is (has_values o p k is h, lt, refl))

pub asks_flag : (o : Outline) (k : PlaceKind) (p n : ℕ) (sets : Bool) (vs : List Value) → k ≡ ObjectFlag → IsKind o p k → n < o.objects → Asks o (one_change k p n sets vs) (Some (change.ObjectFlag p n sets))
asks_flag o k p n true vs e is lt =
    let is' = subst (IsKind o p) e is in
    subst (λ x. Asks o (one_change x p n true vs) (Some (change.ObjectFlag p n true))) (sym e) (asks_taken o (Sets p n set) (change.ObjectFlag p n true) (is', lt, refl) (kind_takes o p n set ObjectFlag is'))
asks_flag o k p n false vs e is lt = asks_taken o (Clears p n) (change.ObjectFlag p n false) (subst (IsKind o p) e is, lt, refl) refl

-- a kind that speaks of objects has values of them, where it has no flags
pub of_values : (k : PlaceKind) → IsOfObjects k → (k ≡ ObjectFlag → ⊥) → IsOfValues k
of_values Flag h other = absurd h
of_values ObjectFlag h other = absurd (other refl)
of_values ObjectVar h other = tt
of_values Parent h other = tt
of_values Global h other = absurd h

pub asks_clear : (o : Outline) (k : PlaceKind) (p n : ℕ) (sets : Bool) (vs : List Value) → sets ≡ false → IsKind o p k → IsOfValues k → n < o.objects → Asks o (one_change k p n sets vs) (Some (change.ObjectVar p n None))
asks_clear o k p n sets vs e is h lt =
    subst (λ b. Asks o (one_change k p n b vs) (Some (change.ObjectVar p n None))) (sym e) (asks_taken o (Clears p n) (change.ObjectVar p n None) (has_values o p k is h, lt, refl) refl)

-- ## What stands for the object

has_objects : (o : Outline) (p : ℕ) (k : PlaceKind) → IsKind o p k → IsOfObjects k → HasObjects o p
has_objects o p Flag is h = absurd h
has_objects o p ObjectFlag is h = inl is
has_objects o p ObjectVar is h = inr (inl is)
has_objects o p Parent is h = inr (inr is)
has_objects o p Global is h = absurd h

no_subject : (objects : ℕ) (k : PlaceKind) (p : ℕ) (sets : Bool) (v : Value) (vs : List Value) → may_name v ≡ false → object_change objects k p sets (v ∷ vs) ≡ None
no_subject objects k p sets (Var x) vs h = absurd (cc)
no_subject objects k p true (Node (Num x) us) vs h = refl
no_subject objects k p false (Node (Num x) us) vs h = refl
no_subject objects k p true (Node (Word x) us) vs h = refl
no_subject objects k p false (Node (Word x) us) vs h = refl
no_subject objects k p true (Node (Unknown x) us) vs h = refl
no_subject objects k p false (Node (Unknown x) us) vs h = refl
no_subject objects k p sets (Node (Object x) us) vs h = absurd (cc)
no_subject objects k p true (Node Nil us) vs h = refl
no_subject objects k p false (Node Nil us) vs h = refl
no_subject objects k p true (Node Pair us) vs h = refl
no_subject objects k p false (Node Pair us) vs h = refl
no_subject objects k p true (Node (Closure x) us) vs h = refl
no_subject objects k p false (Node (Closure x) us) vs h = refl

pub asks_other : (o : Outline) (objects : ℕ) (k : PlaceKind) (p : ℕ) (sets : Bool) (v : Value) (us vs : List Value) → vs ≡ v ∷ us → IsSubject v Other → Asks o (object_change objects k p sets vs) None
asks_other o objects k p sets v us vs e h = ap (object_change objects k p sets) e ∙ no_subject objects k p sets v us h

pub asks_open_set : (o : Outline) (objects : ℕ) (k : PlaceKind) (p : ℕ) (sets : Bool) (v : Value) (us vs : List Value) → vs ≡ v ∷ us → IsSubject v Open → sets ≡ true → Asks o (object_change objects k p sets vs) None
asks_open_set o objects k p sets v us vs e h on = ap (object_change objects k p sets) (e ∙ ap (λ x. x ∷ us) h.1) ∙ ap (λ b. object_change objects k p b (Var h.0 ∷ us)) on

pub asks_all : (o : Outline) (objects : ℕ) (k : PlaceKind) (p : ℕ) (sets : Bool) (v : Value) (us vs : List Value) → vs ≡ v ∷ us → IsSubject v Open → sets ≡ false → IsKind o p k → IsOfObjects k → Asks o (object_change objects k p sets vs) (Some (change.ClearAll p))
asks_all o objects k p sets v us vs e h off is of =
    subst (λ a. Asks o a (Some (change.ClearAll p))) (sym (ap (object_change objects k p sets) (e ∙ ap (λ x. x ∷ us) h.1) ∙ ap (λ b. object_change objects k p b (Var h.0 ∷ us)) off))
    (asks_taken o (ClearsAll p) (change.ClearAll p) (has_objects o p k is of, refl) refl)

thing_changes : (objects : ℕ) (k : PlaceKind) (p n : ℕ) (sets : Bool) (us : List Value) → object_change objects k p sets (leaf (Object n) ∷ us) ≡ if_there objects n (one_change k p n sets us)
thing_changes objects k p n true us = refl
thing_changes objects k p n false us = refl

pub asks_one : (o : Outline) (objects : ℕ) (k : PlaceKind) (p n : ℕ) (sets : Bool) (v : Value) (us vs : List Value) (c : Option Change) → vs ≡ v ∷ us → IsSubject v (Thing n) → n < objects → Asks o (one_change k p n sets us) c → Asks o (object_change objects k p sets vs) c
asks_one o objects k p n sets v us vs c e h lt asks =
    subst (λ a. Asks o a c)
    (sym (ap (object_change objects k p sets) (e ∙ ap (λ x. x ∷ us) h) ∙ thing_changes objects k p n sets us ∙ cond-true (nat_lt n objects) (one_change k p n sets us) None (lt-ltb n objects lt))) asks

pub asks_beyond : (o : Outline) (objects : ℕ) (k : PlaceKind) (p n : ℕ) (sets : Bool) (v : Value) (us vs : List Value) → vs ≡ v ∷ us → IsSubject v (Thing n) → objects ≤ n → Asks o (object_change objects k p sets vs) None
asks_beyond o objects k p n sets v us vs e h le =
    ap (object_change objects k p sets) (e ∙ ap (λ x. x ∷ us) h) ∙ thing_changes objects k p n sets us ∙ cond-false (nat_lt n objects) (one_change k p n sets us) None (le-ltb n objects le)

-- ## What becomes of it

-- what a slot holds, and what a flag is set to, is a value of the language
simple_formed : (x : Simple) → IsFormed (simple_value x)
simple_formed (simple.Num n) = (refl, tt)
simple_formed (simple.Word n) = (refl, tt)
simple_formed (simple.Object n) = (refl, tt)
simple_formed simple.Nil = (refl, tt)

set_formed : IsFormed set
set_formed = (refl, tt)

means_formed : (o : Outline) (c : Change) (a : Alteration) → Means o c a → ((p : ℕ) → (l : Bor (List Cell)) → c ≡ change.Global p (Some l) → ⊥) → SetsFormed a
means_formed o (change.Flag p true) a m h = subst SetsFormed (sym m.1) set_formed
means_formed o (change.Flag p false) a m h = subst SetsFormed (sym m.1) tt
means_formed o (change.ObjectFlag p n true) a m h = subst SetsFormed (sym m.2) set_formed
means_formed o (change.ObjectFlag p n false) a m h = subst SetsFormed (sym m.2) tt
means_formed o (change.ObjectVar p n (Some x)) a m h = subst SetsFormed (sym m.2) (simple_formed x)
means_formed o (change.ObjectVar p n None) a m h = subst SetsFormed (sym m.2) tt
means_formed o (change.Global p (Some l)) a m h = absurd (h p l refl)
means_formed o (change.Global p None) a m h = subst SetsFormed (sym m.1) tt
means_formed o (change.ClearAll p) a m h = subst SetsFormed (sym m.1) tt

became_so : (o : Outline) (facts : List Fact) (a : Alteration) (old new : World) (b : Bool) (result : Result Bool KeepFull) → SetsFormed a → is_taken o a ≡ b → Changed o facts a old new result → Became o facts (if b then Some a else None) old new result
became_so o facts a old new true (Ok true) formed e h = (h.1, formed)
became_so o facts a old new false (Ok true) formed e h = let no = sym e ∙ h.0 in absurd (cc)
became_so o facts a old new true (Ok false) formed e h = let no = sym e ∙ h.0 in absurd (cc)
became_so o facts a old new false (Ok false) formed e h = h.1
became_so o facts a old new true (Err x) formed e h = (h.1, h.2)
became_so o facts a old new false (Err x) formed e h = let no = sym e ∙ h.0 in absurd (cc)

-- a change that was asked for was made
pub became : (o : Outline) (facts : List Fact) (a : Option Alteration) (c : Change) (old new : World) (result : Result Bool KeepFull) → Asks o a (Some c) → ((p : ℕ) → (l : Bor (List Cell)) → c ≡ change.Global p (Some l) → ⊥)
    → ((b : Alteration) → Means o c b → Changed o facts b old new result) → Became o facts a old new result
became o facts a c old new result asks plain h =
    subst (λ x. Became o facts x old new result) (sym asks.2) (became_so o facts asks.0 old new (is_taken o asks.0) result (means_formed o c asks.0 asks.1 plain) refl (h asks.0 asks.1))

pub became_flag : (o : Outline) (facts : List Fact) (p : ℕ) (sets : Bool) (old new : World) (result : Result Bool KeepFull) → IsKind o p Flag → ((b : Alteration) → Means o (change.Flag p sets) b → Changed o facts b old new result) → Became o facts (flag_change p sets) old new result
became_flag o facts p true old new result is h = became o facts (Some (Sets p 0 set)) (change.Flag p true) old new result (asks_taken o (Sets p 0 set) (change.Flag p true) (is, refl) (kind_takes o p 0 set Flag is)) (λ q l e. cc) h
became_flag o facts p false old new result is h = became o facts (Some (Clears p 0)) (change.Flag p false) old new result (asks_taken o (Clears p 0) (change.Flag p false) (is, refl) refl) (λ q l e. cc) h

pub became_none : (o : Outline) (facts : List Fact) (a : Option Alteration) (w : World) → a ≡ None → Became o facts a w w (Ok false)
became_none o facts a w e = subst (λ x. Became o facts x w w (Ok false)) (sym e) refl

-- ## Kept values

pub became_kept : (o : Outline) (facts : List Fact) (p : ℕ) (v : Value) (cells : List Cell) (old new : World) (result : Result Bool KeepFull) → IsKind o p Global → cells ≡ cells_of v → IsFormed v
    → ((b : Alteration) → IsKind o p Global × ((u : Value) × (cells ≡ cells_of u) × (b ≡ Sets p 0 u)) → Changed o facts b old new result) → Became o facts (sets_if_taken Global p 0 v) old new result
became_kept o facts p v cells old new result is same formed h =
    let a = Sets p 0 v in
    subst (λ b. Became o facts (if b then Some a else None) old new result) (kind_takes o p 0 v Global is)
    (became_so o facts a old new (is_taken o a) result formed refl (h a (is, (v, same, refl))))

pub became_open : (o : Outline) (facts : List Fact) (p : ℕ) (v : Value) (w : World) → is_fully_bound v ≡ false → Became o facts (sets_if_taken Global p 0 v) w w (Ok false)
became_open o facts p v w e = became_none o facts (sets_if_taken Global p 0 v) w (ap (λ b. if b then Some (Sets p 0 v) else None) e)

kept_more : (n : ℕ) (kinds : List PlaceKind) (facts : List Fact) (i : ℕ) (v : Value) → slice_get kinds i ≡ Some Global → value_at facts (n + i) 0 ≡ Some v → length (cells_of v) ≤ kept_from n kinds facts
kept_more n [] facts i v e is = cc
kept_more n (k ∷ ks) facts zero v e is =
    let same : k ≡ Global = cc in
    let z : n ≡ n + 0 = omega arith in
    let here : kept_at facts n k ≡ length (cells_of v) = ap (kept_at facts n) same ∙ ap (λ x. size_of (value_at facts x 0)) z ∙ ap size_of is in
    omega (arith, here)
kept_more n (k ∷ ks) facts (suc i) v e is =
    let z : n + suc i ≡ n + 1 + i = omega arith in
    omega (arith, kept_more (n + 1) ks facts i v e (subst (λ x. value_at facts x 0 ≡ Some v) z is))

-- a value for which the whole area is too small
pub became_full : (o : Outline) (facts : List Fact) (p : ℕ) (v : Value) (w : World) (e : KeepFull) → IsKind o p Global → is_fully_bound v ≡ true → o.keep < length (cells_of v) → Became o facts (sets_if_taken Global p 0 v) w w (Err e)
became_full o facts p v w e is full over =
    let a = Sets p 0 v in
    subst (λ b. Became o facts (if b then Some a else None) w w (Err e)) (sym full)
    (omega (arith, over, kept_more 0 o.kinds (altered a facts) p v is (let z : 0 + p ≡ p = omega arith in ap (λ x. value_at (altered a facts) x 0) z ∙ set_there p 0 v facts)), refl)

-- ## The kinds

pub flag_changes : (objects : ℕ) (k : PlaceKind) (p : ℕ) (sets : Bool) (vs : List Value) → k ≡ Flag → change_of objects k p sets vs ≡ flag_change p sets
flag_changes objects k p sets vs e = ap (λ x. change_of objects x p sets vs) e
