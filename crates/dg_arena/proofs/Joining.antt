-- A variable that is joined to the end of a value, and values in which it doesn't stand.
use Rattle.std.proofs.lemmas.Bool.{ne_eqb}
use Rattle.std.proofs.Common.{◌-◌, ◌+◌, ◌≤◌, ◌≡◌, ℕ, ◌<◌, refl, sym, ap, ◌∙◌, subst, arith, Some, false, length, get_or, reverse}
use Rattle.std.specs.Prelude.{Bool, IfSome, Result, Ok, Err, Option, None, max}
use Rattle.dg_meaning.specs.Values.{Value, Values, Var, Node, Pair, More, NoMore, pair}
use Rattle.dg_meaning.specs.Substitutions.{walk, resolved, contains}
use Rattle.dg_meaning.specs.inside.Substitutions.{is_bound, IsSubstitution}
use Rattle.dg_meaning.specs.Unify.{Binds, binds, top}
use Rattle.dg_meaning.specs.inside.Unify.{unify}
use Rattle.dg_meaning.proofs.LookUps.{walk_node}
use Rattle.dg_meaning.proofs.Walks.{walked, resolved_node}
use Rattle.dg_unify.specs.Store.{Store, told, or_nil, ShowsVar, ShowsPair, Follows}
use Rattle.dg_unify.specs.Slots.{label_at, value_in, Fields, AreSound, store_of}
use Rattle.dg_unify.specs.inside.Ends.{subst_in, told_in, TellsOf, IsEnd, LeadsTo, Leads, EndsAt, MayLink}
use Rattle.dg_unify.specs.inside.Turns.{IsUnbound, FollowsTurn, TurnsInto, met_of}
use Rattle.dg_unify.specs.Laws.{place_of_var, slots_younger}
use Rattle.dg_unify.specs.declared.slots.Slot.{Slot}
use Rattle.dg_unify.specs.declared.slots.Slot.TheVariants as slot
use Rattle.dg_unify.proofs.Stores.{bind_var}
use Rattle.dg_unify.specs.declared.bindings.Ref.{Ref}
use Rattle.dg_unify.specs.declared.bindings.Full.{Full}
use Rattle.dg_unify.proofs.StoreLemmas.{Younger, walked_to, holds_some, holds_told, contains_var}
use Rattle.dg_unify.proofs.Reading.{simple_told}
use Rattle.dg_unify.proofs.Meets.{met_vars, met_left, met_right, tie_younger, tie_older, point_follows, unbound_at}
use Rattle.dg_unify.proofs.Goings.{stays_broke}
use Rattle.dg_arena.specs.Joins.{IsFree, IsAbsent, IsBefore, Joins}
use Rattle.dg_arena.specs.inside.Spines.{IsClearTo, PointsTo, Points}

-- ## Values in which a variable doesn't stand

pub simple_absent : (f : Fields) → AreSound f → (at : Ref) → TellsOf f at → 2147483648 ≤ at.0 → (n : ℕ) → IsAbsent f at n
simple_absent f sound at told le n =
    let S = subst_in f in
    ap (λ (v : Value). contains n (resolved S v)) (simple_told f sound at told le) ∙ ap (contains n) (resolved_node S (label_at (at.0 - 2147483648)) NoMore)

-- what doesn't stand in the end of a value doesn't stand in it
pub end_absent : (f : Fields) → AreSound f → (at end : Ref) → EndsAt f at end → (n : ℕ) → IsAbsent f end n → IsAbsent f at n
end_absent f sound at end ends n h =
    let S = subst_in f in
    let w = walked S sound.fits.sound (told_in f at) in
    ap (contains n) (sym w.same) ∙ ap (λ (v : Value). contains n (resolved S v)) (sym ends.is) ∙ h

-- nor in a variable that leads to a value in which it doesn't
pub lead_absent : (f : Fields) → AreSound f → (at next : Ref) → LeadsTo f at next → (n : ℕ) → IsAbsent f next n → IsAbsent f at n
lead_absent f sound at next leads n h =
    let S = subst_in f in
    ap (contains n) (sym (walked S sound.fits.sound (told_in f at)).same) ∙ ap (λ (v : Value). contains n (resolved S v)) leads.same ∙ ap (contains n) (walked S sound.fits.sound (told_in f next)).same ∙ h

-- nor does it stand in another variable
pub other_absent : (f : Fields) → AreSound f → (end : Ref) (m n : ℕ) → value_in f.slots end.0 ≡ Some (Var m) → IsEnd f end → (m ≡ n → ⊥) → IsAbsent f end n
other_absent f sound end m n value is ne =
    contains_var (subst_in f) sound.fits.sound (told_in f end) m n (is ∙ ap or_nil value) ∙ ne_eqb m n ne

-- nor in a pair of two in which it doesn't
pub pair_absent : (f : Fields) (at h t : Ref) (n : ℕ) → ShowsPair (store_of false f) (told_in f at) h t → IsAbsent f h n → IsAbsent f t n → IsAbsent f at n
pair_absent f at h t n sh ha hb =
    let S = subst_in f in
    let ea : contains n (resolved S sh.head) ≡ false = ap (λ (v : Value). contains n (resolved S v)) (sym (ap or_nil sh.head_is)) ∙ ha in
    let eb : contains n (resolved S sh.tail) ≡ false = ap (λ (v : Value). contains n (resolved S v)) (sym (ap or_nil sh.tail_is)) ∙ hb in
    ap (λ (v : Value). contains n (resolved S v)) sh.is ∙ ap (contains n) (resolved_node S Pair (More sh.head (More sh.tail NoMore))) ∙ rw (ea, eb) refl

-- ## Joining

-- a turn behind which nothing is left is the whole
turn_ends : (old new : Store) → IsSubstitution old.state.subst → (a b : Ref) (r : Result Bool Full) → TurnsInto old new a b (met_of r) → Follows old new (unify old.state.subst (told old a) (told old b)) r
turn_ends old new sound a b (Ok d) t = t
turn_ends old new sound a b (Err e) t = stays_broke old new (told old a) (told old b) sound e t

module _ (f : Fields) (sound : AreSound f) (to var end : Ref) (n : ℕ) (free : IsFree f var n) (ends : EndsAt f to end) (before : IsBefore f end var n) where
  abbrev s : Store
  s = store_of false f

  var_walks : walk (subst_in f) (told_in f var) ≡ Var n
  var_walks = free.end_is ∙ ap or_nil free.value

  unbound : is_bound n (subst_in f) ≡ false
  unbound = (walked (subst_in f) sound.fits.sound (told_in f var)).free n var_walks

  abbrev shown : ShowsVar s (walked_to s var) var
  shown = record { number = n; is = var_walks; value = free.value }

  pub joins_link : MayLink f n end
  joins_link = record { within = free.within; told = ends.told; end_is = ends.end_is; fits = record { unbound = unbound; absent = before.absent } }

  module _ (new : Store) (young : Younger s) (r : Result Bool Full) (h : FollowsTurn s new (Binds n (walk (subst_in f) (told_in f end))) r) where
    turned : (w : Value) → told_in f end ≡ w → TurnsInto s new to var (met_of r)
    turned (Var m) is =
        let sx : ShowsVar s (walked_to s to) end = record { number = m; is = sym ends.is ∙ is; value = holds_told s end ends.told ∙ ap Some is } in
        let lt : end.0 < var.0 = before.older m is in
        met_vars s new sound.fits.sound to var end var r sx shown (tie_younger s new young end var m n (unbound_at s sound.fits.sound to end sx) sx.value free.value (λ e. omega arith) lt r h)
    turned (Node l vs) is =
        met_right s new sound.fits.sound to var var l vs r (sym ends.is ∙ is) shown
        (subst (λ w. FollowsTurn s new (binds (subst_in f) n w) r) (ends.end_is ∙ ends.is) (point_follows s new sound.fits.sound n (told_in f end) (sym before.absent) r h))

    pub joins : Follows s new (unify (subst_in f) (told_in f to) (told_in f var)) r
    joins = turn_ends s new sound.fits.sound to var r (turned (told_in f end) refl)

-- ## The same from the left: a value that ends in the variable, and one in which it doesn't stand

module _ (f : Fields) (sound : AreSound f) (to from end value : Ref) (n : ℕ) (free : IsFree f end n) (leads : EndsAt f to end) (ends : EndsAt f from value) (before : IsBefore f value end n) (new : Store) (young : Younger (store_of false f)) (r : Result Bool Full)
    (h : FollowsTurn (store_of false f) new (Binds n (walk (subst_in f) (told_in f value))) r) where
  abbrev here : Store
  here = store_of false f

  abbrev shows : ShowsVar here (walked_to here to) end
  shows = record { number = n; is = sym leads.is ∙ ap or_nil free.value; value = free.value }

  turned_left : (w : Value) → told_in f value ≡ w → TurnsInto here new to from (met_of r)
  turned_left (Var m) is =
      let sy : ShowsVar here (walked_to here from) value = record { number = m; is = sym ends.is ∙ is; value = holds_told here value ends.told ∙ ap Some is } in
      let lt : value.0 < end.0 = before.older m is in
      met_vars here new sound.fits.sound to from end value r shows sy (tie_older here new young end value n m (unbound_at here sound.fits.sound from value sy) free.value sy.value (λ e. omega arith) (omega arith) r h)
  turned_left (Node l vs) is =
      met_left here new sound.fits.sound to from end l vs r shows (sym ends.is ∙ is)
      (subst (λ w. FollowsTurn here new (binds (subst_in f) n w) r) (ends.end_is ∙ ends.is) (point_follows here new sound.fits.sound n (told_in f value) (sym before.absent) r h))

  pub joins_left : Follows here new (unify (subst_in f) (told_in f to) (told_in f from)) r
  joins_left = turn_ends here new sound.fits.sound to from r (turned_left (told_in f value) refl)

-- ## A variable and a pair of values in which it doesn't stand

pub number_is : (m n : ℕ) → Some (Var m) ≡ Some (Var n) → m ≡ n
number_is m n e = cc

module _ (f : Fields) (sound : AreSound f) (var whole head tail : Ref) (n : ℕ) (x : Slot) (read : x ≡ get_or f.slots var.0 x) (is_var : x ≡ slot.Var n) (free : IsUnbound (store_of false f) var)
    (head_in : TellsOf f head) (tail_in : TellsOf f tail) (is : value_in f.slots whole.0 ≡ Some (pair (told_in f head) (told_in f tail))) (no_head : IsAbsent f head n) (no_tail : IsAbsent f tail n) where
  abbrev st : Store
  st = store_of false f

  abbrev parts : Values
  parts = More (told_in f head) (More (told_in f tail) NoMore)

  whole_is : told_in f whole ≡ Node Pair parts
  whole_is = ap or_nil is

  pair_clear : IsAbsent f whole n
  pair_clear = pair_absent f whole head tail n (record { head = told_in f head; tail = told_in f tail; is = whole_is; head_is = holds_told st head head_in; tail_is = holds_told st tail tail_in }) no_head no_tail

  whole_walks : walk (subst_in f) (told_in f whole) ≡ Node Pair parts
  whole_walks = ap (walk (subst_in f)) whole_is ∙ walk_node (subst_in f) Pair parts

  same_number : free.number ≡ n
  same_number = bind_var false f var free.number free.value x read n is_var

  pub pair_link : MayLink f n whole
  pair_link = record {
    within = subst (λ k. k < f.vars) same_number (sound.fits.below var.0 free.number (place_of_var f.slots (length f.slots) var.0 free.number free.value).1);
    told = holds_some st whole (Node Pair parts) is;
    end_is = whole_walks ∙ sym whole_is;
    fits = record { unbound = subst (λ k. is_bound k (subst_in f) ≡ false) same_number free.free; absent = pair_clear };
  }

  pub pair_top : (h t : ℕ) → top (told_in f head) ≤ h → top (told_in f tail) ≤ t → top (told_in f whole) ≤ max h t
  pair_top h t lh lt = rw whole_is (omega (arith, lh, lt))

  pub pair_joins : (new : Store) (r : Result Bool Full) → FollowsTurn st new (Binds n (walk (subst_in f) (told_in f whole))) r → (to : Ref) → ShowsVar st (walked_to st to) var → Follows st new (unify (subst_in f) (told_in f to) (told_in f whole)) r
  pair_joins new r h to sx =
      let same : n ≡ sx.number = sym same_number ∙ number_is free.number sx.number (sym free.value ∙ sx.value) in
      let bound : FollowsTurn st new (binds (subst_in f) n (walked_to st whole)) r = point_follows st new sound.fits.sound n (told_in f whole) (sym pair_clear) r h in
      turn_ends st new sound.fits.sound to whole r (met_left st new sound.fits.sound to whole var Pair parts r sx whole_walks (subst (λ k. FollowsTurn st new (binds (subst_in f) k (walked_to st whole)) r) same bound))

-- ## A variable and a value that is looked along

-- where a value leads it is looked further
pub clear_on : (f : Fields) → AreSound f → (at : Ref) (n : ℕ) (o : Option Ref) → Leads f at o → IfSome o (λ next. IsClearTo f at next n)
clear_on f sound at n None h = tt
clear_on f sound at n (Some next) h = record { told = h.told; absent = lead_absent f sound at next h n }

-- what doesn't stand in the head of a pair, nor in its tail, doesn't stand in the pair
pub clear_to : (f : Fields) (end h t : Ref) → ShowsPair (store_of false f) (told_in f end) h t → TellsOf f t → (n : ℕ) → IsAbsent f h n → IsClearTo f end t n
clear_to f end h t sh told n ha = record { told = told; absent = λ hb. pair_absent f end h t n sh ha hb }

pub free_link : (f : Fields) → AreSound f → (var to : Ref) (n : ℕ) → IsFree f var n → TellsOf f to → IsEnd f to → IsAbsent f to n → MayLink f n to
free_link f sound var to n free told end absent =
    let S = subst_in f in
    let unbound : is_bound n S ≡ false = (walked S sound.fits.sound (told_in f var)).free n (free.end_is ∙ ap or_nil free.value) in
    record { within = free.within; told = told; end_is = end; fits = record { unbound = unbound; absent = absent } }

module _ (f : Fields) (sound : AreSound f) (a b var to : Ref) (n : ℕ) (free : IsFree f var n) (new : Store) where
  abbrev held : Store
  held = store_of false f

  abbrev ends_free : (r : Ref) → EndsAt f r var → ShowsVar held (walked_to held r) var
  ends_free r ends = record { number = n; is = sym ends.is ∙ ap or_nil free.value; value = free.value }

  bound_at : (r : Ref) → EndsAt f r to → (result : Result Bool Full) → PointsTo f new n to result → FollowsTurn held new (binds (subst_in f) n (walked_to held r)) result
  bound_at r ends result h =
      subst (λ w. FollowsTurn held new (binds (subst_in f) n w) result) (ends.end_is ∙ ends.is) (point_follows held new sound.fits.sound n (told_in f to) (sym h.absent) result h.turn)

  pub points_left : EndsAt f a var → EndsAt f b to → (result : Option (Result Bool Full)) → Points f new n to result → Joins held new a b result
  points_left ea eb None h = h
  points_left ea eb (Some r) h =
      turn_ends held new sound.fits.sound a b r (met_left held new sound.fits.sound a b var h.node.label h.node.parts r (ends_free a ea) (sym eb.is ∙ h.node.is) (bound_at b eb r h))

  pub points_right : EndsAt f a to → EndsAt f b var → (result : Option (Result Bool Full)) → Points f new n to result → Joins held new a b result
  points_right ea eb None h = h
  points_right ea eb (Some r) h =
      turn_ends held new sound.fits.sound a b r (met_right held new sound.fits.sound a b var h.node.label h.node.parts r (sym ea.is ∙ h.node.is) (ends_free b eb) (bound_at a ea r h))

-- ## Two variables, of which the younger is bound to the older

module _ (f : Fields) (sound : AreSound f) (var to : Ref) (n m : ℕ) (free : IsFree f var n) (older : IsFree f to m) (lt : to.0 < var.0) where
  abbrev st2 : Store
  st2 = store_of false f

  before_it : m < n
  before_it = slots_younger f.slots (reverse f.log) f.vars sound.fits to var m n older.value free.value lt

  pub tie_link : MayLink f n to
  tie_link =
      let differ = before_it in
      free_link f sound var to n free (holds_some st2 to (Var m) older.value) older.end_is (other_absent f sound to m n older.value older.end_is (λ e. omega (arith, differ, e)))

  pub tie_top : top (told_in f to) ≤ m + 1
  tie_top = let e : told_in f to ≡ Var m = ap or_nil older.value in rw e (omega arith)

  module _ (new : Store) (young : Younger st2) (r : Result Bool Full) (h : FollowsTurn st2 new (Binds n (walk (subst_in f) (told_in f to))) r) where
    abbrev at_var : (a : Ref) → EndsAt f a var → ShowsVar st2 (walked_to st2 a) var
    at_var a ends = record { number = n; is = sym ends.is ∙ ap or_nil free.value; value = free.value }

    abbrev at_to : (a : Ref) → EndsAt f a to → ShowsVar st2 (walked_to st2 a) to
    at_to a ends = record { number = m; is = sym ends.is ∙ ap or_nil older.value; value = older.value }

    pub tied_left : (a b : Ref) → EndsAt f a var → EndsAt f b to → Follows st2 new (unify (subst_in f) (told_in f a) (told_in f b)) r
    tied_left a b ea eb =
        let sb = at_to b eb in
        turn_ends st2 new sound.fits.sound a b r (met_vars st2 new sound.fits.sound a b var to r (at_var a ea) sb (tie_older st2 new young var to n m (unbound_at st2 sound.fits.sound b to sb) free.value older.value (λ e. omega arith) (omega arith) r h))

    pub tied_right : (a b : Ref) → EndsAt f a to → EndsAt f b var → Follows st2 new (unify (subst_in f) (told_in f a) (told_in f b)) r
    tied_right a b ea eb =
        let sa = at_to a ea in
        turn_ends st2 new sound.fits.sound a b r (met_vars st2 new sound.fits.sound a b to var r sa (at_var b eb) (tie_younger st2 new young to var m n (unbound_at st2 sound.fits.sound a to sa) older.value free.value (λ e. omega arith) lt r h))
