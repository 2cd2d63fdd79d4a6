-- How a walk through a value goes on, and what is left of it.
use Rattle.std.proofs.Common.{◌≡◌, ℕ, ◌+◌, ◌*◌, ◌<◌, List, [], ◌∷◌, ◌++◌, Bool, true, false, refl, sym, ap, ◌∙◌, arith, subst, Option, Some, None, inl, inr, length, length-append}
use Rattle.std.specs.Prelude.{◌||◌}
use Rattle.dg_meaning.specs.Values.{Value, Var, Node, Values, NoMore, More}
use Rattle.dg_meaning.specs.Substitutions.{Substitution, resolved, contains, any_contains}
use Rattle.dg_meaning.specs.inside.Substitutions.{all_resolved, IsSubstitution}
use Rattle.dg_meaning.specs.Unify.{size, sizes}
use Rattle.dg_meaning.proofs.Walks.{resolved_node, resolved_unbound, walked, size_some}
use Rattle.dg_unify.specs.Store.{Store, told, Holds, ShowsVar, Shows}
use Rattle.dg_unify.specs.Parts.{parts_in, values_of, AreIn, IsSplit, ShowsInner, IsVariable, IsOpened}
use Rattle.dg_unify.specs.Finds.{finds, any_finds, IsSought, ref_sought, finds_at, AreClear}
use Rattle.dg_unify.specs.Waits.{size_at, with_parts, PutsBy, HasRoom}
use Rattle.dg_unify.specs.declared.bindings.Ref.{Ref}
use Rattle.dg_unify.specs.declared.bindings.View.{View}
use Rattle.dg_unify.specs.declared.parts.Parts.{Parts}
use Rattle.dg_unify.specs.declared.parts.Parts.TheVariants as form
use Rattle.dg_unify.specs.declared.parts.Front.{Front}
use Rattle.dg_unify.specs.declared.parts.Wait.{Wait}
use Rattle.dg_unify.specs.declared.seen.Seen.{Seen}
use Rattle.dg_unify.proofs.StoreLemmas.{walked_to, Younger, found_var}
use Rattle.dg_unify.proofs.PartsLemmas.{shown_node}
use Rattle.dg_unify.proofs.Rooms.{Placed, newest_in, AreInside, room_left}

-- ## What is looked for

mutual
  pub finds_one : (n : ℕ) (v : Value) → finds (Some n) v ≡ contains n v
  finds_one n (Var y) = refl
  finds_one n (Node f vs) = any_finds_one n vs

  any_finds_one : (n : ℕ) (vs : Values) → any_finds (Some n) vs ≡ any_contains n vs
  any_finds_one n NoMore = refl
  any_finds_one n (More v vs) = let a = finds_one n v in let b = any_finds_one n vs in rw (a, b) refl

or_end : (a : Bool) → (a || false) ≡ a
or_end true = refl
or_end false = refl

or_assoc : (a b c : Bool) → ((a || b) || c) ≡ (a || (b || c))
or_assoc true b c = refl
or_assoc false b c = refl

-- the variable that a value is
pub sought_var : (s : Store) → IsSubstitution s.state.subst → Younger s → (x : Option Ref) (o : Option ℕ) (at y : Ref) → IsSought s x o → ShowsVar s (walked_to s at) y → ref_sought x y ≡ finds_at s o at
sought_var s sound young None None at y h shows =
    let w = walked s.state.subst sound (told s at) in
    sym (ap (finds None) (sym w.same ∙ ap (resolved s.state.subst) shows.is ∙ resolved_unbound s.state.subst shows.number (w.free shows.number shows.is)))
sought_var s sound young (Some r) (Some n) at y h shows = found_var s sound young r at y n h shows ∙ sym (finds_one n (resolved s.state.subst (told s at)))
sought_var s sound young None (Some n) at y h shows = absurd h
sought_var s sound young (Some r) None at y h shows = absurd h

-- the parts of a value that is no variable
pub shown_opened : (s : Store) (at : Ref) (v : View) (inner : Parts) → IsVariable v None → Shows s (walked_to s at) v → ((s : Store) (w : Value) → Shows s w v → ShowsInner s (parts_in w) inner) → IsOpened s at inner
shown_opened s at v inner none shows has =
    let node = shown_node s (walked_to s at) v none shows in
    record { label = node.f; parts = node.vs; is = node.is; shows = has s (Node node.f node.vs) (subst (λ w. Shows s w v) node.is shows) }

-- ## What is left

-- it stands in these parts
abbrev pub finds_in : Store → Option ℕ → Parts → Bool
finds_in s o p = any_finds o (all_resolved s.state.subst (values_of s p))

abbrev pub sizes_in : Store → Parts → ℕ
sizes_in s p = sizes (all_resolved s.state.subst (values_of s p))

-- whether it stands in the whole is whether it stands here or in what waits, and so for each value that was gone into
abbrev pub Owes : Store → Option ℕ → Bool → Bool → List Wait → Type 0
Owes s o whole here [] = whole ≡ here
Owes s o whole here (w ∷ ws) = (finds_at s o w.a ≡ here) × Owes s o whole (here || finds_in s o w.p) ws

owes_true : (s : Store) (o : Option ℕ) (whole : Bool) (ws : List Wait) → Owes s o whole true ws → whole ≡ true
owes_true s o whole [] h = h
owes_true s o whole (w ∷ ws) h = owes_true s o whole ws h.1

abbrev pub PartsWait : Store → List Wait → Type 0
PartsWait s [] = Unit {0}
PartsWait s (w ∷ ws) = AreIn s w.p × PartsWait s ws

-- what is left of a walk, with these waiting
pub record Left (s : Store) (x : Option Ref) (root : Ref) (p : Parts) (above : List Wait) : Type 0 where
  pub p_in : AreIn s p
  pub waits_in : PartsWait s above
  pub inside : AreInside s (λ w. w.a) (λ w. sizes_in s w.p) root above
  pub within : sizes_in s p < size_at s (newest_in (λ w. w.a) root above)
  pub owes : (o : Option ℕ) → IsSought s x o → Owes s o (finds_at s o root) (finds_in s o p) above

-- how much is left
abbrev pub behind : Store → List Wait → ℕ
behind s [] = 0
behind s (w ∷ ws) = 2 * sizes_in s w.p + 1 + behind s ws

abbrev pub left_in : Store → Parts → List Wait → ℕ
left_in s p ws = 2 * sizes_in s p + behind s ws

pub record Searching (s : Store) (x : Option Ref) (root : Ref) (base now : List Wait) (p : Parts) (seen : Seen) : Type 0 where
  pub above : List Wait
  pub is : now ≡ above ++ base
  pub left : Left s x root p above
  pub clear : (o : Option ℕ) → IsSought s x o → AreClear s o seen

pub with_either : (P : List Wait → Type 0) (p : Parts) (w : Wait) (ws : List Wait) → (p ≡ form.Nothing → P ws) → P (w ∷ ws) → P (with_parts p w ws)
with_either P form.Nothing w ws none some = none refl
with_either P (form.One r) w ws none some = some
with_either P (form.Two q r) w ws none some = some
with_either P (form.Captured c n) w ws none some = some

pub put_either : (P : List Wait → Type 0) (w : Wait) (old new : List Wait) → PutsBy w old new → (w.p ≡ form.Nothing → P old) → P (w ∷ old) → P new
put_either P w old new h none some = elim h as (λ z. P new) [ inl e ↦ subst P (sym e) some | inr e ↦ subst P (sym e.1) (none e.0) ]

module _ (s : Store) (sound : IsSubstitution s.state.subst) (x : Option Ref) (root : Ref) where
  abbrev S : Substitution
  S = s.state.subst

  node_at : (r : Ref) (inner : Parts) → (h : IsOpened s r inner) → resolved S (told s r) ≡ Node h.label (all_resolved S h.parts)
  node_at r inner h = sym (walked S sound (told s r)).same ∙ ap (resolved S) h.is ∙ resolved_node S h.label h.parts

  pub opened_finds : (o : Option ℕ) (r : Ref) (inner : Parts) → IsOpened s r inner → finds_at s o r ≡ finds_in s o inner
  opened_finds o r inner h = ap (finds o) (node_at r inner h) ∙ ap (λ vs. any_finds o (all_resolved S vs)) (sym h.shows.values)

  pub opened_size : (r : Ref) (inner : Parts) → IsOpened s r inner → size_at s r ≡ sizes_in s inner + 1
  opened_size r inner h = ap size (node_at r inner h) ∙ ap (λ vs. sizes (all_resolved S vs) + 1) (sym h.shows.values)

  pub search_starts : (base : List Wait) (inner : Parts) (seen : Seen) → IsOpened s root inner → ((o : Option ℕ) → IsSought s x o → AreClear s o seen) → Searching s x root base base inner seen
  search_starts base inner seen h clear = record {
    above = [];
    is = refl;
    left = record {
      p_in = h.shows.are_in;
      waits_in = tt;
      inside = tt;
      within = omega (arith, opened_size root inner h);
      owes = λ o k. opened_finds o root inner h;
    };
    clear = clear;
  }

  -- nothing is left
  nothing_in : (o : Option ℕ) (p : Parts) → values_of s p ≡ NoMore → finds_in s o p ≡ false
  nothing_in o p h = ap (λ vs. any_finds o (all_resolved S vs)) h

  pub search_ends : (base now : List Wait) (p : Parts) (seen : Seen) (h : Searching s x root base now p seen) → values_of s p ≡ NoMore → h.above ≡ [] → (o : Option ℕ) → IsSought s x o → false ≡ finds_at s o root
  search_ends base now p seen h none last o k =
      let e : Owes s o (finds_at s o root) (finds_in s o p) [] = subst (λ l. Owes s o (finds_at s o root) (finds_in s o p) l) last (h.left.owes o k) in
      sym (e ∙ nothing_in o p none)

  -- the newest that waits is taken up
  pub search_up : (base now new : List Wait) (p : Parts) (seen seen' : Seen) (h : Searching s x root base now p seen) → values_of s p ≡ NoMore → (w : Wait) (rest : List Wait) → h.above ≡ w ∷ rest → new ≡ rest ++ base → ((o : Option ℕ) → IsSought s x o → finds_at s o w.a ≡ false → AreClear s o seen') → Searching s x root base new w.p seen'
  search_up base now new p seen seen' h none w rest is up noted =
      let waits_in : PartsWait s (w ∷ rest) = subst (PartsWait s) is h.left.waits_in in
      let inside : AreInside s (λ v. v.a) (λ v. sizes_in s v.p) root (w ∷ rest) = subst (AreInside s (λ v. v.a) (λ v. sizes_in s v.p) root) is h.left.inside in
      let owes : (o : Option ℕ) → IsSought s x o → Owes s o (finds_at s o root) false (w ∷ rest) =
      λ o k. subst (λ b. Owes s o (finds_at s o root) b (w ∷ rest)) (nothing_in o p none) (subst (λ l. Owes s o (finds_at s o root) (finds_in s o p) l) is (h.left.owes o k)) in
      record {
        above = rest;
        is = up;
        left = record { p_in = waits_in.0; waits_in = waits_in.1; inside = inside.3; within = inside.2; owes = λ o k. (owes o k).1 };
        clear = λ o k. noted o k (owes o k).0;
      }

  pub up_smaller : (now new : List Wait) (p : Parts) (w : Wait) → values_of s p ≡ NoMore → now ≡ w ∷ new → left_in s w.p new < left_in s p now
  up_smaller now new p w none is =
      let e : sizes_in s p ≡ 0 = ap (λ vs. sizes (all_resolved S vs)) none in
      omega (arith, e, ap (behind s) is)

  module _ (base now : List Wait) (p : Parts) (seen : Seen) (h : Searching s x root base now p seen) (front : Front) (split : IsSplit s p front) where
    abbrev v : Value
    v = told s front.first

    split_finds : (o : Option ℕ) → finds_in s o p ≡ (finds_at s o front.first || finds_in s o front.rest)
    split_finds o = ap (λ vs. any_finds o (all_resolved S vs)) split.values

    split_size : sizes_in s p ≡ size_at s front.first + sizes_in s front.rest
    split_size = ap (λ vs. sizes (all_resolved S vs)) split.values

    -- it was found
    pub search_found : (o : Option ℕ) → IsSought s x o → true ≡ finds_at s o front.first → true ≡ finds_at s o root
    search_found o k found =
        let e : finds_in s o p ≡ true = split_finds o ∙ ap (λ b. b || finds_in s o front.rest) (sym found) in
        sym (owes_true s o (finds_at s o root) h.above (subst (λ b. Owes s o (finds_at s o root) b h.above) e (h.left.owes o k)))

    -- the first is passed by
    pub search_past : ((o : Option ℕ) → IsSought s x o → false ≡ finds_at s o front.first) → Searching s x root base now front.rest seen
    search_past missed = record {
      above = h.above;
      is = h.is;
      left = record {
        p_in = split.rest_in;
        waits_in = h.left.waits_in;
        inside = h.left.inside;
        within = omega (arith, h.left.within, split_size);
        owes = λ o k. subst (λ b. Owes s o (finds_at s o root) b h.above) (split_finds o ∙ ap (λ b. b || finds_in s o front.rest) (sym (missed o k))) (h.left.owes o k);
      };
      clear = h.clear;
    }

    pub past_smaller : left_in s front.rest now < left_in s p now
    past_smaller = omega (arith, split_size, size_some (resolved S v))

    -- the first is gone into
    pub room_for : Placed s → Holds s root → HasRoom s (length base) root → length now < s.places
    room_for placed hold room =
        let e : length now ≡ length h.above + length base = ap length h.is ∙ length-append h.above base in
        omega (arith, e, room_left s placed (λ w. w.a) (λ w. sizes_in s w.p) root (length base) h.above (size_at s front.first) hold room h.left.inside (size_some (resolved S v)) (omega (arith, h.left.within, split_size)))

    module _ (inner : Parts) (opened : IsOpened s front.first inner) where
      abbrev waits : Wait
      waits = record { a = front.first; b = front.first; p = front.rest; q = front.rest }

      here_nothing : front.rest ≡ form.Nothing → Left s x root inner h.above
      here_nothing e = record {
        p_in = opened.shows.are_in;
        waits_in = h.left.waits_in;
        inside = h.left.inside;
        within = omega (arith, h.left.within, split_size, opened_size front.first inner opened);
        owes = λ o k.
            let last : finds_in s o front.rest ≡ false = ap (finds_in s o) e in
            let one : finds_in s o p ≡ finds_in s o inner =
            split_finds o ∙ ap (λ b. finds_at s o front.first || b) last ∙ or_end (finds_at s o front.first) ∙ opened_finds o front.first inner opened in
            subst (λ b. Owes s o (finds_at s o root) b h.above) one (h.left.owes o k);
      }

      here_more : Left s x root inner (waits ∷ h.above)
      here_more = record {
        p_in = opened.shows.are_in;
        waits_in = (split.rest_in, h.left.waits_in);
        inside = (split.first_in, omega (arith, h.left.within, split_size), omega (arith, h.left.within, split_size), h.left.inside);
        within = omega (arith, opened_size front.first inner opened);
        owes = λ o k. (
          opened_finds o front.first inner opened,
          subst (λ b. Owes s o (finds_at s o root) b h.above) (split_finds o ∙ ap (λ b. b || finds_in s o front.rest) (opened_finds o front.first inner opened)) (h.left.owes o k),
        );
      }

      pub search_into : (new : List Wait) → PutsBy waits now new → Searching s x root base new inner seen
      search_into new put =
          put_either (λ l. Searching s x root base l inner seen) waits now new put
          (λ e. record { above = h.above; is = h.is; left = here_nothing e; clear = h.clear })
          (record { above = waits ∷ h.above; is = ap (λ l. waits ∷ l) h.is; left = here_more; clear = h.clear })

      pub into_smaller : (new : List Wait) → PutsBy waits now new → left_in s inner new < left_in s p now
      into_smaller new put =
          put_either (λ l. left_in s inner l < left_in s p now) waits now new put
          (λ e. omega (arith, split_size, opened_size front.first inner opened))
          (omega (arith, split_size, opened_size front.first inner opened))

-- ## What is clear at once

pub sought_is : (s : Store) (r : Ref) → (o : Option ℕ) × IsSought s (Some r) o → (n : ℕ) × (s.value r ≡ Some (Var n))
sought_is s r (None, h) = absurd h
sought_is s r (Some n, h) = (n, h)

pub clear_finds : (s : Store) (r at : Ref) (b : Bool) (o : Option ℕ) → IsSought s (Some r) o → b ≡ true → ((n : ℕ) → s.value r ≡ Some (Var n) → b ≡ true → contains n (resolved s.state.subst (told s at)) ≡ false) → finds_at s o at ≡ false
clear_finds s r at b None h e clear = absurd h
clear_finds s r at b (Some n) h e clear = finds_one n (resolved s.state.subst (told s at)) ∙ clear n h e
