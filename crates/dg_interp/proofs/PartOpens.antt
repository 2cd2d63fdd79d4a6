-- A stoppable part opens.
use Rattle.std.proofs.Common.{◌≡◌, ℕ, ◌+◌, ◌^◌, ◌<◌, List, [], ◌∷◌, ◌++◌, Some, None, refl, sym, ap, ◌∙◌, subst, arith, length, Bor}
use Rattle.std.specs.Prelude.{reverse}
use Rattle.std.specs.List.{All}
use Rattle.std.specs.declared.vec.Vec.{Vec}
use Rattle.std.specs.declared.alloc.Global.{Global}
use Rattle.dg_base.specs.declared.program.Goal.TheVariants.{Stoppable, outs-Stoppable}
use Rattle.dg_meaning.specs.Values.{Value}
use Rattle.dg_meaning.specs.World.{Game, World}
use Rattle.dg_meaning.specs.Path.{Leave, Registers, Branch, Plain}
use Rattle.dg_meaning.specs.Moves.{begun, inside, enter, path_of, goals_at, outcome}
use Rattle.dg_meaning.specs.Transcript.{Run}
use Rattle.dg_meaning.specs.inside.Context.{Live, Way as WayOn}
use Rattle.dg_meaning.specs.inside.Keeps.{Stands, After}
use Rattle.dg_meaning.proofs.Keeps.{stands_happened}
use Rattle.dg_meaning.specs.Cells.{writing}
use Rattle.dg_base.specs.Goals.{terms_held}
use Rattle.dg_base.specs.declared.program.Goal.{Goal, out-Goal}
use Rattle.dg_unify.specs.Store.{Store, State, Saved, Holds, Kept, Charged, HeapFull, marked}
use Rattle.dg_unify.specs.inside.Engines.{Agrees}
use Rattle.dg_unify.specs.declared.bindings.Ref.{Ref}
use Rattle.dg_unify.specs.declared.bindings.Full.{Full}
use Rattle.dg_unify.specs.declared.bindings.Full.TheVariants as full
use Rattle.dg_unify.specs.declared.bindings.Mark.{Mark as Place}
use Rattle.dg_unify.specs.declared.list.ListBindings.{ListBindings}
use Rattle.dg_choices.specs.declared.frames.Frame.{Frame}
use Rattle.dg_choices.specs.declared.frames.Mark.TheVariants.{LeavePart}
use Rattle.dg_choices.specs.declared.frames.Left.TheVariants.{Behind}
use Rattle.dg_choices.specs.declared.frames.Choice.{Choice}
use Rattle.dg_interp.specs.declared.engine.Engine.{Engine}
use Rattle.dg_interp.specs.inside.Frames.{values_in, steps_at, lives_of, ways_of, IsChoice, AreChoices, IsFrame, StandOn, GoBackTo}
use Rattle.dg_interp.specs.inside.Engine.{store_in, KeepsPlaces, IsReady, TakesAt, WentOn, FullAt, steps_of, open_in}
use Rattle.dg_interp.proofs.Links.{same_here, at_same, stand_raise}
use Rattle.dg_interp.proofs.Places.{open_still, peak_begun}
use Rattle.dg_unify.proofs.StoreLemmas.{kept_on, all_hold}
use Rattle.dg_interp.proofs.Stores.{values_kept, hold_front}
use Rattle.dg_interp.proofs.Kept.{back_limits}
use Rattle.dg_interp.proofs.Controls.{values_of, behind_all}
use Rattle.dg_interp.proofs.Takes.{behind, taken_in, comes_of, adds_taken, agrees_here, peak_here}

-- ## A stoppable part opens

module _ (goals : Bor (List Goal)) (old : Engine) (ready : IsReady old) (all : behind_all old ≡ steps_of old) (place : Place) (store0 : ListBindings) (k0 : Kept (store_in old.store) (store_in store0)) (state0 : (store_in store0).state ≡ marked (store_in old.store).state)
    (saved0 : (ms : List Saved) → KeepsPlaces old.store ms → KeepsPlaces store0 (record { mark = place; store = store_in store0 } ∷ ms)) where
  abbrev x : Goal
  x = Stoppable goals.now

  abbrev s : Store
  s = store_in old.store

  abbrev s0 : Store
  s0 = store_in store0

  abbrev fs : List Frame
  fs = old.frames.items

  abbrev xs : List Ref
  xs = old.refs.items

  abbrev os : List Choice
  os = reverse old.choices.items

  abbrev env : List Value
  env = values_of old old.here.env

  abbrev t : ℕ
  t = old.newest + 1

  held_none : terms_held (out-Goal x) ≡ []
  held_none = ap terms_held (outs-Stoppable goals.now)

  -- the registers inside
  abbrev within_part : Registers → Registers
  within_part r = record (inside 10 r) { stoppable = Some r.next_tag }

  abbrev others : Registers → List Branch
  others r = enter 0 0 r (steps_of old) ∷ []

  abbrev live : Registers → List WayOn → Live
  live r ws = record { kind = Plain; tag = r.next_tag; others = others r; height = open_in old; ways_on = ws }

  abbrev way : Registers → WayOn
  way r = record { tag = r.next_tag; others = others r; height = open_in old }

  stands : (g : Game) (n : ℕ) (w : World) (run : Run) (st : TakesAt x old g n w run) →
      Stands g (live (behind x old g n w run st) st.at.ways ∷ st.at.inside.lives) (way (behind x old g n w run st) ∷ st.at.ways) (path_of (goals_at env old.here.tag goals.now ++ Leave (behind x old g n w run st).next_tag (behind x old g n w run st).stoppable ∷ steps_of old) (within_part (behind x old g n w run st))) n (begun (within_part (behind x old g n w run st)) 0 (taken_in x old g n w run st)) run
  stands g n w run st =
      let r = behind x old g n w run st in
      let v = taken_in x old g n w run st in
      subst (λ h. Stands g (record { kind = Plain; tag = r.next_tag; others = others r; height = h; ways_on = st.at.ways } ∷ st.at.inside.lives) (record { tag = r.next_tag; others = others r; height = h } ∷ st.at.ways) (path_of (goals_at env old.here.tag goals.now ++ Leave r.next_tag r.stoppable ∷ steps_of old) (within_part r)) n (begun (within_part r) 0 v) run) (sym (open_still old.lasting g w st.at.inside.world))
      (subst (λ f. After g st.at.inside.lives st.at.ways n (outcome g f env old.here.tag (steps_of old) r v) run) (outs-Stoppable goals.now) (comes_of x old g n w run st))

  pub part_full : (e : Full) (u : Store) → HeapFull 10 s0 u e → FullAt (TakesAt x old) s e
  part_full full.Heap u h = λ g n w run st.
      let later = (stands_happened g _ _ _ n _ run (stands g n w run st)).meters in
      let a = agrees_here x old held_none g n w run st in
      omega (arith, later.heap, h.0, a.heap, k0.heap_limit, ap (λ (q : State). q.heap) state0)
  part_full full.Trail u h = absurd h
  part_full full.OutOfMemory u h = tt

  module _ (store1 : ListBindings) (choices : Vec Choice Global) (k1 : Kept s0 (store_in store1)) (saved1 : (ms : List Saved) → KeepsPlaces store0 ms → KeepsPlaces store1 ms) (charged : Charged 10 s0 (store_in store1))
      (is : IsFrame (length fs) (length xs) (record old.here { goals = goals; mark = LeavePart t old.stoppable; behind = length fs })) (room : old.newest + 1 + old.left < 2 ^ 64)
      (kept : reverse choices.items ≡ record { tag = t; left = Behind old.here None; height = length fs; refs = length xs; gathered = open_in old; place = place; stoppable = old.stoppable } ∷ os) where
    abbrev s1 : Store
    s1 = store_in store1

    abbrev o : Choice
    o = record { tag = t; left = Behind old.here None; height = length fs; refs = length xs; gathered = open_in old; place = place; stoppable = old.stoppable }

    abbrev m : Saved
    m = record { mark = place; store = s0 }

    abbrev first : Frame
    first = record old.here { goals = goals; mark = LeavePart t old.stoppable; behind = length fs }

    abbrev new : Engine
    new = record old { store = store1; choices = choices; newest = t; stoppable = Some t; here = first }

    k : Kept s s1
    k = kept_on s s0 s1 k0 k1

    hold0 : All (Holds s0) xs
    hold0 = all_hold s s0 xs k0 ready.sound.base.hold

    agrees0 : (r : Registers) → Agrees s r → Agrees s0 r
    agrees0 r a = record {
      bound = a.bound ∙ ap (λ (u : State). u.subst) (sym state0);
      vars = a.vars ∙ ap (λ (u : State). u.vars) (sym state0);
      heap = a.heap ∙ ap (λ (u : State). u.heap) (sym state0);
      trail = omega (arith, a.trail, ap (λ (u : State). u.trail) state0);
      since = omega (arith, ap (λ (u : State). u.since) state0, ap (λ (u : State). u.vars) state0);
    }

    agrees1 : (r : Registers) → Agrees s r → Agrees s1 (within_part r)
    agrees1 r a =
        let b = agrees0 r a in
        let now = charged.state in
        record {
          bound = b.bound ∙ ap (λ (u : State). u.subst) (sym now);
          vars = b.vars ∙ ap (λ (u : State). u.vars) (sym now);
          heap = omega (arith, b.heap, ap (λ (u : State). u.heap) now);
          trail = omega (arith, b.trail, ap (λ (u : State). u.trail) now);
          since = omega (arith, b.since, ap (λ (u : State). u.since) now, ap (λ (u : State). u.vars) now);
        }

    same_first : steps_of new ≡ goals_at env old.here.tag goals.now ++ Leave t old.stoppable ∷ steps_of old
    same_first =
        at_same (length xs) (values_of old) (values_of new) fs fs (length fs) first is (values_kept (length xs) s s1 xs xs k (hold_front s xs ready.sound.base.hold) refl) ready.sound.base.frames (same_here (length fs) fs)
        ∙ ap (λ l. goals_at env old.here.tag goals.now ++ Leave t old.stoppable ∷ l) all

    same_behind : steps_at (values_in s0 xs) fs old.here ≡ steps_of old
    same_behind = at_same (length xs) (values_of old) (values_in s0 xs) fs fs (length fs) old.here ready.here (values_kept (length xs) s s0 xs xs k0 (hold_front s xs ready.sound.base.hold) refl) ready.sound.base.frames (same_here (length fs) fs)

    choice_is : (g : Game) (r : Registers) (ws : List WayOn) → Agrees s r → r.next_tag ≡ t → r.stoppable ≡ old.stoppable → IsChoice g xs fs o m ws (live r ws)
    choice_is g r ws a tag part = record {
      registers = r;
      agrees = agrees0 r a;
      hold = hold_front s0 xs hold0;
      place = refl;
      tag_at = tag;
      stop = part;
      kind = refl;
      tag = tag;
      others = ap (λ l. enter 0 0 r l ∷ []) (sym same_behind);
      height = refl;
      ways_on = refl;
    }

    pub part_opened : WentOn (TakesAt x old) old new
    part_opened = record {
      ready = record {
        sound = record {
          base = record {
            program = ready.sound.base.program;
            sound = ready.sound.base.sound;
            hold = all_hold s s1 xs k ready.sound.base.hold;
            frames = ready.sound.base.frames;
            choices = subst (StandOn fs (length fs) (length xs) t) (sym kept) (omega arith, omega arith, omega arith, (ready.here, refl, tt), ready.sound.base.frames, stand_raise fs (length fs) (length fs) (length xs) (length xs) old.newest t os (omega arith) (omega arith) (omega arith) ready.sound.base.choices);
            places = record {
              saved = m ∷ ready.sound.base.places.saved;
              keeps = saved1 (m ∷ ready.sound.base.places.saved) (saved0 ready.sound.base.places.saved ready.sound.base.places.keeps);
              back_to = subst (λ l. GoBackTo xs s1.heap_limit s1.trail_limit l (m ∷ ready.sound.base.places.saved)) (sym kept)
                  (refl, hold_front s0 xs hold0, sym k1.heap_limit, sym k1.trail_limit, back_limits xs s.heap_limit s.trail_limit s1.heap_limit s1.trail_limit os ready.sound.base.places.saved (sym k.heap_limit) (sym k.trail_limit) ready.sound.base.places.back_to);
            };
          };
          room = room;
          picks = ready.sound.picks;
        };
        here = is;
      };
      left = refl;
      limits = record { heap = k.heap_limit; trail = k.trail_limit; aux = refl; keep = refl; calls = []; told = refl };
      leads = λ g n w run st.
          let r = behind x old g n w run st in
          let v = taken_in x old g n w run st in
          let a = adds_taken r (writing (terms_held (out-Goal x))) w in
          let agrees = agrees_here x old held_none g n w run st in
          let c = live r st.at.ways in
          record {
            world = begun (within_part r) 0 v;
            adds = record { events_are = a.events_are; typed = refl };
            holds = record {
              at = record {
                inside = record {
                  program = st.at.inside.program;
                  entries = c ∷ st.at.inside.entries;
                  lives = c ∷ st.at.inside.lives;
                  lives_are = ap (λ l. c ∷ l) st.at.inside.lives_are ∙ ap (λ l. lives_of l (c ∷ st.at.inside.entries)) (sym kept);
                  saved = m ∷ st.at.inside.saved;
                  keeps = saved1 (m ∷ st.at.inside.saved) (saved0 st.at.inside.saved st.at.inside.keeps);
                  choices = subst (λ l. AreChoices g xs fs l (m ∷ st.at.inside.saved) (c ∷ st.at.inside.entries)) (sym kept) (subst (λ ws. IsChoice g xs fs o m ws c) st.at.ways_are (choice_is g r st.at.ways agrees st.at.tag st.at.stop), st.at.inside.choices);
                  world = st.at.inside.world;
                  peak = peak_begun store1 (within_part r) 0 v (agrees1 r agrees) (omega (arith, peak_here x old held_none g n w run st, k.heap_limit));
                };
                ways = way r ∷ st.at.ways;
                ways_are = ap (λ l. way r ∷ l) st.at.ways_are ∙ ap (λ l. ways_of l (c ∷ st.at.inside.entries)) (sym kept);
                registers = within_part r;
                agrees = agrees1 r agrees;
                tag = ap (λ i. i + 1) st.at.tag;
                stop = ap Some st.at.tag;
              };
              stands = subst (λ l. Stands g (c ∷ st.at.inside.lives) (way r ∷ st.at.ways) (path_of l (within_part r)) n (begun (within_part r) 0 v) run) (ap (λ i. goals_at env old.here.tag goals.now ++ Leave i r.stoppable ∷ steps_of old) st.at.tag ∙ ap (λ i. goals_at env old.here.tag goals.now ++ Leave t i ∷ steps_of old) st.at.stop ∙ sym same_first) (stands g n w run st);
            };
          };
    }
