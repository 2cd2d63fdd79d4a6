-- A branch begins with these cells and new Refs, and its choice is kept where it stays.
use Rattle.std.proofs.Common.{◌≡◌, ℕ, ◌+◌, ◌≤◌, List, ◌++◌, Bool, refl, sym, ap, ◌∙◌, subst, arith, length, take, length-append}
use Rattle.std.proofs.lemmas.List.Elements.{All-append}
use Rattle.std.specs.Prelude.{reverse}
use Rattle.std.specs.List.{All}
use Rattle.std.specs.declared.vec.Vec.{Vec}
use Rattle.std.specs.declared.alloc.Global.{Global}
use Rattle.dg_meaning.specs.World.{Game, World}
use Rattle.dg_meaning.specs.Path.{Registers, Branch}
use Rattle.dg_meaning.specs.Moves.{path_of}
use Rattle.dg_meaning.specs.Transcript.{Run}
use Rattle.dg_meaning.specs.inside.Context.{Live, stays, pushed}
use Rattle.dg_meaning.specs.inside.Keeps.{Stands, Failed}
use Rattle.dg_unify.specs.Store.{Store, Saved, Holds, Kept}
use Rattle.dg_unify.specs.declared.bindings.Ref.{Ref}
use Rattle.dg_unify.specs.declared.bindings.Mark.{Mark as Place}
use Rattle.dg_unify.specs.declared.list.ListBindings.{ListBindings}
use Rattle.dg_unify.specs.inside.Engines.{Agrees}
use Rattle.dg_choices.specs.declared.frames.Frame.{Frame}
use Rattle.dg_choices.specs.declared.frames.Left.{Left}
use Rattle.dg_choices.specs.declared.frames.Choice.{Choice}
use Rattle.dg_interp.specs.declared.engine.Engine.{Engine}
use Rattle.dg_interp.specs.inside.Frames.{values_in, kind_of, branches_of, lives_of, ways_of, AreChoices, IsLeft, IsOrdinary, StandOn, GoBackTo, stays_with}
use Rattle.dg_interp.specs.inside.Engine.{store_in, KeepsPlaces, HasPlace, Within, There, IsSound, StandsAt, FailsAt, BeginsAt, Silent, steps_of, kept_if, open_in}
use Rattle.dg_lasting.specs.Lasting.{InWorld}
use Rattle.dg_interp.proofs.Links.{SameBy, same_here, branches_same, choices_same, back_same, frames_raise, stand_raise}
use Rattle.dg_unify.proofs.StoreLemmas.{all_hold}
use Rattle.dg_interp.proofs.Stores.{values_kept, hold_front, front_same}
use Rattle.dg_interp.proofs.Kept.{branches_open, kept_places, kept_stand, kept_back, back_limits, kept_choices, kept_lives, kept_ways, branches_stay}

module _ (old : Engine) (left : Left) (b : Bool) (place : Place) (store1 : ListBindings) (refs1 made1 : Vec Ref Global) (choices : Vec Choice Global) (sound : IsSound old) (fits : IsLeft (length old.frames.items) (length old.refs.items) left) (plain : IsOrdinary left) (same_b : b ≡ stays_with left)
    (has : HasPlace old place) (k : Kept (store_in old.store) (store_in store1)) (saved1 : (ms : List Saved) → KeepsPlaces old.store ms → KeepsPlaces store1 ms) (made : List Ref) (is : refs1.items ≡ old.refs.items ++ made) (hold : All (Holds (store_in store1)) made)
    (kept : reverse choices.items ≡ kept_if b (record { tag = old.newest; left = left; height = length old.frames.items; refs = length old.refs.items; gathered = open_in old; place = place; stoppable = old.stoppable }) (reverse old.choices.items)) where
  abbrev s : Store
  s = store_in old.store

  abbrev s1 : Store
  s1 = store_in store1

  abbrev fs : List Frame
  fs = old.frames.items

  abbrev xs : List Ref
  xs = old.refs.items

  abbrev ys : List Ref
  ys = refs1.items

  abbrev os : List Choice
  os = reverse old.choices.items

  abbrev o : Choice
  o = record { tag = old.newest; left = left; height = length fs; refs = length xs; gathered = open_in old; place = place; stoppable = old.stoppable }

  -- the engine, with a frame at hand
  abbrev pub begun_engine : Frame → Engine
  begun_engine here = record old { store = store1; refs = refs1; choices = choices; made = made1; here = here }

  pub front : take (length xs) ys ≡ take (length xs) xs
  front = front_same xs made ys is

  longer : length xs ≤ length ys
  longer = omega (arith, ap length is, length-append xs made)

  -- values that were there are there still
  pub begun_values : SameBy (length xs) (values_in s xs) (values_in s1 ys)
  begun_values = values_kept (length xs) s s1 xs ys k (hold_front s xs sound.base.hold) front

  pub stand : StandOn fs (length fs) (length xs) old.newest (kept_if b o os)
  stand = kept_stand b fs (length fs) (length xs) old.newest o os (omega arith) (omega arith) (omega arith) fits same_b plain sound.base.frames sound.base.choices

  pub begun_limits : (here : Frame) → Silent old (begun_engine here)
  begun_limits here = record { heap = k.heap_limit; trail = k.trail_limit; aux = refl; keep = refl; told = refl }

  pub begun_sound : (here : Frame) → IsSound (begun_engine here)
  begun_sound here = record {
    base = record {
      program = sound.base.program;
      sound = sound.base.sound;
      hold = subst (All (Holds s1)) (sym is) (All-append (Holds s1) xs made (all_hold s s1 xs k sound.base.hold) hold);
      frames = frames_raise (length fs) (length xs) (length ys) fs longer sound.base.frames;
      choices = subst (StandOn fs (length fs) (length ys) old.newest) (sym kept) (stand_raise fs (length fs) (length fs) (length xs) (length ys) old.newest old.newest (kept_if b o os) (omega arith) longer (omega arith) stand);
      places = record {
        saved = kept_if b has.back has.saved;
        keeps = saved1 _ (kept_places b old.store has.back has.saved has.is.keeps);
        back_to = subst (λ l. GoBackTo ys s1.heap_limit s1.trail_limit l (kept_if b has.back has.saved)) (sym kept)
            (kept_back b ys s1.heap_limit s1.trail_limit o os has.back has.saved has.is.place_is (subst (All (Holds has.back.store)) (sym front) (hold_front has.back.store xs has.is.hold))
            (sym (k.heap_limit ∙ has.is.kept.heap_limit)) (sym (k.trail_limit ∙ has.is.kept.trail_limit))
            (back_limits ys s.heap_limit s.trail_limit s1.heap_limit s1.trail_limit os has.saved (sym k.heap_limit) (sym k.trail_limit) (back_same xs ys fs (length fs) (length xs) old.newest s.heap_limit s.trail_limit os has.saved front sound.base.choices has.back_to)));
      };
    };
    room = sound.room;
    picks = sound.picks;
  }

  module _ (all : Left) (kind : kind_of left ≡ kind_of all) (g : Game) (n : ℕ) (w : World) (run : Run) (st : BeginsAt all place old g n w run) where
    abbrev r : Registers
    r = st.at.registers

    abbrev others : List Branch
    others = branches_of g (values_in s xs) fs (length fs) left r

    -- the choice that the meaning keeps
    abbrev pub begun_live : Live
    begun_live = record { kind = kind_of all; tag = r.next_tag; others = others; height = open_in old; ways_on = st.at.ways }

    pub are : others ≡ branches_of g (values_in st.back.store xs) fs (length fs) left r
    are =
        branches_same g (length fs) (length xs) (values_in st.back.store xs) (values_in s xs) fs fs left r fits sound.base.frames (values_kept (length xs) st.back.store s xs xs st.is.kept (hold_front st.back.store xs st.is.hold) refl) (same_here (length fs) fs)

    pub stays_so : b ≡ stays (kind_of all) others
    stays_so = same_b ∙ sym (branches_stay g (values_in s xs) fs (length fs) left r) ∙ ap (λ q. stays q others) kind

    abbrev inside_begun : (v : World) → InWorld old.lasting g v → v.meters.heap ≤ s1.heap_limit → Within old.program.now old.lasting store1 ys fs (reverse choices.items) g v
    inside_begun v world peak = record {
      program = st.at.inside.program;
      entries = kept_if b begun_live st.at.inside.entries;
      lives = pushed begun_live st.at.inside.lives;
      lives_are = kept_lives b o os begun_live st.at.inside.entries st.at.inside.lives stays_so plain st.at.inside.lives_are ∙ ap (λ l. lives_of l (kept_if b begun_live st.at.inside.entries)) (sym kept);
      saved = kept_if b st.back st.at.inside.saved;
      keeps = saved1 _ (kept_places b old.store st.back st.at.inside.saved st.is.keeps);
      choices = subst (λ l. AreChoices g ys fs l (kept_if b st.back st.at.inside.saved) (kept_if b begun_live st.at.inside.entries)) (sym kept)
          (choices_same g xs ys fs fs (length fs) (length xs) old.newest (kept_if b o os) (kept_if b st.back st.at.inside.saved) (kept_if b begun_live st.at.inside.entries) front (same_here (length fs) fs) stand
          (kept_choices g xs fs o os (open_in old) st.back st.at.inside.saved st.at.inside.entries r (kind_of all) st.at.ways others b (branches_open g (values_in s xs) fs (length fs) left r (open_in old) plain) are (sym kind) st.at.tag st.at.stop st.at.ways_are st.back_agrees (hold_front st.back.store xs st.is.hold) st.is.place_is st.at.inside.choices));
      world = world;
      peak = peak;
    }

    -- the engine is there then
    abbrev pub begun_there : (here : Frame) (v : World) (r' : Registers) → InWorld old.lasting g v → v.meters.heap ≤ s1.heap_limit → Agrees s1 r' → r'.next_tag ≡ old.newest + 1 → r'.stoppable ≡ r.stoppable → There (begun_engine here) (old.newest + 1) g v
    begun_there here v r' world peak agrees tag part = record {
      inside = inside_begun v world peak;
      ways = st.at.ways;
      ways_are = st.at.ways_are ∙ kept_ways b o os begun_live st.at.inside.entries plain ∙ ap (λ l. ways_of l (kept_if b begun_live st.at.inside.entries)) (sym kept);
      registers = r';
      agrees = agrees;
      tag = tag;
      stop = part ∙ st.at.stop;
    }

    -- the run comes from where it is
    pub begun_stands : (here : Frame) (v : World) (r' : Registers) → InWorld old.lasting g v → v.meters.heap ≤ s1.heap_limit → Agrees s1 r' → r'.next_tag ≡ old.newest + 1 → r'.stoppable ≡ r.stoppable → Stands g (pushed begun_live st.at.inside.lives) st.at.ways (path_of (steps_of (begun_engine here)) r') n v run → StandsAt (begun_engine here) g n v run
    begun_stands here v r' world peak agrees tag part stands = record { at = begun_there here v r' world peak agrees tag part; stands = stands }

    -- or from its failure
    pub begun_fails : (here : Frame) (v : World) → InWorld old.lasting g v → v.meters.heap ≤ s1.heap_limit → Failed g (pushed begun_live st.at.inside.lives) n v run → FailsAt (begun_engine here) g n v run
    begun_fails here v world peak failed = record { inside = inside_begun v world peak; failed = failed }
