-- A choice opens where a goal is done.
use Rattle.std.proofs.Common.{◌≡◌, ℕ, suc, ◌+◌, ◌^◌, ◌<◌, List, [], ◌∷◌, ◌++◌, refl, sym, ap, ◌∙◌, subst, arith, length, length-append, true}
use Rattle.std.specs.List.{All}
use Rattle.std.specs.Prelude.{reverse}
use Rattle.std.specs.declared.vec.Vec.{Vec}
use Rattle.std.specs.declared.alloc.Global.{Global}
use Rattle.dg_base.specs.declared.program.Goal.{Goal, out-Goal}
use Rattle.dg_base.specs.Goals.{terms_held}
use Rattle.dg_meaning.specs.Values.{Value}
use Rattle.dg_meaning.specs.World.{Game, World}
use Rattle.dg_meaning.specs.Cells.{writing}
use Rattle.dg_meaning.specs.Path.{Step, Do, Registers, Branch, Plain}
use Rattle.dg_meaning.specs.Moves.{choice, outcome, path_of}
use Rattle.dg_meaning.specs.Transcript.{Run}
use Rattle.dg_meaning.specs.inside.Context.{Way, Live}
use Rattle.dg_meaning.specs.inside.Keeps.{After, Stands, Tried}
use Rattle.dg_unify.specs.Store.{Store, State, Saved, Holds, Kept, marked}
use Rattle.dg_unify.specs.Laws.{saves_drops}
use Rattle.dg_unify.specs.Listed.{fields_of}
use Rattle.dg_unify.specs.declared.bindings.Ref.{Ref}
use Rattle.dg_unify.specs.declared.bindings.Mark.{Mark as Place}
use Rattle.dg_unify.specs.declared.list.ListBindings.{ListBindings}
use Rattle.dg_choices.specs.declared.frames.Env.{Env}
use Rattle.dg_choices.specs.declared.frames.Frame.{Frame}
use Rattle.dg_choices.specs.declared.frames.Choice.{Choice}
use Rattle.dg_choices.specs.declared.frames.Left.{Left}
use Rattle.dg_choices.specs.declared.frames.Left.TheVariants.{Rules, Lists, Ways, Way as OneWay, Behind, TakeOut, Things}
use Rattle.dg_interp.specs.declared.engine.Engine.{Engine}
use Rattle.dg_interp.specs.inside.Frames.{values_in, steps_behind, steps_at, kind_of, branches_of, AreChoices, AreFrames, IsLeft, IsFrame, StandOn, GoBackTo, IsOrdinary, TakesNewest}
use Rattle.dg_unify.specs.inside.Engines.{Agrees}
use Rattle.dg_interp.specs.inside.Engine.{store_in, KeepsPlaces, HasPlace, IsPlace, BeginsAt, steps_of, IsSound, IsReady, There, TakesAt, OpensAt, open_in, IsPushed, Leads, Silent}
use Rattle.dg_interp.proofs.Links.{same_here, same_append, same_values, behind_new, at_same, frame_raise, frames_append, choices_same, stand_raise, stand_same, branches_same}
use Rattle.dg_unify.proofs.StoreLemmas.{kept_same, all_hold}
use Rattle.dg_interp.proofs.Stores.{values_kept, hold_front}
use Rattle.dg_interp.proofs.Kept.{back_limits}
use Rattle.dg_interp.proofs.Places.{inside_in, open_still, adds_nothing}
use Rattle.dg_interp.proofs.Takes.{behind, taken_in, comes_of, adds_taken, agrees_here, peak_here}

-- a choice between goals is tried
pub chosen : (g : Game) (lives : List Live) (ways : List Way) (n : ℕ) (run : Run) (t : ℕ) (bs : List Branch) (w : World) → After g lives ways n (choice Plain t bs w) run → Tried g Plain t (length w.gathered) ways lives bs n w run
chosen g lives ways n run t [] w h = h
chosen g lives ways n run t (b ∷ bs) w h = h

-- a goal without terms
module _ (x : Goal) (old : Engine) (none : terms_held (out-Goal x) ≡ []) where
  -- what comes of it is a choice with these branches
  abbrev pub IsChoiceOf : Left → Type 0
  IsChoiceOf left = (g : Game) (r : Registers) (w : World) → old.program.now ≡ g.program → r.next_tag ≡ old.newest + 1 →
      outcome g (out-Goal x) (values_in (store_in old.store) old.refs.items old.here.env) old.here.tag (steps_of old) r w ≡ choice (kind_of left) r.next_tag (branches_of g (values_in (store_in old.store) old.refs.items) old.frames.items (length old.frames.items) left r) w

  pub opens : (left : Left) → kind_of left ≡ Plain → IsChoiceOf left → Leads (TakesAt x old) (OpensAt left old)
  opens left plain is g n w run st =
      let r = behind x old g n w run st in
      let v = taken_in x old g n w run st in
      record {
        world = v;
        adds = adds_taken r (writing (terms_held (out-Goal x))) w;
        holds = record {
          at = record {
            inside = inside_in _ st.at.inside.world (peak_here x old none g n w run st) st.at.inside;
            ways = st.at.ways;
            ways_are = st.at.ways_are;
            registers = r;
            agrees = agrees_here x old none g n w run st;
            tag = st.at.tag;
            stop = st.at.stop;
          };
          tried =
              let bs = branches_of g (values_in (store_in old.store) old.refs.items) old.frames.items (length old.frames.items) left r in
              let here : After g st.at.inside.lives st.at.ways n (choice Plain r.next_tag bs v) run =
              subst (λ m. After g st.at.inside.lives st.at.ways n m run) (is g r v st.at.inside.program st.at.tag ∙ ap (λ k. choice k r.next_tag bs v) plain) (comes_of x old g n w run st) in
              subst (λ k. Tried g k r.next_tag (open_in old) st.at.ways st.at.inside.lives bs n v run) (sym plain)
              (subst (λ i. Tried g Plain r.next_tag i st.at.ways st.at.inside.lives bs n v run) (sym (open_still old.lasting g w st.at.inside.world)) (chosen g st.at.inside.lives st.at.ways n run r.next_tag bs v here));
        };
      }

-- ## A frame behind the others

module _ (old : Engine) (frame : Frame) (frames : Vec Frame Global) (ready : IsReady old) (is : IsFrame (length old.frames.items) (length old.refs.items) frame) (pushed_on : frames.items ≡ old.frames.items ++ frame ∷ []) where
  abbrev fs : List Frame
  fs = old.frames.items

  abbrev gs : List Frame
  gs = fs ++ frame ∷ []

  abbrev n : ℕ
  n = length old.refs.items

  abbrev vs : Env → List Value
  vs = values_in (store_in old.store) old.refs.items

  abbrev os : List Choice
  os = reverse old.choices.items

  abbrev new : Engine
  new = record old { frames = frames }

  count : length gs ≡ length fs + 1
  count = length-append fs (frame ∷ [])

  stand : StandOn gs (length gs) n old.newest os
  stand = stand_raise gs (length fs) (length gs) n n old.newest old.newest os (omega (arith, count)) (omega arith) (omega arith) (stand_same fs gs (length fs) n old.newest os (same_append fs frame) ready.sound.base.choices)

  pub frame_pushed : IsPushed frame old new
  frame_pushed = record {
    ready = record {
      sound = record {
        base = record {
          program = ready.sound.base.program;
          sound = ready.sound.base.sound;
          hold = ready.sound.base.hold;
          frames = subst (λ (l : List Frame). AreFrames (length l) n l) (sym pushed_on) (frames_append n fs frame ready.sound.base.frames is);
          choices = subst (λ (l : List Frame). StandOn l (length l) n old.newest os) (sym pushed_on) stand;
          places = record { saved = ready.sound.base.places.saved; keeps = ready.sound.base.places.keeps; back_to = ready.sound.base.places.back_to };
        };
        room = ready.sound.room;
        picks = ready.sound.picks;
      };
      here = subst (λ (l : List Frame). IsFrame (length l) n old.here) (sym pushed_on) (frame_raise (length fs) (length gs) n n old.here (omega (arith, count)) (omega arith) ready.here);
    };
    frames = pushed_on;
    same = refl;
  }

  pub pushed_behind : steps_behind vs frames.items (length frames.items) ≡ steps_at vs fs frame
  pushed_behind =
      ap (λ (l : List Frame). steps_behind vs l (length l)) pushed_on ∙ ap (steps_behind vs gs) count
      ∙ behind_new n vs fs frame ready.sound.base.frames is.older

  pub pushed_same : (f : Frame) → IsFrame (length fs) n f → steps_at vs frames.items f ≡ steps_at vs fs f
  pushed_same f h = ap (λ (l : List Frame). steps_at vs l f) pushed_on ∙ at_same n vs vs fs gs (length fs) f h (same_values n vs) ready.sound.base.frames (same_append fs frame)

  abbrev pub pushed_there : (next : ℕ) (g : Game) (w : World) → There old next g w → There new next g w
  pushed_there next g w at = record {
    inside = record {
      program = at.inside.program;
      entries = at.inside.entries;
      lives = at.inside.lives;
      lives_are = at.inside.lives_are;
      saved = at.inside.saved;
      keeps = at.inside.keeps;
      choices = subst (λ l. AreChoices g old.refs.items l os at.inside.saved at.inside.entries) (sym pushed_on) (choices_same g old.refs.items old.refs.items fs gs (length fs) n old.newest os at.inside.saved at.inside.entries refl (same_append fs frame) ready.sound.base.choices at.inside.choices);
      world = at.inside.world;
      peak = at.inside.peak;
    };
    ways = at.ways;
    ways_are = at.ways_are;
    registers = at.registers;
    agrees = at.agrees;
    tag = at.tag;
    stop = at.stop;
  }

  pub pushed_takes : (x : Goal) (g : Game) (k : ℕ) (w : World) (run : Run) → TakesAt x old g k w run → TakesAt x new g k w run
  pushed_takes x g k w run st = record {
    at = pushed_there (old.newest + 1) g w st.at;
    stands = subst (λ (l : List Step). Stands g st.at.inside.lives st.at.ways (path_of (Do x (vs old.here.env) old.here.tag ∷ l) st.at.registers) (suc k) w run) (sym (pushed_same old.here ready.here)) st.stands;
  }

-- ## A mark, and a new tag

ordinary_newest : (left : Left) (t : ℕ) (w : World) → IsOrdinary left → TakesNewest left t w
ordinary_newest (Rules query args rules) t w h = tt
ordinary_newest (Lists env tag lists) t w h = tt
ordinary_newest (Ways first other) t w h = tt
ordinary_newest (OneWay frame) t w h = tt
ordinary_newest (Behind frame cut) t w h = absurd h
ordinary_newest (TakeOut whole into frame) t w h = absurd h
ordinary_newest (Things trial args) t w h = tt

module _ (old : Engine) (left : Left) (place : Place) (store : ListBindings) (ready : IsReady old) (k : Kept (store_in old.store) (store_in store)) (state : (store_in store).state ≡ marked (store_in old.store).state)
    (saved : (ms : List Saved) → KeepsPlaces old.store ms → KeepsPlaces store (record { mark = place; store = store_in store } ∷ ms)) where
  abbrev opened : Engine
  opened = record old { store = store; newest = old.newest + 1 }

  abbrev t : Store
  t = store_in store

  abbrev refs : List Ref
  refs = old.refs.items

  hold : All (Holds t) refs
  hold = all_hold (store_in old.store) t refs k ready.sound.base.hold

  place_now : (ms : List Saved) → KeepsPlaces old.store ms → IsPlace opened place (record { mark = place; store = t }) ms
  place_now ms h = record { keeps = saved ms h; place_is = refl; hold = hold; kept = kept_same t }

  back_now : GoBackTo refs t.heap_limit t.trail_limit (reverse old.choices.items) ready.sound.base.places.saved
  back_now = back_limits refs _ _ _ _ (reverse old.choices.items) ready.sound.base.places.saved (sym k.heap_limit) (sym k.trail_limit) ready.sound.base.places.back_to

  pub opened_place : HasPlace opened place
  opened_place = record { back = record { mark = place; store = t }; saved = ready.sound.base.places.saved; is = place_now ready.sound.base.places.saved ready.sound.base.places.keeps; back_to = back_now }

  pub opened_limits : Silent old opened
  opened_limits = record { heap = k.heap_limit; trail = k.trail_limit; aux = refl; keep = refl; told = refl }

  pub opened_sound : old.newest + 1 + old.left < 2 ^ 64 → IsSound opened
  opened_sound room = record {
    base = record {
      program = ready.sound.base.program;
      sound = ready.sound.base.sound;
      hold = hold;
      frames = ready.sound.base.frames;
      choices = stand_raise old.frames.items (length old.frames.items) (length old.frames.items) (length refs) (length refs) old.newest (old.newest + 1) (reverse old.choices.items) (omega arith) (omega arith) (omega arith) ready.sound.base.choices;
      places = record { saved = ready.sound.base.places.saved; keeps = saves_drops true (fields_of store) _ _ (saved ready.sound.base.places.saved ready.sound.base.places.keeps); back_to = back_now };
    };
    room = room;
    picks = ready.sound.picks;
  }

  agrees_now : (r : Registers) → Agrees (store_in old.store) r → Agrees t r
  agrees_now r a = record {
    bound = a.bound ∙ ap (λ (u : State). u.subst) (sym state);
    vars = a.vars ∙ ap (λ (u : State). u.vars) (sym state);
    heap = a.heap ∙ ap (λ (u : State). u.heap) (sym state);
    trail = omega (arith, a.trail, ap (λ (u : State). u.trail) state);
    since = omega (arith, ap (λ (u : State). u.since) state, ap (λ (u : State). u.vars) state);
  }

  pub opens_begins : IsOrdinary left → IsLeft (length old.frames.items) (length refs) left → Leads (OpensAt left old) (BeginsAt left place opened)
  opens_begins plain is g n w run st = record {
    world = w;
    adds = adds_nothing w;
    holds = record {
      at = record {
        inside = record {
          program = st.at.inside.program;
          entries = st.at.inside.entries;
          lives = st.at.inside.lives;
          lives_are = st.at.inside.lives_are;
          saved = st.at.inside.saved;
          keeps = saves_drops true (fields_of store) (record { mark = place; store = t }) st.at.inside.saved (place_now st.at.inside.saved st.at.inside.keeps).keeps;
          choices = st.at.inside.choices;
          world = st.at.inside.world;
          peak = omega (arith, st.at.inside.peak, k.heap_limit);
        };
        ways = st.at.ways;
        ways_are = st.at.ways_are;
        registers = st.at.registers;
        agrees = agrees_now st.at.registers st.at.agrees;
        tag = st.at.tag;
        stop = st.at.stop;
      };
      back = record { mark = place; store = t };
      is = place_now st.at.inside.saved st.at.inside.keeps;
      back_agrees = agrees_now st.at.registers st.at.agrees;
      newest = ordinary_newest left st.at.registers.next_tag w plain;
      tried =
          subst (λ l. Tried g (kind_of left) st.at.registers.next_tag (open_in old) st.at.ways st.at.inside.lives l n w run)
          (sym (branches_same g (length old.frames.items) (length refs) (values_in (store_in old.store) refs) (values_in t refs) old.frames.items old.frames.items left st.at.registers is ready.sound.base.frames
          (values_kept (length refs) (store_in old.store) t refs refs k (hold_front (store_in old.store) refs ready.sound.base.hold) refl) (same_here (length old.frames.items) old.frames.items))) st.tried;
    };
  }
