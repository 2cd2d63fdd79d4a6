-- A frame begins, in front of the branches that are left.
use Rattle.std.proofs.Common.{◌≡◌, ℕ, ◌+◌, List, [], ◌∷◌, ◌++◌, refl, sym, ap, ◌∙◌, subst, arith, length, Bool, Bor}
use Rattle.std.specs.Prelude.{reverse}
use Rattle.std.proofs.lemmas.List.{append-nil}
use Rattle.std.specs.declared.vec.Vec.{Vec}
use Rattle.std.specs.declared.alloc.Global.{Global}
use Rattle.dg_base.specs.declared.program.Goal.{Goal}
use Rattle.dg_meaning.specs.World.{Game, World}
use Rattle.dg_meaning.specs.Path.{Registers, Branch, Moves, GoesOn}
use Rattle.dg_meaning.specs.Moves.{begun, inside, enter, path_of, goals_at, list_branches}
use Rattle.dg_meaning.specs.Transcript.{Run}
use Rattle.dg_meaning.specs.inside.Context.{Live, Way, pushed}
use Rattle.dg_meaning.specs.inside.Keeps.{Stands, Tried}
use Rattle.dg_meaning.proofs.Keeps.{has_happened}
use Rattle.std.specs.List.{All}
use Rattle.dg_unify.specs.Store.{State, Store, Saved, Holds, Kept, Charged}
use Rattle.dg_unify.specs.declared.bindings.Full.{Full}
use Rattle.dg_unify.specs.declared.bindings.Full.TheVariants as full
use Rattle.dg_unify.specs.declared.bindings.Mark.{Mark as Place}
use Rattle.dg_unify.specs.declared.list.ListBindings.{ListBindings}
use Rattle.dg_choices.specs.declared.frames.Env.{Env}
use Rattle.dg_choices.specs.declared.frames.Frame.{Frame}
use Rattle.dg_choices.specs.declared.frames.Choice.{Choice}
use Rattle.dg_choices.specs.declared.frames.Mark.TheVariants.{Nothing}
use Rattle.dg_choices.specs.declared.frames.Left.{Left}
use Rattle.dg_choices.specs.declared.frames.Left.TheVariants.{Lists, Ways, Way as OneWay}
use Rattle.dg_interp.specs.declared.engine.Engine.{Engine}
use Rattle.dg_terms.specs.Terms.{Overflows}
use Rattle.dg_interp.specs.inside.Frames.{values_in, steps_behind, steps_at, kind_of, branches_of, IsFrame, IsLeft, IsOrdinary, BeginsWith, has_some, stays_with, cells_if}
use Rattle.dg_unify.specs.inside.Engines.{Agrees}
use Rattle.dg_interp.specs.inside.Engine.{store_in, KeepsPlaces, HasPlace, Point, IsSound, BeginsAt, FullAt, WentOn, open_in, kept_if}
use Rattle.dg_interp.proofs.Links.{same_here, at_same}
use Rattle.dg_interp.proofs.Kept.{cells_same}
use Rattle.dg_interp.proofs.Begun.{begun_values, begun_sound, begun_stands}
use Rattle.dg_interp.proofs.Places.{peak_begun}

-- ## The branches that are left begin with a frame

pub ways_begin : (height : ℕ) (first other : Frame) → BeginsWith height first (OneWay other) (Ways first other)
ways_begin height first other = record { kind = refl; work = 0; branches = λ g values fs r. refl }

pub list_begins : (height : ℕ) (env : Env) (tag : ℕ) (lists others : Bor (List (List Goal))) (goals : Bor (List Goal)) (list : List Goal) → lists.now ≡ list ∷ others.now → goals.now ≡ list → BeginsWith height (record { goals = goals; env = env; tag = tag; mark = Nothing; behind = height }) (Lists env tag others) (Lists env tag lists)
list_begins height env tag lists others goals list split is = record {
  kind = refl;
  work = 1;
  branches = λ g values fs r.
      let steps = steps_behind values fs height in
      ap (list_branches (values env) tag steps r) split
      ∙ ap (λ n. enter n 1 r (goals_at (values env) tag list ++ steps) ∷ list_branches (values env) tag steps r others.now) (cells_same others.now)
      ∙ ap (λ l. enter (cells_if (has_some others.now)) 1 r (goals_at (values env) tag l ++ steps) ∷ list_branches (values env) tag steps r others.now) (sym is);
}

pub list_begins_at : (height behind : ℕ) (env : Env) (tag : ℕ) (lists others : Bor (List (List Goal))) (goals : Bor (List Goal)) (list : List Goal) → behind ≡ height → lists.now ≡ list ∷ others.now → goals.now ≡ list → BeginsWith height (record { goals = goals; env = env; tag = tag; mark = Nothing; behind = behind }) (Lists env tag others) (Lists env tag lists)
list_begins_at height behind env tag lists others goals list at split is =
    subst (λ b. BeginsWith height (record { goals = goals; env = env; tag = tag; mark = Nothing; behind = b }) (Lists env tag others) (Lists env tag lists)) (sym at) (list_begins height env tag lists others goals list split is)

module _ (old : Engine) (frame : Frame) (others : Left) (b : Bool) (place : Place) (store1 : ListBindings) (choices : Vec Choice Global) (sound : IsSound old) (is : IsFrame (length old.frames.items) (length old.refs.items) frame)
    (left : IsLeft (length old.frames.items) (length old.refs.items) others) (plain : IsOrdinary others) (same_b : b ≡ stays_with others) (has : HasPlace old place) (k1 : Kept (store_in old.store) (store_in store1)) (saved1 : (ms : List Saved) → KeepsPlaces old.store ms → KeepsPlaces store1 ms) where
  abbrev s : Store
  s = store_in old.store

  abbrev s1 : Store
  s1 = store_in store1

  abbrev fs : List Frame
  fs = old.frames.items

  abbrev os : List Choice
  os = reverse old.choices.items

  abbrev heap : ℕ
  heap = cells_if b

  abbrev o : Choice
  o = record { tag = old.newest; left = others; height = length fs; refs = length old.refs.items; gathered = open_in old; place = place; stoppable = old.stoppable }

  abbrev the_others : Game → Registers → List Branch
  the_others g r = branches_of g (values_in s old.refs.items) fs (length fs) others r

  module _ (all : Left) (with : BeginsWith (length fs) frame others all) where
    abbrev from : Point
    from = BeginsAt all place old

    abbrev lives_now : Game → Registers → List Live → List Way → List Live
    lives_now g r lives ways = pushed (record { kind = kind_of all; tag = r.next_tag; others = the_others g r; height = open_in old; ways_on = ways }) lives

    stands : (g : Game) (n : ℕ) (w : World) (run : Run) (st : from g n w run) → Stands g (lives_now g st.at.registers st.at.inside.lives st.at.ways) st.at.ways (path_of (steps_at (values_in s old.refs.items) fs frame) (inside heap st.at.registers)) n (begun (inside heap st.at.registers) with.work w) run
    stands g n w run st =
        let r = st.at.registers in
        subst (λ h. Stands g (lives_now g r st.at.inside.lives st.at.ways) st.at.ways (path_of (steps_at (values_in s old.refs.items) fs frame) (inside h r)) n (begun (inside h r) with.work w) run) (ap cells_if (sym same_b))
        (subst (λ l. Tried g (kind_of all) r.next_tag (open_in old) st.at.ways st.at.inside.lives l n w run) (with.branches g (values_in s old.refs.items) fs r) st.tried)

    pub frame_full : (e : Full) → Overflows heap s e → FullAt from s e
    frame_full full.Heap h = λ g n w run st.
        let path = path_of (steps_at (values_in s old.refs.items) fs frame) (inside heap st.at.registers) in
        let later = (has_happened g _ st.at.ways n (Moves (GoesOn path (begun (inside heap st.at.registers) with.work w))) run (stands g n w run st)).meters in
        omega (arith, later.heap, h, st.at.agrees.heap)
    frame_full full.Trail h = absurd h
    frame_full full.OutOfMemory h = tt

    module _ (charged : Charged heap s s1) (kept : reverse choices.items ≡ kept_if b o os) where
      abbrev new : Engine
      new = record old { store = store1; choices = choices; here = frame }

      agrees_now : (r : Registers) → Agrees s r → Agrees s1 (inside heap r)
      agrees_now r a =
          let now = charged.state in
          record {
            bound = a.bound ∙ ap (λ (t : State). t.subst) (sym now);
            vars = a.vars ∙ ap (λ (t : State). t.vars) (sym now);
            heap = omega (arith, a.heap, ap (λ (t : State). t.heap) now);
            trail = omega (arith, a.trail, ap (λ (t : State). t.trail) now);
            since = omega (arith, a.since, ap (λ (t : State). t.since) now, ap (λ (t : State). t.vars) now);
          }

      no_refs : old.refs.items ≡ old.refs.items ++ []
      no_refs = sym (append-nil old.refs.items)

      none_held : All (Holds s1) []
      none_held = λ i d lt. absurd (omega arith)

      pub frame_begun : WentOn from old new
      frame_begun = record {
        ready = record { sound = begun_sound old others b place store1 old.refs old.made choices sound left plain same_b has k1 saved1 [] no_refs none_held kept frame; here = is };
        left = refl;
        limits = record { heap = k1.heap_limit; trail = k1.trail_limit; aux = refl; keep = refl; calls = []; told = refl };
        leads = λ g n w run st.
            let r = st.at.registers in
            let v = begun (inside heap r) with.work w in
            let same = at_same (length old.refs.items) (values_in s old.refs.items) (values_in s1 old.refs.items) fs fs (length fs) frame is
            (begun_values old others b place store1 old.refs old.made choices sound left plain same_b has k1 saved1 [] no_refs none_held kept) sound.base.frames (same_here (length fs) fs) in
            record {
              world = v;
              adds = record { events_are = refl; typed = refl };
              holds = begun_stands old others b place store1 old.refs old.made choices sound left plain same_b has k1 saved1 [] no_refs none_held kept all with.kind g n w run st frame v (inside heap r) st.at.inside.world (peak_begun store1 (inside heap r) with.work w (agrees_now r st.at.agrees) (omega (arith, st.at.inside.peak, k1.heap_limit))) (agrees_now r st.at.agrees) (ap (λ i. i + 1) st.at.tag) refl
                  (subst (λ l. Stands g (lives_now g r st.at.inside.lives st.at.ways) st.at.ways (path_of l (inside heap r)) n v run) (sym same) (stands g n w run st));
            };
      }
