-- Values were put behind the Refs, in a store that may have grown.
use Rattle.std.proofs.Common.{◌≡◌, ◌≤◌, List, ◌++◌, sym, ap, subst, arith, length, length-append, take}
use Rattle.std.specs.Prelude.{reverse}
use Rattle.std.specs.List.{All}
use Rattle.std.proofs.lemmas.List.Elements.{All-append}
use Rattle.std.specs.declared.vec.Vec.{Vec}
use Rattle.std.specs.declared.alloc.Global.{Global}
use Rattle.dg_meaning.specs.World.{Game}
use Rattle.dg_meaning.specs.inside.Context.{Live}
use Rattle.dg_unify.specs.Store.{Store, Saved, Kept, Holds}
use Rattle.dg_unify.specs.declared.bindings.Ref.{Ref}
use Rattle.dg_unify.specs.declared.list.ListBindings.{ListBindings}
use Rattle.dg_choices.specs.declared.frames.Frame.{Frame}
use Rattle.dg_choices.specs.declared.frames.Choice.{Choice}
use Rattle.dg_interp.specs.declared.engine.Engine.{Engine}
use Rattle.dg_interp.specs.inside.Frames.{values_in, AreChoices, GoBackTo}
use Rattle.dg_interp.specs.inside.Engine.{store_in, KeepsPlaces, Sound, IsReady}
use Rattle.dg_interp.proofs.Links.{SameBy, same_here, frames_raise, choices_same, back_same, stand_raise}
use Rattle.dg_unify.proofs.StoreLemmas.{all_hold}
use Rattle.dg_interp.proofs.Stores.{values_kept, hold_front, front_same}
use Rattle.dg_interp.proofs.Kept.{back_limits}

module _ (old : Engine) (store1 : ListBindings) (refs1 : Vec Ref Global) (made : List Ref) (ready : IsReady old) (k : Kept (store_in old.store) (store_in store1)) (saved1 : (ms : List Saved) → KeepsPlaces old.store ms → KeepsPlaces store1 ms)
    (is : refs1.items ≡ old.refs.items ++ made) (hold : All (Holds (store_in store1)) made) where
  abbrev s : Store
  s = store_in old.store

  abbrev s1 : Store
  s1 = store_in store1

  abbrev xs : List Ref
  xs = old.refs.items

  abbrev ys : List Ref
  ys = refs1.items

  abbrev fs : List Frame
  fs = old.frames.items

  abbrev os : List Choice
  os = reverse old.choices.items

  pub grown_front : take (length xs) ys ≡ take (length xs) xs
  grown_front = front_same xs made ys is

  pub grown_longer : length xs ≤ length ys
  grown_longer = omega (arith, ap length is, length-append xs made)

  -- values that were there are there still
  pub grown_values : SameBy (length xs) (values_in s xs) (values_in s1 ys)
  grown_values = values_kept (length xs) s s1 xs ys k (hold_front s xs ready.sound.base.hold) grown_front

  pub grown_hold : All (Holds s1) ys
  grown_hold = subst (All (Holds s1)) (sym is) (All-append (Holds s1) xs made (all_hold s s1 xs k ready.sound.base.hold) hold)

  pub grown_back : GoBackTo ys s1.heap_limit s1.trail_limit os ready.sound.base.places.saved
  grown_back =
      back_limits ys s.heap_limit s.trail_limit s1.heap_limit s1.trail_limit os ready.sound.base.places.saved (sym k.heap_limit) (sym k.trail_limit)
      (back_same xs ys fs (length fs) (length xs) old.newest s.heap_limit s.trail_limit os ready.sound.base.places.saved grown_front ready.sound.base.choices ready.sound.base.places.back_to)

  pub grown_base : Sound old.program.now store1 ys fs os old.newest
  grown_base = record {
    program = ready.sound.base.program;
    sound = ready.sound.base.sound;
    hold = grown_hold;
    frames = frames_raise (length fs) (length xs) (length ys) fs grown_longer ready.sound.base.frames;
    choices = stand_raise fs (length fs) (length fs) (length xs) (length ys) old.newest old.newest os (omega arith) grown_longer (omega arith) ready.sound.base.choices;
    places = record { saved = ready.sound.base.places.saved; keeps = saved1 ready.sound.base.places.saved ready.sound.base.places.keeps; back_to = grown_back };
  }

  -- the choices stay
  pub grown_choices : (g : Game) (ms : List Saved) (cs : List Live) → AreChoices g xs fs os ms cs → AreChoices g ys fs os ms cs
  grown_choices g ms cs h = choices_same g xs ys fs fs (length fs) (length xs) old.newest os ms cs grown_front (same_here (length fs) fs) ready.sound.base.choices h
