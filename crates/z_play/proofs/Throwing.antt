-- Frames that are dropped one by one.
use Rattle.std.proofs.Common.{◌≡◌, ◌≢◌, ℕ, ◌+◌, ◌-◌, ◌<◌, ◌≤◌, List, ◌∷◌, length, drop, Result, refl, sym, ap, subst, ◌∙◌, arith}
use Rattle.z_model.specs.declared.fault.ZFault.{ZFault}
use Rattle.z_model.specs.declared.story.Layout.{Layout}
use Rattle.z_model.specs.Machine.{Frame, Machine}
use Rattle.z_model.specs.Flow.{in_frames, returned, frames_thrown}
use Rattle.z_play.specs.declared.engine.Engine.{Engine}
use Rattle.z_play.specs.View.{machine, layout_in, Sound, Kept, Sets}
use Rattle.z_play.proofs.Entered.{callers_long}
use Rattle.z_play.proofs.Returns.{one_dropped, is_thrown}
use Rattle.z_play.proofs.Rights.{kept_then}

abbrev frames_of : Engine → List Frame
frames_of e = (machine e).here ∷ (machine e).callers

-- The frames above a depth were dropped, and none below this one.
pub record Dropping (old new : Engine) (frame : ℕ) : Type 0 where
  pub kept : Kept old new
  pub above : new.depth ≤ old.depth
  pub below : frame ≤ new.depth
  pub is : machine new ≡ in_frames (machine old) (drop (old.depth - new.depth) (frames_of old))

pub drop_starts : (e : Engine) (frame : ℕ) → Sound e → frame ≤ e.depth → Dropping e e frame
drop_starts e frame sound le =
    let none : e.depth - e.depth ≡ 0 = omega arith in
    record { kept = record { sound = sound; layout = refl; memory = refl }; above = omega arith; below = le; is = rw none refl }

pub drop_goes : (old here new : Engine) (frame : ℕ) → Sound old → 0 < frame → Dropping old here frame → frame < here.depth → Kept here new → in_frames (machine here) (machine here).callers ≡ machine new → new.depth + 1 ≡ here.depth → Dropping old new frame
drop_goes old here new frame sound some d lt kept dropped one =
    let long = callers_long old sound in
    let above = d.above in
    let more : old.depth - new.depth ≡ old.depth - here.depth + 1 = omega arith in
    record {
      kept = kept_then old here new d.kept kept;
      above = omega arith;
      below = omega arith;
      is = sym dropped ∙ ap (λ (m : Machine). in_frames m m.callers) d.is
          ∙ one_dropped (machine old) (frames_of old) (old.depth - here.depth) (omega arith)
          ∙ ap (λ (n : ℕ). in_frames (machine old) (drop n (frames_of old))) (sym more);
    }

pub drop_ends : {X : Type 0} (old here : Engine) (new : Machine) (frame x : ℕ) (r : Result X ZFault) → Sound old → frame ≢ 0 → Dropping old here frame → here.depth ≤ frame → Sets r new (returned (layout_in here) (machine here) x) → Sets r new (frames_thrown (layout_in old) (machine old) x frame)
drop_ends old here new frame x r sound some d le sets =
    let long = callers_long old sound in
    let above = d.above in
    let below = d.below in
    let same : here.depth ≡ frame = omega arith in
    let count : length (machine old).callers - frame ≡ old.depth - here.depth = omega arith in
    let all : frames_thrown (layout_in old) (machine old) x frame ≡ returned (layout_in here) (machine here) x =
    is_thrown (layout_in old) (machine old) x frame some (omega arith)
    ∙ ap (λ (n : ℕ). returned (layout_in old) (in_frames (machine old) (drop n (frames_of old))) x) count
    ∙ ap (λ (m : Machine). returned (layout_in old) m x) (sym d.is)
    ∙ ap (λ (layout : Layout). returned layout (machine here) x) (sym d.kept.layout) in
    subst (λ (q : Result Machine ZFault). Sets r new q) (sym all) sets
