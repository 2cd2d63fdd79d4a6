-- The start of a run.
use Rattle.std.proofs.Common.{◌≡◌, ℕ, List, [], None, refl, sym, ap, ◌∙◌, subst, arith, length, reverse, vec_capacity, Result, Ok, Err, IfOk, IfErr}
use Rattle.std.specs.Borrow.{Bor}
use Rattle.dg_base.specs.declared.run.Ending.{Ending}
use Rattle.dg_base.specs.declared.run.Limits.{Limits}
use Rattle.dg_base.specs.declared.run.Fault.{Fault}
use Rattle.dg_base.specs.declared.run.Fault.TheVariants.{Read, Write}
use Rattle.dg_base.specs.Streams.{SourceView}
use Rattle.dg_base.specs.Written.{SinkView}
use Rattle.dg_base.proofs.WrittenLemmas.{wrote_nothing}
use Rattle.dg_meaning.specs.World.{Game}
use Rattle.dg_meaning.specs.Render.{render}
use Rattle.dg_arena.specs.Held.{meaning_of}
use Rattle.dg_mid.specs.declared.code.Op.{Op}
use Rattle.dg_mid.specs.declared.code.Code.{Code}
use Rattle.dg_mid.specs.Code.{block_at}
use Rattle.dg_spacing.specs.declared.spacer.Spacer.{Spacer}
use Rattle.dg_spacing.specs.Spacer.{StandsFor}
use Rattle.dg_machine.specs.declared.now.Now.{Now}
use Rattle.dg_machine.specs.declared.now.Now.TheVariants.{Runs}
use Rattle.dg_machine.specs.declared.memory.Memory.{Memory}
use Rattle.dg_machine.specs.declared.tables.Tables.{Tables}
use Rattle.dg_machine.specs.Tables.{IsOf}
use Rattle.dg_base.specs.declared.program.CoreProgram.{CoreProgram}
use Rattle.dg_lasting.specs.Lasting.{StartsLasting}
use Rattle.dg_lasting.specs.declared.lasting.Lasting.{Lasting}
use Rattle.dg_machine.specs.Built.{OpsBuilt, IsBuilt}
use Rattle.dg_machine.specs.Stops.{StopIs, Among}
use Rattle.dg_machine.proofs.StopLemmas.{none_open}
use Rattle.dg_machine.specs.Layout.{Roomy, HoldsWith, limit_in, at_rest}
use Rattle.dg_meaning.specs.Engines.{game}
use Rattle.dg_machine.specs.inside.Running.{HasText, IsAt, IsSomewhereAt, Finishes, BreaksRun}

-- what was emptied has its room
pub record Emptied (r new : Memory) : Type 0 where
  pub frames : new.frames.items ≡ []
  pub inners : new.inners.items ≡ []
  pub choices : new.choices.items ≡ []
  pub stops : new.stops.items ≡ []
  pub kept : new.kept.items ≡ []
  pub args : new.args.items ≡ []
  pub frames_room : vec_capacity new.frames ≡ vec_capacity r.frames
  pub inners_room : vec_capacity new.inners ≡ vec_capacity r.inners
  pub choices_room : vec_capacity new.choices ≡ vec_capacity r.choices
  pub stops_room : vec_capacity new.stops ≡ vec_capacity r.stops
  pub kept_room : vec_capacity new.kept ≡ vec_capacity r.kept
  pub args_room : vec_capacity new.args ≡ vec_capacity r.args
  pub heads_room : vec_capacity new.heads ≡ vec_capacity r.heads
  pub path_room : vec_capacity new.path ≡ vec_capacity r.path
  pub frame : new.frame ≡ 0
  pub inner : new.inner ≡ 0
  pub stop : new.stop ≡ 0

-- memory that was emptied holds nothing
pub cleared : (code : Code) (l : Limits) (r new : Memory) → Roomy l r → (meaning_of new.arena).state ≡ at_rest → (meaning_of new.arena).heap_limit ≡ (meaning_of r.arena).heap_limit → (meaning_of new.arena).trail_limit ≡ (meaning_of r.arena).trail_limit →
    Emptied r new → HoldsWith code l new at_rest [] [] [] [] None
cleared code l r new x state heap trail e =
    let limit : limit_in new ≡ l.heap = heap ∙ x.limits.heap in
    let fs = ap length e.frames in
    let is = ap length e.inners in
    let cs = ap length e.choices in
    let ts = ap length e.stops in
    let ks = ap length e.kept in
    let us = ap length e.args in
    record {
      saves = [];
      stand = (tt, tt);
      state_is = state;
      limits = record { heap = limit; trail = trail ∙ x.limits.trail };
      frames_are = e.frame;
      inner_are = e.inner;
      stop_is = subst (λ n. StopIs [] n None) (sym e.stop) (none_open []);
      choices_are = record {
        points = [];
        means = [];
        are = tt;
        under = tt;
        choices_in = subst (λ ks. Among [] [] (reverse ks) []) (sym e.choices) tt;
        stops_in = subst (λ ks. Among [] [] (reverse ks) []) (sym e.stops) tt;
      };
      room = record {
        frames_fit = omega (arith, limit, x.frames, e.frames_room);
        inners_fit = omega (arith, limit, x.inners, e.inners_room);
        choices_fit = omega (arith, limit, x.choices, e.choices_room);
        stops_fit = omega (arith, limit, x.stops, e.stops_room);
        frames_few = omega (arith, fs);
        inners_few = omega (arith, is);
        choices_few = omega (arith, cs);
        stops_few = omega (arith, ts);
        refs = record { kept_fit = omega (arith, limit, x.kept, e.kept_room); kept_few = omega (arith, ks); args_fit = omega (arith, x.args, e.args_room); args_few = omega (arith, us); heads_fit = omega (arith, x.heads, e.heads_room); path_fit = omega (arith, limit, x.path, e.path_room) };
      };
    }

no_text : (s : Spacer) (k : SinkView) → StandsFor s [] → HasText s k k []
unfolding render
no_text s k new = record { stands = new; wrote = wrote_nothing k }

pub at_start : (code : Code) (p : CoreProgram) (dice : List ℕ) (l : Limits) (typed : List ℕ) (r : Memory) (out : Lasting) (block : Bor (List Op)) (s : Spacer) (k : SinkView) → IsBuilt code → block.now ≡ block_at code 1 → HoldsWith code l r at_rest [] [] [] [] None → r.gathered ≡ 0 → StandsFor s [] → StartsLasting p l dice out → IsAt code (game p dice) l typed r out (Runs block) 0 s k k typed
at_start code p dice l typed r out block s k built is held none new starts = record {
  steps = 0;
  lasting = (starts.stands (game p dice) typed refl refl, starts.keep, starts.aux);
  stands = ((sym is, subst OpsBuilt (sym is) (built.blocks 1)), (held, sym none));
  goals_is = refl;
  text = no_text s k new;
  left_is = refl;
}

pub somewhere_first : (tb : Tables) (code : Code) (p : CoreProgram) (dice : List ℕ) (l : Limits) (r : Memory) (out : Lasting) (block : Bor (List Op)) (i : SourceView) → IsOf p tb → IsBuilt code → block.now ≡ block_at code 1 → HoldsWith code l r at_rest [] [] [] [] None → r.gathered ≡ 0 → StartsLasting p l dice out → IsSomewhereAt tb code r out (Runs block) i
somewhere_first tb code p dice l r out block i is_of built is held none starts typed told = record {
  found = record {
    somewhere = record {
      game = game p dice;
      tabled = is_of;
      limits = l;
      typed = typed;
      steps = 0;
      stands = ((sym is, subst OpsBuilt (sym is) (built.blocks 1)), (held, sym none));
    };
    lasting = (starts.stands (game p dice) typed refl refl, starts.keep, starts.aux);
  };
  left_is = refl;
}

-- room is left whether a run has ended or has met a fault
pub roomy_after : (tb : Tables) (code : Code) (g : Game) (l : Limits) (old new : Memory) (out : Lasting) (start : Now) (steps : ℕ) (s s' : Spacer) (k k' : SinkView) (i i' : SourceView) (result : Result (Ending × ℕ) Fault) → IsOf g.program tb → IfOk result (λ end. Finishes tb code old out start steps s k i end.0 end.1 new s' k' i') → IfErr result (λ f. BreaksRun f tb code old out start steps s k i new s' k' i') →
    ((typed : List ℕ) → IsAt code g l typed old out start 0 s k k typed) → Roomy l new
roomy_after tb code g l old new out start steps s s' k k' i i' (Ok end) is_of ok err at = (ok.ends g is_of l ok.typed k (at ok.typed)).roomy
roomy_after tb code g l old new out start steps s s' k k' i i' (Err Read) is_of ok err at = (err.fails g is_of l err.typed k (at err.typed)).roomy
roomy_after tb code g l old new out start steps s s' k k' i i' (Err Write) is_of ok err at = (err.loses g is_of l err.typed k (at err.typed)).roomy
