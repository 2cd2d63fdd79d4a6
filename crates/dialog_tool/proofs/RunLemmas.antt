-- From what a machine's run came to, to the answer of the call.
use Rattle.std.proofs.Common.{◌≡◌, ◌+◌, ℕ, List, [], Option, Some, None, inl, inr, refl, subst, arith}
use Rattle.std.specs.Prelude.{IsSome}
use Rattle.dg_base.specs.Causes.{Rose}
use Rattle.dg_base.specs.Written.{SinkView, Wrote, BrokeOff}
use Rattle.dg_base.specs.declared.program.CoreProgram.{CoreProgram as Core}
use Rattle.dg_base.specs.declared.run.Limits.{Limits}
use Rattle.dg_base.specs.declared.run.Outcome.{Outcome}
use Rattle.dg_base.proofs.WrittenLemmas.{wrote_nothing}
use Rattle.dg_machine.specs.Program.{HasLostText, MayWriteText, up_to_goal, to_the_end, up_to_fault}
use Rattle.dg_meaning.specs.Engines.{game, told_behind, left_told, HasShown, HasLostInput}
use Rattle.dg_meaning.specs.Shows.{IsLeft, HasGiven, Shows, ShowsInputFault}
use Rattle.dg_meaning.specs.Transcript.{run, text_of, closed, input_fault_line}
use Rattle.dg_meaning.specs.World.{Game}
use Rattle.z_play.specs.Output.{BrokeBehind}
use Rattle.dialog_tool.specs.Call.{Call, Outside, dice_for}
use Rattle.dialog_tool.specs.Command.{Task, limits_of}
use Rattle.dialog_tool.specs.Promise.{status_of, Leaves, Runs, ran, input_lost, out_lost, EndsProgram, RunsProgram}
use Rattle.dialog_tool.specs.Running.{run_of_game, LosesInput, in_step, in_closing, in_fault_line}
use Rattle.dialog_tool.proofs.Never.{never}

-- ## Typed bytes

-- what is left of bytes that were told
told_leaves : (told left : Option (List ℕ)) (rest : List ℕ) → IsLeft (told_behind told left) rest → IsSome told → IsLeft left rest
told_leaves None left rest h is = never is
told_leaves (Some typed) left rest h is = h

leaves : (c : Call) (rest : List ℕ) → IsLeft (left_told c.input c.input_after) rest → Leaves c rest
leaves c rest h = told_leaves c.input.left c.input_after.left rest h

-- ## A text that shows the run

-- which bytes it leaves
record LeavesSome (g : Game) (typed : List ℕ) (limits : Limits) (bytes : List ℕ) (outcome : Outcome) (left : Option (List ℕ)) : Type 0 where
  rest : List ℕ
  is : IsLeft left rest
  shows : Shows g typed limits bytes outcome (Some rest)

leaving : (g : Game) (typed : List ℕ) (limits : Limits) (bytes : List ℕ) (outcome : Outcome) (left : Option (List ℕ)) → Shows g typed limits bytes outcome left → LeavesSome g typed limits bytes outcome left
leaving g typed limits bytes outcome left (inl h) = record {
  rest = (run g typed limits.steps).world.typed;
  is = h.left_is;
  shows = inl (record { begins = h.begins; text = h.text; ending = h.ending; goals = h.goals; left_is = refl });
}
leaving g typed limits bytes outcome left (inr h) = record {
  rest = h.input.rest;
  is = h.input.left_is;
  shows = inr (record {
    begins = h.begins;
    area = h.area;
    ending = h.ending;
    goals = h.goals;
    passed = h.passed;
    part = h.part;
    text = h.text;
    until = h.until;
    since = h.since;
    none_before_the_first = h.none_before_the_first;
    input = record { rest = h.input.rest; left_is = refl; since = h.input.since; until = h.input.until };
    covers = h.covers;
  });
}

pub run_ended : (c : Call) (o : Outside) (t : Task) (p : Core) (result : ℕ) (outcome : Outcome) → result ≡ status_of outcome.ending
    → HasShown (game p (dice_for c t)) o.typed (limits_of t) outcome (left_told c.input c.input_after) c.out c.out_after → RunsProgram c o t p result
run_ended c o t p result outcome e h =
    let l = leaving (game p (dice_for c t)) o.typed (limits_of t) h.bytes outcome (left_told c.input c.input_after) h.shows in
    ran h.bytes l.rest (outcome, e, l.shows) h.wrote (leaves c l.rest l.is)

-- ## The input failed

-- which bytes are left then
record IsUnread (g : Game) (typed : List ℕ) (limits : Limits) (bytes : List ℕ) (left : Option (List ℕ)) : Type 0 where
  goals : ℕ
  text : bytes ≡ closed (run g typed goals).world.events input_fault_line
  rest : List ℕ
  is : IsLeft left rest
  loses : LosesInput (run_of_game g typed) limits.steps goals rest

unread : (g : Game) (typed : List ℕ) (limits : Limits) (bytes : List ℕ) (left : Option (List ℕ)) → ShowsInputFault g typed limits bytes left → IsUnread g typed limits bytes left
unread g typed limits bytes left h = here left h.is_given
  where
    here : (left : Option (List ℕ)) → HasGiven typed left h.given → IsUnread g typed limits bytes left
    here None given = record {
      goals = h.goals;
      text = h.text;
      rest = (run g typed h.goals).world.typed;
      is = tt;
      loses = record {
        below = h.below;
        goes_on = h.goes_on;
        within = omega arith;
        beyond = elim h.reads [
          | inl wants ↦ inl wants
          | inr takes ↦ inr (omega (arith, takes.1), omega (arith, takes.1))
        ];
      };
    }
    here (Some rest) given = record {
      goals = h.goals;
      text = h.text;
      rest = rest;
      is = refl;
      loses = record {
        below = h.below;
        goes_on = h.goes_on;
        within = omega (arith, given, h.no_more);
        beyond = elim h.reads [
          | inl wants ↦ inl wants
          | inr takes ↦ inr (omega (arith, given, takes.0, takes.1), omega (arith, takes.1))
        ];
      };
    }

pub run_unread : (c : Call) (o : Outside) (t : Task) (p : Core) (result : ℕ) → result ≡ 5 → Rose c.input.faults c.input_after.faults
    → HasLostInput (game p (dice_for c t)) o.typed (limits_of t) c.input_after.left c.out c.out_after → RunsProgram c o t p result
run_unread c o t p result five rose h =
    let u = unread (game p (dice_for c t)) o.typed (limits_of t) h.bytes c.input_after.left h.shows in
    input_lost five rose u.goals u.rest u.loses (subst (λ (l : List ℕ). Wrote c.out c.out_after l) u.text h.wrote) (λ told. u.is)

-- ## The output failed

-- of what may have been written nothing is sure
none_sure : (old new : SinkView) (text : List ℕ) → BrokeOff old new text → BrokeBehind old new [] text
none_sure old new text h = record { mid = old; rest = text; is = refl; wrote = wrote_nothing old; broke = h }

pub run_unwritten : (c : Call) (o : Outside) (t : Task) (p : Core) (result : ℕ) → result ≡ 5
    → HasLostText (game p (dice_for c t)) o.typed (limits_of t) c.input c.input_after c.out c.out_after → RunsProgram c o t p result
run_unwritten c o t p result five h = here h.writing
  where
    lost : (text : List ℕ) → h.bytes ≡ text → BrokeBehind c.out c.out_after [] text
    lost text same = none_sure c.out c.out_after text (subst (λ (l : List ℕ). BrokeOff c.out c.out_after l) same h.broke)

    here : MayWriteText (game p (dice_for c t)) o.typed (limits_of t) c.input c.input_after h.bytes → RunsProgram c o t p result
    here (up_to_goal w) =
        let text = text_of (run (game p (dice_for c t)) o.typed (w.goals + 1)).world.events in
        out_lost five h.broke.rose 0 [] text w.input.rest
        (in_step w.goals w.below w.goes_on (record { rest = w.input.rest; left_is = refl; since = w.input.since; until = w.input.until }) refl refl)
        (lost text w.text) (leaves c w.input.rest w.input.left_is)
    here (to_the_end outcome shows) =
        let l = leaving (game p (dice_for c t)) o.typed (limits_of t) h.bytes outcome (left_told c.input c.input_after) shows in
        out_lost five h.broke.rose (status_of outcome.ending) [] h.bytes l.rest
        (in_closing (outcome, refl, l.shows) refl)
        (lost h.bytes refl) (leaves c l.rest l.is)
    here (up_to_fault rose shows) =
        let u = unread (game p (dice_for c t)) o.typed (limits_of t) h.bytes (left_told c.input c.input_after) shows in
        let text = closed (run (game p (dice_for c t)) o.typed u.goals).world.events input_fault_line in
        out_lost five h.broke.rose 0 [] text u.rest
        (in_fault_line rose u.goals u.loses refl refl)
        (lost text u.text) (leaves c u.rest u.is)
