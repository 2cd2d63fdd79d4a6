-- From a player's run of a loaded story to the answer of the call.
use Rattle.std.proofs.Common.{◌≡◌, ◌+◌, inl, inr, ℕ, List, Option, Some, None, Result, Ok, Err, refl, sym, ◌∙◌, ap, subst}
use Rattle.std.specs.Prelude.{IsSome}
use Rattle.dg_base.specs.Causes.{Rose}
use Rattle.dg_base.specs.Written.{SinkView, Wrote}
use Rattle.dg_base.specs.declared.run.Fault.{Fault}
use Rattle.dg_base.specs.declared.run.Fault.TheVariants.{Read, Write}
use Rattle.dg_meaning.specs.Shows.{IsLeft}
use Rattle.dg_meaning.specs.Transcript.{input_fault_line}
use Rattle.z_model.specs.declared.end.ZEnd.{ZEnd}
use Rattle.z_model.specs.Closing.{with_end_line, played_text}
use Rattle.z_model.specs.Run.{ZGiven, ZState, ZRun}
use Rattle.z_model.specs.Story.{story_refusal, story_run, given_of, start_state}
use Rattle.z_play.specs.Output.{BrokeBehind}
use Rattle.z_play.specs.Played.{StoppedAt, Plays, PlaysSome}
use Rattle.z_play.specs.Ready.{IsLoaded}
use Rattle.dialog_tool.specs.Command.{play, Task}
use Rattle.dialog_tool.specs.Call.{Call, Outside, IsAsTold, dice_for}
use Rattle.dialog_tool.specs.Promise
use Rattle.dialog_tool.specs.Promise.{status_of_end, Leaves, Runs, ran, input_lost, out_lost, EndsStory, PlaysStory}
use Rattle.dialog_tool.specs.Running.{Run, run_of_story, LosesInput, in_step, in_closing, in_fault_line}
use Rattle.dialog_tool.specs.inside.Calls.{IsFetched, HasPlayed}
use Rattle.dialog_tool.proofs.AnswerLemmas.{file_here, outside, answers, by_words}
use Rattle.dialog_tool.proofs.Never.{never}

-- ## What the player says

-- a loaded story runs as its file
pub file_plays : (file story : List ℕ) → IsLoaded file story → (answer : Result ZEnd Fault) (dice typed : List ℕ) (n before now : ℕ) (left : Option (List ℕ)) (old new : SinkView)
    → Plays answer (given_of story dice) (start_state story typed) n before now left old new → Plays answer (given_of file dice) (start_state file typed) n before now left old new
file_plays file story h answer dice typed n before now left old new p =
    subst (λ (w : ZGiven). Plays answer w (start_state file typed) n before now left old new) (h.given dice)
    (subst (λ (s : ZState). Plays answer (given_of story dice) s n before now left old new) (h.start typed) p)

pub file_plays_some : (file story : List ℕ) → IsLoaded file story → (answer : Result ZEnd Fault) (dice : List ℕ) (n before now : ℕ) (old new : SinkView) → PlaysSome answer (given_of story dice) story n before now old new → PlaysSome answer (given_of file dice) file n before now old new
file_plays_some file story h answer dice n before now old new p = record { typed = p.typed; left = p.left; plays = file_plays file story h answer dice p.typed n before now (Some p.left) old new p.plays }

-- what the player says of a task's run
pub record RunPlays (answer : Result ZEnd Fault) (c : Call) (t : Task) (file : List ℕ) : Type 0 where
  pub told : (typed : List ℕ) → c.input.left ≡ Some typed → Plays answer (given_of file (dice_for c t)) (start_state file typed) t.steps c.input.faults c.input_after.faults c.input_after.left c.out c.out_after
  pub untold : PlaysSome answer (given_of file (dice_for c t)) file t.steps c.input.faults c.input_after.faults c.out c.out_after

-- the typed bytes that a run left are some
left_some : (answer : Result ZEnd Fault) (w : ZGiven) (s : ZState) (n before now : ℕ) (left : Option (List ℕ)) (old new : SinkView) → Plays answer w s n before now left old new → (rest : List ℕ) × (left ≡ Some rest)
left_some (Ok end) w s n before now left old new p = (_, p.left_is)
left_some (Err Read) w s n before now left old new p = (p.rest, p.left_is)
left_some (Err Write) w s n before now left old new (inl p) = (_, p.left_is)
left_some (Err Write) w s n before now left old new (inr (inl p)) = (_, p.left_is)
left_some (Err Write) w s n before now left old new (inr (inr p)) = (p.rest, p.left_is)

-- typed bytes as far as the input tells them, and what a run of them left
pub record SomePlays (answer : Result ZEnd Fault) (c : Call) (t : Task) (file : List ℕ) : Type 0 where
  pub typed : List ℕ
  pub as_told : IsAsTold c.input.left typed
  pub left : List ℕ
  pub told : IsSome c.input.left → c.input_after.left ≡ Some left
  pub plays : Plays answer (given_of file (dice_for c t)) (start_state file typed) t.steps c.input.faults c.input_after.faults (Some left) c.out c.out_after

some_plays : (answer : Result ZEnd Fault) (c : Call) (t : Task) (file : List ℕ) → RunPlays answer c t file → SomePlays answer c t file
some_plays answer c t file r = here c.input.left refl
  where
    here : (l : Option (List ℕ)) → c.input.left ≡ l → SomePlays answer c t file
    here (Some typed) e =
        let p = r.told typed e in
        let rest = left_some answer _ _ t.steps _ _ c.input_after.left c.out c.out_after p in
        record {
          typed = typed;
          as_told = subst (λ (l : Option (List ℕ)). IsAsTold l typed) (sym e) refl;
          left = rest.0;
          told = λ is. rest.1;
          plays = subst (λ (l : Option (List ℕ)). Plays answer (given_of file (dice_for c t)) (start_state file typed) t.steps c.input.faults c.input_after.faults l c.out c.out_after) rest.1 p;
        }
    here None e = record {
      typed = r.untold.typed;
      as_told = subst (λ (l : Option (List ℕ)). IsAsTold l r.untold.typed) (sym e) tt;
      left = r.untold.left;
      told = λ is. never (subst (λ (l : Option (List ℕ)). IsSome l) e is);
      plays = r.untold.plays;
    }

-- ## What the call comes to

-- the run of a story, as the call has it
abbrev runs : Call → Task → (file typed : List ℕ) → ℕ → ZRun
runs c t file typed = story_run file typed (dice_for c t)

-- the bytes that are left, by their name
same_left : (x y : List ℕ) → Some x ≡ Some y → x ≡ y
same_left x y e = cc

some_told : (told : Option (List ℕ)) (rest : List ℕ) → told ≡ Some rest → IsSome told
some_told None rest e = cc
some_told (Some typed) rest e = refl

tells : (c : Call) (rest : List ℕ) → (IsSome c.input.left → c.input_after.left ≡ Some rest) → IsSome c.input.left → IsSome c.input_after.left
tells c rest told is = some_told c.input_after.left rest (told is)

leaves : (c : Call) (left rest : List ℕ) → (IsSome c.input.left → c.input_after.left ≡ Some left) → Some left ≡ Some rest → Leaves c rest
leaves c left rest told e is = subst (λ (o : Option (List ℕ)). IsLeft o rest) (sym (told is)) (same_left left rest e)

-- where the input failed
loses : (c : Call) (t : Task) (file typed : List ℕ) (m : ℕ) (rest : List ℕ) → StoppedAt (given_of file (dice_for c t)) (start_state file typed) t.steps m rest
    → LosesInput (run_of_story (runs c t file typed)) t.steps m rest
unfolding story_run
loses c t file typed m rest s = record { below = s.below; goes_on = s.limit; within = s.within; beyond = s.beyond }

module _ (c : Call) (t : Task) (file : List ℕ) (result : ℕ) where
  abbrev Came : List ℕ → Type 0
  Came typed = Runs c (run_of_story (runs c t file typed)) t.steps (EndsStory (runs c t file typed t.steps)) result

  ended : (end : ZEnd) → result ≡ status_of_end end → (p : SomePlays (Ok end) c t file) → Came p.typed
  unfolding story_run
  ended end e p =
      let r = runs c t file p.typed t.steps in
      ran (played_text r) r.state.typed (e ∙ ap status_of_end p.plays.ends, refl, refl) p.plays.wrote (leaves c p.left r.state.typed p.told p.plays.left_is)

  unread : result ≡ 5 → Rose c.input.faults c.input_after.faults → (p : SomePlays (Err Read) c t file) → Came p.typed
  unfolding story_run
  unread five rose p =
      input_lost five rose p.plays.m p.plays.rest (loses c t file p.typed p.plays.m p.plays.rest p.plays.stopped) p.plays.wrote
      (leaves c p.left p.plays.rest p.told p.plays.left_is)

  unwritten : result ≡ 5 → Rose c.out.faults c.out_after.faults → (typed left : List ℕ) → (IsSome c.input.left → c.input_after.left ≡ Some left)
      → Plays (Err Write) (given_of file (dice_for c t)) (start_state file typed) t.steps c.input.faults c.input_after.faults (Some left) c.out c.out_after → Came typed
  unfolding story_run
  unwritten five rose typed left told (inl w) =
      let r = runs c t file typed in
      out_lost five rose 0 (r w.m).state.output (r (w.m + 1)).state.output left
      (in_step w.m w.below w.limit (same_left left (r w.m).state.typed w.left_is) refl refl) w.cut (leaves c left left told refl)
  unwritten five rose typed left told (inr (inl w)) =
      let r = runs c t file typed t.steps in
      out_lost five rose (status_of_end r.end) r.state.output (played_text r) left
      (in_closing (refl, refl, same_left left r.state.typed w.left_is) refl) w.cut (leaves c left left told refl)
  unwritten five rose typed left told (inr (inr w)) =
      let r = runs c t file typed w.m in
      out_lost five rose 0 r.state.output (with_end_line r.state.output input_fault_line) w.rest
      (in_fault_line w.rose w.m (loses c t file typed w.m w.rest w.stopped) refl refl) w.cut (leaves c left w.rest told w.left_is)

has_played : (answer : Result ZEnd Fault) (c : Call) (t : Task) (file : List ℕ) (result : ℕ) (p : SomePlays answer c t file)
    → Runs c (run_of_story (runs c t file p.typed)) t.steps (EndsStory (runs c t file p.typed t.steps)) result → HasPlayed c t file result
has_played answer c t file result p came = record { typed = p.typed; told = p.as_told; plays = λ contents. (came, tells c p.left p.told) }

pub play_ends : (c : Call) (t : Task) (file : List ℕ) (result : ℕ) (end : ZEnd) → result ≡ status_of_end end → RunPlays (Ok end) c t file → HasPlayed c t file result
play_ends c t file result end e r = let p = some_plays (Ok end) c t file r in has_played (Ok end) c t file result p (ended c t file result end e p)

pub play_unread : (c : Call) (t : Task) (file : List ℕ) (result : ℕ) → result ≡ 5 → Rose c.input.faults c.input_after.faults → RunPlays (Err Read) c t file → HasPlayed c t file result
play_unread c t file result five rose r = let p = some_plays (Err Read) c t file r in has_played (Err Read) c t file result p (unread c t file result five rose p)

pub play_unwritten : (c : Call) (t : Task) (file : List ℕ) (result : ℕ) → result ≡ 5 → Rose c.out.faults c.out_after.faults → RunPlays (Err Write) c t file → HasPlayed c t file result
play_unwritten c t file result five rose r = let p = some_plays (Err Write) c t file r in has_played (Err Write) c t file result p (unwritten c t file result five rose p.typed p.left p.told p.plays)

-- the file is a story and was played
pub play_comes : (c : Call) (t : Task) (file : List ℕ) (result : ℕ) → c.command ≡ Some (play t) → IsFetched c.shelf c.shelf_after t.name file → story_refusal file ≡ None → HasPlayed c t file result → Promise.Answers c result
play_comes c t file result words f accepted p =
    let h = file_here c t.name file f in
    let o = outside h.contents p.typed in
    answers c o result (record { contents = h.told; typed = p.told })
    (by_words c o result (Some (play t)) words h.kept
    (Promise.story (subst (λ (l : List ℕ). story_refusal l ≡ None) h.is accepted) (subst (λ (l : List ℕ). PlaysStory c o t l result) h.is (p.plays h.contents))))
