-- The line behind a run.
use Rattle.std.proofs.Common.{◌≡◌, ◌≢◌, ◌+◌, ◌-◌, ℕ, List, [], ◌∷◌, ◌++◌, Bool, false, Option, Result, inl, inr, refl, sym, ◌∙◌, ap, subst, arith, append_assoc}
use Rattle.std.proofs.lemmas.List.{append-nil}
use Rattle.z_model.specs.declared.end.ZEnd.{ZEnd}
use Rattle.z_model.specs.declared.end.ZEnd.TheVariants as ends
use Rattle.z_model.specs.declared.story.Layout.{Layout}
use Rattle.z_model.specs.Machine.{Machine}
use Rattle.z_model.specs.Run.{ZGiven, ZState, ZRun, zrun}
use Rattle.z_model.specs.Closing.{end_line, unread_line, is_open, newline_if, with_end_line, played_text}
use Rattle.z_model.specs.Story.{layout_of, first_address, memory_of, first_machine, given_of, start_state}
use Rattle.dg_base.specs.Causes.{Rose}
use Rattle.dg_base.specs.Written.{SinkView, Wrote, BrokeOff}
use Rattle.z_play.specs.Output.{BrokeBehind}
use Rattle.z_play.specs.inside.Scene.{Scene, given_by, state}
use Rattle.z_play.specs.inside.Advancing.{RanTo, RanUnread, RunsOn}
use Rattle.dg_base.specs.declared.run.Fault.{Fault}
use Rattle.z_play.specs.Played.{Played, InputFailed, PrintUnwritten, OutputFailed}
use Rattle.dg_base.proofs.WrittenLemmas.{wrote_on, broke_first}
use Rattle.z_play.proofs.Written.{broke_after, broke_whole}
use Rattle.dg_base.specs.Begins.{Begins}
use Rattle.z_model.specs.Laws.{then_more}
use Rattle.z_model.proofs.Runs.{run_laws}

-- ---- the text of a line

line_behind : (end : ZEnd) → end ≢ ends.Quit → (output : List ℕ) → with_end_line output (end_line end) ≡ output ++ (newline_if (is_open false output) ++ end_line end)
unfolding with_end_line
line_behind ends.Quit some output = absurd (some refl)
line_behind ends.InputEnded some output = refl
line_behind ends.StepLimit some output = refl
line_behind (ends.Broken fault at) some output = refl

input_line_behind : (output : List ℕ) → with_end_line output unread_line ≡ output ++ (newline_if (is_open false output) ++ unread_line)
unfolding with_end_line
input_line_behind output = refl

-- the output comes first
output_first : (output line : List ℕ) → (more : List ℕ) × (with_end_line output line ≡ output ++ more)
unfolding with_end_line
output_first output [] = ([], sym (append-nil output))
output_first output (b ∷ line) = (newline_if (is_open false output) ++ b ∷ line, refl)

-- ---- the ends

quit_here : (r : ZRun) (old new : Scene) → RanTo r ends.Quit old new → Played r ends.Quit new.left old.seen new.seen
unfolding with_end_line
quit_here r old new ran = record { ends = ran.ends; left_is = ran.left; wrote = subst (λ (end : ZEnd). Wrote old.seen new.seen (with_end_line r.state.output (end_line end))) ran.ends ran.wrote }

pub quit_shows : (r : ZRun) (old new : Scene) (seen : SinkView) → new.seen ≡ seen → RanTo r ends.Quit old new → Played r ends.Quit new.left old.seen seen
quit_shows r old new seen same ran = subst (λ (v : SinkView). Played r ends.Quit new.left old.seen v) same (quit_here r old new ran)

-- what is written of a run that ended so
text_is : (r : ZRun) (end : ZEnd) (begun : Bool) → end ≢ ends.Quit → end ≡ r.end → begun ≡ is_open false r.state.output → r.state.output ++ (newline_if begun ++ end_line end) ≡ played_text r
text_is r end begun some ended begins =
    ap (λ (b : Bool). r.state.output ++ (newline_if b ++ end_line end)) begins
    ∙ sym (line_behind end some r.state.output)
    ∙ ap (λ (e : ZEnd). with_end_line r.state.output (end_line e)) ended

pub end_shows : (r : ZRun) (end : ZEnd) (old new : Scene) (begun : Bool) (seen after : SinkView) → old.begun ≡ false → new.begun ≡ begun → new.seen ≡ seen →
    end ≢ ends.Quit → RanTo r end old new → Wrote seen after (newline_if begun ++ end_line end) → Played r end new.left old.seen after
end_shows r end old new begun seen after first same_begun same_seen some ran wrote_then = record {
  ends = ran.ends;
  left_is = ran.left;
  wrote = subst (λ (l : List ℕ). Wrote old.seen after l) (text_is r end new.begun some ran.ends (ran.begins ∙ ap (λ (b : Bool). is_open b r.state.output) first)) (wrote_on old.seen new.seen after r.state.output (newline_if new.begun ++ end_line end) ran.wrote (rw (same_seen, same_begun) wrote_then));
}

pub end_cut : (w : ZGiven) (s : ZState) (n before now : ℕ) (end : ZEnd) (old new : Scene) (begun : Bool) (seen after : SinkView) → old.begun ≡ false → new.begun ≡ begun → new.seen ≡ seen →
    end ≢ ends.Quit → RanTo (zrun w n s) end old new → BrokeOff seen after (newline_if begun ++ end_line end) → OutputFailed w s n before now new.left old.seen after
end_cut w s n before now end old new begun seen after first same_begun same_seen some ran cut =
    let r : ZRun = zrun w n s in
    inr (inl (record {
      left_is = ran.left;
      cut = subst (λ (l : List ℕ). BrokeBehind old.seen after r.state.output l) (text_is r end new.begun some ran.ends (ran.begins ∙ ap (λ (b : Bool). is_open b r.state.output) first)) (broke_after old.seen new.seen after r.state.output (newline_if new.begun ++ end_line end) ran.wrote (rw (same_seen, same_begun) cut));
    }))

-- ---- the input failed

fault_text : (output : List ℕ) (begun : Bool) → begun ≡ is_open false output → output ++ (newline_if begun ++ unread_line) ≡ with_end_line output unread_line
fault_text output begun begins = ap (λ (b : Bool). output ++ (newline_if b ++ unread_line)) begins ∙ sym (input_line_behind output)

pub fault_shows : (w : ZGiven) (s : ZState) (n : ℕ) (old new : Scene) (begun : Bool) (seen after : SinkView) → old.begun ≡ false → new.begun ≡ begun → new.seen ≡ seen →
    RanUnread w s n old new → Wrote seen after (newline_if begun ++ unread_line) → InputFailed w s n new.left old.seen after
fault_shows w s n old new begun seen after first same_begun same_seen ran wrote_then =
    let output : List ℕ = (zrun w ran.m s).state.output in
    record {
      m = ran.m;
      rest = ran.rest;
      left_is = ran.left;
      stopped = ran.stopped;
      wrote = subst (λ (l : List ℕ). Wrote old.seen after l) (fault_text output new.begun (ran.begins ∙ ap (λ (b : Bool). is_open b output) first)) (wrote_on old.seen new.seen after output (newline_if new.begun ++ unread_line) ran.wrote (rw (same_seen, same_begun) wrote_then));
    }

pub fault_cut : (w : ZGiven) (s : ZState) (n before now : ℕ) (old new : Scene) (begun : Bool) (seen after : SinkView) → old.begun ≡ false → new.begun ≡ begun → new.seen ≡ seen →
    Rose before now → RanUnread w s n old new → BrokeOff seen after (newline_if begun ++ unread_line) → OutputFailed w s n before now new.left old.seen after
fault_cut w s n before now old new begun seen after first same_begun same_seen rose ran cut =
    let output : List ℕ = (zrun w ran.m s).state.output in
    inr (inr (record {
      rose = rose;
      m = ran.m;
      rest = ran.rest;
      left_is = ran.left;
      stopped = ran.stopped;
      cut = subst (λ (l : List ℕ). BrokeBehind old.seen after output l) (fault_text output new.begun (ran.begins ∙ ap (λ (b : Bool). is_open b output) first)) (broke_after old.seen new.seen after output (newline_if new.begun ++ unread_line) ran.wrote (rw (same_seen, same_begun) cut));
    }))

-- ---- the output failed

piece_begins : (w : ZGiven) (j : ℕ) (end : ZEnd) (s : ZState) → Begins s.output (then_more (zrun w j) (record { end = end; state = s })).state.output
piece_begins w j ends.StepLimit s = (run_laws w s).grows j
piece_begins w j ends.Quit s = record { behind = []; is = sym (append-nil s.output) }
piece_begins w j ends.InputEnded s = record { behind = []; is = sym (append-nil s.output) }
piece_begins w j (ends.Broken fault at) s = record { behind = []; is = sym (append-nil s.output) }

-- the output of more instructions begins with that of fewer
more_printed : (w : ZGiven) (k j : ℕ) (s : ZState) → Begins (zrun w k s).state.output (zrun w (k + j) s).state.output
more_printed w k j s = subst (λ (r : ZRun). Begins (zrun w k s).state.output r.state.output) (sym ((run_laws w s).sum k j)) (piece_begins w j (zrun w k s).end (zrun w k s).state)

-- where it failed in an instruction, it failed within all that is written of the run
pub print_cut : (w : ZGiven) (s : ZState) (n : ℕ) (left : Option (List ℕ)) (old new : SinkView) → PrintUnwritten w s n left old new → BrokeOff old new (played_text (zrun w n s))
print_cut w s n left old new h =
    let r : ZRun = zrun w n s in
    let all : h.m + 1 + (n - (h.m + 1)) ≡ n = omega (arith, h.below) in
    let grown = subst (λ (k : ℕ). Begins (zrun w (h.m + 1) s).state.output (zrun w k s).state.output) all (more_printed w (h.m + 1) (n - (h.m + 1)) s) in
    let more = output_first r.state.output (end_line r.end) in
    let text : played_text r ≡ (zrun w (h.m + 1) s).state.output ++ (grown.behind ++ more.0) = more.1 ∙ ap (λ (l : List ℕ). l ++ more.0) grown.is ∙ append_assoc (zrun w (h.m + 1) s).state.output grown.behind more.0 in
    subst (λ (l : List ℕ). BrokeOff old new l) (sym text) (broke_first old new (zrun w (h.m + 1) s).state.output (grown.behind ++ more.0) (broke_whole old new (zrun w h.m s).state.output (zrun w (h.m + 1) s).state.output h.cut))

-- ---- the start

pub start_is : (story typed : List ℕ) (start : ℕ) (m : Machine) → memory_of story ≡ story → start ≡ first_address story → m ≡ first_machine story start → state m typed 0 [] ≡ start_state story typed
start_is story typed start m whole at first =
    ap (λ (k : Machine). state k typed 0 []) (first ∙ ap (λ (s : ℕ). first_machine story s) at ∙ ap (λ (l : List ℕ). first_machine l (first_address story)) (sym whole))

pub world_is : (story dice : List ℕ) (l : Layout) → l ≡ layout_of story → given_by l dice ≡ given_of story dice
world_is story dice l e = ap (λ (k : Layout). given_by k dice) e

-- the run of a player is that of its story
pub runs_as : (story dice typed : List ℕ) (l : Layout) (start : ℕ) (m : Machine) (answer : Result ZEnd Fault) (n : ℕ) (old new : Scene) →
    l ≡ layout_of story → memory_of story ≡ story → start ≡ first_address story → m ≡ first_machine story start →
    RunsOn answer (given_by l dice) (state m typed 0 []) n old new → RunsOn answer (given_of story dice) (start_state story typed) n old new
runs_as story dice typed l start m answer n old new laid whole at first ran =
    subst (λ (w : ZGiven). RunsOn answer w (start_state story typed) n old new) (world_is story dice l laid)
    (subst (λ (s : ZState). RunsOn answer (given_by l dice) s n old new) (start_is story typed start m whole at first) ran)
