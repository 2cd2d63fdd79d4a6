-- What a whole run did: the story's run as z_model gives it, with the line of its end.
use Rattle.std.specs.Prelude.{◌≡◌, ◌<◌, ◌≤◌, ◌+◌, ◌⊎◌, ℕ, List, length, Option, Some, Result, Ok, Err}
use Rattle.dg_base.specs.Causes.{Rose}
use Rattle.dg_base.specs.Streams.{SourceView}
use Rattle.z_model.specs.declared.end.ZEnd.{ZEnd}
use Rattle.z_model.specs.declared.end.ZEnd.TheVariants as ends
use Rattle.z_model.specs.Run.{ZGiven, ZState, ZRun, zrun}
use Rattle.z_model.specs.Story.{start_state}
use Rattle.z_model.specs.Closing.{played_text, with_end_line, unread_line}
use Rattle.dg_base.specs.Written.{SinkView, Wrote}
use Rattle.z_play.specs.Output.{BrokeBehind}
use Rattle.dg_base.specs.declared.run.Fault.{Fault}
use Rattle.dg_base.specs.declared.run.Fault.TheVariants.{Read, Write}

-- The run ended so; the sink took its output and the line of its end, and the typed bytes are left that it leaves.
pub record Played (r : ZRun) (end : ZEnd) (left : Option (List ℕ)) (old new : SinkView) : Type 0 where
  pub ends : end ≡ r.end
  pub left_is : left ≡ Some r.state.typed
  pub wrote : Wrote old new (played_text r)

-- The input failed behind m of n instructions, with these bytes left: so many instructions don't end the run, they took no more bytes than were taken,
-- and one more ends for want of a byte, or takes at least those and more than before.
pub record StoppedAt (w : ZGiven) (s : ZState) (n m : ℕ) (rest : List ℕ) : Type 0 where
  pub below : m < n
  pub limit : (zrun w m s).end ≡ ends.StepLimit
  pub within : length rest ≤ length (zrun w m s).state.typed
  pub beyond : ((zrun w (m + 1) s).end ≡ ends.InputEnded)
      ⊎ ((length (zrun w (m + 1) s).state.typed ≤ length rest) × (length (zrun w (m + 1) s).state.typed < length (zrun w m s).state.typed))

-- The input failed; the sink took the output until then, and the line that says so.
pub record InputFailed (w : ZGiven) (s : ZState) (n : ℕ) (left : Option (List ℕ)) (old new : SinkView) : Type 0 where
  pub m : ℕ
  pub rest : List ℕ
  pub left_is : left ≡ Some rest
  pub stopped : StoppedAt w s n m rest
  pub wrote : Wrote old new (with_end_line (zrun w m s).state.output unread_line)

-- The output failed in what one instruction prints: the m before it don't end the run, the sink took what they print,
-- and the typed bytes are left that they leave.
pub record PrintUnwritten (w : ZGiven) (s : ZState) (n : ℕ) (left : Option (List ℕ)) (old new : SinkView) : Type 0 where
  pub m : ℕ
  pub below : m < n
  pub limit : (zrun w m s).end ≡ ends.StepLimit
  pub left_is : left ≡ Some (zrun w m s).state.typed
  pub cut : BrokeBehind old new (zrun w m s).state.output (zrun w (m + 1) s).state.output

-- The output failed in the line of the run's end: the sink took the run's output, and the typed bytes are left that the run leaves.
pub record EndUnwritten (r : ZRun) (left : Option (List ℕ)) (old new : SinkView) : Type 0 where
  pub left_is : left ≡ Some r.state.typed
  pub cut : BrokeBehind old new r.state.output (played_text r)

-- The input failed, whose count rose, and then the output in the line that says so: the sink took the output until then.
pub record InputFailedUnwritten (w : ZGiven) (s : ZState) (n before now : ℕ) (left : Option (List ℕ)) (old new : SinkView) : Type 0 where
  pub rose : Rose before now
  pub m : ℕ
  pub rest : List ℕ
  pub left_is : left ≡ Some rest
  pub stopped : StoppedAt w s n m rest
  pub cut : BrokeBehind old new (zrun w m s).state.output (with_end_line (zrun w m s).state.output unread_line)

-- The output failed within an instruction or in a line behind the run.
abbrev pub OutputFailed : ZGiven → ZState → (n before now : ℕ) → Option (List ℕ) → SinkView → SinkView → Type 0
OutputFailed w s n before now left old new = PrintUnwritten w s n left old new
    ⊎ (EndUnwritten (zrun w n s) left old new ⊎ InputFailedUnwritten w s n before now left old new)

-- What a run of n instructions did, by its answer. Before it and now are the input's counts of faults.
abbrev pub Plays : Result ZEnd Fault → ZGiven → ZState → (n before now : ℕ) → Option (List ℕ) → SinkView → SinkView → Type 0
Plays (Ok end) w s n before now left old new = Played (zrun w n s) end left old new
Plays (Err Read) w s n before now left old new = InputFailed w s n left old new
Plays (Err Write) w s n before now left old new = OutputFailed w s n before now left old new

-- For some typed bytes, and some that are left, a story's run did so: what is known where the source tells nothing.
pub record PlaysSome (answer : Result ZEnd Fault) (w : ZGiven) (story : List ℕ) (n before now : ℕ) (old new : SinkView) : Type 0 where
  pub typed : List ℕ
  pub left : List ℕ
  pub plays : Plays answer w (start_state story typed) n before now (Some left) old new

-- Each fault has its cause, and no count falls.
pub record HasCauses {T : Type 0} (input input' : SourceView) (out out' : SinkView) (result : Result T Fault) : Type 0 where
  pub reads : input.faults ≤ input'.faults
  pub writes : out.faults ≤ out'.faults
  pub read_failed : result ≡ Err Read → Rose input.faults input'.faults
  pub write_failed : result ≡ Err Write → Rose out.faults out'.faults
