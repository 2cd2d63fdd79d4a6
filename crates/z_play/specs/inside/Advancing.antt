-- One instruction of a run, and the instructions up to its end.
use Rattle.std.specs.Prelude.{◌≡◌, ℕ, List, Option, Some, Result, Ok, Err}
use Rattle.z_model.specs.declared.end.Halt.{Halt}
use Rattle.z_model.specs.declared.end.ZEnd.{ZEnd}
use Rattle.z_model.specs.Closing.{is_open}
use Rattle.z_model.specs.Run.{ZGiven, ZState, Next, ZRun, zstep, zrun}
use Rattle.dg_base.specs.Written.{Wrote}
use Rattle.z_play.specs.Played.{StoppedAt, PrintUnwritten}
use Rattle.z_play.specs.inside.Scene.{Scene, state, Came, CutOff, Unread}
use Rattle.dg_base.specs.declared.run.Fault.{Fault}
use Rattle.dg_base.specs.declared.run.Fault.TheVariants.{Read, Write}

-- what the next instruction comes to
abbrev pub next_from : ZGiven → Scene → List ℕ → List ℕ → Next
next_from w old typed output = zstep w (state old.machine typed old.drawn output)

abbrev pub Advances : Result (Option Halt) Fault → ZGiven → List ℕ → Scene → Scene → Type 0
Advances (Ok halt) w typed old new = Came (next_from w old typed) halt old new
Advances (Err Read) w typed old new = Unread (next_from w old typed) typed old new
Advances (Err Write) w typed old new = CutOff (next_from w old typed) typed old new

-- The run ended, and its output was written.
pub record RanTo (r : ZRun) (end : ZEnd) (old new : Scene) : Type 0 where
  pub ends : end ≡ r.end
  pub left : new.left ≡ Some r.state.typed
  pub wrote : Wrote old.seen new.seen r.state.output
  pub begins : new.begun ≡ is_open old.begun r.state.output

-- The input failed behind m of n instructions, and the output until then was written.
pub record RanUnread (w : ZGiven) (s : ZState) (n : ℕ) (old new : Scene) : Type 0 where
  pub m : ℕ
  pub rest : List ℕ
  pub left : new.left ≡ Some rest
  pub stopped : StoppedAt w s n m rest
  pub wrote : Wrote old.seen new.seen (zrun w m s).state.output
  pub begins : new.begun ≡ is_open old.begun (zrun w m s).state.output

-- what the instructions up to the end came to, from an empty output
abbrev pub RunsOn : Result ZEnd Fault → ZGiven → ZState → ℕ → Scene → Scene → Type 0
RunsOn (Ok end) w s n old new = RanTo (zrun w n s) end old new
RunsOn (Err Read) w s n old new = RanUnread w s n old new
RunsOn (Err Write) w s n old new = PrintUnwritten w s n new.left old.seen new.seen
