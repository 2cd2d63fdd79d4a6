-- What holds of every run that the output broke off. Hold it against the Z-Machine Standard 1.1, section 7: what is printed is never taken back.
use Rattle.std.specs.Prelude.{ℕ, List, Option}
use Rattle.dg_base.specs.Written.{SinkView, BrokeOff}
use Rattle.z_model.specs.Run.{ZGiven, ZState, zrun}
use Rattle.z_model.specs.Closing.{played_text}
use Rattle.z_play.specs.Output.{BrokeBehind}
use Rattle.z_play.specs.Played.{PrintUnwritten}

-- Where the output failed in an instruction, it took a front of all that is played.
abbrev pub PrintsBreakOff : Type 0
PrintsBreakOff = (w : ZGiven) (s : ZState) (n : ℕ) (left : Option (List ℕ)) (old new : SinkView) → PrintUnwritten w s n left old new →
    BrokeOff old new (played_text (zrun w n s))

-- Where it failed in the rest of a text, it took a front of the whole.
abbrev pub RestsBreakOff : Type 0
RestsBreakOff = (old new : SinkView) (begins text : List ℕ) → BrokeBehind old new begins text → BrokeOff old new text
