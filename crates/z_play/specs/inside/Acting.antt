-- What an effect prints, and how the rest of it leads on.
use Rattle.std.specs.Prelude.{◌≡◌, ℕ, List, [], ◌∷◌, ◌++◌, encode_utf8, Option, Some, None, Result, Ok, Err}
use Rattle.std.specs.Fmt.{signed_decimal}
use Rattle.dg_base.specs.declared.traits.Failed.{Failed}
use Rattle.z_model.specs.declared.end.Halt.{Halt}
use Rattle.z_model.specs.declared.end.Halt.TheVariants.{AtQuit, AtInput, AtFault}
use Rattle.z_model.specs.declared.end.Effect.{Effect}
use Rattle.z_model.specs.declared.end.Effect.TheVariants.{Goes, PrintsCode, PrintsUnicode, PrintsNumber, PrintsText, PrintsLine, Draws, Reads, ReadsKey, Quits}
use Rattle.z_model.specs.Zscii.{code_utf8}
use Rattle.z_model.specs.Text.{string_at, text_bytes}
use Rattle.z_model.specs.Numbers.{signed_16}
use Rattle.z_model.specs.Machine.{Machine}
use Rattle.z_model.specs.Run.{ZGiven, effect_on}
use Rattle.z_play.specs.inside.Scene.{state, next_of, SameIfOn, IsBeyond}
use Rattle.std.specs.Prelude.{◌≤◌, length}

-- what an effect prints
abbrev pub text_of : Effect → Machine → List ℕ
text_of Goes m = []
text_of (PrintsCode c) m = code_utf8 c
text_of (PrintsUnicode c) m = encode_utf8 c
text_of (PrintsNumber x) m = signed_decimal (signed_16 x)
text_of (PrintsText at) m = text_bytes (string_at m.memory at)
text_of (PrintsLine at) m = text_bytes (string_at m.memory at) ++ 10 ∷ []
text_of Draws m = []
text_of (Reads buffer most store) m = []
text_of (ReadsKey store) m = []
text_of Quits m = []

-- Where the source tells nothing, these bytes may be left behind an instruction: none where it ends for want of one.
abbrev pub MayBeLeft : {E : Type 0} → Result (Option Halt) E → List ℕ → Type 0
MayBeLeft (Ok None) left = Unit {0}
MayBeLeft (Ok (Some AtQuit)) left = Unit {0}
MayBeLeft (Ok (Some AtInput)) left = left ≡ []
MayBeLeft (Ok (Some (AtFault fault at))) left = Unit {0}
MayBeLeft (Err e) left = Unit {0}

-- The rest of an effect was done.
pub record Finished (w : ZGiven) (effect : Effect) (old : Machine) (typed : List ℕ) (drawn : ℕ)
    (halt : Option Halt) (new : Machine) (left : Option (List ℕ)) (drawn' : ℕ) : Type 0 where
  pub behind : List ℕ
  pub left_is : left ≡ Some behind
  pub last : Machine
  pub same : SameIfOn halt last new
  pub is : (before : Machine) (output : List ℕ) →
      effect_on w (state before typed drawn output) effect old ≡ next_of halt (state last behind drawn' (output ++ text_of effect old))

-- The source failed in the line that an effect takes.
pub record Unfinished (w : ZGiven) (effect : Effect) (old : Machine) (typed : List ℕ) (drawn : ℕ) (left : Option (List ℕ)) : Type 0 where
  pub prints_none : text_of effect old ≡ []
  pub rest : List ℕ
  pub left_is : left ≡ Some rest
  pub most : length rest ≤ length typed
  pub halt : Option Halt
  pub last : Machine
  pub behind : List ℕ
  pub beyond : IsBeyond halt typed rest behind
  pub is : (before : Machine) (output : List ℕ) → effect_on w (state before typed drawn output) effect old ≡ next_of halt (state last behind drawn output)

abbrev pub Finishes : Result (Option Halt) Failed → ZGiven → Effect → Machine → List ℕ → ℕ → Machine → Option (List ℕ) → ℕ → Type 0
Finishes (Ok halt) w effect old typed drawn new left drawn' = Finished w effect old typed drawn halt new left drawn'
Finishes (Err failed) w effect old typed drawn new left drawn' = Unfinished w effect old typed drawn left
