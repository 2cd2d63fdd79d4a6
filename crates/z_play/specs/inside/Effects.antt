-- What is left to do of an instruction once the outside has done its part, and that it can't fail.
use Rattle.std.specs.Prelude.{ℕ, ◌≡◌, ◌+◌, ◌%◌, List, [], ◌∷◌, IsOk, true, Result, Ok, Err}
use Rattle.z_model.specs.declared.fault.ZFault.{ZFault}
use Rattle.z_model.specs.declared.story.Layout.{Layout}
use Rattle.z_model.specs.declared.end.Effect.{Effect}
use Rattle.z_model.specs.declared.end.Effect.TheVariants.{Goes, PrintsCode, PrintsUnicode, PrintsNumber, PrintsText, PrintsLine, Draws, Reads, ReadsKey, Quits}
use Rattle.z_model.specs.declared.op.Found.{Found}
use Rattle.z_model.specs.declared.end.OpenTable.{OpenTable}
use Rattle.z_model.specs.Decode.{◌>>=◌}
use Rattle.z_model.specs.Step.{do_instr}
use Rattle.z_model.specs.Machine.{Machine, stored_if, operand_values}
use Rattle.z_model.specs.Memory.{is_writable, have_right}
use Rattle.z_model.specs.Flow.{returned}
use Rattle.z_model.specs.Zscii.{is_character}
use Rattle.z_model.specs.Streams.{codes_in, into_table}
use Rattle.z_model.specs.Effects.{goes}

-- A return and a store were tried, and a character has a number in Unicode that is printed.
abbrev pub CanFinish : Effect → Layout → Machine → Type 0
CanFinish Goes layout m = Unit {0}
CanFinish (PrintsCode c) layout m = Unit {0}
CanFinish (PrintsUnicode c) layout m = is_character c ≡ true
CanFinish (PrintsNumber x) layout m = Unit {0}
CanFinish (PrintsText at) layout m = Unit {0}
CanFinish (PrintsLine at) layout m = IsOk (returned layout m 1)
CanFinish Draws layout m = Unit {0}
CanFinish (Reads buffer most store) layout m =
    (have_right (is_writable layout) ((buffer + 1) % 65536) (most + 1) ≡ true) × IsOk (stored_if layout m store 13)
CanFinish (ReadsKey store) layout m = (x : ℕ) → IsOk (stored_if layout m store x)
CanFinish Quits layout m = Unit {0}

-- What an instruction that was found does: its operands are taken, and then it is done.
abbrev pub acted : Layout → ℕ → Machine → Found → Result (Effect × Machine) ZFault
acted layout word m found = operand_values layout m found.op.operands >>= λ a. do_instr layout word found.row.instr found.op found.end a.0 a.1

-- what the table gives, where a function answers with an effect and leaves the machine
abbrev pub GivesEffect : Result Effect ZFault → Layout → Machine → Result (Effect × Machine) ZFault → Type 0
GivesEffect (Ok effect) layout m given = (given ≡ Ok (effect, m)) × CanFinish effect layout m
GivesEffect (Err fault) layout m given = given ≡ Err fault

-- codes go into the newest of these tables
abbrev pub into_first : Layout → Machine → List OpenTable → List ℕ → Result Machine ZFault
into_first layout m [] codes = Ok m
into_first layout m (t ∷ ts) codes = into_table layout m t ts codes

abbrev pub into_newest : Layout → Machine → List ℕ → Result Machine ZFault
into_newest layout m codes = into_first layout m m.tables codes

-- what an effect prints goes into the newest table, and 1 is returned
abbrev pub line_into : Layout → Machine → Effect → Result (Effect × Machine) ZFault
line_into layout m effect = into_newest layout m (codes_in effect m) >>= λ after. goes (returned layout after 1)
