-- Output that goes into tables (Z-Machine Standard 1.1, sections 7.1.2 and 15, output_stream).
use Rattle.std.specs.Prelude.{ℕ, ◌+◌, ◌%◌, List, [], ◌∷◌, ◌++◌, length, Option, Result, Ok, Err, nat_lt, ◌==◌, if◌then◌else◌, unwrap_or}
use Rattle.std.specs.Fmt.{signed_decimal}
use Rattle.z_model.specs.declared.fault.ZFault.{ZFault}
use Rattle.z_model.specs.declared.fault.ZFault.TheVariants.{BadStream}
use Rattle.z_model.specs.declared.end.Args.{Args}
use Rattle.z_model.specs.declared.end.OpenTable.{OpenTable}
use Rattle.z_model.specs.declared.story.Layout.{Layout}
use Rattle.z_model.specs.declared.end.Effect.{Effect}
use Rattle.z_model.specs.declared.end.Effect.TheVariants.{Goes, PrintsCode, PrintsUnicode, PrintsNumber, PrintsText, PrintsLine, Draws, Reads, ReadsKey, Quits}
use Rattle.z_model.specs.Decode.{◌>>=◌}
use Rattle.z_model.specs.Zscii.{zscii_of}
use Rattle.z_model.specs.Text.{string_at}
use Rattle.z_model.specs.Memory.{guarded, with_word, with_bytes}
use Rattle.z_model.specs.Machine.{Machine}
use Rattle.z_model.specs.Numbers.{signed_16}

-- Code 0 prints nothing, and is left out.
unfoldable pub shown_codes : List ℕ → List ℕ
shown_codes [] = []
shown_codes (c ∷ cs) = if c == 0 then shown_codes cs else c ∷ shown_codes cs

-- what an effect prints, in codes; a character without a code is a question mark
abbrev pub codes_in : Effect → Machine → List ℕ
codes_in Goes m = []
codes_in (PrintsCode c) m = shown_codes (c ∷ [])
codes_in (PrintsUnicode c) m = unwrap_or (zscii_of c) 63 ∷ []
codes_in (PrintsNumber x) m = signed_decimal (signed_16 x)
codes_in (PrintsText at) m = shown_codes (string_at m.memory at).codes
codes_in (PrintsLine at) m = shown_codes (string_at m.memory at).codes ++ 13 ∷ []
codes_in Draws m = []
codes_in (Reads buffer most store) m = []
codes_in (ReadsKey store) m = []
codes_in Quits m = []

abbrev pub with_more : OpenTable → List ℕ → OpenTable
with_more t codes = record t { count = (t.count + length codes) % 65536 }

-- codes go into the newest table, behind those that are there, the first of which is in byte 2
unfoldable pub into_table : Layout → Machine → OpenTable → List OpenTable → List ℕ → Result Machine ZFault
into_table layout m t ts codes =
    with_bytes (guarded layout m.memory) ((t.at + 2 + t.count) % 65536) codes >>= λ mem.
    Ok (record m { memory = mem.bytes; tables = with_more t codes ∷ ts })

-- at most 16 are open
unfoldable pub stream_opened : Machine → ℕ → Result Machine ZFault
stream_opened m at = if nat_lt (length m.tables) 16 then Ok (record m { tables = record { at = at; count = 0 } ∷ m.tables }) else Err BadStream

-- the newest is closed: the number of its codes goes into its first word
abbrev pub stream_closed : Layout → Machine → List OpenTable → Result Machine ZFault
stream_closed layout m [] = Ok m
stream_closed layout m (t ∷ ts) = with_word (guarded layout m.memory) t.at t.count >>= λ mem. Ok (record m { memory = mem.bytes; tables = ts })

-- 3 opens a table and -3 closes it; other streams aren't there
unfoldable pub streamed : Layout → Machine → Args → Result Machine ZFault
streamed layout m a = if a.first == 3 then stream_opened m a.second else if a.first == 65533 then stream_closed layout m m.tables else Ok m
