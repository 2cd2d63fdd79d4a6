-- Worked runs: what a few instructions come to, by computation from the definitions.
use Rattle.std.proofs.Common.{◌≡◌, ℕ, List, [], ◌∷◌, ◌++◌, drop, take, true, refl}
use Rattle.std.specs.Prelude.{codes, replicate}
use Rattle.std.specs.Fmt.{digits}
use lib.Utf8.{encode}
use Rattle.dg_base.specs.Typed.{place_from}
use Rattle.dg_base.specs.Units.{unit_at, units_behind}
use Rattle.z_model.specs.declared.story.Layout.{Layout}
use Rattle.z_model.specs.Table.{player_rows}
use Rattle.z_model.specs.Decode.{operand_count, count_in_row, operand_at, store_at, branch_at, text_end, text_at, body_at, long_at, short_at, variable_at, op_at}
use Rattle.z_model.specs.Zscii.{code_utf8, are_printable}
use Rattle.z_model.specs.Text.{z_characters, read_character, decoded_codes, string_at, print_fault}
use Rattle.z_model.specs.Typed.{line_within, left_within, without_return, typed_bytes, typed_line, typed_left}
use Rattle.z_model.specs.Memory.{byte_in, with_byte, memory_word, with_word, with_bytes, have_right}
use Rattle.z_model.specs.Objects.{link_in}
use Rattle.z_model.specs.Streams.{into_table, stream_opened, streamed}
use Rattle.z_model.specs.Machine.{pushed, popped, variable_of, stored, stored_if, operand_value, value_if, operand_values}
use Rattle.z_model.specs.Flow.{local_count, frame_entered, called, returned, jumped, branch_taken, branched}
use Rattle.z_model.specs.Effects.{let_out, print_effect, most_typed, read_effect}
use Rattle.z_model.specs.Step.{do_one, do_zero, do_several, do_instr, machine_step}
use Rattle.z_model.specs.Run.{ZGiven, ZRun, with_line, line_read, zstep, zrun}
use Rattle.z_model.specs.Closing.{with_end_line, played_text}
use Rattle.z_model.specs.Story.{first_machine}

abbrev layout : Layout
layout = record { globals = 64; base = 544; checksum_right = true }

abbrev given : ZGiven
given = record { rows = player_rows; layout = layout; dice = 0 ∷ [] }

-- at most ten instructions of this memory, from its first byte on
abbrev run_of : List ℕ → List ℕ → ZRun
run_of memory typed = zrun given 10 (record { machine = first_machine memory 0; typed = typed; drawn = 0; output = [] })

-- print "hi", new_line, quit
hello : played_text (run_of (0xB2 ∷ 0xB5 ∷ 0xC5 ∷ 0xBB ∷ 0xBA ∷ []) []) ≡ codes "hi\n"
unfolding zrun zstep machine_step op_at short_at body_at count_in_row operand_count operand_at store_at branch_at text_at text_end operand_values value_if do_instr do_zero print_effect let_out print_fault string_at decoded_codes read_character z_characters are_printable code_utf8 with_end_line encode
hello = refl

-- no instruction of the table begins with 0
no_instruction : played_text (run_of (0x00 ∷ 0xB5 ∷ 0xC5 ∷ 0xBB ∷ 0xBA ∷ []) []) ≡ codes "[Broken: 50 at 0]\n"
unfolding zrun zstep machine_step op_at long_at with_end_line digits
no_instruction = refl

-- call_1n of the routine at 8, which prints "hi" and returns; then quit
a_call : played_text (run_of (0x8F ∷ 0x00 ∷ 0x01 ∷ 0xBA ∷ 0 ∷ 0 ∷ 0 ∷ 0 ∷ 0x00 ∷ 0xB2 ∷ 0xB5 ∷ 0xC5 ∷ 0xB0 ∷ []) []) ≡ codes "hi"
unfolding zrun zstep machine_step op_at short_at body_at count_in_row operand_count operand_at store_at branch_at text_at text_end operand_values value_if operand_value do_instr do_zero do_one called frame_entered local_count returned stored_if print_effect let_out print_fault string_at decoded_codes read_character z_characters are_printable code_utf8 with_end_line encode
a_call = refl

-- aread into the buffer at 64, which has room for three; typed are É in two bytes, a capital, a letter and a byte that belongs to no character
a_line : take 5 (drop 64 (run_of ((0xE4 ∷ 0x7F ∷ 0x40 ∷ 0x00 ∷ 0xBA ∷ []) ++ (replicate 59 0 ++ (3 ∷ replicate 9 0))) (0xC3 ∷ 0x89 ∷ 0x41 ∷ 0xFF ∷ 0x62 ∷ 10 ∷ [])).state.machine.memory) ≡ 3 ∷ 3 ∷ 170 ∷ 97 ∷ 63 ∷ []
unfolding zrun zstep machine_step op_at variable_at body_at count_in_row operand_count operand_at store_at branch_at text_at operand_values value_if operand_value do_instr do_several do_zero read_effect most_typed byte_in have_right stored_if stored pushed line_read with_line with_bytes with_byte typed_line typed_bytes typed_left line_within left_within without_return units_behind unit_at place_from short_at
a_line = refl

-- get_child of object 1, whose child is 2 and whose entry is at 126; where it has one, it is printed
a_child : played_text (run_of ((0x92 ∷ 0x01 ∷ 0x00 ∷ 0xC3 ∷ 0xBA ∷ 0xE6 ∷ 0xBF ∷ 0x00 ∷ 0xBA ∷ 0 ∷ 0 ∷ 0 ∷ []) ++ (replicate 124 0 ++ (0 ∷ 2 ∷ []))) []) ≡ codes "2"
unfolding zrun zstep machine_step op_at short_at variable_at body_at count_in_row operand_count operand_at store_at branch_at text_at operand_values value_if operand_value variable_of popped do_instr do_one do_zero do_several link_in memory_word byte_in stored_if stored pushed branched branch_taken jumped print_effect let_out with_end_line digits
a_child = refl

-- output_stream of a table at 64, print_num 42, and the end of the table
a_table : take 4 (drop 64 (run_of ((0xF3 ∷ 0x5F ∷ 0x03 ∷ 0x40 ∷ 0xE6 ∷ 0x7F ∷ 0x2A ∷ 0xF3 ∷ 0x3F ∷ 0xFF ∷ 0xFD ∷ 0xBA ∷ []) ++ replicate 60 0) []).state.machine.memory) ≡ 0 ∷ 2 ∷ 52 ∷ 50 ∷ []
unfolding zrun zstep machine_step op_at short_at variable_at body_at count_in_row operand_count operand_at store_at branch_at text_at operand_values value_if operand_value do_instr do_zero do_several streamed stream_opened print_effect let_out into_table with_bytes with_byte with_word digits
a_table = refl
