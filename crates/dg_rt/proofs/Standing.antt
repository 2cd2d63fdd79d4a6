-- Where the routines of the run-time stand.
use Rattle.std.proofs.Common.{◌≡◌, Some, refl}
use Rattle.z_lang.specs.State.{Program}
use Rattle.dg_rt.specs.declared.numbers.TheConstants.{WALK, BIND, OCCURS, UNIFY, UNDO, COPY_OUT, COPY_IN, NEWLINE, HEAP_LIMIT, TRAIL_LIMIT, CUT, KEY_OF, NUMBER, FULL, FLAG, SET_FLAG, SEPARATE, FIRST, PRINT_MARK, PRINT_NUMBER, LETTER, PRINT_LETTERS, LIST_KIND, PRINT_PIECE, PRINT_VALUE, CHARACTER, SPELL}
use Rattle.dg_rt.specs.declared.unify.TheConstants.{WALK_ACTS, BIND_ACTS, OCCURS_ACTS, UNIFY_ACTS, UNDO_ACTS}
use Rattle.dg_rt.specs.declared.copies.TheConstants.{COPY_OUT_ACTS, COPY_IN_ACTS}
use Rattle.dg_rt.specs.declared.closings.TheConstants.{NEWLINE_ACTS, HEAP_LIMIT_ACTS, TRAIL_LIMIT_ACTS}
use Rattle.dg_rt.specs.declared.choices.TheConstants.{CUT_ACTS}
use Rattle.dg_rt.specs.declared.rules.TheConstants.{KEY_OF_ACTS}
use Rattle.dg_rt.specs.declared.operands.TheConstants.{NUMBER_ACTS, FULL_ACTS}
use Rattle.dg_rt.specs.declared.world.TheConstants.{FLAG_ACTS, SET_FLAG_ACTS}
use Rattle.dg_rt.specs.declared.gaps.TheConstants.{SEPARATE_ACTS, FIRST_ACTS}
use Rattle.dg_rt.specs.declared.pieces.TheConstants.{PRINT_MARK_ACTS, PRINT_NUMBER_ACTS, LETTER_ACTS, PRINT_LETTERS_ACTS}
use Rattle.dg_rt.specs.declared.printing.TheConstants.{LIST_KIND_ACTS, PRINT_PIECE_ACTS, PRINT_VALUE_ACTS}
use Rattle.dg_rt.specs.declared.spelling.TheConstants.{CHARACTER_ACTS, SPELL_ACTS}
use Rattle.dg_rt.specs.RunTime.{routine_of, HasRunTime}

module _ (p : Program) (has : HasRunTime p) where
  pub walk_at : p.routine_at (p.names.routine WALK) ≡ Some (routine_of 4 WALK_ACTS)
  walk_at = has.each 0 (routine_of 4 WALK_ACTS) refl

  pub bind_at : p.routine_at (p.names.routine BIND) ≡ Some (routine_of 4 BIND_ACTS)
  bind_at = has.each 1 (routine_of 4 BIND_ACTS) refl

  pub occurs_at : p.routine_at (p.names.routine OCCURS) ≡ Some (routine_of 4 OCCURS_ACTS)
  occurs_at = has.each 2 (routine_of 4 OCCURS_ACTS) refl

  pub unify_at : p.routine_at (p.names.routine UNIFY) ≡ Some (routine_of 5 UNIFY_ACTS)
  unify_at = has.each 3 (routine_of 5 UNIFY_ACTS) refl

  pub undo_at : p.routine_at (p.names.routine UNDO) ≡ Some (routine_of 2 UNDO_ACTS)
  undo_at = has.each 4 (routine_of 2 UNDO_ACTS) refl

  pub copy_out_at : p.routine_at (p.names.routine COPY_OUT) ≡ Some (routine_of 5 COPY_OUT_ACTS)
  copy_out_at = has.each 5 (routine_of 5 COPY_OUT_ACTS) refl

  pub copy_in_at : p.routine_at (p.names.routine COPY_IN) ≡ Some (routine_of 5 COPY_IN_ACTS)
  copy_in_at = has.each 6 (routine_of 5 COPY_IN_ACTS) refl

  pub newline_at : p.routine_at (p.names.routine NEWLINE) ≡ Some (routine_of 0 NEWLINE_ACTS)
  newline_at = has.each 7 (routine_of 0 NEWLINE_ACTS) refl

  pub heap_limit_at : p.routine_at (p.names.routine HEAP_LIMIT) ≡ Some (routine_of 0 HEAP_LIMIT_ACTS)
  heap_limit_at = has.each 11 (routine_of 0 HEAP_LIMIT_ACTS) refl

  pub trail_limit_at : p.routine_at (p.names.routine TRAIL_LIMIT) ≡ Some (routine_of 0 TRAIL_LIMIT_ACTS)
  trail_limit_at = has.each 12 (routine_of 0 TRAIL_LIMIT_ACTS) refl

  pub cut_at : p.routine_at (p.names.routine CUT) ≡ Some (routine_of 1 CUT_ACTS)
  cut_at = has.each 18 (routine_of 1 CUT_ACTS) refl

  pub key_of_at : p.routine_at (p.names.routine KEY_OF) ≡ Some (routine_of 4 KEY_OF_ACTS)
  key_of_at = has.each 23 (routine_of 4 KEY_OF_ACTS) refl

  pub number_at : p.routine_at (p.names.routine NUMBER) ≡ Some (routine_of 1 NUMBER_ACTS)
  number_at = has.each 34 (routine_of 1 NUMBER_ACTS) refl

  pub full_at : p.routine_at (p.names.routine FULL) ≡ Some (routine_of 3 FULL_ACTS)
  full_at = has.each 37 (routine_of 3 FULL_ACTS) refl

  pub flag_at : p.routine_at (p.names.routine FLAG) ≡ Some (routine_of 2 FLAG_ACTS)
  flag_at = has.each 42 (routine_of 2 FLAG_ACTS) refl

  pub set_flag_at : p.routine_at (p.names.routine SET_FLAG) ≡ Some (routine_of 4 SET_FLAG_ACTS)
  set_flag_at = has.each 43 (routine_of 4 SET_FLAG_ACTS) refl

  pub separate_at : p.routine_at (p.names.routine SEPARATE) ≡ Some (routine_of 1 SEPARATE_ACTS)
  separate_at = has.each 45 (routine_of 1 SEPARATE_ACTS) refl

  pub first_at : p.routine_at (p.names.routine FIRST) ≡ Some (routine_of 1 FIRST_ACTS)
  first_at = has.each 46 (routine_of 1 FIRST_ACTS) refl

  pub letter_at : p.routine_at (p.names.routine LETTER) ≡ Some (routine_of 1 LETTER_ACTS)
  letter_at = has.each 51 (routine_of 1 LETTER_ACTS) refl

  pub print_mark_at : p.routine_at (p.names.routine PRINT_MARK) ≡ Some (routine_of 1 PRINT_MARK_ACTS)
  print_mark_at = has.each 47 (routine_of 1 PRINT_MARK_ACTS) refl

  pub print_number_at : p.routine_at (p.names.routine PRINT_NUMBER) ≡ Some (routine_of 1 PRINT_NUMBER_ACTS)
  print_number_at = has.each 48 (routine_of 1 PRINT_NUMBER_ACTS) refl

  pub print_letters_at : p.routine_at (p.names.routine PRINT_LETTERS) ≡ Some (routine_of 3 PRINT_LETTERS_ACTS)
  print_letters_at = has.each 52 (routine_of 3 PRINT_LETTERS_ACTS) refl

  pub list_kind_at : p.routine_at (p.names.routine LIST_KIND) ≡ Some (routine_of 1 LIST_KIND_ACTS)
  list_kind_at = has.each 70 (routine_of 1 LIST_KIND_ACTS) refl

  pub print_piece_at : p.routine_at (p.names.routine PRINT_PIECE) ≡ Some (routine_of 4 PRINT_PIECE_ACTS)
  print_piece_at = has.each 71 (routine_of 4 PRINT_PIECE_ACTS) refl

  pub print_value_at : p.routine_at (p.names.routine PRINT_VALUE) ≡ Some (routine_of 4 PRINT_VALUE_ACTS)
  print_value_at = has.each 72 (routine_of 4 PRINT_VALUE_ACTS) refl

  pub character_at : p.routine_at (p.names.routine CHARACTER) ≡ Some (routine_of 3 CHARACTER_ACTS)
  character_at = has.each 83 (routine_of 3 CHARACTER_ACTS) refl

  pub spell_at : p.routine_at (p.names.routine SPELL) ≡ Some (routine_of 3 SPELL_ACTS)
  spell_at = has.each 84 (routine_of 3 SPELL_ACTS) refl
