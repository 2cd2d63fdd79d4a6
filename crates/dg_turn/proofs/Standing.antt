-- Where the routines stand that turns call.
use Rattle.std.proofs.Common.{◌≡◌, Some, refl}
use Rattle.z_lang.specs.State.{Program}
use Rattle.dg_rt.specs.declared.numbers.TheConstants.{CHARGE, VAR, ENTER, OPEN, FAIL, FAILED, CAPTURE, COMMIT, FOUND, NONE, MATCH, MATCHED, TAKE, LEAVE, ASK, TAIL_CALL, BODY, OPEN_INNER, UNSTOP, DONE, STOPPED, ASK_SPACES, CLOSURE, IF_BODY, ENTER_BODY}
use Rattle.dg_rt.specs.declared.closings.TheConstants.{DONE_ACTS, FAILED_ACTS, STOPPED_ACTS}
use Rattle.dg_rt.specs.declared.heap.TheConstants.{CHARGE_ACTS}
use Rattle.dg_rt.specs.declared.frames.TheConstants.{VAR_ACTS, CAPTURE_ACTS, ENTER_ACTS}
use Rattle.dg_rt.specs.declared.choices.TheConstants.{OPEN_ACTS, FAIL_ACTS, COMMIT_ACTS, OPEN_INNER_ACTS, UNSTOP_ACTS}
use Rattle.dg_rt.specs.declared.rules.TheConstants.{FOUND_ACTS, NONE_ACTS, MATCH_ACTS, MATCHED_ACTS}
use Rattle.dg_rt.specs.declared.heads.TheConstants.{TAKE_ACTS}
use Rattle.dg_rt.specs.declared.queries.TheConstants.{LEAVE_ACTS, ASK_ACTS, TAIL_CALL_ACTS, BODY_ACTS}
use Rattle.dg_rt.specs.declared.gaps.TheConstants.{ASK_SPACES_ACTS}
use Rattle.dg_rt.specs.declared.closures.TheConstants.{CLOSURE_ACTS, IF_BODY_ACTS, ENTER_BODY_ACTS}
use Rattle.dg_rt.specs.RunTime.{routine_of, HasRunTime}

module _ (p : Program) (has : HasRunTime p) where
  pub failed_at : p.routine_at (p.names.routine FAILED) ≡ Some (routine_of 0 FAILED_ACTS)
  failed_at = has.each 9 (routine_of 0 FAILED_ACTS) refl

  pub charge_at : p.routine_at (p.names.routine CHARGE) ≡ Some (routine_of 1 CHARGE_ACTS)
  charge_at = has.each 15 (routine_of 1 CHARGE_ACTS) refl

  pub var_at : p.routine_at (p.names.routine VAR) ≡ Some (routine_of 4 VAR_ACTS)
  var_at = has.each 16 (routine_of 4 VAR_ACTS) refl

  pub enter_at : p.routine_at (p.names.routine ENTER) ≡ Some (routine_of 4 ENTER_ACTS)
  enter_at = has.each 17 (routine_of 4 ENTER_ACTS) refl

  pub open_at : p.routine_at (p.names.routine OPEN) ≡ Some (routine_of 5 OPEN_ACTS)
  open_at = has.each 19 (routine_of 5 OPEN_ACTS) refl

  pub fail_at : p.routine_at (p.names.routine FAIL) ≡ Some (routine_of 4 FAIL_ACTS)
  fail_at = has.each 20 (routine_of 4 FAIL_ACTS) refl

  pub capture_at : p.routine_at (p.names.routine CAPTURE) ≡ Some (routine_of 8 CAPTURE_ACTS)
  capture_at = has.each 21 (routine_of 8 CAPTURE_ACTS) refl

  pub commit_at : p.routine_at (p.names.routine COMMIT) ≡ Some (routine_of 1 COMMIT_ACTS)
  commit_at = has.each 22 (routine_of 1 COMMIT_ACTS) refl

  pub found_at : p.routine_at (p.names.routine FOUND) ≡ Some (routine_of 4 FOUND_ACTS)
  found_at = has.each 24 (routine_of 4 FOUND_ACTS) refl

  pub none_at : p.routine_at (p.names.routine NONE) ≡ Some (routine_of 0 NONE_ACTS)
  none_at = has.each 25 (routine_of 0 NONE_ACTS) refl

  pub match_at : p.routine_at (p.names.routine MATCH) ≡ Some (routine_of 4 MATCH_ACTS)
  match_at = has.each 26 (routine_of 4 MATCH_ACTS) refl

  pub matched_at : p.routine_at (p.names.routine MATCHED) ≡ Some (routine_of 1 MATCHED_ACTS)
  matched_at = has.each 27 (routine_of 1 MATCHED_ACTS) refl

  pub take_at : p.routine_at (p.names.routine TAKE) ≡ Some (routine_of 4 TAKE_ACTS)
  take_at = has.each 135 (routine_of 4 TAKE_ACTS) refl

  pub leave_at : p.routine_at (p.names.routine LEAVE) ≡ Some (routine_of 4 LEAVE_ACTS)
  leave_at = has.each 28 (routine_of 4 LEAVE_ACTS) refl

  pub ask_at : p.routine_at (p.names.routine ASK) ≡ Some (routine_of 4 ASK_ACTS)
  ask_at = has.each 29 (routine_of 4 ASK_ACTS) refl

  pub tail_call_at : p.routine_at (p.names.routine TAIL_CALL) ≡ Some (routine_of 2 TAIL_CALL_ACTS)
  tail_call_at = has.each 30 (routine_of 2 TAIL_CALL_ACTS) refl

  pub open_inner_at : p.routine_at (p.names.routine OPEN_INNER) ≡ Some (routine_of 2 OPEN_INNER_ACTS)
  open_inner_at = has.each 32 (routine_of 2 OPEN_INNER_ACTS) refl

  pub body_at : p.routine_at (p.names.routine BODY) ≡ Some (routine_of 4 BODY_ACTS)
  body_at = has.each 31 (routine_of 4 BODY_ACTS) refl

  pub unstop_at : p.routine_at (p.names.routine UNSTOP) ≡ Some (routine_of 4 UNSTOP_ACTS)
  unstop_at = has.each 33 (routine_of 4 UNSTOP_ACTS) refl

  pub done_at : p.routine_at (p.names.routine DONE) ≡ Some (routine_of 0 DONE_ACTS)
  done_at = has.each 8 (routine_of 0 DONE_ACTS) refl

  pub stopped_at : p.routine_at (p.names.routine STOPPED) ≡ Some (routine_of 0 STOPPED_ACTS)
  stopped_at = has.each 10 (routine_of 0 STOPPED_ACTS) refl

  pub ask_spaces_at : p.routine_at (p.names.routine ASK_SPACES) ≡ Some (routine_of 2 ASK_SPACES_ACTS)
  ask_spaces_at = has.each 53 (routine_of 2 ASK_SPACES_ACTS) refl

  pub closure_at : p.routine_at (p.names.routine CLOSURE) ≡ Some (routine_of 3 CLOSURE_ACTS)
  closure_at = has.each 85 (routine_of 3 CLOSURE_ACTS) refl

  pub if_body_at : p.routine_at (p.names.routine IF_BODY) ≡ Some (routine_of 3 IF_BODY_ACTS)
  if_body_at = has.each 86 (routine_of 3 IF_BODY_ACTS) refl

  pub enter_body_at : p.routine_at (p.names.routine ENTER_BODY) ≡ Some (routine_of 0 ENTER_BODY_ACTS)
  enter_body_at = has.each 87 (routine_of 0 ENTER_BODY_ACTS) refl
