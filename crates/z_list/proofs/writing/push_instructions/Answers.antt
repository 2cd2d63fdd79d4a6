use Rattle.std.proofs.Common.{◌≡◌, ◌+◌, ◌≤◌, ◌++◌, ◌∙◌, ℕ, [], List, Result, Ok, ap, sym, drop, slice_range, length, arith, refl}
use Rattle.std.proofs.lemmas.List.{length-drop}
use Rattle.z_model.specs.declared.fault.ZFault.{ZFault}
use Rattle.z_model.specs.declared.op.Found.{Found}
use Rattle.z_model.specs.Table.{player_rows}
use Rattle.z_model.specs.Decode.{op_at}
use Rattle.z_list.specs.Listing.{Line, Does, rows, instructions}
use Rattle.z_list.specs.Texts.{texts, first_length}
use Rattle.z_list.proofs.Instructions.{small_slice, small_drop, found_some, found_within}
use Rattle.z_list.proofs.Written.{line_written, next_op, slice_found, range_rest, last_written, on_ok}
use Rattle.z_list.proofs.writing.push_instructions.Goals as goal

-- what is decoded of the rest of a slice
of_rest : (bs : List ℕ) (done : ℕ) (r r' : Result Found ZFault) → done ≤ length bs → r ≡ r' → r ≡ op_at player_rows (slice_range bs done (length bs)) 0 → op_at player_rows (drop done bs) 0 ≡ r'
of_rest bs done r r' within is op = ap (λ (l : List ℕ). op_at player_rows l 0) (sym (range_rest bs done within)) ∙ (sym op ∙ is)

pub push_op-requires : goal.push_op-requires
push_op-requires c =
    let bytes = c.args.bytes.now in
    slice_found bytes c.loop-found.done c.in-Ok.found (small_slice bytes c.type_inv.bytes) (of_rest bytes c.loop-found.done c.decode.result (Ok c.in-Ok.found) c.loop-found.invariant.within c.in-Ok.is c.decode.ensures.op)

pub loop-found-preserved : goal.loop-found-preserved
loop-found-preserved c =
    let at = c.args.at in
    let bytes = c.args.bytes.now in
    let done = c.loop-found.done in
    let behind = done + c.in-Ok.found.end in
    let small = small_slice bytes c.type_inv.bytes in
    let found = of_rest bytes done c.decode.result (Ok c.in-Ok.found) c.loop-found.invariant.within c.in-Ok.is c.decode.ensures.op in
    record {
      rest = line_written _ c.loop-found.text.items c.push_op.new.text.items (Does (at + done) (slice_range bytes done behind)) (instructions first_length (length (drop behind bytes)) (at + behind) (drop behind bytes))
          (c.loop-found.invariant.rest ∙ ap (λ (ls : List Line). c.loop-found.text.items ++ texts ls) (next_op at done bytes c.in-Ok.found small found)) c.in_ok-push_op.ensures;
      within = omega (arith, found_within (drop done bytes) c.in-Ok.found (small_drop done bytes small) found, length-drop done bytes, c.loop-found.invariant.within);
    }

pub loop-found-smaller : goal.loop-found-smaller
loop-found-smaller c =
    let bytes = c.args.bytes.now in
    let done = c.loop-found.done in
    let small = small_drop done bytes (small_slice bytes c.type_inv.bytes) in
    let found = of_rest bytes done c.decode.result (Ok c.in-Ok.found) c.loop-found.invariant.within c.in-Ok.is c.decode.ensures.op in
    omega (arith, found_some (drop done bytes) c.in-Ok.found small found, found_within (drop done bytes) c.in-Ok.found small found, length-drop done bytes, c.loop-found.invariant.within)

pub returns : goal.returns
returns c =
    let at = c.args.at in
    let bytes = c.args.bytes.now in
    let done = c.loop-found.done in
    let within = c.loop-found.invariant.within in
    let rest_put = c.in_ok-push_rows.ensures ∙ ap (λ (l : List ℕ). c.loop-found.text.items ++ texts (rows (at + done) [] l)) (range_rest bytes done within) in
    on_ok c.push_end.result _ _
    (λ put. last_written _ c.loop-found.text.items c.push_rows.new.text.items c.push_end.new.text.items at done bytes c.decode.result within
    (of_rest bytes done c.decode.result c.decode.result within refl c.decode.ensures.op) (λ x is. c.in_default.not-Ok x is) c.loop-found.invariant.rest rest_put put)
    c.push_end.ensures
