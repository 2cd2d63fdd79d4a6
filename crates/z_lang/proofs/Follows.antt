-- The instructions of a routine follow its meaning.
use Rattle.std.proofs.Common.{◌≡◌, ℕ, suc, ◌+◌, ◌≤◌, Bool, true, false, not, List, [], ◌∷◌, length, Option, Some, None, Result, Ok, refl, ap, ◌∙◌, subst}
use Rattle.std.specs.Prelude.{◌%◌}
use Rattle.std.proofs.lemmas.Option.{same_Some}
use Rattle.z_model.specs.declared.fault.ZFault.{ZFault}
use Rattle.z_model.specs.declared.op.Op.{Op}
use Rattle.z_model.specs.declared.story.Layout.{Layout}
use Rattle.z_model.specs.declared.op.Operand.{Operand}
use Rattle.z_model.specs.declared.op.Operand.TheVariants as operands
use Rattle.z_model.specs.declared.op.Branch.{Branch}
use Rattle.z_model.specs.declared.table.Two.TheVariants as two
use Rattle.z_model.specs.declared.table.One.TheVariants as one
use Rattle.z_model.specs.declared.table.Zero.TheVariants as zeros
use Rattle.z_model.specs.declared.table.Several.TheVariants as several
use Rattle.z_model.specs.declared.op.Operands.{Operands}
use Rattle.z_model.specs.declared.table.Row.{Row}
use Rattle.z_model.specs.declared.table.Kind.{Kind}
use Rattle.z_model.specs.declared.table.Kind.TheVariants as kinds
use Rattle.z_model.specs.declared.table.Instr.{Instr}
use Rattle.z_model.specs.declared.table.Instr.TheVariants as instrs
use Rattle.z_model.specs.declared.op.Found.{Found}
use Rattle.z_model.specs.declared.end.Args.{Args as ZArgs}
use Rattle.z_model.specs.declared.end.Effect.{Effect}
use Rattle.z_model.specs.declared.end.Halt.TheVariants.{AtQuit, AtInput}
use Rattle.z_model.specs.Spelling.{spelling, type_of_operand, types_in, row_of}
use Rattle.z_model.specs.Typed.{typed_left}
use Rattle.z_model.specs.Table.{Rows, player_rows}
use Rattle.z_model.specs.Decode.{known, short_kind, op_found, op_at}
use Rattle.z_model.specs.Effects.{read_effect, most_typed, random_of, goes}
use Rattle.z_model.specs.Flow.{at_pc, returned, branched}
use Rattle.z_model.specs.Machine.{Machine, operand_value, operand_values, stored_if}
use Rattle.z_model.specs.Numbers.{wrapped_word}
use Rattle.z_model.specs.Run.{ZGiven, ZState, Next, On, Ended, zstep, next_by, line_read, word_at, next_drawn}
use Rattle.z_model.specs.Step.{do_instr, do_one, do_zero, do_two, do_several}
use Rattle.z_code.specs.declared.target.Target.{Target}
use Rattle.z_code.specs.declared.target.Target.TheVariants as targets
use Rattle.z_code.specs.Targets.{fill, filled, OpAt, offset_to, IsNear, Names}
use Rattle.z_lang.specs.declared.act.Atom.{Atom}
use Rattle.z_lang.specs.declared.act.Function.{Function}
use Rattle.z_lang.specs.declared.act.Function.TheVariants as functions
use Rattle.z_lang.specs.declared.act.Width.{Width}
use Rattle.z_lang.specs.declared.act.Width.TheVariants as widths
use Rattle.z_lang.specs.declared.act.Print.{Print}
use Rattle.z_lang.specs.declared.act.Print.TheVariants as prints
use Rattle.z_lang.specs.declared.act.Comparison.{Comparison}
use Rattle.z_lang.specs.declared.act.Comparison.TheVariants as comparisons
use Rattle.z_lang.specs.declared.act.Test.{Test}
use Rattle.z_lang.specs.declared.act.Act.TheVariants as acts
use Rattle.z_lang.specs.State.{State, Program, value, put}
use Rattle.z_lang.specs.Acts.{comparison_answer, computed, memory_with, print_output, does, random_drawn, readable, answer_of, with_output}
use Rattle.z_lang.specs.Runs.{ActsOutcome, Returns, Stops, Rests}
use Rattle.z_lang.specs.Code.{one_of, two_of, three_of, short_op, variable_op, print_op, quit_op, branch_on, operand, target, function_number, write_number, compare_number, operands_by, targets_by, test_operands, test_targets}
use Rattle.z_lang.specs.Leads.{Leads}
use Rattle.z_lang.specs.Standing.{IsLaidOut, IsKept, Context, machine_at, machine_state, state_at, resumed, ArrivesAt}
use Rattle.z_lang.proofs.Stretches.{leads_step, leads_then, ends_step, ends_then}
use Rattle.z_lang.proofs.Kept.{decoded}
use Rattle.z_lang.proofs.Operands.{operand_is, values_none, values_one, values_two, values_three, values_four, args_of, the_word, the_args, put_stored, put_placed}
use Rattle.z_lang.proofs.Effects.{the_step, step_by, zstep_by, instr_of, computes, answer_stored, write_instr, writes, print_instr, prints_as, compare_instr, Decides, equal_two, equal_three, equal_four, is_less, is_greater, branches, branches_not}
use Rattle.z_lang.proofs.Keeping.{IsReadable, is_readable, Took, took, SameOutside, Drew, nothing_drawn, one_drawn, drew, bound, put_keeps}
use Rattle.z_lang.proofs.Jumps.{branch_leads, jump_leads}
use Rattle.z_lang.proofs.Calls.{return_resumes}

-- ---- one step

-- on to a state
pub comes_step : (p : Program) (story : List ℕ) (labels : ℕ → ℕ) (c : Context) (o : ActsOutcome) (s : State) (n : ℕ) (z z1 : ZState) → zstep p.world z ≡ On z1 → ArrivesAt p story labels c o s n z1 → ArrivesAt p story labels c o s (suc n) z
comes_step p story labels c (Returns x) s n z z1 e h = λ m r. leads_step p.world n z z1 (machine_state s m) e (h m r)
comes_step p story labels c (Stops halt) s n z z1 e h = (h.0, h.1, ends_step p.world n z z1 _ e h.2)
comes_step p story labels c (Rests acts) s n z z1 e h = record { pc = h.pc; placed = h.placed; from = h.from; leads = leads_step p.world n z z1 (state_at s c h.pc) e h.leads }

-- a stretch that leads to a state
pub comes_then : (p : Program) (story : List ℕ) (labels : ℕ → ℕ) (c : Context) (o : ActsOutcome) (s : State) (n k : ℕ) (z z1 : ZState) → Leads p.world n z z1 → ArrivesAt p story labels c o s k z1 → ArrivesAt p story labels c o s (n + k) z
comes_then p story labels c (Returns x) s n k z z1 l h = λ m r. leads_then p.world n k z z1 (machine_state s m) l (h m r)
comes_then p story labels c (Stops halt) s n k z z1 l h = (h.0, h.1, ends_then p.world n k z z1 _ l h.2)
comes_then p story labels c (Rests acts) s n k z z1 l h = record { pc = h.pc; placed = h.placed; from = h.from; leads = leads_then p.world n k z z1 (state_at s c h.pc) l h.leads }

-- ---- what single instructions do, by their meaning

-- an instruction that stands at the present address
pub record Here (p : Program) (story : List ℕ) (labels : ℕ → ℕ) (s : State) (pc : ℕ) (op : Op) (ts : List (Option Target)) (branch : Option ℕ) : Type 0 where
  pub fits : OpAt story p.names labels pc op ts branch
  pub kept : IsKept p.world.layout.base story s.memory
  pub from : p.world.layout.base ≤ pc

-- where it ends
abbrev pub end_at : ℕ → Op → ℕ
end_at pc op = pc + length (spelling op)

-- the row of an op
abbrev pub row_by : Op → Result Row ZFault
row_by op = row_of player_rows op.form op.number (types_in op.operands)

same_row : (r : Result Row ZFault) (x y : Row) → r ≡ Ok x → r ≡ Ok y → x ≡ y
same_row r x y e f = cc

abbrev the_found : Found → Result Found ZFault
the_found x = Ok x

-- the step of an instruction whose operands have these values
pub by_row : (p : Program) (story : List ℕ) (labels : ℕ → ℕ) (s : State) (c : Context) (pc : ℕ) (op : Op) (ts : List (Option Target)) (branch : Option ℕ) (a : ZArgs) (row : Row) → IsLaidOut p.world →
    Here p story labels s pc op ts branch →
    operand_values p.world.layout (machine_at s c pc) (filled p.names labels (end_at pc op) op ts branch).operands ≡ Ok (a, machine_at s c pc) →
    row_by (filled p.names labels (end_at pc op) op ts branch) ≡ Ok row →
    zstep p.world (state_at s c pc) ≡ next_by p.world (state_at s c pc) (do_instr p.world.layout (word_at p.world s.drawn) row.instr (filled p.names labels (end_at pc op) op ts branch) (end_at pc op) a (machine_at s c pc))
by_row p story labels s c pc op ts branch a row laid h v r =
    let now = filled p.names labels (end_at pc op) op ts branch in
    let there = decoded player_rows p.world.layout.base story s.memory pc now (end_at pc op) h.kept h.from h.fits.is in
    let same : h.fits.is.row ≡ row = same_row (row_by now) h.fits.is.row row h.fits.is.is.known r in
    let here : op_at p.world.rows s.memory pc ≡ Ok (op_found row now (end_at pc op)) = ap (λ (rows : Rows). op_at rows s.memory pc) laid.rows ∙ there ∙ ap (λ (x : Row). the_found (op_found x now (end_at pc op))) same in
    zstep_by p.world (state_at s c pc) _ (step_by p.world.rows p.world.layout (word_at p.world s.drawn) (machine_at s c pc) now (end_at pc op) a row here v)

pub outside_same : (s s1 : State) (m : Machine) → SameOutside s s1 → machine_state s m ≡ machine_state s1 m
outside_same s s1 m same = rw (same.typed, same.drawn, same.output) refl

abbrev pub on : ZState → Next
on z = On z

-- an act that only stores
stored_on : (p : Program) (story : List ℕ) (s s1 : State) (c : Context) (pc end v x : ℕ) (r : Result (Effect × Machine) ZFault) → IsLaidOut p.world → put p v x s ≡ Some s1 → r ≡ the_step (machine_at s1 c end) → next_by p.world (state_at s c pc) r ≡ on (state_at s1 c end)
stored_on p story s s1 c pc end v x r laid e h = ap (next_by p.world (state_at s c pc)) h ∙ ap on (outside_same s s1 (machine_at s1 c end) (put_keeps p v x s s1 e).same)

function_rows : (f : Function) (xs : Operands) (v : ℕ) (names : Names) (labels : ℕ → ℕ) (end : ℕ) (ts : List (Option Target)) → row_by (filled names labels end (variable_op (function_number f) xs (Some v) None) ts None) ≡ Ok (record { instr = instr_of f; fewest = 2; most = 2; store = true; branch = false; text = false })
function_rows functions.Add xs v names labels end ts = refl
function_rows functions.Sub xs v names labels end ts = refl
function_rows functions.Mul xs v names labels end ts = refl
function_rows functions.Div xs v names labels end ts = refl
function_rows functions.Mod xs v names labels end ts = refl
function_rows functions.And xs v names labels end ts = refl
function_rows functions.Or xs v names labels end ts = refl
function_rows functions.Word xs v names labels end ts = refl
function_rows functions.Byte xs v names labels end ts = refl

write_rows : (k : Width) (xs : Operands) (names : Names) (labels : ℕ → ℕ) (end : ℕ) (ts : List (Option Target)) → row_by (filled names labels end (variable_op (write_number k) xs None None) ts None) ≡ Ok (record { instr = write_instr k; fewest = 3; most = 3; store = false; branch = false; text = false })
write_rows widths.Word xs names labels end ts = refl
write_rows widths.Byte xs names labels end ts = refl

abbrev pub plain_row : Instr → Row
plain_row instr = record { instr = instr; fewest = 1; most = 1; store = false; branch = false; text = false }

-- an op of the short form with an operand
short_row : (number : ℕ) (x : Operand) (row : Result Row ZFault) (by : Kind → Result Row ZFault) → by kinds.One ≡ row → by (short_kind (type_of_operand x)) ≡ row
short_row number (operands.Large n) row by e = e
short_row number (operands.Small n) row by e = e
short_row number (operands.Variable n) row by e = e

print_rows : (k : Print) (a : Operand) (names : Names) (labels : ℕ → ℕ) (end : ℕ) (t : Option Target) → row_by (filled names labels end (print_op k a) (t ∷ None ∷ None ∷ None ∷ []) None) ≡ Ok (record { instr = print_instr k; fewest = 1; most = 1; store = false; branch = false; text = false })
print_rows prints.Code a names labels end t = refl
print_rows prints.Number a names labels end t = refl
print_rows prints.Unicode a names labels end t = refl
print_rows prints.Text a names labels end t = short_row 13 (fill names labels end t a) _ (λ (x : Kind). known player_rows x 13) refl

print_values : (layout : Layout) (m : Machine) (k : Print) (a : Operand) (x : ℕ) (names : Names) (labels : ℕ → ℕ) (end : ℕ) (t : Option Target) → operand_value layout m (fill names labels end t a) ≡ the_word x m → operand_values layout m (filled names labels end (print_op k a) (t ∷ None ∷ None ∷ None ∷ []) None).operands ≡ the_args (args_of 1 x 0 0 0) m
print_values layout m prints.Code a x names labels end t e = values_one layout m _ x e
print_values layout m prints.Number a x names labels end t e = values_one layout m _ x e
print_values layout m prints.Unicode a x names labels end t e = values_one layout m _ x e
print_values layout m prints.Text a x names labels end t e = values_one layout m _ x e

compare_most : Comparison → ℕ
compare_most comparisons.Equal = 4
compare_most comparisons.Less = 2
compare_most comparisons.Greater = 2
compare_most (comparisons.Either c) = 4
compare_most (comparisons.Any c d) = 4

compare_rows : (k : Comparison) (xs : Operands) (b : Option Branch) (names : Names) (labels : ℕ → ℕ) (end : ℕ) (ts : List (Option Target)) (l : Option ℕ) → row_by (filled names labels end (variable_op (compare_number k) xs None b) ts l) ≡ Ok (record { instr = compare_instr k; fewest = 2; most = compare_most k; store = false; branch = true; text = false })
unfolding compare_most
compare_rows comparisons.Equal xs b names labels end ts l = refl
compare_rows comparisons.Less xs b names labels end ts l = refl
compare_rows comparisons.Greater xs b names labels end ts l = refl
compare_rows (comparisons.Either c) xs b names labels end ts l = refl
compare_rows (comparisons.Any c d) xs b names labels end ts l = refl

-- the values that a test compares, and what they decide
record Tested (p : Program) (s : State) (c : Context) (pc : ℕ) (xs : Operands) (k : Comparison) (b : Bool) : Type 0 where
  args : ZArgs
  values : operand_values p.world.layout (machine_at s c pc) xs ≡ the_args args (machine_at s c pc)
  decides : Decides p.world.layout k args b

-- the operands of a test, filled in
abbrev filled_in : Names → (ℕ → ℕ) → ℕ → Operands → List (Option Target) → Operands
filled_in names labels end xs ts = (filled names labels end (variable_op 1 xs None None) ts None).operands

tested_by : (p : Program) (s : State) (c : Context) (pc : ℕ) (xs : Operands) (k : Comparison) (b b' : Bool) → b ≡ b' → Tested p s c pc xs k b → Tested p s c pc xs k b'
tested_by p s c pc xs k b b' e t = subst (λ (x : Bool). Tested p s c pc xs k x) e t

tested : (p : Program) (s : State) (c : Context) (pc : ℕ) (labels : ℕ → ℕ) (end : ℕ) (k : Comparison) (first second : Atom) (x y : ℕ) (b : Bool) → value p s first ≡ Some x → value p s second ≡ Some y → comparison_answer p s k x y ≡ Some b →
    Tested p s c pc (filled_in p.names labels end (operands_by k (operand first) (operand second)) (targets_by k (target first) (target second))) k b
tested p s c pc labels end comparisons.Equal first second x y b xi yi e = tested_by p s c pc _ _ _ b (same_Some _ b e)
    (record { args = args_of 2 x y 0 0; values = values_two p.world.layout (machine_at s c pc) _ _ x y (operand_is p s c pc labels end first x xi) (operand_is p s c pc labels end second y yi); decides = equal_two p.world.layout x y })
tested p s c pc labels end comparisons.Less first second x y b xi yi e = tested_by p s c pc _ _ _ b (same_Some _ b e)
    (record { args = args_of 2 x y 0 0; values = values_two p.world.layout (machine_at s c pc) _ _ x y (operand_is p s c pc labels end first x xi) (operand_is p s c pc labels end second y yi); decides = is_less p.world.layout x y })
tested p s c pc labels end comparisons.Greater first second x y b xi yi e = tested_by p s c pc _ _ _ b (same_Some _ b e)
    (record { args = args_of 2 x y 0 0; values = values_two p.world.layout (machine_at s c pc) _ _ x y (operand_is p s c pc labels end first x xi) (operand_is p s c pc labels end second y yi); decides = is_greater p.world.layout x y })
tested p s c pc labels end (comparisons.Either d) first second x y b xi yi e =
    let z = bound (value p s d) _ b e in
    tested_by p s c pc _ _ _ b (same_Some _ b z.rest) (record {
      args = args_of 3 x y z.x 0;
      values = values_three p.world.layout (machine_at s c pc) _ _ _ x y z.x (operand_is p s c pc labels end first x xi) (operand_is p s c pc labels end second y yi) (operand_is p s c pc labels end d z.x z.is);
      decides = equal_three p.world.layout d x y z.x;
    })
tested p s c pc labels end (comparisons.Any d g) first second x y b xi yi e =
    let z = bound (value p s d) _ b e in
    let u = bound (value p s g) _ b z.rest in
    tested_by p s c pc _ _ _ b (same_Some _ b u.rest) (record {
      args = args_of 4 x y z.x u.x;
      values = values_four p.world.layout (machine_at s c pc) _ _ _ _ x y z.x u.x (operand_is p s c pc labels end first x xi) (operand_is p s c pc labels end second y yi) (operand_is p s c pc labels end d z.x z.is) (operand_is p s c pc labels end g u.x u.is);
      decides = equal_four p.world.layout d g x y z.x u.x;
    })

small_is : (p : Program) (s : State) (c : Context) (pc v : ℕ) → operand_value p.world.layout (machine_at s c pc) (operands.Small v) ≡ the_word v (machine_at s c pc)
unfolding operand_value
small_is p s c pc v = refl

pub large_is : (p : Program) (s : State) (c : Context) (pc v : ℕ) → operand_value p.world.layout (machine_at s c pc) (operands.Large v) ≡ the_word v (machine_at s c pc)
unfolding operand_value
large_is p s c pc v = refl

jumps_on : (layout : Layout) (m : Machine) (end to word : ℕ) (op : Op) → IsNear end to → do_instr layout word (instrs.One one.Jump) op end (args_of 1 (wrapped_word (offset_to end to)) 0 0 0) m ≡ the_step (at_pc m to)
unfolding do_instr do_one
jumps_on layout m end to word op near = rw (jump_leads m end to near) refl

returns_by : (layout : Layout) (m : Machine) (end word x : ℕ) (op : Op) (after : Machine) → returned layout m x ≡ Ok after → do_instr layout word (instrs.One one.Ret) op end (args_of 1 x 0 0 0) m ≡ the_step after
unfolding do_instr do_one
returns_by layout m end word x op after e = rw e refl

quits_by : (w : ZGiven) (z : ZState) (end word : ℕ) (op : Op) → next_by w z (do_instr w.layout word (instrs.Zero zeros.Quit) op end (args_of 0 0 0 0 0) z.machine) ≡ Ended AtQuit (record z { machine = at_pc z.machine end })
unfolding do_instr do_zero
quits_by w z end word op = refl

copies : (p : Program) (s s1 : State) (c : Context) (pc end v x word : ℕ) (op : Op) → put p v x s ≡ Some s1 → do_instr p.world.layout word (instrs.Two two.Store) op end (args_of 2 v x 0 0) (machine_at s c pc) ≡ the_step (machine_at s1 c end)
unfolding do_instr do_two
copies p s s1 c pc end v x word op e = rw (put_placed p v x s s1 c end e) refl

draws : (p : Program) (story : List ℕ) (s s1 : State) (c : Context) (pc end v r : ℕ) (op : Op) → IsLaidOut p.world → op.store ≡ Some v → random_drawn p v r s ≡ Some s1 → next_by p.world (state_at s c pc) (do_instr p.world.layout (word_at p.world s.drawn) (instrs.Several several.Random) op end (args_of 1 r 0 0 0) (machine_at s c pc)) ≡ on (state_at s1 c end)
unfolding do_instr do_several random_of stored_if
draws p story s s1 c pc end v r op laid store e = by_case (drew p v r s s1 e)
  where
    by_case : Drew p v r s s1 → next_by p.world (state_at s c pc) (do_instr p.world.layout (word_at p.world s.drawn) (instrs.Several several.Random) op end (args_of 1 r 0 0 0) (machine_at s c pc)) ≡ on (state_at s1 c end)
    by_case (nothing_drawn q h) = rw (store, q) (stored_on p story s s1 c pc end v 0 _ laid h (answer_stored p v 0 s s1 c pc end h))
    by_case (one_drawn after q h is) =
        let same = (put_keeps p v (1 + word_at p.world s.drawn % r) s after h).same in
        rw (store, q, put_stored p v (1 + word_at p.world s.drawn % r) s after c end h)
        (ap (λ (t : ZState). on (record t { drawn = next_drawn p.world s.drawn })) (outside_same s after (machine_at after c end) same)
        ∙ ap (λ (u : State). on (state_at u c end)) is)

-- the tests of a reading
most_of : (layout : Layout) (m : Machine) (x most : ℕ) → IsReadable layout m.memory x most → most_typed layout m (args_of 2 x 0 0 0) ≡ Ok most
unfolding most_typed
most_of layout m x most r = rw (r.byte, r.may) refl

read_by : (p : Program) (story : List ℕ) (s tried s1 : State) (c : Context) (pc end v x most : ℕ) (op : Op) → IsLaidOut p.world → op.store ≡ Some v → IsReadable p.world.layout s.memory x most → put p v 13 s ≡ Some tried → Took p v x most s s1 → next_by p.world (state_at s c pc) (do_instr p.world.layout (word_at p.world s.drawn) (instrs.Several several.Aread) op end (args_of 2 x 0 0 0) (machine_at s c pc)) ≡ on (state_at s1 c end)
unfolding do_instr do_several read_effect line_read stored_if
read_by p story s tried s1 c pc end v x most op laid store r t k =
    let after = record s { memory = k.memory.bytes; typed = typed_left (k.byte ∷ k.typed) } in
    let same = (put_keeps p v 13 after s1 k.stored).same in
    rw (store, most_of p.world.layout (machine_at s c pc) x most r, put_stored p v 13 s tried c end t, k.is, k.line, put_stored p v 13 after s1 c end k.stored) (ap on (outside_same after s1 (machine_at s1 c end) same))

input_by : (p : Program) (s tried : State) (c : Context) (pc end v x most : ℕ) (op : Op) → op.store ≡ Some v → IsReadable p.world.layout s.memory x most → put p v 13 s ≡ Some tried → s.typed ≡ [] → next_by p.world (state_at s c pc) (do_instr p.world.layout (word_at p.world s.drawn) (instrs.Several several.Aread) op end (args_of 2 x 0 0 0) (machine_at s c pc)) ≡ Ended AtInput (state_at s c end)
unfolding do_instr do_several read_effect stored_if
input_by p s tried c pc end v x most op store r t k = rw (store, most_of p.world.layout (machine_at s c pc) x most r, put_stored p v 13 s tried c end t, k) refl

module _ (p : Program) (story : List ℕ) (labels : ℕ → ℕ) (c : Context) (laid : IsLaidOut p.world) where
  pub copy_step : (s s1 : State) (pc v : ℕ) (a : Atom) → Here p story labels s pc (variable_op 13 (two_of (operands.Small v) (operand a)) None None) (None ∷ target a ∷ None ∷ None ∷ []) None → does p (acts.Copy v a) s ≡ Some s1 → zstep p.world (state_at s c pc) ≡ on (state_at s1 c (end_at pc (variable_op 13 (two_of (operands.Small v) (operand a)) None None)))
  copy_step s s1 pc v a here e =
      let x = bound (value p s a) _ s1 e in
      let end = end_at pc (variable_op 13 (two_of (operands.Small v) (operand a)) None None) in
      by_row p story labels s c pc _ _ None (args_of 2 v x.x 0 0) _ laid here (values_two p.world.layout (machine_at s c pc) _ _ v x.x (small_is p s c pc v) (operand_is p s c pc labels end a x.x x.is)) refl
      ∙ stored_on p story s s1 c pc end v x.x _ laid x.rest (copies p s s1 c pc end v x.x (word_at p.world s.drawn) _ x.rest)

  pub compute_step : (s s1 : State) (pc v : ℕ) (f : Function) (a b : Atom) → Here p story labels s pc (variable_op (function_number f) (two_of (operand a) (operand b)) (Some v) None) (target a ∷ target b ∷ None ∷ None ∷ []) None → does p (acts.Compute v f a b) s ≡ Some s1 → zstep p.world (state_at s c pc) ≡ on (state_at s1 c (end_at pc (variable_op (function_number f) (two_of (operand a) (operand b)) (Some v) None)))
  compute_step s s1 pc v f a b here e =
      let x = bound (value p s a) _ s1 e in
      let y = bound (value p s b) _ s1 x.rest in
      let z = bound (computed p.world.layout s.memory f x.x y.x) _ s1 y.rest in
      let end = end_at pc (variable_op (function_number f) (two_of (operand a) (operand b)) (Some v) None) in
      by_row p story labels s c pc _ _ None (args_of 2 x.x y.x 0 0) _ laid here (values_two p.world.layout (machine_at s c pc) _ _ x.x y.x (operand_is p s c pc labels end a x.x x.is) (operand_is p s c pc labels end b y.x y.is)) (function_rows f (two_of (operand a) (operand b)) v p.names labels end (target a ∷ target b ∷ None ∷ None ∷ []))
      ∙ stored_on p story s s1 c pc end v z.x _ laid z.rest (computes p.world.layout f _ end (word_at p.world s.drawn) x.x y.x z.x (machine_at s c pc) z.is ∙ answer_stored p v z.x s s1 c pc end z.rest)

  pub write_step : (s s1 : State) (pc : ℕ) (k : Width) (a b d : Atom) → Here p story labels s pc (variable_op (write_number k) (three_of (operand a) (operand b) (operand d)) None None) (target a ∷ target b ∷ target d ∷ None ∷ []) None → does p (acts.Write k a b d) s ≡ Some s1 → zstep p.world (state_at s c pc) ≡ on (state_at s1 c (end_at pc (variable_op (write_number k) (three_of (operand a) (operand b) (operand d)) None None)))
  write_step s s1 pc k a b d here e =
      let x = bound (value p s a) _ s1 e in
      let y = bound (value p s b) _ s1 x.rest in
      let z = bound (value p s d) _ s1 y.rest in
      let m = bound (memory_with p.world.layout s.memory k x.x y.x z.x) _ s1 z.rest in
      let end = end_at pc (variable_op (write_number k) (three_of (operand a) (operand b) (operand d)) None None) in
      by_row p story labels s c pc _ _ None (args_of 3 x.x y.x z.x 0) _ laid here (values_three p.world.layout (machine_at s c pc) _ _ _ x.x y.x z.x (operand_is p s c pc labels end a x.x x.is) (operand_is p s c pc labels end b y.x y.is) (operand_is p s c pc labels end d z.x z.is)) (write_rows k (three_of (operand a) (operand b) (operand d)) p.names labels end (target a ∷ target b ∷ target d ∷ None ∷ []))
      ∙ ap (next_by p.world (state_at s c pc)) (writes p.world.layout k _ end (word_at p.world s.drawn) x.x y.x z.x (machine_at s c pc) m.x m.is)
      ∙ ap (λ (t : State). on (state_at t c end)) (same_Some (record s { memory = m.x }) s1 m.rest)

  pub print_step : (s s1 : State) (pc : ℕ) (k : Print) (a : Atom) → Here p story labels s pc (print_op k (operand a)) (target a ∷ None ∷ None ∷ None ∷ []) None → does p (acts.Print k a) s ≡ Some s1 → zstep p.world (state_at s c pc) ≡ on (state_at s1 c (end_at pc (print_op k (operand a))))
  print_step s s1 pc k a here e =
      let x = bound (value p s a) _ s1 e in
      let t = bound (print_output s.memory k x.x) _ s1 x.rest in
      let end = end_at pc (print_op k (operand a)) in
      by_row p story labels s c pc _ _ None (args_of 1 x.x 0 0 0) _ laid here (print_values p.world.layout (machine_at s c pc) k (operand a) x.x p.names labels end (target a) (operand_is p s c pc labels end a x.x x.is)) (print_rows k (operand a) p.names labels end (target a))
      ∙ prints_as p.world (state_at s c pc) k _ end (word_at p.world s.drawn) x.x t.x refl t.is
      ∙ ap (λ (u : State). on (state_at u c end)) (same_Some (with_output s t.x) s1 t.rest)

  pub random_step : (s s1 : State) (pc v : ℕ) (a : Atom) → Here p story labels s pc (variable_op 39 (one_of (operand a)) (Some v) None) (target a ∷ None ∷ None ∷ None ∷ []) None → does p (acts.Random v a) s ≡ Some s1 → zstep p.world (state_at s c pc) ≡ on (state_at s1 c (end_at pc (variable_op 39 (one_of (operand a)) (Some v) None)))
  random_step s s1 pc v a here e =
      let x = bound (value p s a) _ s1 e in
      let end = end_at pc (variable_op 39 (one_of (operand a)) (Some v) None) in
      by_row p story labels s c pc _ _ None (args_of 1 x.x 0 0 0) _ laid here (values_one p.world.layout (machine_at s c pc) _ x.x (operand_is p s c pc labels end a x.x x.is)) refl
      ∙ draws p story s s1 c pc end v x.x _ laid refl x.rest

  -- ---- where it goes on elsewhere

  pub goto_step : (s : State) (pc l : ℕ) → Here p story labels s pc (short_op 12 (operands.Large 0)) (Some (targets.Label l) ∷ None ∷ None ∷ None ∷ []) None → zstep p.world (state_at s c pc) ≡ on (state_at s c (labels l))
  goto_step s pc l here =
      let end = end_at pc (short_op 12 (operands.Large 0)) in
      by_row p story labels s c pc _ _ None (args_of 1 (wrapped_word (offset_to end (labels l))) 0 0 0) _ laid here (values_one p.world.layout (machine_at s c pc) _ _ (large_is p s c pc (wrapped_word (offset_to end (labels l))))) refl
      ∙ ap (next_by p.world (state_at s c pc)) (jumps_on p.world.layout (machine_at s c pc) end (labels l) (word_at p.world s.drawn) _ here.fits.target)

  abbrev pub when_op : Test → Op
  when_op t = variable_op (compare_number t.comparison) (test_operands t) None (Some (branch_on t.answer))

  -- the answer of a test, and the branch by it
  pub test_step : (s : State) (pc l : ℕ) (t : Test) (b : Bool) → Here p story labels s pc (when_op t) (test_targets t) (Some l) → answer_of p s t ≡ Some b → zstep p.world (state_at s c pc) ≡ next_by p.world (state_at s c pc) (goes (branched p.world.layout (machine_at s c pc) (end_at pc (when_op t)) (Some (record { when = t.answer; offset = offset_to (end_at pc (when_op t)) (labels l); short = false })) b))
  test_step s pc l t b here e =
      let x = bound (value p s t.first) _ b e in
      let y = bound (value p s t.second) _ b x.rest in
      let end = end_at pc (when_op t) in
      let v = tested p s c pc labels end t.comparison t.first t.second x.x y.x b x.is y.is y.rest in
      by_row p story labels s c pc _ _ (Some l) v.args _ laid here v.values (compare_rows t.comparison (test_operands t) (Some (branch_on t.answer)) p.names labels end (test_targets t) (Some l))
      ∙ ap (next_by p.world (state_at s c pc)) (v.decides _ end (word_at p.world s.drawn) (machine_at s c pc))

  pub taken_step : (s : State) (pc l : ℕ) (t : Test) → Here p story labels s pc (when_op t) (test_targets t) (Some l) → answer_of p s t ≡ Some t.answer → zstep p.world (state_at s c pc) ≡ on (state_at s c (labels l))
  taken_step s pc l t here e =
      let end = end_at pc (when_op t) in
      test_step s pc l t t.answer here e
      ∙ ap (λ (r : Result Machine ZFault). next_by p.world (state_at s c pc) (goes r)) (branches p.world.layout (machine_at s c pc) end (record { when = t.answer; offset = offset_to end (labels l); short = false }) ∙ branch_leads p.world.layout (machine_at s c pc) end (labels l) here.fits.label)

  pub passed_step : (s : State) (pc l : ℕ) (t : Test) → Here p story labels s pc (when_op t) (test_targets t) (Some l) → answer_of p s t ≡ Some (not t.answer) → zstep p.world (state_at s c pc) ≡ on (state_at s c (end_at pc (when_op t)))
  passed_step s pc l t here e =
      let end = end_at pc (when_op t) in
      test_step s pc l t (not t.answer) here e
      ∙ ap (λ (r : Result Machine ZFault). next_by p.world (state_at s c pc) (goes r)) (branches_not p.world.layout (machine_at s c pc) end (record { when = t.answer; offset = offset_to end (labels l); short = false }))

  pub return_step : (s : State) (pc x : ℕ) (a : Atom) (m : Machine) → Here p story labels s pc (short_op 11 (operand a)) (target a ∷ None ∷ None ∷ None ∷ []) None → value p s a ≡ Some x → resumed p.world.layout s c x ≡ Ok m → zstep p.world (state_at s c pc) ≡ on (machine_state s m)
  return_step s pc x a m here e r =
      let end = end_at pc (short_op 11 (operand a)) in
      by_row p story labels s c pc _ _ None (args_of 1 x 0 0 0) (plain_row (instrs.One one.Ret)) laid here (values_one p.world.layout (machine_at s c pc) _ x (operand_is p s c pc labels end a x e))
      (short_row 11 (fill p.names labels end (target a) (operand a)) (Ok (plain_row (instrs.One one.Ret))) (λ (k : Kind). known player_rows k 11) refl)
      ∙ ap (next_by p.world (state_at s c pc)) (returns_by p.world.layout (machine_at s c pc) end (word_at p.world s.drawn) x _ m (return_resumes p.world.layout s c pc x ∙ r))

  pub quit_step : (s : State) (pc : ℕ) → Here p story labels s pc quit_op (None ∷ None ∷ None ∷ None ∷ []) None → zstep p.world (state_at s c pc) ≡ Ended AtQuit (state_at s c (end_at pc quit_op))
  quit_step s pc here = by_row p story labels s c pc quit_op _ None (args_of 0 0 0 0 0) _ laid here (values_none p.world.layout (machine_at s c pc)) refl ∙ quits_by p.world (state_at s c pc) (end_at pc quit_op) (word_at p.world s.drawn) _

  abbrev pub read_op : ℕ → Atom → Op
  read_op v a = variable_op 36 (two_of (operand a) (operands.Small 0)) (Some v) None

  pub read_step : (s s1 : State) (pc v : ℕ) (a : Atom) → Here p story labels s pc (read_op v a) (target a ∷ None ∷ None ∷ None ∷ []) None → does p (acts.Read v a) s ≡ Some s1 → zstep p.world (state_at s c pc) ≡ on (state_at s1 c (end_at pc (read_op v a)))
  read_step s s1 pc v a here e =
      let x = bound (value p s a) _ s1 e in
      let most = bound (readable p.world.layout s.memory x.x) _ s1 x.rest in
      let tried = bound (put p v 13 s) _ s1 most.rest in
      let end = end_at pc (read_op v a) in
      by_row p story labels s c pc (read_op v a) _ None (args_of 2 x.x 0 0 0) _ laid here (values_two p.world.layout (machine_at s c pc) _ _ x.x 0 (operand_is p s c pc labels end a x.x x.is) (small_is p s c pc 0)) refl
      ∙ read_by p story s tried.x s1 c pc end v x.x most.x _ laid refl (is_readable p.world.layout s.memory x.x most.x most.is) tried.is (took p v x.x most.x s s1 tried.rest)

  pub input_step : (s tried : State) (pc v x most : ℕ) (a : Atom) → Here p story labels s pc (read_op v a) (target a ∷ None ∷ None ∷ None ∷ []) None → value p s a ≡ Some x → readable p.world.layout s.memory x ≡ Some most → put p v 13 s ≡ Some tried → s.typed ≡ [] → zstep p.world (state_at s c pc) ≡ Ended AtInput (state_at s c (end_at pc (read_op v a)))
  input_step s tried pc v x most a here e r t k =
      let end = end_at pc (read_op v a) in
      by_row p story labels s c pc (read_op v a) _ None (args_of 2 x 0 0 0) _ laid here (values_two p.world.layout (machine_at s c pc) _ _ x 0 (operand_is p s c pc labels end a x e) (small_is p s c pc 0)) refl
      ∙ input_by p s tried c pc end v x most _ refl (is_readable p.world.layout s.memory x most r) t k
