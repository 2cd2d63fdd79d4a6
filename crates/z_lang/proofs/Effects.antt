-- What the instructions of single acts do to the machine.
use Rattle.std.proofs.Common.{◌≡◌, ℕ, ◌+◌, ◌*◌, ◌%◌, Bool, true, false, not, List, [], ◌++◌, Option, Some, None, Result, Ok, Err, refl, ap, ◌∙◌}
use Rattle.std.specs.Prelude.{◌==◌, ◌||◌, if◌then◌else◌, int_lt, encode_utf8}
use Rattle.std.proofs.lemmas.Option.{same_Some}
use Rattle.z_model.specs.declared.fault.ZFault.{ZFault}
use Rattle.z_model.specs.declared.fault.ZFault.TheVariants.{BadCharacter}
use Rattle.z_model.specs.declared.story.Layout.{Layout}
use Rattle.z_model.specs.declared.op.Op.{Op}
use Rattle.z_model.specs.declared.op.Branch.{Branch}
use Rattle.z_model.specs.declared.table.Row.{Row}
use Rattle.z_model.specs.declared.table.Instr.{Instr}
use Rattle.z_model.specs.declared.table.Instr.TheVariants as instrs
use Rattle.z_model.specs.declared.table.Two.TheVariants as two
use Rattle.z_model.specs.declared.table.One.TheVariants as one
use Rattle.z_model.specs.declared.table.Several.TheVariants as several
use Rattle.z_model.specs.declared.table.Extended.TheVariants as extended
use Rattle.z_model.specs.declared.end.Args.{Args}
use Rattle.z_model.specs.declared.end.Effect.{Effect}
use Rattle.z_model.specs.declared.end.OpenTable.{OpenTable}
use Rattle.z_model.specs.declared.end.Effect.TheVariants.{Goes, PrintsCode, PrintsUnicode, PrintsNumber, PrintsText}
use Rattle.z_model.specs.Zscii.{is_printed, is_character, code_utf8}
use Rattle.z_model.specs.Table.{Rows}
use Rattle.z_model.specs.Decode.{op_found, op_at}
use Rattle.z_model.specs.Effects.{goes, answers, answers_or, write_effect as written_by, print_effect as printed_by, unless, let_out}
use Rattle.z_model.specs.Flow.{at_pc, branched, branch_taken, agrees}
use Rattle.z_model.specs.Machine.{Machine, operand_values, stored_if}
use Rattle.z_model.specs.Memory.{Memory, guarded, byte_in, memory_word, with_byte, with_word}
use Rattle.z_model.specs.Numbers.{signed_16, quotient, remainder}
use Rattle.z_model.specs.Run.{ZGiven, ZState, Next, On, zstep, next_by, word_at}
use Rattle.z_model.specs.Step.{do_instr, do_two, do_one, do_several, do_extended, machine_step}
use Rattle.z_model.specs.Text.{string_at, print_fault, text_bytes}
use Rattle.z_lang.specs.declared.act.Atom.{Atom}
use Rattle.z_lang.specs.declared.act.Function.{Function}
use Rattle.z_lang.specs.declared.act.Function.TheVariants as functions
use Rattle.z_lang.specs.declared.act.Width.{Width}
use Rattle.z_lang.specs.declared.act.Width.TheVariants as widths
use Rattle.z_lang.specs.declared.act.Print.{Print}
use Rattle.z_lang.specs.declared.act.Print.TheVariants as prints
use Rattle.z_lang.specs.declared.act.Comparison.{Comparison}
use Rattle.z_lang.specs.declared.act.Comparison.TheVariants as comparisons
use Rattle.z_lang.specs.State.{unless_fault, State, Program, put}
use Rattle.z_lang.specs.Acts.{computed, bytes_unless, memory_with, print_output, text_unless}
use Rattle.z_lang.specs.Standing.{Context, machine_at}
use Rattle.z_lang.proofs.Operands.{args_of, put_stored}

-- ---- one instruction

pub step_by : (rows : Rows) (layout : Layout) (word : ℕ) (m : Machine) (op : Op) (end : ℕ) (a : Args) (row : Row) → op_at rows m.memory m.pc ≡ Ok (op_found row op end) → operand_values layout m op.operands ≡ Ok (a, m) → machine_step rows layout word m ≡ do_instr layout word row.instr op end a m
unfolding machine_step
step_by rows layout word m op end a row d v = rw (d, v) refl

pub zstep_by : (w : ZGiven) (z : ZState) (r : Result (Effect × Machine) ZFault) → machine_step w.rows w.layout (word_at w z.drawn) z.machine ≡ r → zstep w z ≡ next_by w z r
unfolding zstep
zstep_by w z r e = ap (next_by w z) e

-- ---- functions

abbrev pub instr_of : Function → Instr
instr_of functions.Add = instrs.Two two.Add
instr_of functions.Sub = instrs.Two two.Sub
instr_of functions.Mul = instrs.Two two.Mul
instr_of functions.Div = instrs.Two two.Div
instr_of functions.Mod = instrs.Two two.Mod
instr_of functions.And = instrs.Two two.And
instr_of functions.Or = instrs.Two two.Or
instr_of functions.Word = instrs.Two two.Loadw
instr_of functions.Byte = instrs.Two two.Loadb

abbrev ok_of : {A : Type 0} → A → Result A ZFault
ok_of x = Ok x

pub no_fault : {A : Type 0} (r : Result A ZFault) (z : A) → unless_fault r ≡ Some z → r ≡ Ok z
no_fault (Ok x) z e = ap ok_of (same_Some x z e)
no_fault (Err f) z e = absurd (cc)

abbrev done_as : Layout → Function → Op → ℕ → ℕ → ℕ → ℕ → ℕ → Machine → Type 0
done_as layout f op end word x y z m = do_instr layout word (instr_of f) op end (args_of 2 x y 0 0) m ≡ answers layout m end op.store z

answers_as : (layout : Layout) (m : Machine) (end : ℕ) (store : Option ℕ) (r : Result ℕ ZFault) (z : ℕ) → r ≡ Ok z → answers_or layout m end store r ≡ answers layout m end store z
answers_as layout m end store r z e = rw e refl

pub computes : (layout : Layout) (f : Function) (op : Op) (end word x y z : ℕ) (m : Machine) → computed layout m.memory f x y ≡ Some z → done_as layout f op end word x y z m
unfolding do_instr do_two computed
computes layout functions.Add op end word x y z m e = ap (answers layout m end op.store) (same_Some _ z e)
computes layout functions.Sub op end word x y z m e = ap (answers layout m end op.store) (same_Some _ z e)
computes layout functions.Mul op end word x y z m e = ap (answers layout m end op.store) (same_Some _ z e)
computes layout functions.And op end word x y z m e = ap (answers layout m end op.store) (same_Some _ z e)
computes layout functions.Or op end word x y z m e = ap (answers layout m end op.store) (same_Some _ z e)
computes layout functions.Div op end word x y z m e = answers_as layout m end op.store (quotient x y) z (no_fault _ z e)
computes layout functions.Mod op end word x y z m e = answers_as layout m end op.store (remainder x y) z (no_fault _ z e)
computes layout functions.Word op end word x y z m e = answers_as layout m end op.store (memory_word (guarded layout m.memory) ((x + 2 * y) % 65536)) z (no_fault _ z e)
computes layout functions.Byte op end word x y z m e = answers_as layout m end op.store (byte_in (guarded layout m.memory) ((x + y) % 65536)) z (no_fault _ z e)

abbrev pub the_step : Machine → Result (Effect × Machine) ZFault
the_step m = Ok (Goes, m)

pub answer_stored : (p : Program) (v z : ℕ) (s s1 : State) (c : Context) (pc end : ℕ) → put p v z s ≡ Some s1 → answers p.world.layout (machine_at s c pc) end (Some v) z ≡ the_step (machine_at s1 c end)
unfolding stored_if
answer_stored p v z s s1 c pc end e = rw (put_stored p v z s s1 c end e) refl

-- ---- memory

abbrev pub write_instr : Width → Instr
write_instr widths.Word = instrs.Several several.Storew
write_instr widths.Byte = instrs.Several several.Storeb

written_as : (m : Machine) (end : ℕ) (r : Result Memory ZFault) (memory : List ℕ) → bytes_unless r ≡ Some memory → written_by m end r ≡ the_step (record m { memory = memory; pc = end })
written_as m end (Ok mem) memory e = ap (λ (bytes : List ℕ). the_step (record m { memory = bytes; pc = end })) (same_Some mem.bytes memory e)
written_as m end (Err fault) memory e = absurd (cc)

pub writes : (layout : Layout) (width : Width) (op : Op) (end word x y z : ℕ) (m : Machine) (memory : List ℕ) → memory_with layout m.memory width x y z ≡ Some memory → do_instr layout word (write_instr width) op end (args_of 3 x y z 0) m ≡ the_step (record m { memory = memory; pc = end })
unfolding do_instr do_several memory_with
writes layout widths.Word op end word x y z m memory e = written_as m end (with_word (guarded layout m.memory) ((x + 2 * y) % 65536) z) memory e
writes layout widths.Byte op end word x y z m memory e = written_as m end (with_byte (guarded layout m.memory) ((x + y) % 65536) (z % 256)) memory e

-- ---- printing

abbrev pub print_instr : Print → Instr
print_instr prints.Code = instrs.Several several.PrintChar
print_instr prints.Number = instrs.Several several.PrintNum
print_instr prints.Unicode = instrs.Extended extended.PrintUnicode
print_instr prints.Text = instrs.One one.PrintPaddr

abbrev told : ZState → ℕ → List ℕ → Next
told z end text = On (record z { machine = at_pc z.machine end; output = z.output ++ text })

abbrev some_text : List ℕ → Option (List ℕ)
some_text text = Some text

-- where no table is open, what is printed goes out
goes_out : (w : ZGiven) (z : ZState) (effect : Effect) (end : ℕ) → z.machine.tables ≡ [] → next_by w z (let_out w.layout z.machine.tables effect (at_pc z.machine end)) ≡ next_by w z (Ok (effect, at_pc z.machine end))
unfolding let_out
goes_out w z effect end none = ap (λ (ts : List OpenTable). next_by w z (let_out w.layout ts effect (at_pc z.machine end))) none

pub prints_as : (w : ZGiven) (z : ZState) (k : Print) (op : Op) (end word x : ℕ) (text : List ℕ) → z.machine.tables ≡ [] → print_output z.machine.memory k x ≡ Some text → next_by w z (do_instr w.layout word (print_instr k) op end (args_of 1 x 0 0 0) z.machine) ≡ told z end text
unfolding do_instr do_several do_extended do_one print_output printed_by
prints_as w z prints.Code op end word x text none e = by_test (is_printed x) e
  where
    by_test : (b : Bool) → (if b then Some (code_utf8 x) else None) ≡ some_text text → next_by w z (unless (if b then None else Some BadCharacter) (let_out w.layout z.machine.tables (PrintsCode x) (at_pc z.machine end))) ≡ told z end text
    by_test true h = goes_out w z (PrintsCode x) end none ∙ ap (told z end) (same_Some _ text h)
    by_test false h = absurd (cc)
prints_as w z prints.Number op end word x text none e = goes_out w z (PrintsNumber x) end none ∙ ap (told z end) (same_Some _ text e)
prints_as w z prints.Unicode op end word x text none e = by_test (is_character x) e
  where
    by_test : (b : Bool) → (if b then Some (encode_utf8 x) else None) ≡ some_text text → next_by w z (unless (if b then None else Some BadCharacter) (let_out w.layout z.machine.tables (PrintsUnicode x) (at_pc z.machine end))) ≡ told z end text
    by_test true h = goes_out w z (PrintsUnicode x) end none ∙ ap (told z end) (same_Some _ text h)
    by_test false h = absurd (cc)
prints_as w z prints.Text op end word x text none e = by_fault (print_fault (string_at z.machine.memory (8 * x))) e
  where
    by_fault : (o : Option ZFault) → text_unless o (text_bytes (string_at z.machine.memory (8 * x))) ≡ some_text text → next_by w z (unless o (let_out w.layout z.machine.tables (PrintsText (8 * x)) (at_pc z.machine end))) ≡ told z end text
    by_fault None h = goes_out w z (PrintsText (8 * x)) end none ∙ ap (told z end) (same_Some _ text h)
    by_fault (Some fault) h = absurd (cc)

-- ---- tests

abbrev pub compare_instr : Comparison → Instr
compare_instr comparisons.Equal = instrs.Two two.Je
compare_instr comparisons.Less = instrs.Two two.Jl
compare_instr comparisons.Greater = instrs.Two two.Jg
compare_instr (comparisons.Either c) = instrs.Two two.Je
compare_instr (comparisons.Any c d) = instrs.Two two.Je

or_none : (b : Bool) → (b || false) ≡ b
or_none true = refl
or_none false = refl

-- the arguments decide a comparison so
abbrev pub Decides : Layout → Comparison → Args → Bool → Type 0
Decides layout k a b = (op : Op) (end word : ℕ) (m : Machine) → do_instr layout word (compare_instr k) op end a m ≡ goes (branched layout m end op.branch b)

pub equal_two : (layout : Layout) (x y : ℕ) → Decides layout comparisons.Equal (args_of 2 x y 0 0) (x == y)
unfolding do_instr do_two
equal_two layout x y op end word m = ap (λ (b : Bool). goes (branched layout m end op.branch b)) (or_none (x == y))

pub equal_three : (layout : Layout) (c : Atom) (x y z : ℕ) → Decides layout (comparisons.Either c) (args_of 3 x y z 0) ((x == y) || (x == z))
unfolding do_instr do_two
equal_three layout c x y z op end word m = ap (λ (b : Bool). goes (branched layout m end op.branch ((x == y) || b))) (or_none (x == z))

pub equal_four : (layout : Layout) (c d : Atom) (x y z u : ℕ) → Decides layout (comparisons.Any c d) (args_of 4 x y z u) ((x == y) || ((x == z) || (x == u)))
unfolding do_instr do_two
equal_four layout c d x y z u op end word m = refl

pub is_less : (layout : Layout) (x y : ℕ) → Decides layout comparisons.Less (args_of 2 x y 0 0) (int_lt (signed_16 x) (signed_16 y))
unfolding do_instr do_two
is_less layout x y op end word m = refl

pub is_greater : (layout : Layout) (x y : ℕ) → Decides layout comparisons.Greater (args_of 2 x y 0 0) (int_lt (signed_16 y) (signed_16 x))
unfolding do_instr do_two
is_greater layout x y op end word m = refl

agrees_same : (b : Bool) → agrees b b ≡ true
agrees_same true = refl
agrees_same false = refl

agrees_other : (b : Bool) → agrees b (not b) ≡ false
agrees_other true = refl
agrees_other false = refl

pub branches : (layout : Layout) (m : Machine) (end : ℕ) (b : Branch) → branched layout m end (Some b) b.when ≡ branch_taken layout m end b.offset
unfolding branched
branches layout m end b = rw (agrees_same b.when) refl

pub branches_not : (layout : Layout) (m : Machine) (end : ℕ) (b : Branch) → branched layout m end (Some b) (not b.when) ≡ ok_of (at_pc m end)
unfolding branched
branches_not layout m end b = rw (agrees_other b.when) refl
