-- The values that the machine takes for an act's operands, and how it stores an answer.
use Rattle.std.proofs.Common.{◌≡◌, ℕ, ◌-◌, Bool, true, false, length, Option, Some, None, Result, Ok, Err, refl, ap, arith}
use Rattle.std.specs.Prelude.{nat_lt, ◌==◌, if◌then◌else◌, slice_get, slice_set}
use Rattle.std.proofs.lemmas.Option.{same_Some}
use Rattle.std.proofs.lemmas.Bool.{cond_both, ltb-true, lt-ltb}
use Rattle.z_model.specs.declared.fault.ZFault.{ZFault}
use Rattle.z_model.specs.declared.fault.ZFault.TheVariants.{BadLocal, BadOpcode}
use Rattle.z_model.specs.declared.story.Layout.{Layout}
use Rattle.z_model.specs.declared.op.Operand.{Operand}
use Rattle.z_model.specs.declared.op.Operand.TheVariants as operands
use Rattle.z_model.specs.declared.end.Args.{Args}
use Rattle.z_model.specs.Decode.{◌>>=◌, or_fault}
use Rattle.z_model.specs.Machine.{Machine, popped, pushed, variable_of, operand_value, value_if, operand_values, stored, local_set, placed}
use Rattle.z_code.specs.Targets.{fill}
use Rattle.z_lang.specs.declared.act.Atom.{Atom}
use Rattle.z_lang.specs.declared.act.Atom.TheVariants as atoms
use Rattle.z_lang.specs.State.{State, Program, variable, value, put, with_local, global, with_global}
use Rattle.z_lang.specs.Code.{operand, target, none_of, one_of, two_of, three_of, four_of}
use Rattle.z_lang.specs.Standing.{Context, machine_at}

abbrev pub the_word : ℕ → Machine → Result (ℕ × Machine) ZFault
the_word x m = Ok (x, m)

variable_is : (p : Program) (s : State) (c : Context) (pc v x : ℕ) → variable p s v ≡ Some x → variable_of p.world.layout (machine_at s c pc) v ≡ the_word x (machine_at s c pc)
unfolding variable variable_of
variable_is p s c pc v x e = by_tests (v == 0) (nat_lt v 16) (slice_get s.locals (v - 1)) e
  where
    by_tests : (z l : Bool) (r : Option ℕ) → (if z then None else if l then r else Some (global p.world.layout s.memory v)) ≡ Some x → (if z then popped (machine_at s c pc) else if l then (or_fault BadLocal r >>= λ y. the_word y (machine_at s c pc)) else the_word (global p.world.layout s.memory v) (machine_at s c pc)) ≡ the_word x (machine_at s c pc)
    by_tests true l r h = absurd (cc)
    by_tests false true None h = absurd (cc)
    by_tests false true (Some y) h = ap (λ (n : ℕ). the_word n (machine_at s c pc)) (same_Some y x h)
    by_tests false false r h = ap (λ (n : ℕ). the_word n (machine_at s c pc)) (same_Some _ x h)

-- what the machine takes for an operand whose names are filled in
pub operand_is : (p : Program) (s : State) (c : Context) (pc : ℕ) (labels : ℕ → ℕ) (end : ℕ) (a : Atom) (x : ℕ) → value p s a ≡ Some x → operand_value p.world.layout (machine_at s c pc) (fill p.names labels end (target a) (operand a)) ≡ the_word x (machine_at s c pc)
unfolding operand_value
operand_is p s c pc labels end (atoms.Num n) x e = cond_both (nat_lt n 256) (operands.Small n) (operands.Large n) (λ (o : Operand). operand_value p.world.layout (machine_at s c pc) o ≡ the_word x (machine_at s c pc)) (λ t. ap (λ (i : ℕ). the_word i (machine_at s c pc)) (same_Some n x e)) (λ t. ap (λ (i : ℕ). the_word i (machine_at s c pc)) (same_Some n x e))
operand_is p s c pc labels end (atoms.Var v) x e = variable_is p s c pc v x e
operand_is p s c pc labels end (atoms.Routine r) x e = ap (λ (i : ℕ). the_word i (machine_at s c pc)) (same_Some _ x e)
operand_is p s c pc labels end (atoms.Table t) x e = ap (λ (i : ℕ). the_word i (machine_at s c pc)) (same_Some _ x e)
operand_is p s c pc labels end (atoms.Text t) x e = ap (λ (i : ℕ). the_word i (machine_at s c pc)) (same_Some _ x e)

-- ---- all operands

abbrev pub args_of : ℕ → ℕ → ℕ → ℕ → ℕ → Args
args_of n x y z u = record { count = n; first = x; second = y; third = z; fourth = u }

abbrev pub the_args : Args → Machine → Result (Args × Machine) ZFault
the_args a m = Ok (a, m)

pub values_none : (layout : Layout) (m : Machine) → operand_values layout m none_of ≡ the_args (args_of 0 0 0 0 0) m
unfolding operand_values value_if
values_none layout m = refl

pub values_one : (layout : Layout) (m : Machine) (a : Operand) (x : ℕ) → operand_value layout m a ≡ the_word x m → operand_values layout m (one_of a) ≡ the_args (args_of 1 x 0 0 0) m
unfolding operand_values value_if
values_one layout m a x e = rw e refl

pub values_two : (layout : Layout) (m : Machine) (a b : Operand) (x y : ℕ) → operand_value layout m a ≡ the_word x m → operand_value layout m b ≡ the_word y m → operand_values layout m (two_of a b) ≡ the_args (args_of 2 x y 0 0) m
unfolding operand_values value_if
values_two layout m a b x y e f = rw (e, f) refl

pub values_three : (layout : Layout) (m : Machine) (a b d : Operand) (x y z : ℕ) → operand_value layout m a ≡ the_word x m → operand_value layout m b ≡ the_word y m → operand_value layout m d ≡ the_word z m → operand_values layout m (three_of a b d) ≡ the_args (args_of 3 x y z 0) m
unfolding operand_values value_if
values_three layout m a b d x y z e f g = rw (e, f, g) refl

pub values_four : (layout : Layout) (m : Machine) (a b d h : Operand) (x y z u : ℕ) → operand_value layout m a ≡ the_word x m → operand_value layout m b ≡ the_word y m → operand_value layout m d ≡ the_word z m → operand_value layout m h ≡ the_word u m → operand_values layout m (four_of a b d h) ≡ the_args (args_of 4 x y z u) m
unfolding operand_values value_if
values_four layout m a b d h x y z u e f g i = rw (e, f, g, i) refl

-- ---- stores

abbrev the_machine : Machine → Result Machine ZFault
the_machine m = Ok m

abbrev pub the_state : State → Option State
the_state s = Some s

-- the state with another local, and with another global
abbrev pub in_local : State → ℕ → ℕ → State
in_local s v x = record s { locals = slice_set s.locals (v - 1) x }

abbrev pub in_global : Program → State → ℕ → ℕ → State
in_global p s v x = record s { memory = with_global p.world.layout s.memory v x }

-- what a put does to the machine
pub put_stored : (p : Program) (v x : ℕ) (s s1 : State) (c : Context) (pc : ℕ) → put p v x s ≡ Some s1 → stored p.world.layout (machine_at s c pc) v x ≡ the_machine (machine_at s1 c pc)
unfolding put with_local stored local_set
put_stored p v x s s1 c pc e = by_tests (v == 0) (nat_lt v 16) (nat_lt (v - 1) (length s.locals)) (nat_lt v 256) e
  where
    by_tests : (z l r g : Bool) → (if z then None else if l then (if r then the_state (in_local s v x) else None) else if g then the_state (in_global p s v x) else None) ≡ the_state s1 → (if z then pushed (machine_at s c pc) x else if l then (if r then the_machine (machine_at (in_local s v x) c pc) else Err BadLocal) else if g then the_machine (machine_at (in_global p s v x) c pc) else Err BadOpcode) ≡ the_machine (machine_at s1 c pc)
    by_tests true l r g h = absurd (cc)
    by_tests false true true g h = ap (λ (t : State). the_machine (machine_at t c pc)) (same_Some (in_local s v x) s1 h)
    by_tests false true false g h = absurd (cc)
    by_tests false false r true h = ap (λ (t : State). the_machine (machine_at t c pc)) (same_Some (in_global p s v x) s1 h)
    by_tests false false r false h = absurd (cc)

-- the variable of a put is one of a local or a global
pub put_range : (p : Program) (v x : ℕ) (s s1 : State) → put p v x s ≡ Some s1 → ((v == 0) ≡ false) × (nat_lt v 256 ≡ true)
unfolding put with_local
put_range p v x s s1 e = by_tests (v == 0) (nat_lt v 16) (nat_lt (v - 1) (length s.locals)) (nat_lt v 256) refl refl refl e
  where
    by_tests : (z l r g : Bool) → (v == 0) ≡ z → nat_lt v 16 ≡ l → nat_lt v 256 ≡ g → (if z then None else if l then (if r then the_state (record s { locals = slice_set s.locals (v - 1) x }) else None) else if g then the_state (record s { memory = with_global p.world.layout s.memory v x }) else None) ≡ the_state s1 → ((v == 0) ≡ false) × (nat_lt v 256 ≡ true)
    by_tests true l r g a b d h = absurd (cc)
    by_tests false true true g a b d h = (a, lt-ltb v 256 (let lt = ltb-true v 16 b in omega arith))
    by_tests false true false g a b d h = absurd (cc)
    by_tests false false r true a b d h = (a, d)
    by_tests false false r false a b d h = absurd (cc)

-- the same for a variable that an operand names
pub put_placed : (p : Program) (v x : ℕ) (s s1 : State) (c : Context) (pc : ℕ) → put p v x s ≡ Some s1 → placed p.world.layout (machine_at s c pc) v x ≡ the_machine (machine_at s1 c pc)
unfolding placed
put_placed p v x s s1 c pc e = let r = put_range p v x s s1 e in rw r.0 (put_stored p v x s s1 c pc e)
