-- Rules by which a routine's acts are followed.
use Rattle.std.proofs.Common.{◌≡◌, ℕ, ◌-◌, ◌<◌, ◌≤◌, Bool, List, ◌∷◌, length, Option, Some, refl, ap, arith}
use Rattle.std.proofs.lemmas.Bool.{lt-ltb, le-ltb, ne_eqb}
use Rattle.z_lang.specs.declared.act.Atom.{Atom}
use Rattle.z_lang.specs.declared.act.Atom.TheVariants as atoms
use Rattle.z_lang.specs.declared.act.Function.{Function}
use Rattle.z_lang.specs.declared.act.Width.{Width}
use Rattle.z_lang.specs.declared.act.Comparison.{Comparison}
use Rattle.z_lang.specs.declared.act.Comparison.TheVariants as comparisons
use Rattle.z_lang.specs.declared.act.Print.{Print}
use Rattle.z_lang.specs.declared.act.Act.TheVariants as acts
use Rattle.z_lang.specs.State.{State, Program, variable, value, put, with_local}
use Rattle.z_lang.specs.Acts.{computed, memory_with, print_output, does, answer_of, with_output}
use Rattle.dg_rt.specs.Cells.{with_cell, replaced, Holds, compared}
use Rattle.dg_rt.specs.Areas.{state}
use Rattle.dg_rt.proofs.Cells.{holds_with, global_is, with_global_is}

abbrev pub word : ℕ → Option ℕ
word x = Some x

abbrev pub bool : Bool → Option Bool
bool b = Some b

abbrev pub some_state : State → Option State
some_state s = Some s

-- ---- acts

-- A test of two values has this answer.
abbrev pub Answers : Comparison → Program → State → Atom → Atom → Bool → Bool → Type 0
Answers comparisons.Equal p s a b answer r = answer_of p s (record { comparison = comparisons.Equal; first = a; second = b; answer = answer }) ≡ bool r
Answers comparisons.Less p s a b answer r = answer_of p s (record { comparison = comparisons.Less; first = a; second = b; answer = answer }) ≡ bool r
Answers comparisons.Greater p s a b answer r = answer_of p s (record { comparison = comparisons.Greater; first = a; second = b; answer = answer }) ≡ bool r
Answers (comparisons.Either c) p s a b answer r = Unit {0}
Answers (comparisons.Any c d) p s a b answer r = Unit {0}

pub tested : (p : Program) (s : State) (c : Comparison) (a b : Atom) (answer : Bool) (x y : ℕ) (r : Bool) → value p s a ≡ word x → value p s b ≡ word y → compared c x y ≡ r → Answers c p s a b answer r
tested p s comparisons.Equal a b answer x y r e f g = rw (e, f) (ap bool g)
tested p s comparisons.Less a b answer x y r e f g = rw (e, f) (ap bool g)
tested p s comparisons.Greater a b answer x y r e f g = rw (e, f) (ap bool g)
tested p s (comparisons.Either c) a b answer x y r e f g = tt
tested p s (comparisons.Any c d) a b answer x y r e f g = tt

pub computes : (p : Program) (s s1 : State) (v : ℕ) (f : Function) (a b : Atom) (x y z : ℕ) → value p s a ≡ word x → value p s b ≡ word y → computed p.world.layout s.memory f x y ≡ word z → put p v z s ≡ some_state s1 → does p (acts.Compute v f a b) s ≡ some_state s1
computes p s s1 v f a b x y z e g h i = rw (e, g, h) i

pub copies : (p : Program) (s s1 : State) (v : ℕ) (a : Atom) (x : ℕ) → value p s a ≡ word x → put p v x s ≡ some_state s1 → does p (acts.Copy v a) s ≡ some_state s1
copies p s s1 v a x e i = rw e i

pub writes : (p : Program) (s : State) (k : Width) (a b c : Atom) (x y z : ℕ) (memory : List ℕ) → value p s a ≡ word x → value p s b ≡ word y → value p s c ≡ word z → memory_with p.world.layout s.memory k x y z ≡ Some memory → does p (acts.Write k a b c) s ≡ some_state (record s { memory = memory })
writes p s k a b c x y z memory e f g h = rw (e, f, g, h) refl

pub says : (p : Program) (s : State) (k : Print) (a : Atom) (x : ℕ) (text : List ℕ) → value p s a ≡ word x → print_output s.memory k x ≡ Some text → does p (acts.Print k a) s ≡ some_state (with_output s text)
says p s k a x text e f = rw (e, f) refl

-- ---- registers

pub register : (p : Program) (s : State) (cells : ℕ → ℕ) (v : ℕ) → Holds p.world.layout s.memory cells → 16 ≤ v → v < 240 → 600 ≤ p.world.layout.base → value p s (atoms.Var v) ≡ word (cells (v - 16))
unfolding variable
register p s cells v h le lt base =
    rw (ne_eqb v 0 (λ (e : v ≡ 0). (omega arith)), le-ltb v 16 le) (ap word (global_is p.world.layout s.memory cells v h le (omega arith)))

pub put_register : (p : Program) (s : State) (v x : ℕ) → p.world.layout.globals ≡ 64 → 16 ≤ v → v < 240 → put p v x s ≡ some_state (record s { memory = with_cell s.memory (v - 16) x })
unfolding put
put_register p s v x e le lt =
    rw (ne_eqb v 0 (λ (f : v ≡ 0). (omega arith)), le-ltb v 16 le, lt-ltb v 256 (omega arith)) (ap (λ (m : List ℕ). some_state (record s { memory = m })) (with_global_is p.world.layout s.memory v x e))

-- a register is given a value, and memory holds it
pub record IsPut (p : Program) (s : State) (cells : ℕ → ℕ) (v x : ℕ) : Type 0 where
  pub put_is : put p v x s ≡ some_state (record s { memory = with_cell s.memory (v - 16) x })
  pub holds : Holds p.world.layout (with_cell s.memory (v - 16) x) (replaced cells (v - 16) x)

pub puts : (p : Program) (s : State) (cells : ℕ → ℕ) (v x : ℕ) → Holds p.world.layout s.memory cells → 600 ≤ p.world.layout.base → 16 ≤ v → v < 240 → x < 65536 → IsPut p s cells v x
puts p s cells v x h base le lt small = record {
  put_is = put_register p s v x h.globals le lt;
  holds = holds_with p.world.layout s.memory cells (v - 16) x h (omega arith) small;
}

-- ---- locals

pub local_1 : (p : Program) (m : List ℕ) (x : ℕ) (xs t : List ℕ) (d : ℕ) (o : List ℕ) → value p (state m (x ∷ xs) t d o) (atoms.Var 1) ≡ word x
unfolding variable
local_1 p m x xs t d o = refl

pub local_2 : (p : Program) (m : List ℕ) (x y : ℕ) (xs t : List ℕ) (d : ℕ) (o : List ℕ) → value p (state m (x ∷ y ∷ xs) t d o) (atoms.Var 2) ≡ word y
unfolding variable
local_2 p m x y xs t d o = refl

pub local_3 : (p : Program) (m : List ℕ) (x y z : ℕ) (xs t : List ℕ) (d : ℕ) (o : List ℕ) → value p (state m (x ∷ y ∷ z ∷ xs) t d o) (atoms.Var 3) ≡ word z
unfolding variable
local_3 p m x y z xs t d o = refl

pub put_1 : (p : Program) (m : List ℕ) (x z : ℕ) (xs t : List ℕ) (d : ℕ) (o : List ℕ) → put p 1 z (state m (x ∷ xs) t d o) ≡ some_state (state m (z ∷ xs) t d o)
unfolding put with_local
put_1 p m x z xs t d o = rw (lt-ltb 0 (length (x ∷ xs)) (omega arith)) refl

pub put_2 : (p : Program) (m : List ℕ) (x y z : ℕ) (xs t : List ℕ) (d : ℕ) (o : List ℕ) → put p 2 z (state m (x ∷ y ∷ xs) t d o) ≡ some_state (state m (x ∷ z ∷ xs) t d o)
unfolding put with_local
put_2 p m x y z xs t d o = rw (lt-ltb 1 (length (x ∷ y ∷ xs)) (omega arith)) refl

pub put_3 : (p : Program) (m : List ℕ) (x y u z : ℕ) (xs t : List ℕ) (d : ℕ) (o : List ℕ) → put p 3 z (state m (x ∷ y ∷ u ∷ xs) t d o) ≡ some_state (state m (x ∷ y ∷ z ∷ xs) t d o)
unfolding put with_local
put_3 p m x y u z xs t d o = rw (lt-ltb 2 (length (x ∷ y ∷ u ∷ xs)) (omega arith)) refl

pub trail_register : (p : Program) (s : State) (cells : ℕ → ℕ) → Holds p.world.layout s.memory cells → 600 ≤ p.world.layout.base → value p s (atoms.Var 17) ≡ word (cells 1)
trail_register p s cells h le = register p s cells 17 h (omega arith) (omega arith) le

pub put_trail : (p : Program) (s : State) (x : ℕ) → p.world.layout.globals ≡ 64 → put p 17 x s ≡ some_state (record s { memory = with_cell s.memory 1 x })
put_trail p s x e = put_register p s 17 x e (omega arith) (omega arith)
