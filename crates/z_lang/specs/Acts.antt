-- What single acts do.
use Rattle.std.specs.Prelude.{ℕ, ◌+◌, ◌-◌, ◌*◌, ◌%◌, List, [], ◌∷◌, ◌++◌, Option, Some, None, Result, Ok, Err, Bool, nat_lt, ◌==◌, ◌||◌, if◌then◌else◌, int_lt, bit_and, bit_or, encode_utf8}
use Rattle.std.specs.Fmt.{signed_decimal}
use Rattle.z_model.specs.declared.fault.ZFault.{ZFault}
use Rattle.z_model.specs.declared.story.Layout.{Layout}
use Rattle.z_model.specs.Typed.{typed_line, typed_left}
use Rattle.z_model.specs.Zscii.{is_printed, is_character, code_utf8}
use Rattle.z_model.specs.Memory.{Memory, guarded, is_writable, byte_in, memory_word, with_byte, with_word, have_right}
use Rattle.z_model.specs.Numbers.{signed_16, quotient, remainder}
use Rattle.z_model.specs.Run.{word_at, next_drawn, with_line}
use Rattle.z_model.specs.Text.{string_at, print_fault, text_bytes}
use Rattle.z_lang.specs.declared.act.Function.{Function}
use Rattle.z_lang.specs.declared.act.Function.TheVariants as functions
use Rattle.z_lang.specs.declared.act.Width.{Width}
use Rattle.z_lang.specs.declared.act.Width.TheVariants as widths
use Rattle.z_lang.specs.declared.act.Print.{Print}
use Rattle.z_lang.specs.declared.act.Print.TheVariants as prints
use Rattle.z_lang.specs.declared.act.Comparison.{Comparison}
use Rattle.z_lang.specs.declared.act.Comparison.TheVariants as comparisons
use Rattle.z_lang.specs.declared.act.Test.{Test}
use Rattle.z_lang.specs.declared.act.Args.{Args}
use Rattle.z_lang.specs.declared.act.Args.TheVariants as args
use Rattle.z_lang.specs.declared.act.Act.{Act}
use Rattle.z_lang.specs.declared.act.Act.TheVariants as acts
use Rattle.z_lang.specs.State.{◌>>=◌, unless_fault, State, Program, value, put}

-- what a function gives, where it gives something
unfoldable pub computed : Layout → List ℕ → Function → ℕ → ℕ → Option ℕ
computed layout memory functions.Add x y = Some ((x + y) % 65536)
computed layout memory functions.Sub x y = Some ((x + (65536 - y)) % 65536)
computed layout memory functions.Mul x y = Some (x * y % 65536)
computed layout memory functions.Div x y = unless_fault (quotient x y)
computed layout memory functions.Mod x y = unless_fault (remainder x y)
computed layout memory functions.And x y = Some (bit_and x y)
computed layout memory functions.Or x y = Some (bit_or x y)
computed layout memory functions.Word x y = unless_fault (memory_word (guarded layout memory) ((x + 2 * y) % 65536))
computed layout memory functions.Byte x y = unless_fault (byte_in (guarded layout memory) ((x + y) % 65536))

-- the bytes of a memory, where there is no fault
abbrev pub bytes_unless : Result Memory ZFault → Option (List ℕ)
bytes_unless (Ok mem) = Some mem.bytes
bytes_unless (Err fault) = None

-- memory with a value written
unfoldable pub memory_with : Layout → List ℕ → Width → ℕ → ℕ → ℕ → Option (List ℕ)
memory_with layout memory widths.Word a i x = bytes_unless (with_word (guarded layout memory) ((a + 2 * i) % 65536) x)
memory_with layout memory widths.Byte a i x = bytes_unless (with_byte (guarded layout memory) ((a + i) % 65536) (x % 256))

abbrev pub text_unless : Option ZFault → List ℕ → Option (List ℕ)
text_unless None text = Some text
text_unless (Some fault) text = None

-- what is printed
unfoldable pub print_output : List ℕ → Print → ℕ → Option (List ℕ)
print_output memory prints.Code x = if is_printed x then Some (code_utf8 x) else None
print_output memory prints.Number x = Some (signed_decimal (signed_16 x))
print_output memory prints.Unicode x = if is_character x then Some (encode_utf8 x) else None
print_output memory prints.Text x = text_unless (print_fault (string_at memory (8 * x))) (text_bytes (string_at memory (8 * x)))

-- the answer of a comparison with its further values
abbrev pub comparison_answer : Program → State → Comparison → ℕ → ℕ → Option Bool
comparison_answer p s comparisons.Equal x y = Some (x == y)
comparison_answer p s comparisons.Less x y = Some (int_lt (signed_16 x) (signed_16 y))
comparison_answer p s comparisons.Greater x y = Some (int_lt (signed_16 y) (signed_16 x))
comparison_answer p s (comparisons.Either c) x y = value p s c >>= λ z. Some ((x == y) || (x == z))
comparison_answer p s (comparisons.Any c d) x y = value p s c >>= λ z. value p s d >>= λ u. Some ((x == y) || ((x == z) || (x == u)))

-- a random number from 1 to r, or 0 where r isn't above 0
unfoldable pub random_drawn : Program → ℕ → ℕ → State → Option State
random_drawn p v r s =
    if (r == 0) || nat_lt 32767 r then put p v 0 s
    else (put p v (1 + word_at p.world s.drawn % r) s >>= λ after. Some (record after { drawn = next_drawn p.world s.drawn }))

-- how many characters a buffer takes, where it may be written
unfoldable pub readable : Layout → List ℕ → ℕ → Option ℕ
readable layout memory x = unless_fault (byte_in (guarded layout memory) x) >>= λ most.
    if have_right (is_writable layout) ((x + 1) % 65536) (most + 1) then Some most else None

-- a typed line in its buffer, where a typed byte is left
unfoldable pub line_in : Program → ℕ → ℕ → ℕ → List ℕ → State → Option State
line_in p v x most [] s = None
line_in p v x most (byte ∷ typed) s = bytes_unless (with_line (guarded p.world.layout s.memory) x (typed_line most (byte ∷ typed))) >>= λ memory.
    put p v 13 (record s { memory = memory; typed = typed_left (byte ∷ typed) })

-- the comparison of a test
abbrev pub answer_of : Program → State → Test → Option Bool
answer_of p s test = do
  x ← value p s test.first
  y ← value p s test.second
  comparison_answer p s test.comparison x y

abbrev pub with_output : State → List ℕ → State
with_output s text = record s { output = s.output ++ text }

-- the state behind an act that only goes on
abbrev pub does : Program → Act → State → Option State
does p (acts.Copy v a) s = value p s a >>= λ x. put p v x s
does p (acts.Compute v f a b) s = value p s a >>= λ x. value p s b >>= λ y. computed p.world.layout s.memory f x y >>= λ z. put p v z s
does p (acts.Write w a b c) s = value p s a >>= λ x. value p s b >>= λ y. value p s c >>= λ z.
    memory_with p.world.layout s.memory w x y z >>= λ memory. Some (record s { memory = memory })
does p (acts.Print k a) s = value p s a >>= λ x. print_output s.memory k x >>= λ text. Some (with_output s text)
does p (acts.Random v a) s = value p s a >>= λ r. random_drawn p v r s
does p (acts.Read v a) s = value p s a >>= λ x. readable p.world.layout s.memory x >>= λ most. put p v 13 s >>= λ tried. line_in p v x most s.typed s
does p act s = None

-- the values of arguments, with zeros behind them
abbrev pub arguments : Program → State → Args → Option (ℕ × ℕ × ℕ)
arguments p s args.Zero = Some (0, 0, 0)
arguments p s (args.One a) = value p s a >>= λ x. Some (x, 0, 0)
arguments p s (args.Two a b) = value p s a >>= λ x. value p s b >>= λ y. Some (x, y, 0)
arguments p s (args.Three a b c) = value p s a >>= λ x. value p s b >>= λ y. value p s c >>= λ z. Some (x, y, z)
