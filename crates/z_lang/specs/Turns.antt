-- A machine that is thought of as going from boundary to boundary, whatever its boundaries and its ends are.
use Rattle.std.specs.Prelude.{◌≡◌, ℕ, ◌+◌, List}

-- What comes behind a boundary: another one, or the end of the run with all its output.
pub data Turn (E A : Type 0) : Type 0 where
  To : (a : A) → Turn E A
  Over : (end : E) → (bytes : List ℕ) → Turn E A

-- What comes behind each boundary, what was printed before it, and how many instructions its turn takes at most.
pub record Turning (E A : Type 0) : Type 0 where
  pub next : A → Turn E A
  pub out : A → List ℕ
  pub cost : A → ℕ

-- From a boundary others lead to another, at a cost.
pub data Reaches {E A : Type 0} (t : Turning E A) : A → ℕ → A → Type 0 where
  here : {a : A} → Reaches t a 0 a
  on : {a b c : A} {n : ℕ} → t.next a ≡ To b → Reaches t b n c → Reaches t a (t.cost a + n) c

-- what was printed behind a boundary's turn
abbrev pub printed_by : {E A : Type 0} → Turning E A → Turn E A → List ℕ
printed_by t (To b) = t.out b
printed_by t (Over end bytes) = bytes
