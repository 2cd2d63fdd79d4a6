-- What it is to be told a run, one thing after another.
use Rattle.std.specs.Prelude.{ℕ, ◌≡◌, ◌≤◌, ◌+◌, List, [], ◌++◌, Result, Ok, Err, take}
use Rattle.dg_base.specs.Causes.{Rose}
use Rattle.dg_watch.specs.Told.{Told, took}

-- What is told from one state of a listener to another; what it may refuse, as far as it tells that; and how often it has failed. It is told nothing
-- by nothing, what is told in two stretches is told in one, and what it may refuse behind a stretch it may refuse with that stretch in front.
pub record Watching (W : Type 0) : Type 1 where
  pub told : W → W → List Told → Type 0
  pub refuses : W → List Told → Type 0
  pub faults : W → ℕ
  pub nothing : (a : W) → told a a []
  pub on : (a b c : W) (xs ys : List Told) → told a b xs → told b c ys → told a c (xs ++ ys)
  pub behind : (a b : W) (xs ys : List Told) → told a b xs → refuses b ys → refuses a (xs ++ ys)

-- The same of a listener with something beside it.
abbrev pub beside : {A W : Type 0} → Watching W → Watching (A × W)
beside v = record {
  told = λ a b ts. v.told a.1 b.1 ts;
  refuses = λ a ts. v.refuses a.1 ts;
  faults = λ a. v.faults a.1;
  nothing = λ a. v.nothing a.1;
  on = λ a b c xs ys. v.on a.1 b.1 c.1 xs ys;
  behind = λ a b xs ys. v.behind a.1 b.1 xs ys;
}

-- It refused what it was told: it was told nothing, and may refuse this.
pub record Refused {W : Type 0} (v : Watching W) (ts : List Told) (old new : W) : Type 0 where
  pub told : v.told old new []
  pub refuses : v.refuses old ts

-- What comes of a call that tells it these.
abbrev pub IsTold : {W : Type 0} {T E : Type 0} → Watching W → List Told → W → W → Result T E → Type 0
IsTold v ts old new (Ok x) = v.told old new ts
IsTold v ts old new (Err e) = Refused v ts old new

-- What comes of a put: so many bytes of the piece were told, or the piece was refused.
abbrev pub Puts : {W : Type 0} {E : Type 0} → Watching W → W → W → List ℕ → Result ℕ E → Type 0
Puts v old new piece (Ok n) = v.told old new (took (take n piece))
Puts v old new piece (Err e) = Refused v (took piece) old new

-- It was told all of these, and didn't fail.
pub record Given {W : Type 0} (v : Watching W) (old new : W) (ts : List Told) : Type 0 where
  pub told : v.told old new ts
  pub steady : v.faults new ≡ v.faults old

-- It failed once while it was told these: its count rose, it was told a front of them, and some front of them it may refuse.
pub record Lost {W : Type 0} (v : Watching W) (old new : W) (ts : List Told) : Type 0 where
  pub later : v.faults old ≤ v.faults new
  pub rose : Rose (v.faults old) (v.faults new)
  pub once : v.faults new ≤ v.faults old + 1
  pub part : List Told
  pub rest : List Told
  pub is : ts ≡ part ++ rest
  pub told : v.told old new part
  pub upto : List Told
  pub beyond : List Told
  pub reaches : ts ≡ upto ++ beyond
  pub refuses : v.refuses old upto
