-- Selects have numbers of their own.
use Rattle.std.proofs.Common.{◌≡◌, ◌+◌, ◌<◌, ◌≤◌, ◌⊎◌, inl, inr, ℕ, List, [], ◌∷◌, ◌++◌, refl, sym, subst, arith}
use Rattle.std.specs.List.{All, Contains}
use Rattle.std.proofs.lemmas.List.Elements.{All-nil, All-cons, All-append, All-weaker, All-contains, Contains-append_cases}
use Rattle.dg_base.specs.Sound.{SameSite}
use Rattle.dg_base.specs.declared.program.Goal.{Goal, out-Goal}
use Rattle.dg_base.specs.declared.program.Goal.TheOpen as form
use Rattle.dg_base.specs.declared.program.Mode.{Mode}
use Rattle.dg_core.proofs.MemberLemmas.{there_cases, nowhere}

-- the number of a select is in this range
abbrev pub Sited : ℕ → ℕ → form.Goal-F Goal → Type 0
Sited n m (form.Select site mode lists) = (n ≤ site) × (site < m)
Sited n m layer = Unit {0}

abbrev pub NoSelect : form.Goal-F Goal → Type 0
NoSelect (form.Select site mode lists) = ⊥
NoSelect layer = Unit {0}

abbrev IsSited : ℕ → ℕ → Goal → Type 0
IsSited n m g = Sited n m (out-Goal g)

-- these goals have selects of this range, and no two of a number that differ
pub record AreSited (n m : ℕ) (gs : List Goal) : Type 0 where
  pub rises : n ≤ m
  pub within : All (IsSited n m) gs
  pub same : (a b : Goal) → Contains gs a → Contains gs b → SameSite (out-Goal a) (out-Goal b)

apart : (n k m : ℕ) (x y : form.Goal-F Goal) → Sited n k x → Sited k m y → SameSite x y
apart n k m (form.Select site mode lists) (form.Select other mode' lists') h j = λ e. absurd (omega (arith, h.1, j.0, e))
apart n k m x y h j = tt

apart_back : (n k m : ℕ) (x y : form.Goal-F Goal) → Sited n k x → Sited k m y → SameSite y x
apart_back n k m x (form.Select other mode' lists') h j = of_select x h
  where
    of_select : (x : form.Goal-F Goal) → Sited n k x → SameSite (form.Select other mode' lists') x
    of_select (form.Select site mode lists) i = λ e. absurd (omega (arith, i.1, j.0, e))
    of_select x i = tt
apart_back n k m x y h j = tt

wider : (n m k l : ℕ) (x : form.Goal-F Goal) → k ≤ n → m ≤ l → Sited n m x → Sited k l x
wider n m k l (form.Select site mode lists) e f h = (omega (arith, h.0, e), omega (arith, h.1, f))
wider n m k l x e f h = tt

pub sited_none : (n m : ℕ) → n ≤ m → AreSited n m []
sited_none n m e = record { rises = e; within = All-nil (IsSited n m); same = λ a b h k. absurd (nowhere a h) }

pub sited_wider : (n m k l : ℕ) (gs : List Goal) → k ≤ n → m ≤ l → AreSited n m gs → AreSited k l gs
sited_wider n m k l gs e f h = record {
  rises = omega (arith, h.rises, e, f);
  within = All-weaker (IsSited n m) (IsSited k l) (λ g. wider n m k l (out-Goal g) e f) gs h.within;
  same = h.same;
}

pub sited_join : (n k m : ℕ) (xs ys : List Goal) → AreSited n k xs → AreSited k m ys → AreSited n m (xs ++ ys)
sited_join n k m xs ys h j = record {
  rises = omega (arith, h.rises, j.rises);
  within = All-append (IsSited n m) xs ys (sited_wider n k n m xs (omega arith) j.rises h).within (sited_wider k m n m ys h.rises (omega arith) j).within;
  same = λ a b p q. both a b (Contains-append_cases xs ys a p) (Contains-append_cases xs ys b q);
}
  where
    both : (a b : Goal) → Contains xs a ⊎ Contains ys a → Contains xs b ⊎ Contains ys b → SameSite (out-Goal a) (out-Goal b)
    both a b (inl p) (inl q) = h.same a b p q
    both a b (inl p) (inr q) = apart n k m (out-Goal a) (out-Goal b) (All-contains (IsSited n k) xs a h.within p) (All-contains (IsSited k m) ys b j.within q)
    both a b (inr p) (inl q) = apart_back n k m (out-Goal b) (out-Goal a) (All-contains (IsSited n k) xs b h.within q) (All-contains (IsSited k m) ys a j.within p)
    both a b (inr p) (inr q) = j.same a b p q

itself : (x : form.Goal-F Goal) → SameSite x x
itself (form.Select site mode lists) = λ e. (refl, refl)
itself x = tt

plain_sited : (n m : ℕ) (x : form.Goal-F Goal) → NoSelect x → Sited n m x
plain_sited n m (form.Select site mode lists) h = absurd h
plain_sited n m x h = tt

-- a goal of no number, and of this one
one_sited : (n m : ℕ) (g : Goal) → n ≤ m → Sited n m (out-Goal g) → AreSited n m (g ∷ [])
one_sited n m g e h = record {
  rises = e;
  within = All-cons (IsSited n m) g [] h (All-nil (IsSited n m));
  same = λ a b p q. alone a b (there_cases g [] a p) (there_cases g [] b q);
}
  where
    alone : (a b : Goal) → (g ≡ a) ⊎ Contains [] a → (g ≡ b) ⊎ Contains [] b → SameSite (out-Goal a) (out-Goal b)
    alone a b (inl p) (inl q) = subst (λ (x : Goal). SameSite (out-Goal x) (out-Goal b)) p (subst (λ (x : Goal). SameSite (out-Goal g) (out-Goal x)) q (itself (out-Goal g)))
    alone a b (inr p) q = absurd (nowhere a p)
    alone a b (inl p) (inr q) = absurd (nowhere b q)

-- a goal with others in it
pub plain_with : (n m : ℕ) (g : Goal) (gs : List Goal) → NoSelect (out-Goal g) → AreSited n m gs → AreSited n m (g ∷ gs)
plain_with n m g gs h j = sited_join n n m (g ∷ []) gs (one_sited n n g (omega arith) (plain_sited n n (out-Goal g) h)) j

pub select_with : (n m : ℕ) (mode : Mode) (lists : List (List Goal)) (g : Goal) (gs : List Goal) → out-Goal g ≡ form.Select n mode lists → AreSited (n + 1) m gs → AreSited n m (g ∷ gs)
select_with n m mode lists g gs is j = sited_join n (n + 1) m (g ∷ []) gs (one_sited n (n + 1) g (omega arith) (subst (Sited n (n + 1)) (sym is) (omega arith, omega arith))) j
