-- How often a site may still pick, and what a select chooses.
use Rattle.std.proofs.Common.{◌≡◌, ℕ, zero, suc, ◌+◌, ◌^◌, ◌<◌, ◌≤◌, List, [], ◌∷◌, refl, sym, ap, ◌∙◌, subst, arith, max, length, map, slice_set, replicate}
use Rattle.std.specs.declared.vec.Vec.{Vec}
use Rattle.std.specs.declared.alloc.Global.{Global}
use Rattle.std.proofs.lemmas.List.Elements.{All-cons, All-replicate}
use Rattle.dg_base.specs.declared.program.Mode.{Mode}
use Rattle.dg_meaning.specs.Choosing.{die, Picks, no_picks, picked, picks_at, Choice, choice_by}
use Rattle.dg_meaning.specs.World.{Game, World}
use Rattle.dg_meaning.specs.Moves.{selects, selected}
use Rattle.dg_choose.specs.Dice.{HasDrawn}
use Rattle.dg_choose.specs.Site.{picks_of, HasPicked, Chose}
use Rattle.dg_choose.specs.declared.dice.Dice.{Dice}
use Rattle.dg_choose.specs.declared.site.Site.{Site}
use Rattle.dg_lasting.specs.declared.lasting.Lasting.{Lasting}
use Rattle.dg_lasting.specs.Lasting.{picks_in, InWorld, MayPick, PicksOne}

pub may_fewer : (m n : ℕ) (picks : List Picks) → m ≤ n → MayPick n picks → MayPick m picks
may_fewer m n picks le h k d lt = let few = h k d lt in omega (arith, le, few)

pub may_new : (n sites : ℕ) → n < 2 ^ 64 → MayPick n (replicate sites no_picks)
may_new n sites fits = All-replicate (λ (p : Picks). p.count + n < 2 ^ 64) sites no_picks (omega (arith, fits))

others : (n : ℕ) (p : Picks) (picks : List Picks) → MayPick n (p ∷ picks) → MayPick n picks
others n p picks h k d lt = h (suc k) d (omega (arith, lt))

may_behind : (n site branch : ℕ) (picks : List Picks) → MayPick (n + 1) picks → MayPick n (slice_set picks site (picked branch (picks_at picks site)))
may_behind n site branch [] h = λ k d lt. absurd (omega arith)
may_behind n zero branch (p ∷ picks) h =
    let here = h 0 p (omega arith) in
    All-cons (λ (q : Picks). q.count + n < 2 ^ 64) (picked branch p) picks (omega (arith, here)) (may_fewer n (n + 1) picks (omega arith) (others (n + 1) p picks h))
may_behind n (suc site) branch (p ∷ picks) h =
    let here = h 0 p (omega arith) in
    All-cons (λ (q : Picks). q.count + n < 2 ^ 64) p (slice_set picks site (picked branch (picks_at picks site))) (omega (arith, here)) (may_behind n site branch picks (others (n + 1) p picks h))

-- of no branches what is chosen is as of one
choice_of_none : (mode : Mode) (k : ℕ) (picks : Picks) (w : ℕ) → choice_by mode (max k 1) picks w ≡ choice_by mode k picks w
choice_of_none mode zero picks w = refl
choice_of_none mode (suc k) picks w = ap (λ n. choice_by mode n picks w) (let same : max (suc k) 1 ≡ suc k = omega arith in same)

may_at : (site : ℕ) (picks : List Picks) → MayPick 1 picks → (picks_at picks site).count + 1 < 2 ^ 64
may_at site [] h = omega arith
may_at zero (p ∷ picks) h = h 0 p (omega arith)
may_at (suc site) (p ∷ picks) h = may_at site picks (others 1 p picks h)

pub set_beyond : {A : Type 0} (xs : List A) (i : ℕ) (x : A) → length xs ≤ i → slice_set xs i x ≡ xs
set_beyond [] i x le = refl
set_beyond (y ∷ ys) zero x le = absurd (omega (arith, le))
set_beyond (y ∷ ys) (suc i) x le = ap (λ l. y ∷ l) (set_beyond ys i x (omega (arith, le)))

-- a site that was looked up has picked, and was put back
module _ (site k branch : ℕ) (mode : Mode) (old : Lasting) (here behind : Site) (dice : Dice) (sites : Vec Site Global) (is : picks_of here ≡ picks_at (picks_in old) site)
    (chose : (picks : Picks) (words : List ℕ) (n : ℕ) → HasPicked here mode (max k 1) picks → HasDrawn old.dice words n → Chose mode (max k 1) picks words n branch behind dice)
    (exact : (picks_of here).count + 1 < 2 ^ 64 → picks_of behind ≡ picked branch (picks_of here)) (can : MayPick 1 (picks_in old)) (put : map picks_of sites.items ≡ slice_set (picks_in old) site (picks_of behind)) where
  abbrev new : Lasting
  new = record old { dice = dice; sites = sites }

  few : here.count + 1 < 2 ^ 64
  few = subst (λ (p : Picks). p.count + 1 < 2 ^ 64) (sym is) (may_at site (picks_in old) can)

  module _ (words : List ℕ) (n : ℕ) (drawn : HasDrawn old.dice words n) where
    abbrev chosen : Choice
    chosen = choice_by mode k (picks_at (picks_in old) site) (die words n)

    has_chosen : Chose mode (max k 1) (picks_of here) words n branch behind dice
    has_chosen = chose (picks_of here) words n (record { turn = refl; last = refl }) drawn

    same : choice_by mode (max k 1) (picks_of here) (die words n) ≡ chosen
    same = choice_of_none mode k (picks_of here) (die words n) ∙ ap (λ p. choice_by mode k p (die words n)) is

    branch_is : branch ≡ chosen.branch
    branch_is = has_chosen.branch ∙ ap (λ (c : Choice). c.branch) same

    dice_are : HasDrawn dice words (n + chosen.drawn)
    dice_are = subst (λ (c : Choice). HasDrawn dice words (n + c.drawn)) same has_chosen.left

  picks_are : picks_in new ≡ slice_set (picks_in old) site (picked branch (picks_at (picks_in old) site))
  picks_are = put ∙ ap (slice_set (picks_in old) site) (exact few ∙ ap (picked branch) is)

  module _ (g : Game) (w : World) (now : InWorld old g w) where
    chosen_is : choice_by mode k (picks_at (picks_in old) site) (die g.dice w.dice) ≡ selects g site mode k w
    chosen_is = ap (λ l. choice_by mode k (picks_at l site) (die g.dice w.dice)) (sym now.3)

    chosen_branch : branch ≡ (selects g site mode k w).branch
    chosen_branch = branch_is g.dice w.dice now.2 ∙ ap (λ (c : Choice). c.branch) chosen_is

    picked_world : InWorld new g (selected site (selects g site mode k w) w)
    picked_world = (
      now.0,
      now.1,
      subst (λ (c : Choice). HasDrawn dice g.dice (w.dice + c.drawn)) chosen_is (dice_are g.dice w.dice now.2),
      ap (λ b. slice_set w.sites site (picked b (picks_at w.sites site))) (sym chosen_branch) ∙ ap (λ (l : List Picks). slice_set l site (picked branch (picks_at l site))) now.3 ∙ sym picks_are,
    )

  pub picks_one : PicksOne site mode k branch old new
  picks_one = record {
    branch = λ words n drawn. branch_is words n drawn;
    dice = λ words n drawn. dice_are words n drawn;
    picks = picks_are;
    may = λ n may. subst (MayPick n) (sym picks_are) (may_behind n site branch (picks_in old) may);
    chosen = λ g w now. chosen_branch g w now;
    stands = λ g w now. picked_world g w now;
    world = refl;
    gathered = refl;
    row = refl;
  }
