-- What stays between two worlds where gatherings were dropped.
use Rattle.std.proofs.Common.{◌≡◌, ℕ, zero, suc, ◌+◌, List, [], ◌∷◌, ◌++◌, refl, sym, ap, ◌∙◌, subst, arith, drop}
use Rattle.dg_meaning.specs.World.{World, Event, Prints, Asked, Answered, Retried, HasFailed, Gathering, prints}
use Rattle.dg_meaning.specs.inside.Context.{Drops}
use Rattle.dg_meaning.specs.inside.OneRun.{Grows}
use Rattle.dg_meaning.proofs.OneRun.{begins_same, meters_same}

pub prints_append : (xs ys : List Event) → prints (xs ++ ys) ≡ prints xs ++ prints ys
prints_append [] ys = refl
prints_append (Prints e ∷ xs) ys = ap (λ l. e ∷ l) (prints_append xs ys)
prints_append (Asked q ∷ xs) ys = prints_append xs ys
prints_append (Answered q ∷ xs) ys = prints_append xs ys
prints_append (Retried q ∷ xs) ys = prints_append xs ys
prints_append (HasFailed q ∷ xs) ys = prints_append xs ys

drop_twice : {A : Type 0} (i k : ℕ) (xs : List A) → drop i (drop k xs) ≡ drop (k + i) xs
drop_twice i zero xs = let e : i ≡ 0 + i = omega arith in ap (λ n. drop n xs) e
drop_twice zero (suc k) [] = let e : suc k ≡ suc k + 0 = omega arith in ap (λ n. drop n []) e
drop_twice (suc i) (suc k) [] = let e : suc (k + suc i) ≡ suc k + suc i = omega arith in ap (λ n. drop n []) e
drop_twice i (suc k) (x ∷ xs) = let e : suc (k + i) ≡ suc k + i = omega arith in drop_twice i k xs ∙ ap (λ n. drop n (x ∷ xs)) e

pub drops_nothing : (w : World) → Drops w w
drops_nothing w = record { count = 0; is = refl }

pub drops_on : (w v u : World) → Drops w v → Drops v u → Drops w u
drops_on w v u a b = record {
  count = a.count + b.count;
  is =
      b.is ∙ ap (λ (x : World). record x { gathered = drop b.count x.gathered }) a.is
      ∙ ap (λ (l : List Gathering). record w { gathered = l }) (drop_twice b.count a.count w.gathered);
}

drop_nil : (k : ℕ) → drop {A = Gathering} k [] ≡ []
drop_nil zero = refl
drop_nil (suc k) = refl

-- where no gathering is open, nothing is dropped
pub quiet_same : (w v : World) → w.gathered ≡ [] → Drops w v → v ≡ w
quiet_same w v e d = d.is ∙ ap (λ (l : List Gathering). record w { gathered = l }) (ap (drop d.count) e ∙ drop_nil d.count ∙ sym e)

pub drops_grow : (w v : World) → Drops w v → Grows w v
drops_grow w v d = subst (Grows w) (sym d.is) (record { events = begins_same w.events; meters = meters_same w.meters; typed = record { taken = []; is = refl }; dice = omega arith })
